-- The value and the texts of an argument by themselves, as functions take them: models of code, which no promise uses.
use Rattle.std.specs.Prelude.{ℕ, zero, suc, ◌+◌, [], List, drop, Result, Ok, Err, eqb}
use Rattle.words.specs.Word.{pick}
use Rattle.format.specs.declared.Format.{Format}
use Rattle.format.specs.declared.Reason.{Reason}
use Rattle.format.specs.declared.Reference.{Reference}
use Rattle.format.specs.declared.Reference.TheVariants.{Inline}
use Rattle.format.specs.Part.{take_parts, on_body, part}
use Rattle.arguments.specs.Argument.{holds_word, value_parts, on_argued, Arguments, value_of, argument_of, argument_type, text_in, refused, arguments, arguments_of, walked}
use Rattle.arguments.specs.declared.Argument.{Argument}
use Rattle.arguments.specs.declared.Texts.{Texts}
use Rattle.arguments.specs.declared.Sought.{Sought}
use Rattle.arguments.specs.declared.Value.{Value}

-- the value alone, whose parts start at `at`
unfoldable pub take_value : Format → (header at : ℕ) → List ℕ → ℕ → Result Value Reason
take_value f header at argument place =
    on_body (take_parts f (value_parts header) at argument place) Err
    (λ references next. Ok (value_of f header argument place (part 0 references)))

-- texts that are read, with the size of their argument
abbrev pub texts : (name value : Reference) → ℕ → Result Texts Reason
texts name value size = Ok (record { name = name; value = value; size = size })

-- the texts of an argument alone, with its size
unfoldable pub texts_of : Format → List ℕ → ℕ → Result Texts Reason
texts_of f rest place = on_argued (argument_of f rest place) Err (λ a size. texts a.name (text_in a.value) size)

-- the text of the value alone, whose parts start at `at`
unfoldable pub value_text : Format → (header at : ℕ) → List ℕ → ℕ → Result Reference Reason
value_text f header at argument place =
    on_body (take_parts f (value_parts header) at argument place) Err
    (λ references next. Ok (pick (eqb (argument_type header) 6) (part 0 references) (Inline 0 0)))

-- the bytes of the word that a value of this type has behind the name
unfoldable pub held_bytes : ℕ → ℕ
held_bytes type = pick (eqb type 6) 0 (pick (holds_word type) 8 0)

-- the arguments themselves
abbrev pub listed : Arguments → List Argument
listed (refused reason) = []
listed (arguments l next) = l

-- where the argument of a number, from 0, starts, or the one before it that is refused
unfoldable pub start_of : Format → ℕ → List ℕ → ℕ → ℕ
start_of f zero rest place = place
start_of f (suc number) rest place =
    on_argued (argument_of f rest place) (λ reason. place) (λ a size. start_of f number (drop size rest) (place + size))

-- arguments that end there, one of which starts there
abbrev pub sought : (at start : ℕ) → Result Sought Reason
sought at start = Ok (record { at = at; start = start })

-- where arguments end, and where one of them starts
abbrev pub sought_at : Result ℕ Reason → ℕ → Result Sought Reason
sought_at (Err reason) start = Err reason
sought_at (Ok at) start = sought at start

unfoldable pub sought_of : Format → (count number : ℕ) → List ℕ → ℕ → Result Sought Reason
sought_of f count number rest place = sought_at (walked (arguments_of f count rest place)) (start_of f number rest place)
