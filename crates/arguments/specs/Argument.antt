-- The arguments of an event, after "Argument" in document 01. An argument is read from the part of its event that starts at it;
-- `place` is the byte place of that part in the archive.
use Rattle.std.specs.Prelude.{ℕ, zero, suc, ◌+◌, ◌-◌, ◌*◌, [], List, ◌∷◌, Bool, false, take, length, drop, Result, Ok, Err, eqb, ltb}
use Rattle.words.specs.Word.{pick, word_at, field, signed}
use Rattle.format.specs.declared.Format.{Format}
use Rattle.format.specs.declared.Reference.{Reference}
use Rattle.format.specs.declared.Reference.TheVariants.{Inline}
use Rattle.format.specs.declared.Reason.{Reason}
use Rattle.format.specs.declared.Reason.TheVariants.{Malformed}
use Rattle.format.specs.declared.Part.{Part}
use Rattle.format.specs.declared.Part.TheVariants.{Words as words, Text as text}
use Rattle.format.specs.Part.{take_parts, on_body, part, place_of}
use Rattle.arguments.specs.declared.Scalar.{Scalar}
use Rattle.arguments.specs.declared.Scalar.TheVariants.{Null, Signed32, Unsigned32, Signed64, Unsigned64, Double, Pointer, KernelObject, Boolean, Unknown}
use Rattle.arguments.specs.declared.Value.{Value}
use Rattle.arguments.specs.declared.Value.TheVariants.{Scalar as ScalarValue, Text}
use Rattle.arguments.specs.declared.Argument.{Argument}
use Rattle.arguments.specs.declared.Argued.{Argued}

-- "type [0..3], size [4..15], name [16..31]"
abbrev pub argument_type : ℕ → ℕ
argument_type header = field 0 3 header

abbrev pub argument_size : ℕ → ℕ
argument_size header = 8 * field 4 15 header

-- "0 null; 1 and 2 the signed and unsigned number at [32..63]; 9 boolean at bit 32. Types 10 to 15 are shown as unknown"
unfoldable pub header_scalar : ℕ → Scalar
header_scalar header =
    pick (eqb (argument_type header) 0) Null
    (pick (eqb (argument_type header) 1) (Signed32 (signed 32 (field 32 63 header)))
    (pick (eqb (argument_type header) 2) (Unsigned32 (field 32 63 header))
    (pick (eqb (argument_type header) 9) (Boolean (eqb (field 32 32 header) 1))
    (Unknown (argument_type header)))))

-- types 3, 4, 5, 7 and 8 have their value in a word; type 6, a text, is asked for before
unfoldable pub holds_word : ℕ → Bool
holds_word type = pick (ltb type 3) false (ltb type 9)

-- "3 and 4 a signed and unsigned word; 5 a double's 64 bits; 7 pointer word; 8 kernel object word"
unfoldable pub word_scalar : ℕ → ℕ → Scalar
word_scalar type word =
    pick (eqb type 3) (Signed64 (signed 64 word))
    (pick (eqb type 4) (Unsigned64 word)
    (pick (eqb type 5) (Double word)
    (pick (eqb type 7) (Pointer word)
    (KernelObject word))))

-- the type of an argument with this value
abbrev pub scalar_type : Scalar → ℕ
scalar_type Null = 0
scalar_type (Signed32 n) = 1
scalar_type (Unsigned32 n) = 2
scalar_type (Signed64 n) = 3
scalar_type (Unsigned64 n) = 4
scalar_type (Double n) = 5
scalar_type (Pointer n) = 7
scalar_type (KernelObject n) = 8
scalar_type (Boolean b) = 9
scalar_type (Unknown type) = type

-- the words that a value takes behind its argument's name
abbrev pub scalar_words : Scalar → ℕ
scalar_words Null = 0
scalar_words (Signed32 n) = 0
scalar_words (Unsigned32 n) = 0
scalar_words (Signed64 n) = 1
scalar_words (Unsigned64 n) = 1
scalar_words (Double n) = 1
scalar_words (Pointer n) = 1
scalar_words (KernelObject n) = 1
scalar_words (Boolean b) = 0
scalar_words (Unknown type) = 0

-- what an argument's value has behind the name: "6 a string reference at [32..47] with its inline stream"
abbrev pub value_parts : ℕ → List Part
value_parts header =
    pick (eqb (argument_type header) 6) (text (field 32 47 header) ∷ [])
    (pick (holds_word (argument_type header)) (words 1 ∷ []) [])

-- the value, of which `reference` stands behind the name, if anything does
abbrev pub value_of : Format → ℕ → List ℕ → ℕ → Reference → Value
value_of f header argument place reference =
    pick (eqb (argument_type header) 6) (Text reference)
    (pick (holds_word (argument_type header)) (ScalarValue (word_scalar (argument_type header) (word_at f.order argument (place_of reference - place))))
    (ScalarValue (header_scalar header)))

-- an argument that is read, with its size in bytes
abbrev pub argued : Argument → ℕ → Result Argued Reason
argued a size = Ok (record { argument = a; size = size })

-- "Argument: type [0..3], size [4..15], name [16..31], inline name stream, then the value"; its own bytes are the first of what is left
unfoldable pub argument_body : Format → List ℕ → ℕ → Result Argued Reason
argument_body f rest place =
    let header = word_at f.order rest 0 in
    let argument = take (argument_size header) rest in
    on_body (take_parts f (text (field 16 31 header) ∷ value_parts header) (place + 8) argument place) Err
    (λ references next.
    argued (record { name = part 0 references; value = value_of f header argument place (part 1 references) }) (argument_size header))

-- "for an argument first 6 for a size of 0 or past its record"
unfoldable pub argument_of : Format → List ℕ → ℕ → Result Argued Reason
argument_of f rest place =
    pick (ltb (length rest) 8) (Err Malformed)
    (pick (eqb (argument_size (word_at f.order rest 0)) 0) (Err Malformed)
    (pick (ltb (length rest) (argument_size (word_at f.order rest 0))) (Err Malformed)
    (argument_body f rest place)))

-- the arguments of an event in order, and the place right behind them
pub data Arguments : Type 0 where
  refused : Reason → Arguments
  arguments : List Argument → ℕ → Arguments

abbrev pub prepend : Argument → Arguments → Arguments
prepend a (refused reason) = refused reason
prepend a (arguments l next) = arguments (a ∷ l) next

abbrev pub on_argued : {A : Type 0} → Result Argued Reason → (Reason → A) → (Argument → ℕ → A) → A
on_argued (Err reason) refuse then = refuse reason
on_argued (Ok read) refuse then = then read.argument read.size

-- the text of a value; an inline text of no bytes stands for none
abbrev pub text_in : Value → Reference
text_in (ScalarValue s) = Inline 0 0
text_in (Text reference) = reference

unfoldable pub arguments_of : Format → ℕ → List ℕ → ℕ → Arguments
arguments_of f zero rest place = arguments [] place
arguments_of f (suc count) rest place =
    on_argued (argument_of f rest place) refused (λ a size. prepend a (arguments_of f count (drop size rest) (place + size)))

-- so many arguments, as far as they are read
unfoldable pub arguments_read : Format → ℕ → List ℕ → ℕ → List Argument
arguments_read f zero rest place = []
arguments_read f (suc count) rest place =
    on_argued (argument_of f rest place) (λ reason. []) (λ a size. a ∷ arguments_read f count (drop size rest) (place + size))

-- where they end
abbrev pub walked : Arguments → Result ℕ Reason
walked (refused reason) = Err reason
walked (arguments l next) = Ok next

-- the argument of a number, from 0
unfoldable pub numbered_of : Format → ℕ → List ℕ → ℕ → Result Argued Reason
numbered_of f zero rest place = argument_of f rest place
numbered_of f (suc number) rest place =
    on_argued (argument_of f rest place) Err (λ a size. numbered_of f number (drop size rest) (place + size))
