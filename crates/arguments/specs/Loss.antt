-- What an argument loses when it is repacked, after number 10 of document 01: "an unknown argument, appended words, or a nonzero reserved or padding bit".
use Rattle.std.specs.Prelude.{ℕ, zero, suc, ◌+◌, ◌*◌, List, Bool, true, false, ◌&&◌, length, drop, eqb, ltb}
use Rattle.words.specs.Word.{pick, word_at, field}
use Rattle.format.specs.declared.Format.{Format}
use Rattle.format.specs.Part.{inline_bytes, padding_zero}
use Rattle.arguments.specs.declared.Value.{Value}
use Rattle.arguments.specs.declared.Value.TheVariants.{Scalar as ScalarValue, Text}
use Rattle.arguments.specs.declared.Argument.{Argument}
use Rattle.arguments.specs.Argument.{argument_type, scalar_words, argument_of, on_argued}

-- the bytes that a value has behind the name
unfoldable pub value_bytes : Value → ℕ
value_bytes (ScalarValue s) = 8 * scalar_words s
value_bytes (Text reference) = inline_bytes reference

-- the bytes that an argument needs: its header, an inline name, its value
abbrev pub argument_bytes : Argument → ℕ
argument_bytes a = 8 + inline_bytes a.name + value_bytes a.value

-- the reserved bits of an argument's header, "those not listed": types 0, 3, 4, 5, 7, 8 [32..63]; 6 [48..63]; 9 [33..63]; 1 and 2 none
unfoldable pub reserved_bits : ℕ → ℕ
reserved_bits header =
    pick (eqb (argument_type header) 6) (field 48 63 header)
    (pick (eqb (argument_type header) 9) (field 33 63 header)
    (pick (eqb (argument_type header) 1) 0
    (pick (eqb (argument_type header) 2) 0
    (field 32 63 header))))

-- whether a value's padding is zero
unfoldable pub value_padding_zero : List ℕ → ℕ → Value → Bool
value_padding_zero argument place (ScalarValue s) = true
value_padding_zero argument place (Text reference) = padding_zero argument place reference

-- whether an argument of `size` bytes is written again as it is
unfoldable pub argument_keeps : Format → List ℕ → ℕ → Argument → ℕ → Bool
argument_keeps f argument place a size =
    ltb (argument_type (word_at f.order argument 0)) 10
    && (eqb (reserved_bits (word_at f.order argument 0)) 0
    && (eqb size (argument_bytes a)
    && (padding_zero argument place a.name && value_padding_zero argument place a.value)))

-- whether so many arguments are, with nothing behind them but `extra` bytes
unfoldable pub arguments_keep : Format → ℕ → List ℕ → ℕ → ℕ → Bool
arguments_keep f zero rest place extra = eqb (length rest) extra
arguments_keep f (suc count) rest place extra =
    on_argued (argument_of f rest place) (λ reason. false)
    (λ a size. argument_keeps f rest place a size && arguments_keep f count (drop size rest) (place + size) extra)
