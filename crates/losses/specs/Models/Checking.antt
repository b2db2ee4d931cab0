-- What is read of a record, and whether it loses something, in one walk over its arguments: models of code, which no promise uses.
use Rattle.std.specs.Prelude.{ℕ, ◌+◌, List, Bool, true, ◌&&◌, Result, Ok, Err, eqb, ltb}
use Rattle.words.specs.Word.{pick, word_at}
use Rattle.format.specs.declared.Format.{Format}
use Rattle.format.specs.declared.Reason.{Reason}
use Rattle.format.specs.declared.Reference.{Reference}
use Rattle.format.specs.Part.{inline_bytes, padding_zero}
use Rattle.arguments.specs.Argument.{argument_type, on_argued, argument_of, arguments_of, walked}
use Rattle.arguments.specs.Loss.{reserved_bits, argument_keeps, arguments_keep}
use Rattle.arguments.specs.Models.Reading.{held_bytes}
use Rattle.records.specs.declared.Layout.{Layout}
use Rattle.records.specs.declared.Content.{Content}
use Rattle.records.specs.declared.Content.TheVariants.{Report as ReportRead}
use Rattle.records.specs.Layout.{on_number, report_read, refused_by}
use Rattle.losses.specs.declared.CheckedArgument.{CheckedArgument}
use Rattle.losses.specs.declared.CheckedEnd.{CheckedEnd}

-- whether an argument of `size` bytes with these texts is written again as it is; only type 6 has a text behind the name
unfoldable pub texts_keep : Format → List ℕ → ℕ → (name value : Reference) → ℕ → Bool
texts_keep f rest place name value size =
    let header = word_at f.order rest 0 in
    ltb (argument_type header) 10
    && (eqb (reserved_bits header) 0
    && (eqb size (8 + (inline_bytes name + inline_bytes value) + held_bytes (argument_type header))
    && (padding_zero rest place name && pick (eqb (argument_type header) 6) (padding_zero rest place value) true)))

-- an argument of this size that is read, and is written again as it is or not
abbrev pub checked : ℕ → Bool → Result CheckedArgument Reason
checked size keeps = Ok (record { size = size; keeps = keeps })

-- the size of an argument, and whether it is
unfoldable pub checked_argument : Format → List ℕ → ℕ → Result CheckedArgument Reason
checked_argument f rest place =
    on_argued (argument_of f rest place) Err (λ a size. checked size (argument_keeps f rest place a size))

-- arguments that end there, and are written again as they are or not
abbrev pub ended : ℕ → Bool → Result CheckedEnd Reason
ended at keeps = Ok (record { at = at; keeps = keeps })

-- where arguments end, and whether they are
abbrev pub end_of : Result ℕ Reason → Bool → Result CheckedEnd Reason
end_of (Err reason) keeps = Err reason
end_of (Ok at) keeps = ended at keeps

unfoldable pub checked_arguments : Format → ℕ → List ℕ → ℕ → ℕ → Result CheckedEnd Reason
checked_arguments f count rest place extra = end_of (walked (arguments_of f count rest place)) (arguments_keep f count rest place extra)

-- what stands in a record that refers to texts and threads, of which all is read but for this last word
abbrev pub with_last : Format → Layout → List ℕ → (a b c s : Reference) → ℕ → Result ℕ Reason → Content
with_last f l source a b c s first last = on_number last refused_by (λ word. ReportRead (report_read f l source a b c s first word))

-- whether its reserved bits, and the padding of its references and its stream, are zero
unfoldable pub fields_keep : List ℕ → (place reserved : ℕ) → (a b c s : Reference) → Bool
fields_keep source place reserved a b c s =
    eqb reserved 0
    && ((padding_zero source place a && padding_zero source place b) && (padding_zero source place c && padding_zero source place s))
