-- The argument of a number in the bytes of its record: a model of code, which no promise uses.
use Rattle.std.specs.Prelude.{ℕ, ◌-◌, List, drop, Result, Err, leb}
use Rattle.words.specs.Word.{pick}
use Rattle.format.specs.declared.Format.{Format}
use Rattle.format.specs.declared.Reason.{Reason}
use Rattle.format.specs.declared.Reason.TheVariants.{ForeignState}
use Rattle.arguments.specs.declared.Argued.{Argued}
use Rattle.arguments.specs.Argument.{numbered_of}
use Rattle.records.specs.declared.Content.{Content}
use Rattle.records.specs.Lookups.{on_report}

-- the argument of a number of the record that is `source`, whole, at a place, and in which this was read
unfoldable pub argument_in : Format → List ℕ → ℕ → Content → ℕ → Result Argued Reason
argument_in f source place content number =
    on_report content (Err ForeignState)
    (λ e. pick (leb e.count number) (Err ForeignState) (numbered_of f number (drop (e.arguments - place) source) e.arguments))
