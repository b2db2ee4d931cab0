-- The replies to what is seen of a record, and to an argument that is found: models of code, which no promise uses.
use Rattle.std.specs.Prelude.{ℕ, List, Result, Ok, Err}
use Rattle.format.specs.declared.Format.{Format}
use Rattle.format.specs.Limits.{refused_at}
use Rattle.format.specs.declared.Reason.{Reason}
use Rattle.contexts.specs.declared.State.{State}
use Rattle.contexts.specs.Context.{moved}
use Rattle.views.specs.declared.ShownReport.{ShownReport}
use Rattle.reader.specs.declared.Answer.TheVariants.{End, Report as ReportShown}
use Rattle.reader.specs.declared.Reply.{Reply}
use Rattle.arguments.specs.declared.Argued.{Argued}
use Rattle.arguments.specs.Argument.{on_argued}
use Rattle.reader.specs.Ask.{Asked, shown_for}

-- the reply of a step at a record that is seen so and ends at `next`
unfoldable pub seen_reply : State → Result ShownReport ℕ → ℕ → Reply
seen_reply s (Err number) next = record { answer = End number s.place; state = s }
seen_reply s (Ok report) next = record { answer = ReportShown report; state = moved s next }

-- the answer where this argument was found, or none
abbrev pub asked_in : Format → List ℕ → List ℕ → (context place : ℕ) → Result Argued Reason → Asked
asked_in f archive tables context place found =
    on_argued found (λ refused. refused_at 4 place) (λ a size. shown_for f archive tables context place a)
