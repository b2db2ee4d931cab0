-- Opening an archive and reading one record of it, after "Contexts", "The list of items" and "Numbers and replies" of document 01.
use Rattle.std.specs.Prelude.{ℕ, List, length, eqb}
use Rattle.words.specs.Word.{pick}
use Rattle.format.specs.declared.Format.{Format}
use Rattle.format.specs.Header.{archive_number}
use Rattle.records.specs.declared.Report.{Report}
use Rattle.records.specs.declared.Content.{Content}
use Rattle.records.specs.declared.Content.TheVariants.{Refused, Magic, ProviderInfo, Section, ProviderEvent, Initialization, String, Thread, Report as ReportRead, Ignored, Skipped}
use Rattle.records.specs.Record.{record_at}
use Rattle.records.specs.declared.Effect.{Effect}
use Rattle.records.specs.Effect.{effect_of}
use Rattle.records.specs.Lookups.{on_report, content_lookups}
use Rattle.contexts.specs.declared.State.{State}
use Rattle.contexts.specs.Context.{opening, belongs_to}
use Rattle.tables.specs.Table.{table_words, cleared, looked_up}
use Rattle.effects.specs.declared.Change.{Change}
use Rattle.effects.specs.declared.Change.TheVariants.{Keep}
use Rattle.effects.specs.Follow.{followed, on_followed, change_of, changed}
use Rattle.reader.specs.declared.Answer.{Answer}
use Rattle.reader.specs.declared.Answer.TheVariants.{End, Nothing, Magic as MagicShown, ProviderInfo as ProviderInfoShown, Section as SectionShown, ProviderEvent as ProviderEventShown, Initialization as InitializationShown, Report as ReportShown, Skipped as SkippedShown}
use Rattle.reader.specs.declared.Reply.{Reply}
use Rattle.views.specs.Shown.{none_bad, shown_report}

-- "checks 2, 1, 3": the number that archive and tables are refused by, or 0.
unfoldable pub opening_number : Format → List ℕ → ℕ → ℕ
opening_number f archive room = archive_number archive 3 (table_words f) room

-- what a step does: its answer, the state to go on from, and what becomes of the tables
pub record Decision : Type 0 where
  pub answer : Answer
  pub state : State
  pub change : Change

-- a step that ends or is refused: "A step that is refused, or at the end, changes nothing."
unfoldable pub stopping : State → ℕ → ℕ → Decision
stopping s number place = record { answer = End number place; state = s; change = Keep }

-- a record that refers to texts and threads, which are looked up in the current context's tables as they stand
unfoldable pub report_answer : Format → List ℕ → List ℕ → State → Report → Answer
report_answer f archive tables s r =
    let found = looked_up f archive tables s.current s.place in
    ReportShown (shown_report f archive s r (found r.first) (found r.second) (found r.third))

-- what any other record is shown as: string and thread records are not, and one that is refused never comes to this
unfoldable pub plain_answer : Content → Answer
plain_answer (Refused number) = Nothing
plain_answer Magic = MagicShown
plain_answer (ProviderInfo id place long) = ProviderInfoShown id place long
plain_answer (Section id) = SectionShown id
plain_answer (ProviderEvent id event) = ProviderEventShown id event
plain_answer (Initialization rate) = InitializationShown rate
plain_answer (String index place long) = Nothing
plain_answer (Thread index place) = Nothing
plain_answer (ReportRead r) = Nothing
plain_answer Ignored = Nothing
plain_answer (Skipped type size) = SkippedShown type size

abbrev pub content_answer : Format → List ℕ → List ℕ → State → Content → Answer
content_answer f archive tables s content = on_report content (plain_answer content) (λ r. report_answer f archive tables s r)

-- a record with this effect, shown as this: it stops the reading, as one that is refused and "a ninth provider id" do, or the reading goes on
unfoldable pub effect_decision : Format → State → Effect → ℕ → Answer → Decision
effect_decision f s effect next answer =
    on_followed (followed s effect next) (λ number. stopping s number s.place)
    (λ state. record { answer = answer; state = state; change = change_of f s effect })

-- a record that ends at `next`, by what stands in it: "last of all 4 for looked-up entries, those of arguments too". A record that stops the
-- reading refers to nothing.
unfoldable pub content_decision : Format → List ℕ → List ℕ → State → Content → ℕ → Decision
content_decision f archive tables s content next =
    pick (none_bad f archive tables s.current s.place (content_lookups f archive content next))
    (effect_decision f s (effect_of content) next (content_answer f archive tables s content)) (stopping s 4 s.place)

-- "then end, then 5 for the tail, 6 for size 0, 5 for the record, then its fields"; "the length for 0"
unfoldable pub place_decision : Format → List ℕ → List ℕ → State → Decision
place_decision f archive tables s =
    pick (eqb s.place (length archive)) (stopping s 0 s.place)
    (content_decision f archive tables s (record_at f archive s.place).content (record_at f archive s.place).next)

-- "A step checks 2, 1, 3, 4"; "The place reported is 0 for 1, 2 and 3, the state's for 4"
unfoldable pub decision_of : Format → List ℕ → List ℕ → State → Decision
decision_of f archive tables s =
    pick (eqb (opening_number f archive (length tables)) 0)
    (pick (belongs_to s (length archive)) (place_decision f archive tables s) (stopping s 4 s.place))
    (stopping s (opening_number f archive (length tables)) 0)

-- a step: its answer with the state to go on from, and the tables after it
abbrev pub reply_of : Decision → Reply
reply_of d = record { answer = d.answer; state = d.state }

abbrev pub step_reply : Format → List ℕ → List ℕ → State → Reply
step_reply f archive tables s = reply_of (decision_of f archive tables s)

abbrev pub step_tables : Format → List ℕ → List ℕ → State → List ℕ
step_tables f archive tables s = changed tables (decision_of f archive tables s).change

-- "a refused opening hands back the same state and touches no table"
abbrev pub open_reply : Format → List ℕ → ℕ → Reply
open_reply f archive room =
    record { answer = pick (eqb (opening_number f archive room) 0) Nothing (End (opening_number f archive room) 0); state = opening }

-- "it clears the first 6,912 table words, touches no others"
abbrev pub open_tables : Format → List ℕ → List ℕ → List ℕ
open_tables f archive tables = pick (eqb (opening_number f archive (length tables)) 0) (cleared (table_words f) tables) tables
