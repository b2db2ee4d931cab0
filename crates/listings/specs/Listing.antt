-- The listing of a whole archive, after "The listing program" and "The list of items" of document 01. It is built of the definitions that the
-- contracts of `reader::open`, `step` and `argument` cite.
use Rattle.std.specs.Prelude.{ℕ, zero, suc, ◌+◌, ◌/◌, List, [], ◌++◌, Bool, true, false, length, ltb, Option, Some, None}
use Rattle.words.specs.Word.{pick}
use Rattle.format.specs.declared.Format.{Format}
use Rattle.contexts.specs.declared.State.{State}
use Rattle.reader.specs.declared.Answer.{Answer}
use Rattle.reader.specs.declared.Answer.TheVariants.{End, Nothing, Magic, ProviderInfo, Section, ProviderEvent, Initialization, Report, Skipped}
use Rattle.reader.specs.declared.Reply.{Reply}
use Rattle.reader.specs.Step.{open_reply, open_tables, step_reply, step_tables}
use Rattle.reader.specs.Ask.{argument_reply}
use Rattle.item_lines.specs.Line.{trace_line, end_line, answer_line, asked_line}

-- "An event's arguments are those asked for in the state right after it": the lines of so many, from a number on
unfoldable pub argument_lines : Format → List ℕ → List ℕ → State → ℕ → ℕ → ℕ → List ℕ
argument_lines f archive tables s place number zero = []
argument_lines f archive tables s place number (suc count) =
    asked_line archive (argument_reply f archive tables s place number) ++ argument_lines f archive tables s place (number + 1) count

-- the lines behind that of an answer: a report's arguments
unfoldable pub answer_arguments : Format → List ℕ → List ℕ → State → Answer → List ℕ
answer_arguments f archive tables s (End number place) = []
answer_arguments f archive tables s Nothing = []
answer_arguments f archive tables s Magic = []
answer_arguments f archive tables s (ProviderInfo id place long) = []
answer_arguments f archive tables s (Section id) = []
answer_arguments f archive tables s (ProviderEvent id event) = []
answer_arguments f archive tables s (Initialization rate) = []
answer_arguments f archive tables s (Report r) = argument_lines f archive tables s r.place 0 r.count
answer_arguments f archive tables s (Skipped type size) = []

-- the lines of a step: its answer's, and the arguments in the state and the tables that it hands back
unfoldable pub step_lines : Format → List ℕ → List ℕ → State → List ℕ
step_lines f archive tables s =
    answer_line archive (step_reply f archive tables s).answer
    ++ answer_arguments f archive (step_tables f archive tables s) (step_reply f archive tables s).state (step_reply f archive tables s).answer

-- whether an answer is the last
unfoldable pub is_end : Answer → Bool
is_end (End number place) = true
is_end Nothing = false
is_end Magic = false
is_end (ProviderInfo id place long) = false
is_end (Section id) = false
is_end (ProviderEvent id event) = false
is_end (Initialization rate) = false
is_end (Report r) = false
is_end (Skipped type size) = false

-- the state behind a step, none where its answer is the last
unfoldable pub next_state : Reply → Option State
next_state r = pick (is_end r.answer) None (Some r.state)

-- the lines of so many steps at most, up to the first that ends
unfoldable pub lines_from : Format → List ℕ → ℕ → State → List ℕ → List ℕ
lines_from f archive zero s tables = []
lines_from f archive (suc steps) s tables =
    step_lines f archive tables s
    ++ pick (is_end (step_reply f archive tables s).answer) []
    (lines_from f archive steps (step_reply f archive tables s).state (step_tables f archive tables s))

-- the tables after these steps
unfoldable pub tables_from : Format → List ℕ → ℕ → State → List ℕ → List ℕ
tables_from f archive zero s tables = tables
tables_from f archive (suc steps) s tables =
    pick (is_end (step_reply f archive tables s).answer) (step_tables f archive tables s)
    (tables_from f archive steps (step_reply f archive tables s).state (step_tables f archive tables s))

-- each record has a word at least, so one step more than the archive has words is enough
abbrev pub steps_of : List ℕ → ℕ
steps_of archive = length archive / 8 + 1

-- the listing of an archive, with these tables lent: "First `trace 1`", then the lines, "last `end number place`"
unfoldable pub listing : Format → List ℕ → List ℕ → List ℕ
listing f archive tables =
    trace_line
    ++ pick (is_end (open_reply f archive (length tables)).answer) (answer_line archive (open_reply f archive (length tables)).answer)
    (lines_from f archive (steps_of archive) (open_reply f archive (length tables)).state (open_tables f archive tables))

-- the lent tables after it
unfoldable pub list_tables : Format → List ℕ → List ℕ → List ℕ
list_tables f archive tables =
    pick (is_end (open_reply f archive (length tables)).answer) (open_tables f archive tables)
    (tables_from f archive (steps_of archive) (open_reply f archive (length tables)).state (open_tables f archive tables))

-- what the listing program lists: "It reads up to 32,768 bytes of standard input (more: only `trace 1` and `end 2 0`)"
unfoldable pub input_listing : Format → List ℕ → List ℕ → List ℕ
input_listing f input tables = pick (ltb 32768 (length input)) (trace_line ++ end_line 2 0) (listing f input tables)

-- the lent tables after it
unfoldable pub input_tables : Format → List ℕ → List ℕ → List ℕ
input_tables f input tables = pick (ltb 32768 (length input)) tables (list_tables f input tables)
