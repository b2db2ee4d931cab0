-- Which archives repacking refuses, and where, after "Repacking checks" of document 01.
use Rattle.std.specs.Prelude.{ℕ, zero, suc, ◌+◌, ◌-◌, ◌/◌, [], List, ◌∷◌, ◌++◌, Bool, false, cond, ◌&&◌, ◌||◌, ◌≡◌, eqb, ltb, length, take, drop, replicate}
use Rattle.std.proofs.Math.Option.{Option, none, some}
use Rattle.words.specs.Word.{pick}
use Rattle.registering.specs.Counting.{keys}
use Rattle.format.specs.declared.Format.{Format}
use Rattle.records.specs.Record.{record_at}
use Rattle.records.specs.Loss.{record_keeps}
use Rattle.records.specs.Item.{Item, unresolved_in, Key, text_key, thread_key, Use, uses_of}
use Rattle.contexts.specs.declared.State.{State}
use Rattle.contexts.specs.Context.{opening}
use Rattle.tables.specs.Table.{table_words}
use Rattle.reader.specs.declared.Answer.{Answer}
use Rattle.reader.specs.declared.Answer.TheVariants.{End, Nothing, Magic, ProviderInfo, Section, ProviderEvent, Initialization, Report, Skipped}
use Rattle.reader.specs.Step.{opening_number, step_reply, step_tables}
use Rattle.reader.specs.Reads.{item_of}
use Rattle.rule.specs.Rule.{same_use, same_provider, same_table, rule}

-- a reading of a whole archive: each record with its place, whether it loses nothing, and its item; last the number and place it ends with
pub data Run : Type 0 where
  ended : (number place : ℕ) → Run
  passed : (place : ℕ) (keeps : Bool) (item : Option Item) → Run → Run

-- whether the record at a place is written again as it is
abbrev pub keeps_at : Format → List ℕ → ℕ → Bool
keeps_at f archive place =
    record_keeps f (take ((record_at f archive place).next - place) (drop place archive)) place (record_at f archive place).content

abbrev pub on_answer : Answer → (ℕ → ℕ → Run) → Run → Run
on_answer (End number place) stop go = stop number place
on_answer Nothing stop go = go
on_answer Magic stop go = go
on_answer (ProviderInfo id place long) stop go = go
on_answer (Section id) stop go = go
on_answer (ProviderEvent id e) stop go = go
on_answer (Initialization rate) stop go = go
on_answer (Report e) stop go = go
on_answer (Skipped type size) stop go = go

-- so many steps at most; each record has a word at least, so one step more than the archive has words is enough. That the first clause, with no
-- step left, is never what ends the run of an archive are the laws `Numbers.more_steps` (with more steps the run is the same) and
-- `Numbers.run_is_steps` (the number and place at its end are what a step of it answers)
unfoldable pub run_from : Format → List ℕ → ℕ → State → List ℕ → Run
run_from f archive zero s tables = ended 0 s.place
run_from f archive (suc steps) s tables =
    on_answer (step_reply f archive tables s).answer ended
    (passed s.place (keeps_at f archive s.place)
    (item_of f archive (step_tables f archive tables s) (step_reply f archive tables s).state (step_reply f archive tables s).answer)
    (run_from f archive steps (step_reply f archive tables s).state (step_tables f archive tables s)))

unfoldable pub run_of : Format → List ℕ → Run
run_of f archive = run_from f archive (length archive / 8 + 1) opening (replicate (table_words f) 0)

-- a refusal by its number and place
pub data Refusal : Type 0 where
  refusal : (number place : ℕ) → Refusal

abbrev pub or_else : Option Refusal → Option Refusal → Option Refusal
or_else (some r) other = some r
or_else none other = other

-- "5 to 9 as reading meets them": the run of an opened archive ends by 0 or one of these (`Numbers.run_numbers`)
abbrev pub stop_refusal : Run → Option Refusal
stop_refusal (ended number place) = pick (eqb number 0) none (some (refusal number place))
stop_refusal (passed place keeps item run) = stop_refusal run

-- "Number 10 is given exactly for: a skipped record, an unknown argument, appended words, or a nonzero reserved or padding bit"; the first such record
abbrev pub loss_refusal : Run → Option Refusal
loss_refusal (ended number place) = none
loss_refusal (passed place keeps item run) = let rest = loss_refusal run in pick keeps rest (some (refusal 10 place))

-- "an unresolved reference"
abbrev pub item_unresolved : Option Item → Bool
item_unresolved none = false
item_unresolved (some i) = unresolved_in i

abbrev pub unresolved_refusal : Run → Option Refusal
unresolved_refusal (ended number place) = none
unresolved_refusal (passed place keeps item run) = let rest = unresolved_refusal run in pick (item_unresolved item) (some (refusal 11 place)) rest

-- "over 511 distinct nonempty strings or 255 distinct threads used in one context": how many distinct keys of a use's table its context uses
abbrev pub alike : Use → List Use → ℕ
alike u [] = 0
alike u (v ∷ vs) = cond (same_provider u.provider v.provider && same_table u.key v.key) 1 0 + alike u vs

-- the highest index of a key's table
abbrev pub limit_of : Format → Key → ℕ
limit_of f (text_key bytes) = f.highest
limit_of f (thread_key t) = 255

-- whether some context uses more distinct keys than its table holds
abbrev pub passes_limit : Format → List Use → List Use → Bool
passes_limit f uses [] = false
passes_limit f uses (u ∷ us) = ltb (limit_of f u.key) (alike u (keys same_use [] uses)) || passes_limit f uses us

abbrev pub item_uses : Option Item → List Use
item_uses none = []
item_uses (some i) = uses_of i

-- "Places for 10, 11 and 12 are the first such record (for 12, the one that passes the limit)"
abbrev pub limit_refusal : Format → List Use → Run → Option Refusal
limit_refusal f before (ended number place) = none
limit_refusal f before (passed place keeps item run) =
    let uses = before ++ item_uses item in
    let rest = limit_refusal f uses run in
    pick (passes_limit f uses uses) (some (refusal 12 place)) rest

-- "then 5 to 9 as reading meets them, 10, 11, 12"
unfoldable pub refusal_of : Format → Run → Option Refusal
refusal_of f run = or_else (stop_refusal run) (or_else (loss_refusal run) (or_else (unresolved_refusal run) (limit_refusal f [] run)))

abbrev pub items_of : Run → List Item
items_of (ended number place) = []
items_of (passed place keeps none run) = items_of run
items_of (passed place keeps (some i) run) = i ∷ items_of run

-- "Accepted means not refused", room aside: 2 and 1 before anything is read, and none of 5 to 12
pub record Accepted (f : Format) (archive : List ℕ) : Type 0 where
  pub opened : opening_number f archive (table_words f) ≡ 0
  pub not_refused : refusal_of f (run_of f archive) ≡ none

-- "The written length in the reply counts the bytes written"
abbrev pub written_length : Format → List ℕ → ℕ
written_length f archive = length (rule f (items_of (run_of f archive)))
