-- The run of an archive and the list that it reads as: the run goes on to the archive's end, and its items are that list.
-- Assumes nothing.
use Prim.Native.Nat.{ℕ, zero, suc, ◌+◌, ◌-◌, ◌*◌, ◌/◌, ◌≤◌, ◌<◌}
use mathlib.Core.Path.{◌≡◌, refl, ap, subst}
use mathlib.Core.List.{[], List, ◌∷◌}
use mathlib.Core.Option.{Option, none, some}
use mathlib.Core.Logic.{◌⊎◌, inl, inr}
use native.Mathlib.Omega.{arith}
use borrow.Author.Tests.{eqb-true}
use lib.Dec.{eqb}
use lib.ListN.{length, take, drop, replicate}
use Rattle.words.specs.Stream.{part_of}
use Rattle.words.proofs.Tests.{on-pick}
use Rattle.format.specs.declared.Format.{Format}
use Rattle.records.specs.declared.Content.TheVariants.{Refused}
use Rattle.records.specs.Record.{record_at}
use Rattle.records.specs.Item.{Item, magic, provider_info, section, provider_event, initialization, skipped}
use Rattle.contexts.specs.declared.State.{State}
use Rattle.contexts.specs.Context.{opening, belongs_to}
use Rattle.tables.specs.Table.{table_words}
use Rattle.reader.specs.declared.Answer.{Answer}
use Rattle.reader.specs.declared.Answer.TheVariants.{End, Nothing, Magic, ProviderInfo, Section, ProviderEvent, Initialization, Report, Skipped}
use Rattle.reader.specs.Step.{Decision}
use Rattle.reader.specs.Step.{opening_number, stopping, content_decision, place_decision, decision_of, step_reply, step_tables, plain_answer}
use Rattle.reader.specs.Reads.{item_of, Reads, ends, passes, shows, ReadsAs}
use Rattle.views.proofs.Lookups.{ContentFits, record_whole}
use Rattle.reader.proofs.Changes.{on_decision, on-entering, on-report, registering, stop_decided}
use Rattle.reader.proofs.Runs.{Sound, fresh_sound, step_sound}
use Rattle.reader.proofs.NeverFour.{report_item_lem}
use Rattle.views.specs.Shown.{none_bad}
use Rattle.reader.proofs.Numbers.{step_places}
use Rattle.records.specs.Effect.{effect_of}
use Rattle.records.proofs.Passes.{RecordNumber}
use Rattle.rule.specs.Refusal.{Run, ended, passed, keeps_at, on_answer, run_from, run_of, Refusal, or_else, stop_refusal, loss_refusal, unresolved_refusal, limit_refusal, refusal_of, items_of, Accepted}

-- ---- steps go on

-- an end or a refusal
abbrev Ended : Answer → Type 0
Ended (End number place) = Unit {0}
Ended Nothing = ⊥
Ended Magic = ⊥
Ended (ProviderInfo id place long) = ⊥
Ended (Section id) = ⊥
Ended (ProviderEvent id e) = ⊥
Ended (Initialization rate) = ⊥
Ended (Report e) = ⊥
Ended (Skipped type size) = ⊥

-- a step ends or is refused, or moves on by a word at least
pub step_advances : (f : Format) (archive tables : List ℕ) (s : State)
    → Ended (step_reply f archive tables s).answer ⊎ (s.place + 8 ≤ (step_reply f archive tables s).state.place)
unfolding decision_of place_decision content_decision none_bad plain_answer effect_of stopping registering
step_advances f archive tables s = go (record_whole f archive s.place).some
  where
    next : ℕ
    next = (record_at f archive s.place).next

    P : Decision → Type 0
    P d = Ended d.answer ⊎ (s.place + 8 ≤ d.state.place)

    refused : (number : ℕ) → (record_at f archive s.place).content ≡ Refused number → RecordNumber number
    refused number e = subst (ContentFits f (take (next - s.place) (drop s.place archive)) s.place) e (record_whole f archive s.place).holds

    go : ((number : ℕ) × ((record_at f archive s.place).content ≡ Refused number)) ⊎ (s.place + 8 ≤ next) → P (decision_of f archive tables s)
    go (inl (number, e)) =
        on-pick P (eqb (opening_number f archive (length tables)) 0) _ _
        (λ q. on-pick P (belongs_to s (length archive)) _ _
        (λ q. on-pick P (eqb s.place (length archive)) _ _ (λ q. inl tt) (λ q. rw (e, stop_decided f s number next Nothing (refused number e).stops) (inl tt)))
        (λ q. inl tt))
        (λ q. inl tt)
    go (inr l) =
        on_decision P f archive tables s (λ number place k. inl tt) (λ answer k. inr l) (λ rate. inr l)
        (λ id answer k. on-entering P s id next answer (inl tt) (λ i e. inr l) (λ e z. inr l))
        (λ table index r. inr l) (λ e k. on-report P f archive tables s e next (inl tt) (λ shown. inr l))

-- so one that does not end stands a word further
advanced : (f : Format) (archive tables : List ℕ) (s : State) → (Ended (step_reply f archive tables s).answer → ⊥)
    → s.place + 8 ≤ (step_reply f archive tables s).state.place
advanced f archive tables s h = go (step_advances f archive tables s)
  where
    go : Ended (step_reply f archive tables s).answer ⊎ (s.place + 8 ≤ (step_reply f archive tables s).state.place)
        → s.place + 8 ≤ (step_reply f archive tables s).state.place
    go (inl e) = absurd (h e)
    go (inr l) = l

-- what is an item is no end
item_goes_on : (f : Format) (archive tables : List ℕ) (s : State) (a : Answer) (i : Item) → item_of f archive tables s a ≡ some i → Ended a → ⊥
unfolding item_of
item_goes_on f archive tables s (End number place) i e h = let z : ◌≡◌ {A = ℕ} 0 1 = cc in omega arith
item_goes_on f archive tables s Nothing i e h = h
item_goes_on f archive tables s Magic i e h = h
item_goes_on f archive tables s (ProviderInfo id place long) i e h = h
item_goes_on f archive tables s (Section id) i e h = h
item_goes_on f archive tables s (ProviderEvent id event) i e h = h
item_goes_on f archive tables s (Initialization rate) i e h = h
item_goes_on f archive tables s (Report event) i e h = h
item_goes_on f archive tables s (Skipped type size) i e h = h

-- a step that shows nothing moves on by a word at least
pub nothing_advances : (f : Format) (archive tables : List ℕ) (s : State) → (step_reply f archive tables s).answer ≡ Nothing
    → s.place + 8 ≤ (step_reply f archive tables s).state.place
nothing_advances f archive tables s e = advanced f archive tables s (λ q. subst Ended e q)

-- and so does one that shows an item
pub item_advances : (f : Format) (archive tables : List ℕ) (s : State) (i : Item)
    → item_of f archive (step_tables f archive tables s) (step_reply f archive tables s).state (step_reply f archive tables s).answer ≡ some i
    → s.place + 8 ≤ (step_reply f archive tables s).state.place
item_advances f archive tables s i e =
    advanced f archive tables s
    (item_goes_on f archive (step_tables f archive tables s) (step_reply f archive tables s).state (step_reply f archive tables s).answer i e)

-- a step that replies 0 replies it at the archive's length
pub end_place_lem : (f : Format) (archive tables : List ℕ) (s : State) (place : ℕ) → (step_reply f archive tables s).answer ≡ End 0 place
    → place ≡ length archive
end_place_lem f archive tables s place e = (step_places f archive tables s 0 place e).end refl

-- ---- a step of a run

-- a step that does not end is passed
passes_on : (a : Answer) (run : Run) → (Ended a → ⊥) → on_answer a ended run ≡ run
passes_on (End number place) run h = absurd (h tt)
passes_on Nothing run h = refl
passes_on Magic run h = refl
passes_on (ProviderInfo id place long) run h = refl
passes_on (Section id) run h = refl
passes_on (ProviderEvent id e) run h = refl
passes_on (Initialization rate) run h = refl
passes_on (Report e) run h = refl
passes_on (Skipped type size) run h = refl

-- a run at its end
pub run_ends : (f : Format) (archive : List ℕ) (steps : ℕ) (s : State) (tables : List ℕ) (number place : ℕ)
    → (step_reply f archive tables s).answer ≡ End number place → run_from f archive (suc steps) s tables ≡ ended number place
unfolding run_from
run_ends f archive steps s tables number place e = rw e

-- a run whose first step shows nothing
pub run_passes : (f : Format) (archive : List ℕ) (steps : ℕ) (s : State) (tables : List ℕ) → (step_reply f archive tables s).answer ≡ Nothing
    → run_from f archive (suc steps) s tables
    ≡ passed s.place (keeps_at f archive s.place) none
    (run_from f archive steps (step_reply f archive tables s).state (step_tables f archive tables s))
unfolding run_from item_of
run_passes f archive steps s tables e = rw e

-- a run whose first step shows an item
pub run_shows : (f : Format) (archive : List ℕ) (steps : ℕ) (s : State) (tables : List ℕ) (i : Item)
    → item_of f archive (step_tables f archive tables s) (step_reply f archive tables s).state (step_reply f archive tables s).answer ≡ some i
    → run_from f archive (suc steps) s tables
    ≡ passed s.place (keeps_at f archive s.place) (some i)
    (run_from f archive steps (step_reply f archive tables s).state (step_tables f archive tables s))
unfolding run_from
run_shows f archive steps s tables i e =
    rw (
      passes_on (step_reply f archive tables s).answer _
          (item_goes_on f archive (step_tables f archive tables s) (step_reply f archive tables s).state (step_reply f archive tables s).answer i e),
      e,
    )

-- ---- from a reading to the run

-- a run that ends by number 0 at this place
abbrev pub EndsAt : ℕ → Run → Type 0
EndsAt at (ended number place) = (number ≡ 0) × (place ≡ at)
EndsAt at (passed place keeps item run) = EndsAt at run

-- with steps enough for the words that are left, a run has the items that are read and ends at the archive's length
reads_whole : (f : Format) (archive : List ℕ) (steps : ℕ) {s : State} {tables : List ℕ} {l : List Item} → Reads f archive s tables l
    → Sound f archive s tables → length archive < s.place + 8 * steps
    → (items_of (run_from f archive steps s tables) ≡ l) × EndsAt (length archive) (run_from f archive steps s tables)
reads_whole f archive zero {s = s} r h n = absurd (omega (arith, h.before))
reads_whole f archive (suc steps) (ends s tables place e) h n =
    rw (run_ends f archive steps s tables 0 place e) (refl, (refl, end_place_lem f archive tables s place e))
reads_whole f archive (suc steps) (passes s tables l e r) h n =
    rw (run_passes f archive steps s tables e)
    (reads_whole f archive steps r (step_sound f archive tables s h) (omega (arith, nothing_advances f archive tables s e)))
reads_whole f archive (suc steps) (shows s tables i l e r) h n =
    let rest = reads_whole f archive steps r (step_sound f archive tables s h) (omega (arith, item_advances f archive tables s i e)) in
    rw (run_shows f archive steps s tables i e) (ap (λ (m : List Item). i ∷ m) rest.0, rest.1)

-- the items of an archive's run are the list that the archive reads as, and no other
pub reads_items : (f : Format) (archive : List ℕ) (l : List Item) → ReadsAs f archive l → items_of (run_of f archive) ≡ l
unfolding run_of
reads_items f archive l r = (reads_whole f archive (length archive / 8 + 1) r.1 (fresh_sound f archive) (omega arith)).0

-- and the run ends by number 0 at the archive's length
pub reads_ends : (f : Format) (archive : List ℕ) (l : List Item) → ReadsAs f archive l → EndsAt (length archive) (run_of f archive)
unfolding run_of
reads_ends f archive l r = (reads_whole f archive (length archive / 8 + 1) r.1 (fresh_sound f archive) (omega arith)).1

-- ---- from the run to a reading

-- a number that is no refusal is 0
no_number : (number place : ℕ) → stop_refusal (ended number place) ≡ none → number ≡ 0
no_number number place =
    on-pick (λ (o : Option Refusal). o ≡ none → number ≡ 0) (eqb number 0) _ _ (λ e k. eqb-true number 0 e) (λ e k. cc)

-- with steps enough for the words that are left, a run that is not refused is read as its items: no item is lost
run_reads : (f : Format) (archive : List ℕ) (steps : ℕ) (s : State) (tables : List ℕ) → Sound f archive s tables
    → length archive < s.place + 8 * steps → stop_refusal (run_from f archive steps s tables) ≡ none
    → Reads f archive s tables (items_of (run_from f archive steps s tables))
unfolding item_of
run_reads f archive zero s tables h n k = absurd (omega (arith, h.before))
run_reads f archive (suc steps) s tables h n k =
    of_answer (λ l. run_reads f archive steps s' tables' (step_sound f archive tables s h) (omega arith)) (step_reply f archive tables s).answer refl
  where
    s' : State
    s' = (step_reply f archive tables s).state

    tables' : List ℕ
    tables' = step_tables f archive tables s

    rest : Run
    rest = run_from f archive steps s' tables'

    Behind : Type 0
    Behind = s.place + 8 ≤ s'.place → stop_refusal rest ≡ none → Reads f archive s' tables' (items_of rest)

    of_item : Behind → (i : Item) → item_of f archive tables' s' (step_reply f archive tables s).answer ≡ some i
        → Reads f archive s tables (items_of (run_from f archive (suc steps) s tables))
    of_item behind i e =
        let run = run_shows f archive steps s tables i e in
        rw run (shows s tables i (items_of rest) e (behind (item_advances f archive tables s i e) (rw run at k)))

    of_answer : Behind → (a : Answer) → (step_reply f archive tables s).answer ≡ a
        → Reads f archive s tables (items_of (run_from f archive (suc steps) s tables))
    of_answer behind (End number place) e =
        let run = run_ends f archive steps s tables number place e in
        rw run (ends s tables place (rw (no_number number place (rw run at k)) at e))
    of_answer behind Nothing e =
        let run = run_passes f archive steps s tables e in
        rw run (passes s tables (items_of rest) e (behind (nothing_advances f archive tables s e) (rw run at k)))
    of_answer behind Magic e = of_item behind magic (rw e)
    of_answer behind (ProviderInfo id place long) e = of_item behind (provider_info id (part_of archive place long)) (rw e)
    of_answer behind (Section id) e = of_item behind (section id) (rw e)
    of_answer behind (ProviderEvent id event) e = of_item behind (provider_event id event) (rw e)
    of_answer behind (Initialization rate) e = of_item behind (initialization rate) (rw e)
    of_answer behind (Report shown) e = let item = report_item_lem f archive tables s shown h e in of_item behind item.0 item.1
    of_answer behind (Skipped type size) e = of_item behind (skipped type size) (rw e)

-- an archive that is opened and whose run is not refused reads as the items of its run
pub items_read : (f : Format) (archive : List ℕ) → opening_number f archive (table_words f) ≡ 0 → stop_refusal (run_of f archive) ≡ none
    → ReadsAs f archive (items_of (run_of f archive))
unfolding run_of
items_read f archive opens k = (
  opens,
  run_reads f archive (length archive / 8 + 1) opening (replicate (table_words f) 0) (fresh_sound f archive) (omega arith) k,
)

-- ---- accepted archives

-- a run that no number refuses
pub record Passed (f : Format) (run : Run) : Type 0 where
  pub stop : stop_refusal run ≡ none
  pub loss : loss_refusal run ≡ none
  pub whole : unresolved_refusal run ≡ none
  pub limits : limit_refusal f [] run ≡ none

-- neither of two refusals that make none together is one
both_none : (a b : Option Refusal) → or_else a b ≡ none → (a ≡ none) × (b ≡ none)
both_none none b e = (refl, e)
both_none (some r) b e = (e, cc)

-- what is not refused passes each check
pub not_refused-passes : (f : Format) (run : Run) → refusal_of f run ≡ none → Passed f run
unfolding refusal_of
not_refused-passes f run e =
    let a = both_none (stop_refusal run) (or_else (loss_refusal run) (or_else (unresolved_refusal run) (limit_refusal f [] run))) e in
    let b = both_none (loss_refusal run) (or_else (unresolved_refusal run) (limit_refusal f [] run)) a.1 in
    let c = both_none (unresolved_refusal run) (limit_refusal f [] run) b.1 in
    record { stop = a.0; loss = b.0; whole = c.0; limits = c.1 }

-- an archive that is accepted reads as the items of its run
pub not_refused_reads : (f : Format) (archive : List ℕ) → Accepted f archive → ReadsAs f archive (items_of (run_of f archive))
not_refused_reads f archive a = items_read f archive a.opened (not_refused-passes f (run_of f archive) a.not_refused).stop
