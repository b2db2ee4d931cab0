-- What ends the run of an archive, and which numbers refuse it: the run goes on until a step of it stops it, never for want of steps; of an opened
-- archive that step answers 0 or 5 to 9, and the archive is refused by 5 to 12 or not at all. Assumes nothing.
use Prim.Native.Nat.{ℕ, zero, suc, ◌+◌, ◌*◌, ◌/◌, ◌≤◌, ◌<◌}
use mathlib.Core.Path.{◌≡◌, refl, sym, ap, subst, ◌∙◌}
use mathlib.Core.List.{[], List, ◌++◌}
use mathlib.Core.Option.{Option, none, some}
use mathlib.Core.Logic.{◌⊎◌, inl, inr}
use native.Mathlib.Omega.{arith}
use borrow.Author.Tests.{eqb-false, ltb-true, ltb-false}
use lib.Dec.{eqb, ltb}
use lib.ListN.{length, replicate}
use Rattle.words.specs.Stream.{part_of}
use Rattle.words.proofs.Tests.{on-pick, cases}
use Rattle.format.specs.declared.Format.{Format}
use Rattle.records.specs.Item.{Item, magic, provider_info, section, provider_event, initialization, skipped, Use}
use Rattle.contexts.specs.declared.State.{State}
use Rattle.contexts.specs.Context.{opening}
use Rattle.tables.specs.Table.{table_words}
use Rattle.reader.specs.declared.Answer.{Answer}
use Rattle.reader.specs.declared.Answer.TheVariants.{End, Nothing, Magic, ProviderInfo, Section, ProviderEvent, Initialization, Report, Skipped}
use Rattle.reader.specs.Step.{opening_number, step_reply, step_tables}
use Rattle.reader.specs.Reads.{item_of}
use Rattle.reader.specs.Numbers.{answer_number}
use Rattle.reader.proofs.Behind.{opening-behind}
use Rattle.reader.proofs.NeverFour.{never_four, report_item_lem}
use Rattle.reader.proofs.Numbers.{Between, step_numbers, step_places, step_opening}
use Rattle.reader.proofs.Runs.{Sound, fresh_sound, step_sound, run_sound, Run as Steps, still, passing, showing}
use Rattle.rule.specs.Refusal.{Run, ended, passed, run_from, run_of, Refusal, refusal, or_else, stop_refusal, loss_refusal, item_unresolved, unresolved_refusal, passes_limit, item_uses, limit_refusal, refusal_of, items_of}
use Rattle.rule.proofs.WholeRuns.{nothing_advances, item_advances, run_ends, run_passes, run_shows}

-- the number that a run ends with, and its place
abbrev pub end_number : Run → ℕ
end_number (ended number place) = number
end_number (passed place keeps item run) = end_number run

abbrev pub end_place : Run → ℕ
end_place (ended number place) = place
end_place (passed place keeps item run) = end_place run

-- ---- steps never run out

-- a step ends or is refused, or shows nothing, or shows an item
abbrev Answered : Format → List ℕ → List ℕ → State → Type 0
Answered f archive tables s =
    ((number : ℕ) × (place : ℕ) × ((step_reply f archive tables s).answer ≡ End number place))
    ⊎ (((step_reply f archive tables s).answer ≡ Nothing)
    ⊎ ((i : Item)
    × (item_of f archive (step_tables f archive tables s) (step_reply f archive tables s).state (step_reply f archive tables s).answer ≡ some i)))

-- from a sound state every step does one of these
answered : (f : Format) (archive tables : List ℕ) (s : State) → Sound f archive s tables → Answered f archive tables s
unfolding item_of
answered f archive tables s h = go (step_reply f archive tables s).answer refl
  where
    go : (a : Answer) → (step_reply f archive tables s).answer ≡ a → Answered f archive tables s
    go (End number place) e = inl (number, place, e)
    go Nothing e = inr (inl e)
    go Magic e = inr (inr (magic, rw e))
    go (ProviderInfo id place long) e = inr (inr (provider_info id (part_of archive place long), rw e))
    go (Section id) e = inr (inr (section id, rw e))
    go (ProviderEvent id event) e = inr (inr (provider_event id event, rw e))
    go (Initialization rate) e = inr (inr (initialization rate, rw e))
    go (Report shown) e = inr (inr (report_item_lem f archive tables s shown h e))
    go (Skipped type size) e = inr (inr (skipped type size, rw e))

-- from a sound state any two numbers of steps that are enough for the words left make the same run
enough_steps : (f : Format) (archive : List ℕ) (steps more : ℕ) (s : State) (tables : List ℕ) → Sound f archive s tables
    → length archive < s.place + 8 * steps → length archive < s.place + 8 * more
    → run_from f archive more s tables ≡ run_from f archive steps s tables
enough_steps f archive zero more s tables h n m = absurd (omega (arith, h.before))
enough_steps f archive (suc steps) zero s tables h n m = absurd (omega (arith, h.before))
enough_steps f archive (suc steps) (suc more) s tables h n m =
    go (λ l. enough_steps f archive steps more s' tables' (step_sound f archive tables s h) (omega arith) (omega arith))
    (answered f archive tables s h)
  where
    s' : State
    s' = (step_reply f archive tables s).state

    tables' : List ℕ
    tables' = step_tables f archive tables s

    go : (s.place + 8 ≤ s'.place → run_from f archive more s' tables' ≡ run_from f archive steps s' tables') → Answered f archive tables s
        → run_from f archive (suc more) s tables ≡ run_from f archive (suc steps) s tables
    go rest (inl (number, place, e)) = run_ends f archive more s tables number place e ∙ sym (run_ends f archive steps s tables number place e)
    go rest (inr (inl e)) =
        rw (run_passes f archive more s tables e, run_passes f archive steps s tables e, rest (nothing_advances f archive tables s e))
    go rest (inr (inr (i, e))) =
        rw (run_shows f archive more s tables i e, run_shows f archive steps s tables i e, rest (item_advances f archive tables s i e))

-- More steps change nothing: the run of an archive never ends for want of steps.
pub more_steps : (f : Format) (archive : List ℕ) (k : ℕ)
    → run_from f archive (length archive / 8 + 1 + k) opening (replicate (table_words f) 0) ≡ run_of f archive
unfolding run_of
more_steps f archive k =
    enough_steps f archive (length archive / 8 + 1) (length archive / 8 + 1 + k) opening (replicate (table_words f) 0) (fresh_sound f archive)
    (omega arith) (omega arith)

-- ---- the last answer is a step's own

-- a run is made of steps: they lead to a state where a step answers what the run ends with, and show the run's items on the way
pub record Stops (f : Format) (archive : List ℕ) (s : State) (tables : List ℕ) (run : Run) : Type 0 where
  pub state : State
  pub tables' : List ℕ
  pub steps : Steps f archive s tables (items_of run) state tables'
  pub last : (step_reply f archive tables' state).answer ≡ End (end_number run) (end_place run)

-- so is a run from a sound state with steps enough for the words left
run_stops : (f : Format) (archive : List ℕ) (steps : ℕ) (s : State) (tables : List ℕ) → Sound f archive s tables
    → length archive < s.place + 8 * steps → Stops f archive s tables (run_from f archive steps s tables)
run_stops f archive zero s tables h n = absurd (omega (arith, h.before))
run_stops f archive (suc steps) s tables h n =
    go (λ l. run_stops f archive steps s' tables' (step_sound f archive tables s h) (omega arith)) (answered f archive tables s h)
  where
    s' : State
    s' = (step_reply f archive tables s).state

    tables' : List ℕ
    tables' = step_tables f archive tables s

    rest : Run
    rest = run_from f archive steps s' tables'

    go : (s.place + 8 ≤ s'.place → Stops f archive s' tables' rest) → Answered f archive tables s
        → Stops f archive s tables (run_from f archive (suc steps) s tables)
    go behind (inl (number, place, e)) =
        rw (run_ends f archive steps s tables number place e) (record { state = s; tables' = tables; steps = still s tables; last = e })
    go behind (inr (inl e)) =
        let r = behind (nothing_advances f archive tables s e) in
        rw (run_passes f archive steps s tables e)
        (record {
          state = r.state;
          tables' = r.tables';
          steps = passing s tables (items_of rest) r.state r.tables' e r.steps;
          last = r.last;
        })
    go behind (inr (inr (i, e))) =
        let r = behind (item_advances f archive tables s i e) in
        rw (run_shows f archive steps s tables i e)
        (record {
          state = r.state;
          tables' = r.tables';
          steps = showing s tables i (items_of rest) r.state r.tables' e r.steps;
          last = r.last;
        })

-- The run of every archive is made of steps from opening, and the number and place that it ends with are the answer of the last one.
pub run_is_steps : (f : Format) (archive : List ℕ) → Stops f archive opening (replicate (table_words f) 0) (run_of f archive)
unfolding run_of
run_is_steps f archive =
    run_stops f archive (length archive / 8 + 1) opening (replicate (table_words f) 0) (fresh_sound f archive) (omega arith)

-- A run that ends by 0 has come to the archive's end.
pub run_end_place : (f : Format) (archive : List ℕ) → end_number (run_of f archive) ≡ 0 → end_place (run_of f archive) ≡ length archive
run_end_place f archive =
    let r = run_is_steps f archive in
    (step_places f archive r.tables' r.state (end_number (run_of f archive)) (end_place (run_of f archive)) r.last).end

-- ---- numbers

-- What stops the run of an opened archive is 0 or 5 to 9.
pub run_numbers : (f : Format) (archive : List ℕ) → opening_number f archive (table_words f) ≡ 0
    → (end_number (run_of f archive) ≡ 0) ⊎ Between 5 9 (end_number (run_of f archive))
run_numbers f archive opens = go (end_number (run_of f archive)) (end_place (run_of f archive)) r.last
  where
    r : Stops f archive opening (replicate (table_words f) 0) (run_of f archive)
    r = run_is_steps f archive

    sound : Sound f archive r.state r.tables'
    sound = run_sound f archive r.steps (fresh_sound f archive)

    opened : opening_number f archive (length r.tables') ≡ 0
    opened = opening-behind f archive (length r.tables') (table_words f) sound.room (omega arith) ∙ opens

    go : (number place : ℕ) → (step_reply f archive r.tables' r.state).answer ≡ End number place → (number ≡ 0) ⊎ Between 5 9 number
    go number place e =
        cases (ltb number 1) (λ p. inl (omega (arith, ltb-true number 1 p)))
        (λ p. cases (ltb number 4) (λ q. absurd (omega (arith, ltb-false number 1 p, at_opening (ltb-false number 1 p) (ltb-true number 4 q))))
        (λ q. cases (ltb number 5) (λ o. absurd (at_four (omega (arith, ltb-false number 4 q, ltb-true number 5 o))))
        (λ o. inr (ltb-false number 5 o, (step_numbers f archive r.tables' r.state number (ap answer_number e)).1))))
      where
        at_opening : 1 ≤ number → number < 4 → number ≡ 0
        at_opening p q = step_opening f archive r.tables' r.state number place e (p, omega arith) ∙ opened

        at_four : number ≡ 4 → ⊥
        at_four q = never_four f archive r.tables' r.state sound place (rw q at e)

-- a refusal, if there is one, has such a number
abbrev Numbered : (ℕ → Type 0) → Option Refusal → Type 0
Numbered P none = Unit {0}
Numbered P (some (refusal number place)) = P number

-- by reading: the number that the run ends with
stop_numbered : (P : ℕ → Type 0) (run : Run) → ((end_number run ≡ 0 → ⊥) → P (end_number run)) → Numbered P (stop_refusal run)
stop_numbered P (ended number place) h =
    on-pick (Numbered P) (eqb number 0) none (some (refusal number place)) (λ e. tt) (λ e. h (eqb-false number 0 e))
stop_numbered P (passed place keeps item run) h = stop_numbered P run h

-- by loss: 10
loss_numbered : (P : ℕ → Type 0) → P 10 → (run : Run) → Numbered P (loss_refusal run)
loss_numbered P h (ended number place) = tt
loss_numbered P h (passed place keeps item run) =
    on-pick (Numbered P) keeps (loss_refusal run) (some (refusal 10 place)) (λ e. loss_numbered P h run) (λ e. h)

-- by an unresolved reference: 11
unresolved_numbered : (P : ℕ → Type 0) → P 11 → (run : Run) → Numbered P (unresolved_refusal run)
unresolved_numbered P h (ended number place) = tt
unresolved_numbered P h (passed place keeps item run) =
    on-pick (Numbered P) (item_unresolved item) (some (refusal 11 place)) (unresolved_refusal run) (λ e. h) (λ e. unresolved_numbered P h run)

-- by a limit: 12
limit_numbered : (P : ℕ → Type 0) → P 12 → (f : Format) (before : List Use) (run : Run) → Numbered P (limit_refusal f before run)
limit_numbered P h f before (ended number place) = tt
limit_numbered P h f before (passed place keeps item run) =
    let uses = before ++ item_uses item in
    on-pick (Numbered P) (passes_limit f uses uses) (some (refusal 12 place)) (limit_refusal f uses run) (λ e. h) (λ e. limit_numbered P h f uses run)

-- by the first of two
either_numbered : (P : ℕ → Type 0) (a b : Option Refusal) → Numbered P a → Numbered P b → Numbered P (or_else a b)
either_numbered P none b h k = k
either_numbered P (some r) b h k = h

-- "then 5 to 9 as reading meets them, 10, 11, 12": an opened archive is refused by no other number.
pub refusal_numbers : (f : Format) (archive : List ℕ) (number place : ℕ) → opening_number f archive (table_words f) ≡ 0
    → refusal_of f (run_of f archive) ≡ some (refusal number place) → Between 5 12 number
unfolding refusal_of
refusal_numbers f archive number place opens e =
    subst (Numbered P) e
    (either_numbered P (stop_refusal run) behind_reading (stop_numbered P run (stop (run_numbers f archive opens)))
    (either_numbered P (loss_refusal run) behind_loss (loss_numbered P (omega arith, omega arith) run)
    (either_numbered P (unresolved_refusal run) (limit_refusal f [] run) (unresolved_numbered P (omega arith, omega arith) run)
    (limit_numbered P (omega arith, omega arith) f [] run))))
  where
    P : ℕ → Type 0
    P = Between 5 12

    run : Run
    run = run_of f archive

    behind_loss : Option Refusal
    behind_loss = or_else (unresolved_refusal run) (limit_refusal f [] run)

    behind_reading : Option Refusal
    behind_reading = or_else (loss_refusal run) behind_loss

    stop : (end_number run ≡ 0) ⊎ Between 5 9 (end_number run) → (end_number run ≡ 0 → ⊥) → P (end_number run)
    stop (inl e) z = absurd (z e)
    stop (inr b) z = (b.0, omega (arith, b.1))
