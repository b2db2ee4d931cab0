-- One turn of a pass over an archive: what a record does to state, tables and items by `after_record`, `tables_after` and `item_at` is what a step
-- of the archive's run does, from any sound state. Assumes nothing.
use Prim.Native.Nat.{ℕ, zero, suc, ◌+◌, ◌-◌, ◌≤◌, ◌<◌, ◌%◌}
use mathlib.Core.Path.{◌≡◌, refl, sym, ap, subst, ◌∙◌}
use mathlib.Core.List.{[], List, ◌∷◌}
use mathlib.Core.Option.{some}
use Rattle.std.specs.Prelude.{Option, Some, None, ok_or}
use mathlib.Core.Logic.{◌⊎◌, inl, inr}
use native.Mathlib.Omega.{arith}
use native.Mathlib.Nat.{add-zero, zero-add}
use borrow.Author.Tests.{eq-eqb, eqb-true, eqb-false, le-ltb, ltb-false}
use lib.Dec.{eqb, ltb}
use lib.ListN.{length, take, drop, length-set, get_or}
use Rattle.records.proofs.Lookups.{AllRead, behind_read}
use Rattle.records.proofs.Passes.{RecordNumber}
use Rattle.effects.specs.Follow.{changed, followed, on_followed, change_of}
use Rattle.effects.proofs.Stops.{Above, followed_above, stops_above}
use Rattle.effects.specs.Models.Bounds.{EffectFits}
use Rattle.words.specs.Word.{pick}
use Rattle.words.proofs.Tests.{cases}
use Rattle.format.specs.declared.Format.{Format}
use Rattle.arguments.specs.declared.Argument.{Argument}
use Rattle.arguments.specs.declared.Argued.{Argued}
use Rattle.format.specs.declared.Reason.{Reason}
use Rattle.std.specs.Prelude.{Result, Ok, Err}
use Rattle.arguments.specs.Argument.{argued, argument_of, refused, prepend as prepend_argument, on_argued, arguments_of, numbered_of, arguments_read}
use Rattle.records.specs.declared.Report.{Report}
use Rattle.records.specs.declared.Content.{Content}
use Rattle.records.specs.declared.Content.TheVariants.{Refused, Magic, ProviderInfo, Section, ProviderEvent, Initialization, String, Thread, Report as ReportRead, Ignored, Skipped}
use Rattle.records.specs.Record.{record_at}
use Rattle.contexts.specs.declared.State.{State}
use Rattle.contexts.specs.Context.{moved, entering}
use Rattle.contexts.proofs.Contexts.{entered_belongs}
use Rattle.tables.specs.Table.{position, resolved, entry_at, highest_of}
use Rattle.reader.specs.declared.Answer.TheVariants.{End}
use Rattle.format.specs.Limits.{refused_at}
use Rattle.reader.specs.Step.{Decision}
use Rattle.views.specs.Shown.{shown_report, shown_value, none_bad, is_bad}
use Rattle.reader.specs.Step.{opening_number, stopping, content_decision, decision_of, step_reply, step_tables, plain_answer, effect_decision, report_answer, content_answer}
use Rattle.reader.specs.Ask.{shown_argument, argument_reply}
use Rattle.reader.specs.Reads.{prepend as prepend_item, argument_items, item_of}
use Rattle.views.proofs.Lookups.{ContentFits, record_whole, report-fits, report-arguments}
use Rattle.reader.proofs.Steps.{index-fits}
use Rattle.reader.proofs.Runs.{Sound, step_sound}
use Rattle.rule.specs.Refusal.{Run, ended, passed, keeps_at, on_answer, run_from}
use Rattle.rule.proofs.Events.{asked_is}
use Rattle.rule.proofs.Items.{decision_is, end_is}
use Rattle.rule.proofs.WholeRuns.{run_ends}
use Rattle.records.specs.Effect.{effect_of}
use Rattle.records.proofs.Contents.{RecordStands, record_read}
use Rattle.reader.proofs.NeverFour.{none_bad_lem, argument_tables, never_bad}
use Rattle.records.specs.Lookups.{content_lookups, argument_lookups, report_lookups, arguments_to}
use Rattle.format.specs.declared.Reference.{Reference}
use Rattle.format.specs.declared.Reference.TheVariants.{Inline, Index}
use Rattle.records.specs.declared.Effect.{Effect}
use Rattle.records.specs.declared.Effect.TheVariants.{Stop, Pass, Enter, SetRate, Register}
use mathlib.Core.Bool.{true, false, true≢false}
use Rattle.effects.specs.declared.Change.{Change}
use Rattle.effects.specs.declared.Change.TheVariants.{Keep, Set}
use Rattle.arguments.specs.declared.Value.{Value as ReadValue}
use Rattle.arguments.specs.declared.Value.TheVariants.{Scalar as ScalarValue, Text as TextValue}
use Rattle.passes.specs.Models.Follow.{after_record, stop_after, state_after, tables_after}
use Rattle.passes.specs.Models.Item.{arguments_at, item_at, report_at, plain_item}

-- ---- the arguments of a record

-- an entry that belongs, belongs at every later place and stands for the same
pub resolved_later : (f : Format) (archive tables : List ℕ) (context table until later : ℕ) (r : Reference) → until ≤ later
    → is_bad (resolved f archive tables context table until r) ≡ false
    → resolved f archive tables context table later r ≡ resolved f archive tables context table until r
unfolding resolved entry_at is_bad
resolved_later f archive tables context table until later (Inline place long) h = λ k. refl
resolved_later f archive tables context table until later (Index index) h =
    cases (ltb (highest_of f table) index) (λ e k. rw e)
    (λ e. cases (eqb entry 0) (λ z k. rw (e, z))
    (λ z. cases (eqb (entry % 8) 0)
    (λ w. cases (ltb until next) (λ l k. absurd (true≢false (rw (e, z, w, l) at k)))
    (λ l k. rw (e, z, w, l, le-ltb later next (omega (arith, ltb-false until next l)))))
    (λ w k. rw (e, z, w))))
  where
    entry : ℕ
    entry = get_or tables (position f context table index) 0

    next : ℕ
    next = (record_at f archive entry).next

module _ (f : Format) (archive tables : List ℕ) (s : State) (sound : Sound f archive s tables) (later : ℕ) (behind : s.place ≤ later) where
  -- so a text of a sound state is shown the same right after its record
  text_later : (r : Reference) → resolved f archive tables s.current 2 later r ≡ resolved f archive tables s.current 2 s.place r
  text_later r =
      resolved_later f archive tables s.current 2 s.place later r behind (never_bad f archive tables s 2 r sound (inl refl))

  -- and so are arguments
  value_later : (v : ReadValue)
      → shown_value f archive tables s.current later v ≡ shown_value f archive tables s.current s.place v
  unfolding shown_value
  value_later (ScalarValue x) = refl
  value_later (TextValue r) = rw (text_later r)

  arguments_later : (l : List Argument)
      → arguments_at f archive tables s.current later l ≡ arguments_at f archive tables s.current s.place l
  arguments_later [] = refl
  arguments_later (a ∷ l) = rw (text_later a.name, value_later a.value, arguments_later l)

module _ (f : Format) (archive tables : List ℕ) (s : State) (sound : Sound f archive s tables) (place total first : ℕ) (part : List ℕ)
    (asks : (n : ℕ) → n < total
    → argument_reply f archive tables s place n
    ≡ on_argued (numbered_of f n part first) (λ refused. refused_at 4 s.place) (λ a size. shown_argument f archive tables s a)) where
  -- arguments that are all read, asked for from a number on, are those read one behind the other
  arguments_asked : (count number : ℕ) (rest : List ℕ) (at : ℕ) → number + count ≤ total → AllRead (arguments_of f count rest at)
      → ((k : ℕ) → numbered_of f (number + k) part first ≡ numbered_of f k rest at)
      → argument_items f archive tables s place number count
      ≡ some (arguments_at f archive tables s.current s.place (arguments_read f count rest at))
  unfolding argument_items arguments_read arguments_of numbered_of shown_argument
  arguments_asked zero number rest at low read same = refl
  arguments_asked (suc count) number rest at low read same =
      rw (asks number (omega arith), rw add-zero at (same 0))
      (of_argument (argument_of f rest at) refl read
      (λ size q. arguments_asked count (suc number) (drop size rest) (at + size) (omega arith) q))
    where
      next : (a : Argument) (size : ℕ) → argument_of f rest at ≡ argued a size
          → (k : ℕ) → numbered_of f (suc number + k) part first ≡ numbered_of f k (drop size rest) (at + size)
      next a size e k =
          let n : suc number + k ≡ number + suc k = omega arith in
          ap (λ n. numbered_of f n part first) n ∙ (same (suc k) ∙ rw e)

      of_argument : (x : Result Argued Reason) → argument_of f rest at ≡ x
          → AllRead (on_argued x refused (λ a size. prepend_argument a (arguments_of f count (drop size rest) (at + size))))
          → ((size : ℕ) → AllRead (arguments_of f count (drop size rest) (at + size))
          → ((k : ℕ) → numbered_of f (suc number + k) part first ≡ numbered_of f k (drop size rest) (at + size))
          → argument_items f archive tables s place (suc number) count
          ≡ some (arguments_at f archive tables s.current s.place (arguments_read f count (drop size rest) (at + size))))
          → prepend_item archive (on_argued x (λ refused. refused_at 4 s.place) (λ a size. shown_argument f archive tables s a))
          (argument_items f archive tables s place (suc number) count)
          ≡ some (arguments_at f archive tables s.current s.place
          (on_argued x (λ reason. []) (λ a size. a ∷ arguments_read f count (drop size rest) (at + size))))
      of_argument (Err reason) e r more = absurd r
      of_argument (Ok read) e r more =
          let a = read.argument in
          let size = read.size in
          rw (
            none_bad_lem f archive tables s (argument_lookups (a ∷ [])) sound (argument_tables (a ∷ [])),
            more size (behind_read a (arguments_of f count (drop size rest) (at + size)) r) (next a size e),
          )

-- ---- what a record does

-- the pass goes on as the step does
record GoesOn (f : Format) (archive tables : List ℕ) (s : State) (c : Content) (next : ℕ) (d : Decision) : Type 0 where
  state : d.state ≡ (state_after s c next)
  place : d.state.place ≡ next
  tables' : changed tables d.change ≡ tables_after f tables s c
  item : item_of f archive (changed tables d.change) d.state d.answer ≡ item_at f archive tables s c next
  on : (run : Run) → on_answer d.answer ended run ≡ run

-- or it stops as the step does, and neither changes anything
record Stops (f : Format) (tables : List ℕ) (s : State) (c : Content) (next : ℕ) (d : Decision) : Type 0 where
  answer : d.answer ≡ End (stop_after s c next) s.place
  state : d.state ≡ s
  tables' : changed tables d.change ≡ tables
  keeps : tables_after f tables s c ≡ tables

-- what is made of a state to go on from, where the number is 0
goes_to : {A : Type 0} (r : Result State ℕ) (s : State) (stop : ℕ → A) (then : State → A) → Above r → on_followed r (λ number. number) (λ state. 0) ≡ 0
    → on_followed r stop then ≡ then (on_followed r (λ number. s) (λ state. state))
goes_to (Ok state) s stop then h z = refl
goes_to (Err number) s stop then h z = absurd (omega (arith, z, h))

-- and of a number that is not 0
stops_by : {A : Type 0} (r : Result State ℕ) (stop : ℕ → A) (then : State → A) → (on_followed r (λ number. number) (λ state. 0) ≡ 0 → ⊥)
    → on_followed r stop then ≡ stop (on_followed r (λ number. number) (λ state. 0))
stops_by (Ok state) stop then n = absurd (n refl)
stops_by (Err number) stop then n = refl

-- where a record stops the pass, it changes no table
stopped_keeps : (f : Format) (tables : List ℕ) (s : State) (e : Effect) (next : ℕ) → (on_followed (followed s e next) (λ number. number) (λ state. 0) ≡ 0 → ⊥)
    → changed tables (change_of f s e) ≡ tables
unfolding changed change_of followed
stopped_keeps f tables s (Stop number) next h = refl
stopped_keeps f tables s Pass next h = absurd (h refl)
stopped_keeps f tables s (Enter id) next h = refl
stopped_keeps f tables s (SetRate rate) next h = absurd (h refl)
stopped_keeps f tables s (Register table index place long) next h = absurd (h refl)

-- what is shown of a record is passed
answer-on : (f : Format) (archive tables : List ℕ) (s : State) (c : Content) (run : Run) → on_answer (content_answer f archive tables s c) ended run ≡ run
unfolding plain_answer report_answer
answer-on f archive tables s (Refused number) run = refl
answer-on f archive tables s Magic run = refl
answer-on f archive tables s (ProviderInfo id at long) run = refl
answer-on f archive tables s (Section id) run = refl
answer-on f archive tables s (ProviderEvent id e) run = refl
answer-on f archive tables s (Initialization rate) run = refl
answer-on f archive tables s (String index at long) run = refl
answer-on f archive tables s (Thread index at) run = refl
answer-on f archive tables s (ReportRead r) run = refl
answer-on f archive tables s Ignored run = refl
answer-on f archive tables s (Skipped type size) run = refl

module _ (f : Format) (archive tables : List ℕ) (s : State) (sound : Sound f archive s tables) (opens : opening_number f archive (length tables) ≡ 0) where
  -- a record that refers to texts and threads is shown with all of its arguments
  report_item_lem : (r : Report) (next : ℕ) → record_at f archive s.place ≡ record { content = ReportRead r; next = next }
      → s.place ≤ next → Sound f archive (moved s next) tables
      → item_of f archive tables (moved s next) (report_answer f archive tables s r) ≡ item_at f archive tables s (ReportRead r) next
  unfolding item_of report_at report_answer shown_report
  report_item_lem r next is behind later =
      let part = take (next - r.arguments) (drop r.arguments archive) in
      let read : AllRead (arguments_of f r.count part r.arguments) =
      rw is at (report-arguments f archive s.place r (ap (λ x. x.content) is)) in
      rw (
        arguments_asked f archive tables (moved s next) later s.place r.count r.arguments part
            (λ n low. asked_is f archive tables (moved s next) s.place n r later opens sound.whole is low)
            r.count 0 part r.arguments (omega arith) read (λ k. rw (zero-add k)),
        arguments_later f archive tables s sound next behind (arguments_read f r.count part r.arguments),
      )

  -- every record is shown as its item
  content_item : (c : Content) (next : ℕ) → record_at f archive s.place ≡ record { content = c; next = next } → s.place ≤ next
      → Sound f archive (state_after s c next) (tables_after f tables s c)
      → item_of f archive (tables_after f tables s c) (state_after s c next) (content_answer f archive tables s c)
      ≡ item_at f archive tables s c next
  unfolding item_of plain_answer plain_item effect_of followed change_of changed
  content_item (Refused number) next is behind later = refl
  content_item Magic next is behind later = refl
  content_item (ProviderInfo id at long) next is behind later = refl
  content_item (Section id) next is behind later = refl
  content_item (ProviderEvent id e) next is behind later = refl
  content_item (Initialization rate) next is behind later = refl
  content_item (String index at long) next is behind later = refl
  content_item (Thread index at) next is behind later = refl
  content_item (ReportRead r) next is behind later = report_item_lem r next is behind later
  content_item Ignored next is behind later = refl
  content_item (Skipped type size) next is behind later = refl

  -- an id that is made current moves the state on
  entered : (id next : ℕ) → on_followed (ok_or (entering s id next) 9) (λ number. number) (λ state. 0) ≡ 0
      → (on_followed (ok_or (entering s id next) 9) (λ number. s) (λ state. state)).place ≡ next
  entered id next = go (entering s id next) refl
    where
      go : (e : Option State) → entering s id next ≡ e → on_followed (ok_or e 9) (λ number. number) (λ state. 0) ≡ 0
          → (on_followed (ok_or e 9) (λ number. s) (λ state. state)).place ≡ next
      go (Some t) e z = (entered_belongs s id next t sound.count sound.eight e).place_is
      go None e z = absurd (omega arith)

  -- where the pass goes on, the state stands behind the record
  content_place : (c : Content) (next : ℕ) → ContentFits f (take (next - s.place) (drop s.place archive)) s.place c
      → (stop_after s c next) ≡ 0 → (state_after s c next).place ≡ next
  unfolding effect_of followed
  content_place (Refused number) next fits z =
      let none : number ≡ 0 = rw (stops_above s number (omega (arith, fits.stops))) at z in
      absurd (omega (arith, fits.stops, none))
  content_place Magic next fits z = refl
  content_place (ProviderInfo id at long) next fits z = entered id next z
  content_place (Section id) next fits z = entered id next z
  content_place (ProviderEvent id e) next fits z = refl
  content_place (Initialization rate) next fits z = refl
  content_place (String index at long) next fits z = refl
  content_place (Thread index at) next fits z = refl
  content_place (ReportRead r) next fits z = refl
  content_place Ignored next fits z = refl
  content_place (Skipped type size) next fits z = refl

  -- no entry that a record is looked up in is bad
  content_none_bad : (c : Content) (next : ℕ) → record_at f archive s.place ≡ record { content = c; next = next }
      → none_bad f archive tables s.current s.place (content_lookups f archive c next) ≡ true
  unfolding none_bad
  content_none_bad (Refused number) next is = refl
  content_none_bad Magic next is = refl
  content_none_bad (ProviderInfo id at long) next is = refl
  content_none_bad (Section id) next is = refl
  content_none_bad (ProviderEvent id e) next is = refl
  content_none_bad (Initialization rate) next is = refl
  content_none_bad (String index at long) next is = refl
  content_none_bad (Thread index at) next is = refl
  content_none_bad (ReportRead r) next is =
      let fits = report-fits f archive s.place r (ap (λ x. x.content) is) in
      none_bad_lem f archive tables s (report_lookups f archive r next) sound
      (fits.first.table, (fits.second.table, (fits.third.table, argument_tables (arguments_to f archive r next))))
  content_none_bad Ignored next is = refl
  content_none_bad (Skipped type size) next is = refl

  module _ (c : Content) (next : ℕ) (is : record_at f archive s.place ≡ record { content = c; next = next })
      (fits : ContentFits f (take (next - s.place) (drop s.place archive)) s.place c) (behind : s.place ≤ next)
      (d : decision_of f archive tables s ≡ content_decision f archive tables s c next) where
    -- the step does what the record's effect says
    by_effect : decision_of f archive tables s ≡ effect_decision f s (effect_of c) next (content_answer f archive tables s c)
    unfolding content_decision
    by_effect = d ∙ rw (content_none_bad c next is)

    -- where the number is 0 it goes on
    content_on : (stop_after s c next) ≡ 0 → GoesOn f archive tables s c next (decision_of f archive tables s)
    unfolding effect_decision
    content_on z =
        let decided : decision_of f archive tables s
        ≡ record { answer = content_answer f archive tables s c; state = (state_after s c next); change = change_of f s (effect_of c) } =
        by_effect
        ∙ goes_to (after_record s c next) s (λ n. stopping s n s.place)
        (λ state. record { answer = content_answer f archive tables s c; state = state; change = change_of f s (effect_of c) })
        (followed_above s (effect_of c) next) z in
        let later : Sound f archive (state_after s c next) (tables_after f tables s c) = rw decided at (step_sound f archive tables s sound) in
        rw decided (record {
          state = refl;
          place = content_place c next fits z;
          tables' = refl;
          item = content_item c next is behind later;
          on = answer-on f archive tables s c;
        })

    -- where it is not 0 it stops
    content_stops : ((stop_after s c next) ≡ 0 → ⊥) → Stops f tables s c next (decision_of f archive tables s)
    unfolding effect_decision stopping changed
    content_stops n =
        let decided : decision_of f archive tables s ≡ stopping s (stop_after s c next) s.place =
        by_effect
        ∙ stops_by (after_record s c next) (λ n. stopping s n s.place)
        (λ state. record { answer = content_answer f archive tables s c; state = state; change = change_of f s (effect_of c) }) n in
        rw decided (record { answer = refl; state = refl; tables' = refl; keeps = stopped_keeps f tables s (effect_of c) next n })

    -- a run goes on or ends as the pass does
    run_by : (steps : ℕ)
        → run_from f archive (suc steps) s tables
        ≡ pick (eqb (stop_after s c next) 0)
        (passed s.place (keeps_at f archive s.place) (item_at f archive tables s c next)
        (run_from f archive steps (state_after s c next) (tables_after f tables s c)))
        (ended (stop_after s c next) s.place)
    unfolding run_from
    run_by steps =
        cases (eqb (stop_after s c next) 0)
        (λ e. let g = content_on (eqb-true (stop_after s c next) 0 e) in g.on _ ∙ rw (e, g.item, g.state, g.tables'))
        (λ e. let h = content_stops (eqb-false (stop_after s c next) 0 e) in
        run_ends f archive steps s tables (stop_after s c next) s.place h.answer ∙ rw e)

-- ---- a turn of a pass

-- a record sets one entry at most, and so keeps the number of table words
pub turn_tables : (f : Format) (tables : List ℕ) (s : State) (c : Content) → length (tables_after f tables s c) ≡ length tables
unfolding changed
turn_tables f tables s c = go (change_of f s (effect_of c))
  where
    go : (x : Change) → length (changed tables x) ≡ length tables
    go Keep = refl
    go (Set position entry) = length-set tables position entry

-- the index of what a record registers is one of its table, as `follow` asks
pub record_index : (f : Format) (archive : List ℕ) (place : ℕ) → EffectFits f (effect_of (record_at f archive place).content)
record_index f archive place =
    index-fits f (take ((record_at f archive place).next - place) (drop place archive)) place (record_at f archive place).content
    (record_whole f archive place).holds

-- a run whose state stands at the archive's length ends there
pub run_end : (f : Format) (archive tables : List ℕ) (s : State) (steps : ℕ) → Sound f archive s tables → opening_number f archive (length tables) ≡ 0
    → s.place ≡ length archive → run_from f archive (suc steps) s tables ≡ ended 0 s.place
unfolding stopping
run_end f archive tables s steps sound opens e =
    run_ends f archive steps s tables 0 s.place (rw (end_is f archive tables s opens sound (eq-eqb s.place (length archive) e)))

module _ (f : Format) (archive tables : List ℕ) (s : State) (sound : Sound f archive s tables) (opens : opening_number f archive (length tables) ≡ 0)
    (more : s.place < length archive) where
  -- the record at the state's place, and the place behind it
  abbrev content : Content
  content = (record_at f archive s.place).content

  abbrev next : ℕ
  next = (record_at f archive s.place).next

  behind : s.place ≤ next
  behind = go (record_read f archive s.place)
    where
      go : ((number : ℕ) × (record_at f archive s.place ≡ record { content = Refused number; next = s.place }))
          ⊎ ((size : ℕ) × RecordStands f archive s.place size (record_at f archive s.place)) → s.place ≤ next
      go (inl (number, e)) = omega (arith, ap (λ x. x.next) e)
      go (inr (size, r)) = omega (arith, r.next)

  decided : decision_of f archive tables s ≡ content_decision f archive tables s content next
  decided = decision_is f archive tables s content next opens sound (λ e. omega arith) refl

  -- one turn of the run, by what the record at its place does
  pub run_turn : (steps : ℕ)
      → run_from f archive (suc steps) s tables
      ≡ pick (eqb (stop_after s content next) 0)
      (passed s.place (keeps_at f archive s.place) (item_at f archive tables s content next)
      (run_from f archive steps (state_after s content next) (tables_after f tables s content)))
      (ended (stop_after s content next) s.place)
  run_turn steps = run_by f archive tables s sound opens content next refl (record_whole f archive s.place).holds behind decided steps

  -- where the record stops the pass, the step changes nothing, and neither does following the record
  pub turn_stops : ((stop_after s content next) ≡ 0 → ⊥)
      → ((step_reply f archive tables s).state ≡ s) × (step_tables f archive tables s ≡ tables) × (tables_after f tables s content ≡ tables)
  turn_stops stop =
      let h = content_stops f archive tables s sound opens content next refl (record_whole f archive s.place).holds behind decided stop in
      (h.state, h.tables', h.keeps)

  module _ (goes : (stop_after s content next) ≡ 0) where
    -- the step goes on
    on_as : GoesOn f archive tables s content next (decision_of f archive tables s)
    on_as = content_on f archive tables s sound opens content next refl (record_whole f archive s.place).holds behind decided goes

    -- where the pass goes on, its state is the step's
    pub turn_state : (step_reply f archive tables s).state ≡ (state_after s content next)
    turn_state = on_as.state

    -- and so are its tables
    pub turn_tables_step : step_tables f archive tables s ≡ tables_after f tables s content
    turn_tables_step = on_as.tables'

    -- so state and tables stay sound
    pub turn_sound : Sound f archive (state_after s content next) (tables_after f tables s content)
    turn_sound = rw (← turn_state, ← turn_tables_step) (step_sound f archive tables s sound)

    -- the state stands behind the record, a word further at least, and inside the archive
    pub turn_place : ((state_after s content next).place ≡ next) × (s.place + 8 ≤ next) × (next ≤ length archive)
    unfolding effect_of followed
    turn_place = (
      sym (ap (λ t. t.place) turn_state) ∙ on_as.place,
      go (record_whole f archive s.place).some,
      (record_whole f archive s.place).before sound.before,
    )
      where
        source : List ℕ
        source = take (next - s.place) (drop s.place archive)

        go : ((number : ℕ) × (content ≡ Refused number)) ⊎ (s.place + 8 ≤ next) → s.place + 8 ≤ next
        go (inl (number, e)) =
            let fits : RecordNumber number = subst (ContentFits f source s.place) e (record_whole f archive s.place).holds in
            let z : number ≡ 0 = rw (e, stops_above s number (omega (arith, fits.stops))) at goes in
            absurd (omega (arith, fits.stops))
        go (inr l) = l
