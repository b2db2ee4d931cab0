-- Along a run from opening no step gives number 4, no looked-up entry is bad, and every event has all of its arguments. Assumes nothing.
use Prim.Native.Nat.{ℕ, zero, suc, ◌+◌, ◌-◌, ◌%◌, ◌<◌}
use mathlib.Core.Path.{◌≡◌, refl, sym, ap, subst, ◌∙◌}
use mathlib.Core.List.{[], List, ◌∷◌}
use mathlib.Core.Bool.{true, false, true≢false}
use mathlib.Core.Option.{Option, none, some}
use mathlib.Core.Logic.{◌⊎◌, inl, inr}
use native.Mathlib.Omega.{arith}
use borrow.Author.Tests.{ltb-false, le-ltb, lt-leb, eqb-true, eqb-false, eq-eqb}
use lib.Dec.{eqb, ltb}
use lib.ListN.{length, take, drop, get_or}
use Rattle.words.proofs.Tests.{on-pick, cases}
use Rattle.format.specs.declared.Format.{Format}
use Rattle.format.specs.declared.Reference.{Reference}
use Rattle.format.specs.declared.Reference.TheVariants.{Inline, Index}
use Rattle.arguments.specs.declared.Argument.{Argument}
use Rattle.arguments.specs.declared.Argued.{Argued}
use Rattle.std.specs.Prelude.{Result, Ok, Err}
use Rattle.format.specs.declared.Reason.{Reason}
use Rattle.arguments.specs.Argument.{argument_of, refused, prepend as prepend_argument, on_argued, arguments_of, numbered_of}
use Rattle.records.specs.declared.Report.{Report}
use Rattle.records.specs.declared.Content.TheVariants.{Report as ReportRead}
use Rattle.records.specs.Record.{record_at}
use Rattle.records.specs.Item.{Argument as ArgumentItem, Item}
use Rattle.contexts.specs.declared.State.{State}
use Rattle.contexts.specs.Context.{belongs_to, moved}
use Rattle.contexts.proofs.Contexts.{facts_belong}
use Rattle.tables.specs.declared.Resolved.{Resolved}
use Rattle.tables.specs.Table.{highest_of, position, entry_at, resolved}
use Rattle.records.proofs.Lookups.{AllRead, behind_read}
use Rattle.records.specs.Lookups.{argument_lookups, report_lookups, arguments_to}
use Rattle.records.specs.declared.Lookup.{Lookup}
use Rattle.records.specs.Effect.{effect_of}
use Rattle.reader.specs.declared.Answer.TheVariants.{End, Report as ReportShown}
use Rattle.views.specs.declared.ShownReport.{ShownReport}
use Rattle.reader.specs.Ask.{Asked}
use Rattle.format.specs.Limits.{refused_at}
use Rattle.std.specs.Prelude.{Ok, Err}
use Rattle.reader.specs.Step.{Decision}
use Rattle.views.specs.Shown.{is_bad, shown_report, none_bad}
use Rattle.effects.specs.Follow.{changed, followed, change_of}
use Rattle.reader.specs.Step.{opening_number, stopping, decision_of, step_reply, step_tables, report_answer, effect_decision, content_decision}
use Rattle.reader.specs.Ask.{shown_argument, asked_report, asked_place, argument_reply}
use Rattle.reader.specs.Reads.{prepend as prepend_item, argument_items, report_item, item_of}
use Rattle.views.proofs.Lookups.{report-fits, report-arguments}
use Rattle.reader.proofs.Changes.{Plain, Names, IsTable, on_decision, on-entering, showing, registering}
use Rattle.reader.proofs.Runs.{Held, Sound, step_sound, Run, run_sound}

-- ---- no looked-up entry is bad

-- an entry that is set is found
held_found : (f : Format) (archive : List ℕ) (until table index entry : ℕ) → Held f archive until table index entry
    → is_bad (entry_at f archive table index entry until) ≡ false
unfolding entry_at is_bad
held_found f archive until table index entry h =
    rw (
      eq-eqb (entry % 8) 0 h.whole,
      le-ltb until (record_at f archive entry).next h.ends,
      h.registers.is,
      eq-eqb table table refl,
      eq-eqb index index refl,
    )

-- in a sound state no looked-up entry is bad
pub never_bad : (f : Format) (archive tables : List ℕ) (s : State) (table : ℕ) (reference : Reference) → Sound f archive s tables → IsTable table
    → is_bad (resolved f archive tables s.current table s.place reference) ≡ false
unfolding resolved is_bad
never_bad f archive tables s table (Inline place long) h k = refl
never_bad f archive tables s table (Index index) h k =
    on-pick P (ltb (highest_of f table) index) _ _ (λ e. refl)
    (λ e. on-pick P (eqb entry 0) _ _ (λ z. refl)
    (λ z. set z (h.entries s.current table index (omega (arith, h.current, h.count)) k (ltb-false (highest_of f table) index e))))
  where
    P : Resolved → Type 0
    P r = is_bad r ≡ false

    entry : ℕ
    entry = get_or tables (position f s.current table index) 0

    set : eqb entry 0 ≡ false → (entry ≡ 0) ⊎ Held f archive s.place table index entry → P (entry_at f archive table index entry s.place)
    set z (inl e) = absurd (eqb-false entry 0 z e)
    set z (inr q) = held_found f archive s.place table index entry q

-- every reference of a list is looked up in one of the two tables
abbrev pub Tabled : List Lookup → Type 0
Tabled [] = Unit {0}
Tabled (l ∷ more) = IsTable l.table × Tabled more

-- those of arguments are
pub argument_tables : (l : List Argument) → Tabled (argument_lookups l)
argument_tables [] = tt
argument_tables (a ∷ l) = (inl refl, (inl refl, argument_tables l))

-- so no entry of a list is bad
pub none_bad_lem : (f : Format) (archive tables : List ℕ) (s : State) (ls : List Lookup) → Sound f archive s tables → Tabled ls
    → none_bad f archive tables s.current s.place ls ≡ true
unfolding none_bad
none_bad_lem f archive tables s [] h k = refl
none_bad_lem f archive tables s (l ∷ more) h k =
    rw (never_bad f archive tables s l.table l.reference h k.0) (none_bad_lem f archive tables s more h k.1)

-- ---- an event in a sound state is shown

-- the event that a step from a sound state shows
abbrev shown_at : Format → List ℕ → List ℕ → State → Report → ShownReport
shown_at f archive tables s e =
    shown_report f archive s e (resolved f archive tables s.current e.first.table s.place e.first.reference)
    (resolved f archive tables s.current e.second.table s.place e.second.reference)
    (resolved f archive tables s.current e.third.table s.place e.third.reference)

report_shown : (f : Format) (archive tables : List ℕ) (s : State) (e : Report) → Sound f archive s tables
    → (record_at f archive s.place).content ≡ ReportRead e
    → content_decision f archive tables s (ReportRead e) (record_at f archive s.place).next
    ≡ showing s (ReportShown (shown_at f archive tables s e)) (record_at f archive s.place).next
unfolding content_decision effect_decision report_answer followed change_of effect_of
report_shown f archive tables s e h k =
    let fits = report-fits f archive s.place e k in
    rw (none_bad_lem f archive tables s (report_lookups f archive e (record_at f archive s.place).next) h
    (fits.first.table, (fits.second.table, (fits.third.table, argument_tables (arguments_to f archive e (record_at f archive s.place).next)))))

-- a sound state belongs to its archive
pub sound_belongs : (f : Format) (archive tables : List ℕ) (s : State) → Sound f archive s tables → belongs_to s (length archive) ≡ true
sound_belongs f archive tables s h =
    facts_belong s (length archive) (record { whole = h.whole; inside = h.before; few = h.count; known = h.current })

-- from a sound state no step answers number 4
pub never_four : (f : Format) (archive tables : List ℕ) (s : State) → Sound f archive s tables → (place : ℕ)
    → (step_reply f archive tables s).answer ≡ End 4 place → ⊥
unfolding stopping registering
never_four f archive tables s h =
    on_decision P f archive tables s
    (λ number at k place e. let n : number ≡ 4 = cc in true≢false (sym (sound_belongs f archive tables s h) ∙ k n))
    (λ answer k place e. subst Plain e k) (λ rate place e. let z : ◌≡◌ {A = ℕ} 0 1 = cc in omega arith)
    (λ id answer k. on-entering P s id next answer (λ place e. let z : ◌≡◌ {A = ℕ} 9 4 = cc in omega arith)
    (λ i q place e. subst (Names id) e k) (λ q z place e. subst (Names id) e k))
    (λ table index r place e. let z : ◌≡◌ {A = ℕ} 0 1 = cc in omega arith)
    (λ ev k. rw (report_shown f archive tables s ev h k) (λ place e. let z : ◌≡◌ {A = ℕ} 0 1 = cc in omega arith))
  where
    next : ℕ
    next = (record_at f archive s.place).next

    P : Decision → Type 0
    P d = (place : ℕ) → d.answer ≡ End 4 place → ⊥

-- so no step of a run from opening, or from any other sound state, does
pub run_never_four : (f : Format) (archive : List ℕ) {s : State} {tables : List ℕ} {items : List Item} {s' : State} {tables' : List ℕ}
    → Run f archive s tables items s' tables' → Sound f archive s tables → (place : ℕ) → (step_reply f archive tables' s').answer ≡ End 4 place → ⊥
run_never_four f archive {s' = s'} {tables' = tables'} r h = never_four f archive tables' s' (run_sound f archive r h)

-- ---- an event has all of its arguments

-- what a step that shows an event has read, and what it leaves
pub record ReportStep (f : Format) (archive tables : List ℕ) (s : State) (e : ShownReport) (d : Decision) : Type 0 where
  pub report : Report
  pub is : (record_at f archive s.place).content ≡ ReportRead report
  pub place : e.place ≡ s.place
  pub count : e.count ≡ report.count
  pub state : d.state ≡ moved s (record_at f archive s.place).next
  pub tables' : changed tables d.change ≡ tables

pub report_step : (f : Format) (archive tables : List ℕ) (s : State) (e : ShownReport) → Sound f archive s tables
    → (step_reply f archive tables s).answer ≡ ReportShown e → ReportStep f archive tables s e (decision_of f archive tables s)
unfolding stopping registering shown_report changed
report_step f archive tables s e h =
    on_decision P f archive tables s (λ number at k q. let z : ◌≡◌ {A = ℕ} 0 1 = cc in absurd (omega arith))
    (λ answer k q. absurd (subst Plain q k)) (λ rate q. let z : ◌≡◌ {A = ℕ} 0 1 = cc in absurd (omega arith))
    (λ id answer k. on-entering P s id next answer (λ q. let z : ◌≡◌ {A = ℕ} 0 1 = cc in absurd (omega arith))
    (λ i n q. absurd (subst (Names id) q k)) (λ n z q. absurd (subst (Names id) q k)))
    (λ table index r q. let z : ◌≡◌ {A = ℕ} 0 1 = cc in absurd (omega arith))
    (λ ev k. rw (report_shown f archive tables s ev h k)
    (λ q. let e' : shown_at f archive tables s ev ≡ e = cc in
    record {
      report = ev;
      is = k;
      place = sym (ap (λ x. x.place) e');
      count = sym (ap (λ x. x.count) e');
      state = refl;
      tables' = refl;
    }))
  where
    next : ℕ
    next = (record_at f archive s.place).next

    P : Decision → Type 0
    P d = d.answer ≡ ReportShown e → ReportStep f archive tables s e d

-- a step that shows an event is past the first checks
report-opening : (f : Format) (archive tables : List ℕ) (s : State) (e : ShownReport) → (step_reply f archive tables s).answer ≡ ReportShown e
    → opening_number f archive (length tables) ≡ 0
unfolding decision_of stopping
report-opening f archive tables s e q =
    cases (eqb (opening_number f archive (length tables)) 0) (λ b. eqb-true (opening_number f archive (length tables)) 0 b)
    (λ b. let q' : End (opening_number f archive (length tables)) 0 ≡ ReportShown e = rw b at q in let z : ◌≡◌ {A = ℕ} 0 1 = cc in absurd (omega arith))

-- of arguments that are all read there is one of each number
abbrev Numbered : Result Argued Reason → Type 0
Numbered (Err reason) = ⊥
Numbered (Ok read) = Unit {0}

numbered_read : (f : Format) (number count : ℕ) (rest : List ℕ) (place : ℕ) → number < count → AllRead (arguments_of f count rest place)
    → Numbered (numbered_of f number rest place)
unfolding numbered_of arguments_of
numbered_read f number zero rest place l r = absurd (omega arith)
numbered_read f zero (suc count) rest place l r = go (argument_of f rest place) r
  where
    go : (x : Result Argued Reason) → AllRead (on_argued x refused (λ a size. prepend_argument a (arguments_of f count (drop size rest) (place + size)))) → Numbered x
    go (Err reason) r = r
    go (Ok read) r = tt
numbered_read f (suc number) (suc count) rest place l r =
    go (λ more at. numbered_read f number count more at (omega arith)) (argument_of f rest place) r
  where
    go : ((more : List ℕ) (at : ℕ) → AllRead (arguments_of f count more at) → Numbered (numbered_of f number more at)) → (x : Result Argued Reason)
        → AllRead (on_argued x refused (λ a size. prepend_argument a (arguments_of f count (drop size rest) (place + size))))
        → Numbered (on_argued x Err (λ a size. numbered_of f number (drop size rest) (place + size)))
    go more (Err reason) r = r
    go more (Ok read) r =
        more (drop read.size rest) (place + read.size)
        (behind_read read.argument (arguments_of f count (drop read.size rest) (place + read.size)) r)

-- an argument that is shown, and not refused
abbrev pub IsArgument : Asked → Type 0
IsArgument (Err r) = ⊥
IsArgument (Ok a) = Unit {0}

argument_at_lem : (f : Format) (archive tables : List ℕ) (s : State) (place number : ℕ) (e : Report) → Sound f archive s tables
    → opening_number f archive (length tables) ≡ 0 → place % 8 ≡ 0 → (record_at f archive place).next ≡ s.place
    → (record_at f archive place).content ≡ ReportRead e → number < e.count → IsArgument (argument_reply f archive tables s place number)
unfolding argument_reply asked_place asked_report shown_argument
argument_at_lem f archive tables s place number e h d w n k l =
    rw (
      eq-eqb (opening_number f archive (length tables)) 0 d,
      sound_belongs f archive tables s h,
      eq-eqb (place % 8) 0 w,
      eq-eqb (record_at f archive place).next s.place n,
      k,
      lt-leb e.count number l,
    )
    (of_argument (numbered_of f number (take (s.place - e.arguments) (drop e.arguments archive)) e.arguments)
    (numbered_read f number e.count (take (s.place - e.arguments) (drop e.arguments archive)) e.arguments l
    (rw n at (report-arguments f archive place e k))))
  where
    of_argument : (x : Result Argued Reason) → Numbered x
        → IsArgument (on_argued x (λ refused. refused_at 4 s.place) (λ a size. shown_argument f archive tables s a))
    of_argument (Err reason) r = r
    of_argument (Ok read) r =
        rw (none_bad_lem f archive tables s (argument_lookups (read.argument ∷ [])) h (argument_tables (read.argument ∷ []))) tt

-- right after an event of a sound run each of its arguments is shown
pub argument_shown : (f : Format) (archive tables : List ℕ) (s : State) (e : ShownReport) (number : ℕ) → Sound f archive s tables
    → (step_reply f archive tables s).answer ≡ ReportShown e → number < e.count
    → IsArgument (argument_reply f archive (step_tables f archive tables s) (step_reply f archive tables s).state e.place number)
argument_shown f archive tables s e number h q l = go (report_step f archive tables s e h q)
  where
    go : ReportStep f archive tables s e (decision_of f archive tables s)
        → IsArgument (argument_reply f archive (step_tables f archive tables s) (step_reply f archive tables s).state e.place number)
    go r =
        argument_at_lem f archive (step_tables f archive tables s) (step_reply f archive tables s).state e.place number r.report
        (step_sound f archive tables s h) (rw r.tables' (report-opening f archive tables s e q)) (rw r.place h.whole)
        (rw (r.place, r.state)) (rw r.place r.is) (omega (arith, l, r.count))

-- what is there
abbrev Given : {A : Type 0} → Option A → Type 0
Given none = ⊥
Given (some a) = Unit {0}

items_given : (f : Format) (archive tables : List ℕ) (s : State) (place number count : ℕ)
    → ((n : ℕ) → n < number + count → IsArgument (argument_reply f archive tables s place n))
    → Given (argument_items f archive tables s place number count)
unfolding argument_items
items_given f archive tables s place number zero h = tt
items_given f archive tables s place number (suc count) h =
    go (argument_reply f archive tables s place number) (h number (omega arith)) (argument_items f archive tables s place (suc number) count)
    (items_given f archive tables s place (suc number) count (λ n l. h n (omega arith)))
  where
    go : (x : Asked) → IsArgument x → (l : Option (List ArgumentItem)) → Given l → Given (prepend_item archive x l)
    go (Err r) h l k = h
    go (Ok a) h none k = k
    go (Ok a) h (some l) k = tt

-- so an event that a step from a sound state shows is an item
pub report_item_lem : (f : Format) (archive tables : List ℕ) (s : State) (e : ShownReport) → Sound f archive s tables
    → (step_reply f archive tables s).answer ≡ ReportShown e
    → (i : Item) × (item_of f archive (step_tables f archive tables s) (step_reply f archive tables s).state (step_reply f archive tables s).answer ≡ some i)
unfolding item_of
report_item_lem f archive tables s e h q =
    rw q
    (go (argument_items f archive (step_tables f archive tables s) (step_reply f archive tables s).state e.place 0 e.count)
    (items_given f archive (step_tables f archive tables s) (step_reply f archive tables s).state e.place 0 e.count
    (λ n l. argument_shown f archive tables s e n h q (omega (arith, l)))))
  where
    go : (l : Option (List ArgumentItem)) → Given l → (i : Item) × (report_item archive e l ≡ some i)
    go none k = absurd k
    go (some l) k = (_, refl)
