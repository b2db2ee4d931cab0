-- Ids, their number, the current context and the rates depend on the items shown, and on nothing else of an archive. Assumes nothing.
use Prim.Native.Nat.{ℕ, ◌+◌}
use mathlib.Core.Path.{◌≡◌, refl, sym, ap, ◌∙◌}
use mathlib.Core.List.{[], List, ◌∷◌}
use mathlib.Core.Option.{Option, none, some}
use borrow.Author.Tests.{ne_eqb}
use Rattle.format.specs.declared.Format.{Format}
use Rattle.records.specs.Record.{record_at}
use Rattle.records.specs.Item.{Argument, Item, magic, provider_info, section, provider_event, initialization, report, skipped}
use Rattle.contexts.specs.declared.State.{State}
use Rattle.std.specs.Prelude.{Some, None, unwrap_or}
use Rattle.contexts.specs.Context.{find_id, moved, rated, in_context, with_id, entering}
use Rattle.reader.specs.declared.Answer.{Answer}
use Rattle.reader.specs.declared.Answer.TheVariants.{End, Nothing, Magic as MagicShown, ProviderInfo as ProviderInfoShown, Section as SectionShown, ProviderEvent as ProviderEventShown, Initialization as InitializationShown, Report as ReportShown, Skipped as SkippedShown}
use Rattle.views.specs.declared.ShownReport.{ShownReport}
use Rattle.reader.specs.Step.{Decision}
use Rattle.reader.specs.Step.{stopping, step_reply, step_tables}
use Rattle.reader.specs.Reads.{argument_items, report_item, item_of}
use Rattle.reader.proofs.Changes.{Plain, Names, on_decision, on-entering, on-report, registering}
use Rattle.reader.proofs.Runs.{Run, still, passing, showing}

-- a state without its place: ids, their number, the current context and the rates
abbrev pub contexts_of : State → State
contexts_of s = moved s 0

-- what an item makes of them
unfoldable pub after : State → Item → State
after c magic = c
after c (provider_info id name) = unwrap_or (entering c id 0) c
after c (section id) = unwrap_or (entering c id 0) c
after c (provider_event id e) = c
after c (initialization rate) = rated c rate 0
after c (report e) = c
after c (skipped type size) = c

-- what a step's item, if it shows one, makes of them
abbrev pub after_shown : State → Option Item → State
after_shown c none = c
after_shown c (some i) = after c i

-- and what items in order do
abbrev pub after_all : State → List Item → State
after_all c [] = c
after_all c (i ∷ items) = after_all (after c i) items

-- an event leaves them
report_keeps_lem : (f : Format) (archive tables : List ℕ) (s c : State) (e : ShownReport) → c ≡ after_shown c (item_of f archive tables s (ReportShown e))
unfolding item_of after
report_keeps_lem f archive tables s c e = of_arguments (argument_items f archive tables s e.place 0 e.count)
  where
    of_arguments : (l : Option (List Argument)) → c ≡ after_shown c (report_item archive e l)
    of_arguments none = refl
    of_arguments (some l) = refl

-- and so does an answer that names no context and no rate
plain_keeps : (f : Format) (archive tables : List ℕ) (s c : State) (answer : Answer) → Plain answer
    → c ≡ after_shown c (item_of f archive tables s answer)
unfolding item_of after
plain_keeps f archive tables s c (End number place) h = absurd h
plain_keeps f archive tables s c Nothing h = refl
plain_keeps f archive tables s c MagicShown h = refl
plain_keeps f archive tables s c (ProviderInfoShown id place long) h = absurd h
plain_keeps f archive tables s c (SectionShown id) h = absurd h
plain_keeps f archive tables s c (ProviderEventShown id e) h = refl
plain_keeps f archive tables s c (InitializationShown rate) h = absurd h
plain_keeps f archive tables s c (ReportShown e) h = absurd h
plain_keeps f archive tables s c (SkippedShown type size) h = refl

-- an answer that names an id makes it current
names_enter : (f : Format) (archive tables : List ℕ) (s c : State) (id : ℕ) (answer : Answer) → Names id answer
    → unwrap_or (entering c id 0) c ≡ after_shown c (item_of f archive tables s answer)
unfolding item_of after
names_enter f archive tables s c id (End number place) h = absurd h
names_enter f archive tables s c id Nothing h = absurd h
names_enter f archive tables s c id MagicShown h = absurd h
names_enter f archive tables s c id (ProviderInfoShown other place long) h = rw h
names_enter f archive tables s c id (SectionShown other) h = rw h
names_enter f archive tables s c id (ProviderEventShown other e) h = absurd h
names_enter f archive tables s c id (InitializationShown rate) h = absurd h
names_enter f archive tables s c id (ReportShown e) h = absurd h
names_enter f archive tables s c id (SkippedShown type size) h = absurd h

-- ids, their number, the current context and the rates after a step are those that its item makes of them; a step that shows no item leaves them
pub contexts_by_items : (f : Format) (archive tables : List ℕ) (s : State)
    → contexts_of (step_reply f archive tables s).state
    ≡ after_shown (contexts_of s)
    (item_of f archive (step_tables f archive tables s) (step_reply f archive tables s).state (step_reply f archive tables s).answer)
unfolding item_of after entering stopping registering
contexts_by_items f archive tables s =
    on_decision P f archive tables s (λ number place k t z. refl) (λ answer h t z. plain_keeps f archive t z (contexts_of s) answer h)
    (λ rate t z. refl)
    (λ id answer h. on-entering P s id next answer (λ t z. refl)
    (λ i e t z. again id i e ∙ names_enter f archive t z (contexts_of s) id answer h)
    (λ e n t z. new id e n ∙ names_enter f archive t z (contexts_of s) id answer h))
    (λ table index r t z. refl)
    (λ e k. on-report P f archive tables s e next (λ t z. refl) (λ shown t z. report_keeps_lem f archive t z (contexts_of s) shown))
    (step_tables f archive tables s) (step_reply f archive tables s).state
  where
    next : ℕ
    next = (record_at f archive s.place).next

    P : Decision → Type 0
    P d = (t : List ℕ) (z : State) → contexts_of d.state ≡ after_shown (contexts_of s) (item_of f archive t z d.answer)

    again : (id i : ℕ) → find_id s.ids s.count id ≡ Some i
        → contexts_of (in_context s (i + 1) next) ≡ unwrap_or (entering (contexts_of s) id 0) (contexts_of s)
    again id i e = rw e

    new : (id : ℕ) → find_id s.ids s.count id ≡ None → (s.count ≡ 8 → ⊥)
        → contexts_of (with_id s id next) ≡ unwrap_or (entering (contexts_of s) id 0) (contexts_of s)
    new id e n = rw (e, ne_eqb s.count 8 n)

-- along a run they are those that its items make of them
pub run_contexts : (f : Format) (archive : List ℕ) {s : State} {tables : List ℕ} {items : List Item} {s' : State} {tables' : List ℕ}
    → Run f archive s tables items s' tables' → contexts_of s' ≡ after_all (contexts_of s) items
unfolding item_of
run_contexts f archive (still s tables) = refl
run_contexts f archive (passing s tables items s' tables' e r) =
    run_contexts f archive r ∙ ap (λ c. after_all c items) (rw e at (contexts_by_items f archive tables s))
run_contexts f archive (showing s tables i items s' tables' e r) =
    run_contexts f archive r ∙ ap (λ c. after_all c items) (contexts_by_items f archive tables s ∙ ap (after_shown (contexts_of s)) e)

-- so after equal items from equal beginnings they are equal, in any two archives
pub same_contexts : (f f' : Format) (archive archive' : List ℕ) {s t : State} {tables tables'' : List ℕ} {items : List Item} {s' t' : State}
    {tables' tables''' : List ℕ} → Run f archive s tables items s' tables' → Run f' archive' t tables'' items t' tables'''
    → contexts_of s ≡ contexts_of t → contexts_of s' ≡ contexts_of t'
same_contexts f f' archive archive' {items = items} r q e =
    run_contexts f archive r ∙ (ap (λ c. after_all c items) e ∙ sym (run_contexts f' archive' q))
