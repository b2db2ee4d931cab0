-- What a step can do, by cases, and the one table word that it can change. Assumes nothing.
use Prim.Native.Nat.{ℕ, ◌+◌, ◌-◌, ◌≤◌, ◌<◌}
use mathlib.Core.Path.{◌≡◌, refl, sym, subst}
use mathlib.Core.List.{List}
use mathlib.Core.Bool.{false}
use mathlib.Core.Logic.{◌⊎◌, inl, inr}
use native.Mathlib.Omega.{arith}
use borrow.Author.Tests.{eqb-false, ne_eqb}
use lib.Dec.{eqb, ltb}
use lib.ListN.{length, take, drop, get_or, set}
use lib.Seq.{get_or-set_other}
use Rattle.words.specs.Word.{pick}
use Rattle.words.specs.Stream.{starts_with_magic}
use Rattle.words.proofs.Tests.{on-pick, cases}
use Rattle.format.specs.declared.Format.{Format}
use Rattle.format.specs.Limits.{longest_archive}
use Rattle.format.specs.Header.{archive_number}
use Rattle.records.specs.declared.Report.{Report}
use Rattle.records.specs.declared.Effect.TheVariants.{Stop, Enter}
use Rattle.records.specs.declared.Content.{Content}
use Rattle.records.specs.declared.Content.TheVariants.{Refused, Magic, ProviderInfo, Section, ProviderEvent, Initialization, String, Thread, Report as ReportRead, Ignored, Skipped}
use Rattle.records.specs.Record.{record_at}
use Rattle.records.specs.Lookups.{report_lookups}
use Rattle.records.specs.Effect.{effect_of}
use Rattle.contexts.specs.declared.State.{State}
use Rattle.std.specs.Prelude.{Option, Some, None}
use Rattle.contexts.specs.Context.{belongs_to, find_id, moved, rated, in_context, with_id, on_found, entering}
use Rattle.tables.specs.Table.{Entry}
use Rattle.tables.proofs.Tables.{position-apart}
use Rattle.tables.specs.Table.{table_words, highest_of, position, registration_of}
use Rattle.effects.specs.declared.Change.TheVariants.{Keep, Set}
use Rattle.effects.specs.Follow.{stopped, followed, change_of, changed}
use Rattle.reader.specs.declared.Answer.{Answer}
use Rattle.reader.specs.declared.Answer.TheVariants.{End, Nothing, Magic as MagicShown, ProviderInfo as ProviderInfoShown, Section as SectionShown, ProviderEvent as ProviderEventShown, Initialization as InitializationShown, Report as ReportShown, Skipped as SkippedShown}
use Rattle.views.specs.declared.ShownReport.{ShownReport}
use Rattle.reader.specs.Step.{Decision}
use Rattle.views.specs.Shown.{none_bad}
use Rattle.reader.specs.Step.{opening_number, stopping, report_answer, plain_answer, effect_decision, content_decision, place_decision, decision_of, step_tables}
use Rattle.views.proofs.Lookups.{ContentFits, record_whole}

-- ---- what a step can do

-- the answers that name no context and no rate, but events
abbrev pub Plain : Answer → Type 0
Plain (End number place) = ⊥
Plain Nothing = Unit {0}
Plain MagicShown = Unit {0}
Plain (ProviderInfoShown id place long) = ⊥
Plain (SectionShown id) = ⊥
Plain (ProviderEventShown id event) = Unit {0}
Plain (InitializationShown rate) = ⊥
Plain (ReportShown e) = ⊥
Plain (SkippedShown type size) = Unit {0}

-- the answers that make an id current
abbrev pub Names : ℕ → Answer → Type 0
Names id (End number place) = ⊥
Names id Nothing = ⊥
Names id MagicShown = ⊥
Names id (ProviderInfoShown other place long) = id ≡ other
Names id (SectionShown other) = id ≡ other
Names id (ProviderEventShown other event) = ⊥
Names id (InitializationShown rate) = ⊥
Names id (ReportShown e) = ⊥
Names id (SkippedShown type size) = ⊥

-- the forms that a step's decision takes: it shows this and moves on; it makes an id current, or refuses a ninth; it registers
abbrev pub showing : State → Answer → ℕ → Decision
showing s answer next = record { answer = answer; state = moved s next; change = Keep }

unfoldable pub entering_as : State → Option State → Answer → Decision
entering_as s (Some entered) answer = record { answer = answer; state = entered; change = Keep }
entering_as s None answer = stopping s 9 s.place

unfoldable pub registering : Format → State → ℕ → ℕ → ℕ → Decision
registering f s table index next =
    record { answer = Nothing; state = moved s next; change = Set (position f s.current table index) s.place }

-- a record that is refused stops the reading by its number
pub stop_decided : (f : Format) (s : State) (number next : ℕ) (answer : Answer) → 5 ≤ number
    → effect_decision f s (Stop number) next answer ≡ stopping s number s.place
unfolding effect_decision followed stopped
stop_decided f s number next answer h = rw (ne_eqb number 0 (λ z. omega arith))

-- an id that is made current has the second form
pub entering_decided : (f : Format) (s : State) (id next : ℕ) (answer : Answer)
    → effect_decision f s (Enter id) next answer ≡ entering_as s (entering s id next) answer
unfolding effect_decision followed change_of entering_as
entering_decided f s id next answer = go (entering s id next) refl
  where
    go : (e : Option State) → entering s id next ≡ e → effect_decision f s (Enter id) next answer ≡ entering_as s e answer
    go (Some entered) e = rw e
    go None e = rw e

-- the two tables, by the types of their records: strings and threads
abbrev pub IsTable : ℕ → Type 0
IsTable table = (table ≡ 2) ⊎ (table ≡ 3)

-- at a place stands a record that registers this index in this table
pub record Registers (f : Format) (archive : List ℕ) (place table index : ℕ) : Type 0 where
  pub at : ℕ
  pub long : ℕ
  pub is : registration_of (record_at f archive place).content ≡ Entry table index at long
  pub is_table : IsTable table
  pub some : 0 < index
  pub fits : index ≤ highest_of f table

-- what holds of an end or a refusal, and of whatever a record makes of a state, holds of every step's decision; number 4 is answered
-- for a state that does not belong, and else by events alone
pub on_decision : (P : Decision → Type 0) (f : Format) (archive tables : List ℕ) (s : State)
    → ((number place : ℕ) → (number ≡ 4 → belongs_to s (length archive) ≡ false) → P (stopping s number place))
    → ((answer : Answer) → Plain answer → P (showing s answer (record_at f archive s.place).next))
    → ((rate : ℕ) → P (record { answer = InitializationShown rate; state = rated s rate (record_at f archive s.place).next; change = Keep }))
    → ((id : ℕ) (answer : Answer) → Names id answer → P (entering_as s (entering s id (record_at f archive s.place).next) answer))
    → ((table index : ℕ) → Registers f archive s.place table index → P (registering f s table index (record_at f archive s.place).next))
    → ((e : Report) → (record_at f archive s.place).content ≡ ReportRead e
    → P (content_decision f archive tables s (ReportRead e) (record_at f archive s.place).next))
    → P (decision_of f archive tables s)
unfolding decision_of place_decision content_decision effect_decision plain_answer none_bad followed change_of registering opening_number archive_number registration_of effect_of
on_decision P f archive tables s stop show rate enter register event =
    on-pick P (eqb (opening_number f archive (length tables)) 0) _ _
    (λ e. on-pick P (belongs_to s (length archive)) _ _
    (λ e. on-pick P (eqb s.place (length archive)) _ _ (λ e. stop 0 s.place (λ z. absurd (omega arith)))
    (λ e. of_content (record_at f archive s.place).content refl (record_whole f archive s.place).holds))
    (λ e. stop 4 s.place (λ z. e)))
    (λ e. stop (opening_number f archive (length tables)) 0 (λ z. absurd (opening-is z)))
  where
    next : ℕ
    next = (record_at f archive s.place).next

    opening-is : opening_number f archive (length tables) ≡ 4 → ⊥
    opening-is =
        on-pick (λ n. n ≡ 4 → ⊥) (ltb longest_archive (length archive)) _ _ (λ e z. omega arith)
        (λ e. on-pick (λ n. n ≡ 4 → ⊥) (starts_with_magic archive) _ _
        (λ e. on-pick (λ n. n ≡ 4 → ⊥) (ltb (length tables) (table_words f)) _ _ (λ e z. omega arith) (λ e z. omega arith))
        (λ e z. omega arith))

    of_content : (c : Content) → (record_at f archive s.place).content ≡ c
        → ContentFits f (take (next - s.place) (drop s.place archive)) s.place c → P (content_decision f archive tables s c next)
    of_content (Refused number) e h =
        subst P (sym (stop_decided f s number next Nothing h.stops)) (stop number s.place (λ z. absurd (omega (arith, h.stops))))
    of_content Magic e h = show MagicShown tt
    of_content (ProviderInfo id at long) e h =
        subst P (sym (entering_decided f s id next (ProviderInfoShown id at long))) (enter id (ProviderInfoShown id at long) refl)
    of_content (Section id) e h = subst P (sym (entering_decided f s id next (SectionShown id))) (enter id (SectionShown id) refl)
    of_content (ProviderEvent id n) e h = show (ProviderEventShown id n) tt
    of_content (Initialization r) e h = rate r
    of_content (String index at long) e h =
        register 2 index (record { at = at; long = long; is = rw e; is_table = inl refl; some = h.0; fits = h.1 })
    of_content (Thread index at) e h =
        register 3 index (record { at = at; long = 16; is = rw e; is_table = inr refl; some = h.0; fits = h.1 })
    of_content (ReportRead ev) e h = event ev e
    of_content Ignored e h = show Nothing tt
    of_content (Skipped type size) e h = show (SkippedShown type size) tt

-- what holds of a ninth id's refusal, of a context met again and of a new one holds of whatever an id makes of a state
pub on-entering : (P : Decision → Type 0) (s : State) (id next : ℕ) (answer : Answer) → P (stopping s 9 s.place)
    → ((i : ℕ) → find_id s.ids s.count id ≡ Some i → P (record { answer = answer; state = in_context s (i + 1) next; change = Keep }))
    → (find_id s.ids s.count id ≡ None → (s.count ≡ 8 → ⊥)
    → P (record { answer = answer; state = with_id s id next; change = Keep }))
    → P (entering_as s (entering s id next) answer)
unfolding entering_as entering
on-entering P s id next answer ninth again new = go (find_id s.ids s.count id) refl
  where
    go : (x : Option ℕ) → find_id s.ids s.count id ≡ x
        → P (entering_as s (on_found x (λ i. Some (in_context s (i + 1) next)) (pick (eqb s.count 8) None (Some (with_id s id next)))) answer)
    go (Some i) e = again i e
    go None e = cases (eqb s.count 8) (λ z. rw z ninth) (λ z. rw z (new e (eqb-false s.count 8 z)))

-- what holds of number 4 and of the event shown holds of whatever an event makes of a state
pub on-report : (P : Decision → Type 0) (f : Format) (archive tables : List ℕ) (s : State) (e : Report) (next : ℕ) → P (stopping s 4 s.place)
    → ((shown : ShownReport) → P (showing s (ReportShown shown) next)) → P (content_decision f archive tables s (ReportRead e) next)
unfolding content_decision effect_decision report_answer followed change_of effect_of
on-report P f archive tables s e next bad good =
    on-pick P (none_bad f archive tables s.current s.place (report_lookups f archive e next)) _ _ (λ q. good _) (λ q. bad)

-- ---- the one table word that a step can change

-- a step sets an entry of the current context to the place of its record, which registers that index in that table
pub record Sets (f : Format) (archive tables : List ℕ) (s : State) (after : List ℕ) : Type 0 where
  pub table : ℕ
  pub index : ℕ
  pub registers : Registers f archive s.place table index
  pub is : after ≡ set tables (position f s.current table index) s.place

-- a step leaves the tables as they are, or sets one entry of the current context
pub own_context : (f : Format) (archive tables : List ℕ) (s : State)
    → (step_tables f archive tables s ≡ tables) ⊎ Sets f archive tables s (step_tables f archive tables s)
unfolding changed stopping registering
own_context f archive tables s =
    on_decision P f archive tables s (λ number place h. inl refl) (λ answer h. inl refl) (λ rate. inl refl)
    (λ id answer h. on-entering P s id next answer (inl refl) (λ i e. inl refl) (λ e z. inl refl))
    (λ table index r. inr (record { table = table; index = index; registers = r; is = refl }))
    (λ e k. on-report P f archive tables s e next (inl refl) (λ shown. inl refl))
  where
    next : ℕ
    next = (record_at f archive s.place).next

    P : Decision → Type 0
    P d = (changed tables d.change ≡ tables) ⊎ Sets f archive tables s (changed tables d.change)

-- so no entry of another context changes
pub others_keep : (f : Format) (archive tables : List ℕ) (s : State) (context table index : ℕ) → (context ≡ s.current → ⊥) → IsTable table
    → index ≤ highest_of f table
    → get_or (step_tables f archive tables s) (position f context table index) 0 ≡ get_or tables (position f context table index) 0
others_keep f archive tables s context table index h k l = go (step_tables f archive tables s) (own_context f archive tables s)
  where
    go : (after : List ℕ) → (after ≡ tables) ⊎ Sets f archive tables s after
        → get_or after (position f context table index) 0 ≡ get_or tables (position f context table index) 0
    go after (inl e) = rw e
    go after (inr c) =
        rw c.is
        (get_or-set_other tables (position f s.current c.table c.index) (position f context table index) s.place 0
        (λ e. h (position-apart f context table index s.current c.table c.index k c.registers.is_table l c.registers.fits e).0))
