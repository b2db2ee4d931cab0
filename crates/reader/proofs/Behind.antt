-- Table words behind the first table_words are never looked at, and a step treats the first ones the same whatever stands behind. Assumes nothing.
use Prim.Native.Nat.{ℕ, zero, suc, ◌-◌, ◌%◌, ◌≤◌, ◌<◌}
use mathlib.Core.Path.{◌≡◌, refl, sym, ap, fun_ext, ◌∙◌}
use mathlib.Core.List.{[], List, ◌∷◌}
use mathlib.Core.Bool.{true}
use mathlib.Core.Option.{some}
use native.Mathlib.Omega.{arith}
use borrow.Author.Tests.{ltb-true, ltb-false, le-ltb, eq-eqb}
use lib.Dec.{eqb, ltb, leb}
use lib.ListN.{length, take, drop, get_or, set, replicate, length-set, length-append, length-replicate}
use lib.Seq.{get_or-take, take-append-le, take-set-le, take-set-lt}
use Rattle.words.specs.Word.{pick}
use Rattle.words.proofs.Tests.{cases}
use Rattle.format.specs.declared.Format.{Format}
use Rattle.format.specs.declared.Reference.{Reference}
use Rattle.format.specs.declared.Reference.TheVariants.{Inline, Index}
use Rattle.arguments.specs.declared.Value.{Value}
use Rattle.arguments.specs.declared.Value.TheVariants.{Scalar as ScalarValue, Text as TextValue}
use Rattle.arguments.specs.declared.Argument.{Argument}
use Rattle.arguments.specs.Argument.{on_argued, numbered_of}
use Rattle.records.specs.declared.Report.{Report}
use Rattle.records.specs.declared.Content.{Content}
use Rattle.records.specs.declared.Content.TheVariants.{Refused, Magic, ProviderInfo, Section, ProviderEvent, Initialization, String, Thread, Report as ReportRead, Ignored, Skipped}
use Rattle.records.specs.Record.{record_at}
use Rattle.records.specs.Item.{Item}
use Rattle.contexts.specs.declared.State.{State}
use Rattle.contexts.specs.Context.{opening, belongs_to}
use Rattle.contexts.proofs.Contexts.{belongs_facts}
use Rattle.tables.proofs.Tables.{position_lt}
use Rattle.tables.specs.Table.{table_words, highest_of, position, resolved}
use Rattle.records.specs.Lookups.{on_report, argument_lookups, content_lookups}
use Rattle.records.specs.declared.Lookup.{Lookup}
use Rattle.format.specs.Header.{archive_number}
use Rattle.reader.specs.declared.Answer.{Answer}
use Rattle.reader.specs.declared.Answer.TheVariants.{End, Nothing, Magic as MagicShown, ProviderInfo as ProviderInfoShown, Section as SectionShown, ProviderEvent as ProviderEventShown, Initialization as InitializationShown, Report as ReportShown, Skipped as SkippedShown}
use Rattle.effects.specs.declared.Change.{Change}
use Rattle.effects.specs.declared.Change.TheVariants.{Keep, Set}
use Rattle.reader.specs.Ask.{Asked}
use Rattle.format.specs.Limits.{refused_at}
use Rattle.views.specs.Shown.{shown_value, none_bad}
use Rattle.effects.specs.Follow.{changed}
use Rattle.reader.specs.Step.{opening_number, content_decision, place_decision, decision_of, step_reply, step_tables, open_tables, report_answer, content_answer}
use Rattle.reader.specs.Ask.{shown_argument, asked_report, asked_place, argument_reply}
use Rattle.reader.specs.Reads.{argument_items, item_of, Reads, ends, passes, shows, ReadsAs}
use Rattle.reader.proofs.Steps.{admitted}

-- two tables that are long enough and have the same first words
pub record Agree (f : Format) (t t' : List ℕ) : Type 0 where
  pub room : table_words f ≤ length t
  pub room' : table_words f ≤ length t'
  pub same : take (table_words f) t ≡ take (table_words f) t'

-- ---- lookups

agree_at : (f : Format) (t t' : List ℕ) (i : ℕ) → Agree f t t' → i < table_words f → get_or t i 0 ≡ get_or t' i 0
agree_at f t t' i a l =
    sym (get_or-take (table_words f) t i 0 l) ∙ (ap (λ (w : List ℕ). get_or w i 0) a.same ∙ get_or-take (table_words f) t' i 0 l)

-- a reference is shown the same
pub resolved-behind : (f : Format) (archive t t' : List ℕ) (context table until : ℕ) (r : Reference) → Agree f t t' → context ≤ 8
    → resolved f archive t context table until r ≡ resolved f archive t' context table until r
unfolding resolved
resolved-behind f archive t t' context table until (Inline place long) a h = refl
resolved-behind f archive t t' context table until (Index index) a h =
    cases (ltb (highest_of f table) index) (λ e. rw e)
    (λ e. rw (e, agree_at f t t' (position f context table index) a (position_lt f context table index h (ltb-false (highest_of f table) index e))))

-- and so is a value
value-behind : (f : Format) (archive t t' : List ℕ) (context until : ℕ) (v : Value) → Agree f t t' → context ≤ 8
    → shown_value f archive t context until v ≡ shown_value f archive t' context until v
unfolding shown_value
value-behind f archive t t' context until (ScalarValue x) a h = refl
value-behind f archive t t' context until (TextValue r) a h = rw (resolved-behind f archive t t' context 2 until r a h)

-- the entries of a list of references are found bad or not alike
bad_behind : (f : Format) (archive t t' : List ℕ) (context until : ℕ) (ls : List Lookup) → Agree f t t' → context ≤ 8
    → none_bad f archive t context until ls ≡ none_bad f archive t' context until ls
unfolding none_bad
bad_behind f archive t t' context until [] a h = refl
bad_behind f archive t t' context until (l ∷ more) a h =
    rw (resolved-behind f archive t t' context l.table until l.reference a h, bad_behind f archive t t' context until more a h)

-- ---- a step

-- tables of any length that is enough pass the first checks alike
pub opening-behind : (f : Format) (archive : List ℕ) (room room' : ℕ) → table_words f ≤ room → table_words f ≤ room'
    → opening_number f archive room ≡ opening_number f archive room'
unfolding opening_number archive_number
opening-behind f archive room room' h h' = rw (le-ltb room (table_words f) h, le-ltb room' (table_words f) h')

-- the current context of a state that belongs is one of nine
belongs_current : (s : State) (n : ℕ) → belongs_to s n ≡ true → s.current ≤ 8
belongs_current s n e = let b = belongs_facts s n e in omega (arith, b.few, b.known)

-- what a record is shown as
answer-behind : (f : Format) (archive t t' : List ℕ) (s : State) (c : Content) → Agree f t t' → s.current ≤ 8
    → content_answer f archive t s c ≡ content_answer f archive t' s c
unfolding report_answer
answer-behind f archive t t' s (Refused number) a h = refl
answer-behind f archive t t' s Magic a h = refl
answer-behind f archive t t' s (ProviderInfo id at long) a h = refl
answer-behind f archive t t' s (Section id) a h = refl
answer-behind f archive t t' s (ProviderEvent id n) a h = refl
answer-behind f archive t t' s (Initialization rate) a h = refl
answer-behind f archive t t' s (String index at long) a h = refl
answer-behind f archive t t' s (Thread index at) a h = refl
answer-behind f archive t t' s (ReportRead e) a h =
    rw (
      resolved-behind f archive t t' s.current e.first.table s.place e.first.reference a h,
      resolved-behind f archive t t' s.current e.second.table s.place e.second.reference a h,
      resolved-behind f archive t t' s.current e.third.table s.place e.third.reference a h,
    )
answer-behind f archive t t' s Ignored a h = refl
answer-behind f archive t t' s (Skipped type size) a h = refl

-- what a record does
content_behind : (f : Format) (archive t t' : List ℕ) (s : State) (c : Content) (next : ℕ) → Agree f t t' → s.current ≤ 8
    → content_decision f archive t s c next ≡ content_decision f archive t' s c next
unfolding content_decision
content_behind f archive t t' s c next a h =
    rw (bad_behind f archive t t' s.current s.place (content_lookups f archive c next) a h, answer-behind f archive t t' s c a h)

decision_behind : (f : Format) (archive t t' : List ℕ) (s : State) → Agree f t t' → decision_of f archive t s ≡ decision_of f archive t' s
unfolding decision_of place_decision
decision_behind f archive t t' s a =
    cases (belongs_to s (length archive))
    (λ e. rw (
      opening-behind f archive (length t) (length t') a.room a.room',
      e,
      content_behind f archive t t' s (record_at f archive s.place).content (record_at f archive s.place).next a
          (belongs_current s (length archive) e),
    ))
    (λ e. rw (opening-behind f archive (length t) (length t') a.room a.room', e))

-- a step replies the same
pub reply_behind : (f : Format) (archive t t' : List ℕ) (s : State) → Agree f t t' → step_reply f archive t s ≡ step_reply f archive t' s
reply_behind f archive t t' s a = rw (decision_behind f archive t t' s a)

changed_agree : (f : Format) (t t' : List ℕ) (c : Change) → Agree f t t' → Agree f (changed t c) (changed t' c)
unfolding changed
changed_agree f t t' Keep a = a
changed_agree f t t' (Set p v) a =
    record {
      room = omega (arith, a.room, length-set t p v);
      room' = omega (arith, a.room', length-set t' p v);
      same =
          cases (ltb p n)
          (λ e. let l = ltb-true p n e in take-set-lt n t p v l ∙ (ap (λ (w : List ℕ). set w p v) a.same ∙ sym (take-set-lt n t' p v l)))
          (λ e. let l = ltb-false p n e in take-set-le n t p v l ∙ (a.same ∙ sym (take-set-le n t' p v l)));
    }
  where
    n : ℕ
    n = table_words f

-- and leaves the first words the same
pub tables_behind : (f : Format) (archive t t' : List ℕ) (s : State) → Agree f t t'
    → Agree f (step_tables f archive t s) (step_tables f archive t' s)
tables_behind f archive t t' s a =
    rw (decision_behind f archive t t' s a) (changed_agree f t t' (decision_of f archive t' s).change a)

-- ---- an argument

shown_behind : (f : Format) (archive t t' : List ℕ) (s : State) (x : Argument) → Agree f t t' → s.current ≤ 8
    → shown_argument f archive t s x ≡ shown_argument f archive t' s x
unfolding shown_argument
shown_behind f archive t t' s x a h =
    rw (
      bad_behind f archive t t' s.current s.place (argument_lookups (x ∷ [])) a h,
      resolved-behind f archive t t' s.current 2 s.place x.name a h,
      value-behind f archive t t' s.current s.place x.value a h,
    )

report-behind : (f : Format) (archive t t' : List ℕ) (s : State) (e : Report) (number : ℕ) → Agree f t t' → s.current ≤ 8
    → asked_report f archive t s e number ≡ asked_report f archive t' s e number
unfolding asked_report
report-behind f archive t t' s e number a h =
    ap (λ (g : Argument → ℕ → Asked). pick (leb e.count number) (refused_at 4 s.place)
    (on_argued (numbered_of f number (take (s.place - e.arguments) (drop e.arguments archive)) e.arguments) (λ refused. refused_at 4 s.place) g))
    (fun_ext (λ x. fun_ext (λ size. shown_behind f archive t t' s x a h)))

-- an argument is shown the same
pub argument_reply_behind : (f : Format) (archive t t' : List ℕ) (s : State) (at number : ℕ) → Agree f t t'
    → argument_reply f archive t s at number ≡ argument_reply f archive t' s at number
unfolding argument_reply asked_place
argument_reply_behind f archive t t' s at number a =
    cases (belongs_to s (length archive))
    (λ e. rw (opening-behind f archive (length t) (length t') a.room a.room', e)
    (ap (λ (g : Report → Asked). pick (eqb (opening_number f archive (length t')) 0)
    (pick (eqb (at % 8) 0)
    (pick (eqb (record_at f archive at).next s.place) (on_report (record_at f archive at).content (refused_at 4 s.place) g) (refused_at 4 s.place))
    (refused_at 4 s.place))
    (refused_at (opening_number f archive (length t')) 0))
    (fun_ext (λ x. report-behind f archive t t' s x number a (belongs_current s (length archive) e)))))
    (λ e. rw (opening-behind f archive (length t) (length t') a.room a.room', e))

-- ---- a whole reading

items_behind : (f : Format) (archive t t' : List ℕ) (s : State) (place number count : ℕ) → Agree f t t'
    → argument_items f archive t s place number count ≡ argument_items f archive t' s place number count
unfolding argument_items
items_behind f archive t t' s place number zero a = refl
items_behind f archive t t' s place number (suc count) a =
    rw (argument_reply_behind f archive t t' s place number a, items_behind f archive t t' s place (suc number) count a)

item_behind : (f : Format) (archive t t' : List ℕ) (s : State) (answer : Answer) → Agree f t t'
    → item_of f archive t s answer ≡ item_of f archive t' s answer
unfolding item_of
item_behind f archive t t' s (End number place) a = refl
item_behind f archive t t' s Nothing a = refl
item_behind f archive t t' s MagicShown a = refl
item_behind f archive t t' s (ProviderInfoShown id place long) a = refl
item_behind f archive t t' s (SectionShown id) a = refl
item_behind f archive t t' s (ProviderEventShown id e) a = refl
item_behind f archive t t' s (InitializationShown rate) a = refl
item_behind f archive t t' s (ReportShown e) a = rw (items_behind f archive t t' s e.place 0 e.count a)
item_behind f archive t t' s (SkippedShown type size) a = refl

-- an archive reads as the same list with any two tables that agree
pub reads_behind : (f : Format) (archive : List ℕ) {s : State} {t t' : List ℕ} {l : List Item} → Reads f archive s t l → Agree f t t'
    → Reads f archive s t' l
reads_behind f archive {t' = t'} (ends s t place e) a = ends s t' place (rw (decision_behind f archive t t' s a) at e)
reads_behind f archive {t' = t'} (passes s t l e r) a =
    passes s t' l (rw (decision_behind f archive t t' s a) at e)
    (rw (decision_behind f archive t t' s a) at (reads_behind f archive r (tables_behind f archive t t' s a)))
reads_behind f archive {t' = t'} (shows s t i l e r) a =
    shows s t' i l (shown_same s t i e a) (rw (decision_behind f archive t t' s a) at (reads_behind f archive r (tables_behind f archive t t' s a)))
  where
    shown_same : (s : State) (t : List ℕ) (i : Item)
        → item_of f archive (step_tables f archive t s) (step_reply f archive t s).state (step_reply f archive t s).answer ≡ some i → Agree f t t'
        → item_of f archive (step_tables f archive t' s) (step_reply f archive t' s).state (step_reply f archive t' s).answer ≡ some i
    shown_same s t i e a =
        rw (decision_behind f archive t t' s a) at
        (sym (item_behind f archive (step_tables f archive t s) (step_tables f archive t' s) (step_reply f archive t s).state (step_reply f archive t s).answer
        (tables_behind f archive t t' s a)) ∙ e)

-- tables that opening has cleared agree with tables of zeros
opened_agree : (f : Format) (archive tables : List ℕ) → opening_number f archive (length tables) ≡ 0
    → Agree f (open_tables f archive tables) (replicate (table_words f) 0)
opened_agree f archive tables d =
    rw (eq-eqb (opening_number f archive (length tables)) 0 d)
    (record {
      room = omega (arith, length-append (replicate n 0) (drop n tables), long);
      room' = omega (arith, long);
      same = take-append-le n (replicate n 0) (drop n tables) (omega (arith, long));
    })
  where
    n : ℕ
    n = table_words f

    long : length (replicate {A = ℕ} n 0) ≡ n
    long = length-replicate n 0

agree_back : (f : Format) (t t' : List ℕ) → Agree f t t' → Agree f t' t
agree_back f t t' a = record { room = a.room'; room' = a.room; same = sym a.same }

-- so an archive reads to its end as a list exactly when it does with any tables that opening takes
pub reads_with_any : (f : Format) (archive tables : List ℕ) (l : List Item) → opening_number f archive (length tables) ≡ 0
    → (ReadsAs f archive l → Reads f archive opening (open_tables f archive tables) l)
    × (Reads f archive opening (open_tables f archive tables) l → ReadsAs f archive l)
reads_with_any f archive tables l d = (
  λ r. reads_behind f archive r.1 (agree_back f (open_tables f archive tables) (replicate (table_words f) 0) a),
  λ r. (opening-behind f archive (table_words f) (length tables) (omega arith) (admitted f archive (length tables) d).enough ∙ d, reads_behind f archive r a),
)
  where
    a : Agree f (open_tables f archive tables) (replicate (table_words f) 0)
    a = opened_agree f archive tables d
