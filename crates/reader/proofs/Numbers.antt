-- Which of document 01's numbers each call can answer, the place that comes with each, and that a call which is refused or at the end changes
-- nothing. A number is that of the definitions `answer_number` and `asked_number`. Assumes nothing.
use Prim.Native.Nat.{ℕ, ◌-◌, ◌%◌, ◌≤◌}
use mathlib.Core.Path.{◌≡◌, refl, subst, sym}
use mathlib.Core.List.{[], List, ◌∷◌}
use mathlib.Core.Option.{Option, none, some}
use native.Mathlib.Omega.{arith}
use borrow.Author.Tests.{eqb-true, eqb-false}
use lib.Dec.{eqb, ltb, leb}
use lib.ListN.{length, take, drop}
use Rattle.words.specs.Stream.{starts_with_magic}
use Rattle.words.proofs.Tests.{on-pick, cases}
use Rattle.format.specs.declared.Format.{Format}
use Rattle.arguments.specs.declared.Argued.{Argued}
use Rattle.arguments.specs.Argument.{numbered_of, on_argued}
use Rattle.records.specs.declared.Report.{Report}
use Rattle.records.specs.declared.Content.{Content}
use Rattle.records.specs.declared.Content.TheVariants.{Refused, Magic, ProviderInfo, Section, ProviderEvent, Initialization, String, Thread, Report as ReportRead, Ignored, Skipped}
use Rattle.records.specs.Record.{record_at}
use Rattle.contexts.specs.declared.State.{State}
use Rattle.contexts.specs.Context.{opening, belongs_to}
use Rattle.tables.specs.Table.{table_words}
use Rattle.records.specs.Lookups.{on_report, argument_lookups}
use Rattle.format.specs.Header.{archive_number}
use Rattle.format.specs.Limits.{longest_archive}
use Rattle.format.specs.declared.Reason.{Reason}
use Rattle.std.specs.Prelude.{Result, Ok, Err}
use Rattle.records.specs.Effect.{effect_of}
use Rattle.views.specs.Shown.{none_bad}
use Rattle.reader.specs.declared.Answer.{Answer}
use Rattle.reader.specs.declared.Answer.TheVariants.{End, Nothing, Magic as MagicShown, ProviderInfo as ProviderInfoShown, Section as SectionShown, ProviderEvent as ProviderEventShown, Initialization as InitializationShown, Report as ReportShown, Skipped as SkippedShown}
use Rattle.reader.specs.Ask.{Asked}
use Rattle.format.specs.Limits.{refused_at}
use Rattle.std.specs.Prelude.{Ok, Err}
use Rattle.reader.specs.Step.{Decision}
use Rattle.effects.specs.Follow.{changed, followed, change_of}
use Rattle.reader.specs.Step.{opening_number, stopping, content_decision, place_decision, decision_of, open_reply, open_tables, step_reply, step_tables, effect_decision, plain_answer}
use Rattle.reader.specs.Ask.{shown_argument, asked_report, asked_place, argument_reply}
use Rattle.reader.specs.Numbers.{answer_number, asked_number}
use Rattle.views.proofs.Lookups.{ContentFits, record_whole}
use Rattle.reader.proofs.Changes.{Plain, Names, on_decision, on-entering, on-report, registering, stop_decided, entering_decided}

-- a number from `low` to `high`, both included
abbrev pub Between : ℕ → ℕ → ℕ → Type 0
Between low high number = (low ≤ number) × (number ≤ high)

-- ---- a call that is refused or at the end changes nothing

-- an option is not both without and with a number
none-some : {o : Option ℕ} {n : ℕ} → o ≡ none → o ≡ some n → ⊥
none-some e k = let z : ◌≡◌ {A = ℕ} 0 1 = cc in omega arith

-- an answer with a number is an end or a refusal
pub answer_end : (a : Answer) (n : ℕ) → answer_number a ≡ some n → (place : ℕ) × (a ≡ End n place)
answer_end (End number place) n e = let q : number ≡ n = cc in (place, rw q)
answer_end Nothing n e = absurd (none-some refl e)
answer_end MagicShown n e = absurd (none-some refl e)
answer_end (ProviderInfoShown id place long) n e = absurd (none-some refl e)
answer_end (SectionShown id) n e = absurd (none-some refl e)
answer_end (ProviderEventShown id event) n e = absurd (none-some refl e)
answer_end (InitializationShown rate) n e = absurd (none-some refl e)
answer_end (ReportShown shown) n e = absurd (none-some refl e)
answer_end (SkippedShown type size) n e = absurd (none-some refl e)

-- "A step that is refused, or at the end, changes nothing.": where a step answers a number, state and tables are as they came
pub stopped_keeps : (f : Format) (archive tables : List ℕ) (s : State) (n : ℕ) → answer_number (step_reply f archive tables s).answer ≡ some n
    → ((step_reply f archive tables s).state ≡ s) × (step_tables f archive tables s ≡ tables)
unfolding stopping registering changed
stopped_keeps f archive tables s n =
    on_decision P f archive tables s (λ number place h e. (refl, refl)) (λ answer h e. absurd (subst Plain (answer_end answer n e).1 h))
    (λ rate e. absurd (none-some refl e))
    (λ id answer h. on-entering P s id next answer (λ e. (refl, refl)) (λ i q e. absurd (subst (Names id) (answer_end answer n e).1 h))
    (λ q z e. absurd (subst (Names id) (answer_end answer n e).1 h)))
    (λ table index r e. absurd (none-some refl e))
    (λ ev k. on-report P f archive tables s ev next (λ e. (refl, refl)) (λ shown e. absurd (none-some refl e)))
  where
    next : ℕ
    next = (record_at f archive s.place).next

    P : Decision → Type 0
    P d = answer_number d.answer ≡ some n → (d.state ≡ s) × (changed tables d.change ≡ tables)

-- "a refused opening hands back the same state and touches no table": the state of opening, and the tables as they came
pub refused-opening_keeps : (f : Format) (archive tables : List ℕ) (n : ℕ)
    → answer_number (open_reply f archive (length tables)).answer ≡ some n
    → ((open_reply f archive (length tables)).state ≡ opening) × (open_tables f archive tables ≡ tables)
refused-opening_keeps f archive tables n k =
    (refl, cases (eqb (opening_number f archive (length tables)) 0) (λ e. absurd (none-some refl (rw e at k))) (λ e. rw e))

-- ---- the first checks

-- what the first checks refuses by is 1, 2 or 3
opening-low : (f : Format) (archive : List ℕ) (room : ℕ) → (opening_number f archive room ≡ 0 → ⊥) → Between 1 3 (opening_number f archive room)
unfolding opening_number archive_number
opening-low f archive room =
    on-pick P (ltb longest_archive (length archive)) _ _ (λ e z. (omega arith, omega arith))
    (λ e. on-pick P (starts_with_magic archive) _ _
    (λ e. on-pick P (ltb room (table_words f)) _ _ (λ e z. (omega arith, omega arith)) (λ e z. absurd (z refl)))
    (λ e z. (omega arith, omega arith)))
  where
    P : ℕ → Type 0
    P number = (number ≡ 0 → ⊥) → Between 1 3 number

-- ---- numbers and places

-- "The place reported is 0 for 1, 2 and 3, the state's for 4, the record's start for 5 to 9, the length for 0": a step reads the record that
-- starts at its state's place
pub record Places (archive : List ℕ) (s : State) (number place : ℕ) : Type 0 where
  pub opens : Between 1 3 number → place ≡ 0
  pub state : number ≡ 4 → place ≡ s.place
  pub start : Between 5 9 number → place ≡ s.place
  pub end : number ≡ 0 → place ≡ length archive

-- the state's place comes with 4 to 9
at_state : (archive : List ℕ) (s : State) (number : ℕ) → 4 ≤ number → Places archive s number s.place
at_state archive s number h =
    record { opens = λ b. absurd (omega (arith, b.1)); state = λ e. refl; start = λ b. refl; end = λ e. absurd (omega arith) }

-- and 0 with 1, 2 and 3
at_zero : (archive : List ℕ) (s : State) (number : ℕ) → Between 1 3 number → Places archive s number 0
at_zero archive s number h =
    record {
      opens = λ b. refl;
      state = λ e. absurd (omega (arith, h.1));
      start = λ b. absurd (omega (arith, h.1, b.0));
      end = λ e. absurd (omega (arith, h.0));
    }

-- the numbers that a step can answer, each with its place; 1, 2 and 3 are those of the first checks
abbrev StepEnds : List ℕ → State → ℕ → Answer → Type 0
StepEnds archive s opens (End number place) = Between 0 9 number × Places archive s number place × (Between 1 3 number → number ≡ opens)
StepEnds archive s opens Nothing = Unit {0}
StepEnds archive s opens MagicShown = Unit {0}
StepEnds archive s opens (ProviderInfoShown id place long) = Unit {0}
StepEnds archive s opens (SectionShown id) = Unit {0}
StepEnds archive s opens (ProviderEventShown id event) = Unit {0}
StepEnds archive s opens (InitializationShown rate) = Unit {0}
StepEnds archive s opens (ReportShown e) = Unit {0}
StepEnds archive s opens (SkippedShown type size) = Unit {0}

-- so does every step
step_ends : (f : Format) (archive tables : List ℕ) (s : State)
    → StepEnds archive s (opening_number f archive (length tables)) (step_reply f archive tables s).answer
unfolding decision_of place_decision content_decision effect_decision plain_answer none_bad followed change_of effect_of stopping
step_ends f archive tables s =
    on-pick P (eqb opens 0) _ _
    (λ e. on-pick P (belongs_to s (length archive)) _ _
    (λ e. on-pick P (eqb s.place (length archive)) _ _ (λ e. at_length (eqb-true s.place (length archive) e))
    (λ e. of_content (record_at f archive s.place).content (record_whole f archive s.place).holds))
    (λ e. at_record 4 (omega arith, omega arith)))
    (λ e. at_opening (opening-low f archive (length tables) (eqb-false opens 0 e)))
  where
    opens : ℕ
    opens = opening_number f archive (length tables)

    next : ℕ
    next = (record_at f archive s.place).next

    P : Decision → Type 0
    P d = StepEnds archive s opens d.answer

    at_opening : Between 1 3 opens → StepEnds archive s opens (End opens 0)
    at_opening d = ((omega arith, omega (arith, d.1)), at_zero archive s opens d, λ b. refl)

    at_length : s.place ≡ length archive → StepEnds archive s opens (End 0 s.place)
    at_length h = (
      (omega arith, omega arith),
      record { opens = λ b. absurd (omega (arith, b.0)); state = λ e. refl; start = λ b. refl; end = λ e. h },
      λ b. absurd (omega (arith, b.0)),
    )

    at_record : (number : ℕ) → Between 4 9 number → StepEnds archive s opens (End number s.place)
    at_record number h = ((omega arith, h.1), at_state archive s number h.0, λ b. absurd (omega (arith, h.0, b.1)))

    of_content : (c : Content) → ContentFits f (take (next - s.place) (drop s.place archive)) s.place c
        → P (content_decision f archive tables s c next)
    of_content (Refused number) h =
        subst P (sym (stop_decided f s number next Nothing h.stops)) (at_record number (omega (arith, h.stops), omega (arith, h.answered)))
    of_content Magic h = tt
    of_content (ProviderInfo id at long) h =
        subst P (sym (entering_decided f s id next (ProviderInfoShown id at long)))
        (on-entering P s id next (ProviderInfoShown id at long) (at_record 9 (omega arith, omega arith)) (λ i q. tt) (λ q z. tt))
    of_content (Section id) h =
        subst P (sym (entering_decided f s id next (SectionShown id)))
        (on-entering P s id next (SectionShown id) (at_record 9 (omega arith, omega arith)) (λ i q. tt) (λ q z. tt))
    of_content (ProviderEvent id event) h = tt
    of_content (Initialization rate) h = tt
    of_content (String index at long) h = tt
    of_content (Thread index at) h = tt
    of_content (ReportRead e) h = on-report P f archive tables s e next (at_record 4 (omega arith, omega arith)) (λ shown. tt)
    of_content Ignored h = tt
    of_content (Skipped type size) h = tt

-- a step answers 0 to 9
pub step_numbers : (f : Format) (archive tables : List ℕ) (s : State) (n : ℕ) → answer_number (step_reply f archive tables s).answer ≡ some n
    → Between 0 9 n
step_numbers f archive tables s n e =
    (subst (StepEnds archive s (opening_number f archive (length tables))) (answer_end (step_reply f archive tables s).answer n e).1
    (step_ends f archive tables s)).0

-- and each number with document 01's place
pub step_places : (f : Format) (archive tables : List ℕ) (s : State) (number place : ℕ)
    → (step_reply f archive tables s).answer ≡ End number place → Places archive s number place
step_places f archive tables s number place e =
    (subst (StepEnds archive s (opening_number f archive (length tables))) e (step_ends f archive tables s)).1

-- 1, 2 and 3 are answered by the first checks alone
pub step_opening : (f : Format) (archive tables : List ℕ) (s : State) (number place : ℕ)
    → (step_reply f archive tables s).answer ≡ End number place → Between 1 3 number → number ≡ opening_number f archive (length tables)
step_opening f archive tables s number place e =
    (subst (StepEnds archive s (opening_number f archive (length tables))) e (step_ends f archive tables s)).2

-- opening answers 1, 2 or 3
pub opening_numbers : (f : Format) (archive : List ℕ) (room n : ℕ) → answer_number (open_reply f archive room).answer ≡ some n → Between 1 3 n
opening_numbers f archive room n =
    on-pick P (eqb (opening_number f archive room) 0) _ _ (λ e k. absurd (none-some refl k))
    (λ e k. let q : opening_number f archive room ≡ n = cc in subst (Between 1 3) q (opening-low f archive room (eqb-false (opening_number f archive room) 0 e)))
  where
    P : Answer → Type 0
    P a = answer_number a ≡ some n → Between 1 3 n

-- at place 0
pub opening_places : (f : Format) (archive : List ℕ) (room number place : ℕ) → (open_reply f archive room).answer ≡ End number place → place ≡ 0
opening_places f archive room number place =
    on-pick P (eqb (opening_number f archive room) 0) _ _ (λ e k. let z : ◌≡◌ {A = ℕ} 0 1 = cc in absurd (omega arith)) (λ e k. cc)
  where
    P : Answer → Type 0
    P a = a ≡ End number place → place ≡ 0

-- the numbers that an argument can be refused by, each with its place
abbrev AskedEnds : List ℕ → State → Asked → Type 0
AskedEnds archive s (Err refused) = Between 1 4 refused.number × Places archive s refused.number refused.place
AskedEnds archive s (Ok a) = Unit {0}

-- so is every argument
asked_ends : (f : Format) (archive tables : List ℕ) (s : State) (at number : ℕ) → AskedEnds archive s (argument_reply f archive tables s at number)
unfolding argument_reply asked_place asked_report shown_argument
asked_ends f archive tables s at number =
    on-pick P (eqb opens 0) _ _
    (λ e. on-pick P (belongs_to s (length archive)) _ _
    (λ e. on-pick P (eqb (at % 8) 0) _ _
    (λ e. on-pick P (eqb (record_at f archive at).next s.place) _ _ (λ e. of_content (record_at f archive at).content) (λ e. four)) (λ e. four))
    (λ e. four))
    (λ e. let d = opening-low f archive (length tables) (eqb-false opens 0 e) in ((d.0, omega (arith, d.1)), at_zero archive s opens d))
  where
    opens : ℕ
    opens = opening_number f archive (length tables)

    P : Asked → Type 0
    P a = AskedEnds archive s a

    four : P (refused_at 4 s.place)
    four = ((omega arith, omega arith), at_state archive s 4 (omega arith))

    of_argument : (x : Result Argued Reason) → P (on_argued x (λ refused. refused_at 4 s.place) (λ a size. shown_argument f archive tables s a))
    of_argument (Err reason) = four
    of_argument (Ok read) =
        on-pick P (none_bad f archive tables s.current s.place (argument_lookups (read.argument ∷ []))) _ _ (λ e. tt) (λ e. four)

    of_event : (e : Report) → P (asked_report f archive tables s e number)
    of_event e =
        on-pick P (leb e.count number) _ _ (λ q. four)
        (λ q. of_argument (numbered_of f number (take (s.place - e.arguments) (drop e.arguments archive)) e.arguments))

    of_content : (c : Content) → P (on_report c (refused_at 4 s.place) (λ e. asked_report f archive tables s e number))
    of_content (Refused number) = four
    of_content Magic = four
    of_content (ProviderInfo id place long) = four
    of_content (Section id) = four
    of_content (ProviderEvent id event) = four
    of_content (Initialization rate) = four
    of_content (String index place long) = four
    of_content (Thread index place) = four
    of_content (ReportRead e) = of_event e
    of_content Ignored = four
    of_content (Skipped type size) = four

-- an argument is answered 1 to 4
pub argument_numbers : (f : Format) (archive tables : List ℕ) (s : State) (at number n : ℕ)
    → asked_number (argument_reply f archive tables s at number) ≡ some n → Between 1 4 n
argument_numbers f archive tables s at number n = go (argument_reply f archive tables s at number) (asked_ends f archive tables s at number)
  where
    go : (a : Asked) → AskedEnds archive s a → asked_number a ≡ some n → Between 1 4 n
    go (Err refused) h e = let q : refused.number ≡ n = cc in subst (Between 1 4) q h.0
    go (Ok a) h e = absurd (none-some refl e)

-- and each number with the place that a step has for it
pub argument_places : (f : Format) (archive tables : List ℕ) (s : State) (at asked number place : ℕ)
    → argument_reply f archive tables s at asked ≡ refused_at number place → Places archive s number place
argument_places f archive tables s at asked number place e = (subst (AskedEnds archive s) e (asked_ends f archive tables s at asked)).1
