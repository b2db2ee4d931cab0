-- The definitions of a listing, as the loops turn and as answers are told apart. Assumes nothing.
use Prim.Native.Nat.{ℕ, zero, suc, ◌+◌, ◌-◌, ◌<◌}
use mathlib.Core.Path.{◌≡◌, refl, ap, ◌∙◌}
use mathlib.Core.Bool.{Bool, true, false}
use mathlib.Core.List.{List, [], ◌++◌}
use native.Mathlib.Omega.{arith}
use Rattle.std.specs.Prelude.{Some, None}
use Rattle.words.specs.Word.{pick}
use Rattle.format.specs.declared.Format.{Format}
use Rattle.contexts.specs.declared.State.{State}
use Rattle.views.specs.declared.ShownReport.{ShownReport}
use Rattle.reader.specs.declared.Answer.{Answer}
use Rattle.reader.specs.declared.Answer.TheVariants.{End, Nothing, Magic, ProviderInfo, Section, ProviderEvent, Initialization, Report, Skipped}
use Rattle.reader.specs.declared.Reply.{Reply}
use Rattle.reader.specs.Step.{step_reply, step_tables}
use Rattle.reader.specs.Ask.{argument_reply}
use Rattle.item_lines.specs.Line.{answer_line, asked_line}
use Rattle.listings.specs.Listing.{argument_lines, answer_arguments, step_lines, is_end, next_state, lines_from, tables_from}

-- an answer that is no end is not the last
pub other_end : (a : Answer) → ((number place : ℕ) → a ≡ End number place → ⊥) → is_end a ≡ false
unfolding is_end
other_end (End number place) h = absurd (h number place refl)
other_end Nothing h = refl
other_end Magic h = refl
other_end (ProviderInfo id place long) h = refl
other_end (Section id) h = refl
other_end (ProviderEvent id event) h = refl
other_end (Initialization rate) h = refl
other_end (Report r) h = refl
other_end (Skipped type size) h = refl

-- the state behind a step, by its reply and by whether its answer is the last
pub next_by : (r r' : Reply) (last : Bool) → r ≡ r' → last ≡ is_end r.answer → pick last None (Some r.state) ≡ next_state r'
unfolding next_state
next_by r r' last e e' =
    ap (λ (b : Bool). pick b None (Some r.state)) e' ∙ ap (λ (x : Reply). pick (is_end x.answer) None (Some x.state)) e

-- there is none where the answer is the last
pub none_next : (r : Reply) → None ≡ next_state r → is_end r.answer ≡ true
unfolding next_state
none_next r = go (is_end r.answer)
  where
    go : (last : Bool) → None ≡ pick last None (Some r.state) → last ≡ true
    go true e = refl
    go false e = cc

-- there is one where it is not, that of the reply
pub some_next : (r : Reply) (s : State) → Some s ≡ next_state r → (is_end r.answer ≡ false) × (r.state ≡ s)
unfolding next_state
some_next r s = go (is_end r.answer)
  where
    go : (last : Bool) → Some s ≡ pick last None (Some r.state) → (last ≡ false) × (r.state ≡ s)
    go true e = (cc, cc)
    go false e = (refl, cc)

module _ (f : Format) (archive : List ℕ) where
  -- no line stands behind that of an answer that is no report
  pub no_arguments : (tables : List ℕ) (s : State) (a : Answer) → ((r : ShownReport) → a ≡ Report r → ⊥)
      → answer_arguments f archive tables s a ≡ []
  unfolding answer_arguments
  no_arguments tables s (End number place) h = refl
  no_arguments tables s Nothing h = refl
  no_arguments tables s Magic h = refl
  no_arguments tables s (ProviderInfo id place long) h = refl
  no_arguments tables s (Section id) h = refl
  no_arguments tables s (ProviderEvent id event) h = refl
  no_arguments tables s (Initialization rate) h = refl
  no_arguments tables s (Report r) h = absurd (h r refl)
  no_arguments tables s (Skipped type size) h = refl

  -- the lines of a step, by its reply and by the tables after it
  pub lines_of_step : (tables : List ℕ) (s : State) (r : Reply) (after : List ℕ) → r ≡ step_reply f archive tables s → after ≡ step_tables f archive tables s
      → answer_line archive r.answer ++ answer_arguments f archive after r.state r.answer ≡ step_lines f archive tables s
  unfolding step_lines
  lines_of_step tables s r after e e' = rw (e, e')

  -- the lines of some arguments: the first one's, and those of the others
  pub arguments_turn : (tables : List ℕ) (s : State) (place number count : ℕ) → 0 < count
      → argument_lines f archive tables s place number count
      ≡ asked_line archive (argument_reply f archive tables s place number) ++ argument_lines f archive tables s place (number + 1) (count - 1)
  unfolding argument_lines
  arguments_turn tables s place number zero h = absurd (omega arith)
  arguments_turn tables s place number (suc count) h = let e : suc count - 1 ≡ count = omega arith in rw e

  -- the lines of some steps: the first one's, and where that is not the last those of the others
  pub lines_turn : (n : ℕ) (s : State) (tables : List ℕ) → 0 < n
      → lines_from f archive n s tables
      ≡ step_lines f archive tables s
      ++ pick (is_end (step_reply f archive tables s).answer) []
      (lines_from f archive (n - 1) (step_reply f archive tables s).state (step_tables f archive tables s))
  unfolding lines_from
  lines_turn zero s tables h = absurd (omega arith)
  lines_turn (suc n) s tables h = let e : suc n - 1 ≡ n = omega arith in rw e

  -- the tables after them
  pub tables_turn : (n : ℕ) (s : State) (tables : List ℕ) → 0 < n
      → tables_from f archive n s tables
      ≡ pick (is_end (step_reply f archive tables s).answer) (step_tables f archive tables s)
      (tables_from f archive (n - 1) (step_reply f archive tables s).state (step_tables f archive tables s))
  unfolding tables_from
  tables_turn zero s tables h = absurd (omega arith)
  tables_turn (suc n) s tables h = let e : suc n - 1 ≡ n = omega arith in rw e
