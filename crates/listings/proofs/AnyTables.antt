-- A listing is the same whatever the lent tables held, where they are long enough: it depends on the archive alone. Assumes nothing.
use Prim.Native.Nat.{ℕ, zero, suc, ◌+◌, ◌≤◌}
use mathlib.Core.Path.{◌≡◌, refl, sym, ap, ◌∙◌}
use mathlib.Core.List.{List, ◌++◌}
use native.Mathlib.Omega.{arith}
use borrow.Author.Tests.{le-ltb}
use lib.Dec.{eqb}
use lib.ListN.{length, drop, replicate, length-append, length-replicate}
use lib.Seq.{take_at}
use Rattle.words.proofs.Tests.{cases}
use Rattle.format.specs.declared.Format.{Format}
use Rattle.format.specs.Header.{archive_number}
use Rattle.contexts.specs.declared.State.{State}
use Rattle.contexts.specs.Context.{opening}
use Rattle.tables.specs.Table.{table_words, cleared}
use Rattle.reader.specs.declared.Answer.{Answer}
use Rattle.reader.specs.declared.Answer.TheVariants.{End, Nothing, Magic, ProviderInfo, Section, ProviderEvent, Initialization, Report, Skipped}
use Rattle.reader.specs.declared.Reply.{Reply}
use Rattle.reader.specs.Step.{opening_number, step_reply, step_tables}
use Rattle.reader.proofs.Behind.{Agree, reply_behind, tables_behind, argument_reply_behind}
use Rattle.item_lines.specs.Line.{trace_line}
use Rattle.listings.specs.Listing.{argument_lines, answer_arguments, step_lines, is_end, lines_from, steps_of, listing}

module _ (f : Format) (archive : List ℕ) where
  -- arguments are shown the same
  arguments-alike : (s : State) (place number count : ℕ) (t t' : List ℕ) → Agree f t t'
      → argument_lines f archive t s place number count ≡ argument_lines f archive t' s place number count
  unfolding argument_lines
  arguments-alike s place number zero t t' a = refl
  arguments-alike s place number (suc count) t t' a =
      rw (argument_reply_behind f archive t t' s place number a, arguments-alike s place (number + 1) count t t' a)

  -- so are those of any answer
  answer-alike : (s : State) (answer : Answer) (t t' : List ℕ) → Agree f t t'
      → answer_arguments f archive t s answer ≡ answer_arguments f archive t' s answer
  unfolding answer_arguments
  answer-alike s (End number place) t t' a = refl
  answer-alike s Nothing t t' a = refl
  answer-alike s Magic t t' a = refl
  answer-alike s (ProviderInfo id place long) t t' a = refl
  answer-alike s (Section id) t t' a = refl
  answer-alike s (ProviderEvent id event) t t' a = refl
  answer-alike s (Initialization rate) t t' a = refl
  answer-alike s (Report r) t t' a = arguments-alike s r.place 0 r.count t t' a
  answer-alike s (Skipped type size) t t' a = refl

  -- so are the lines of any steps
  lines_alike : (n : ℕ) (s : State) (t t' : List ℕ) → Agree f t t' → lines_from f archive n s t ≡ lines_from f archive n s t'
  unfolding lines_from step_lines
  lines_alike zero s t t' a = refl
  lines_alike (suc n) s t t' a =
      let reply = reply_behind f archive t t' s a in
      let after = tables_behind f archive t t' s a in
      let answer = (step_reply f archive t' s).answer in
      let next = (step_reply f archive t' s).state in
      rw (
        ap (λ (r : Reply). r.answer) reply,
        ap (λ (r : Reply). r.state) reply,
        answer-alike next answer (step_tables f archive t s) (step_tables f archive t' s) after,
        lines_alike n next (step_tables f archive t s) (step_tables f archive t' s) after,
      )

  -- tables that are cleared agree
  cleared_agree : (t t' : List ℕ) → table_words f ≤ length t → table_words f ≤ length t'
      → Agree f (cleared (table_words f) t) (cleared (table_words f) t')
  cleared_agree t t' h h' =
      let n = table_words f in
      let zeros : List ℕ = replicate n 0 in
      let long : length zeros ≡ n = length-replicate n 0 in
      record {
        room = omega (arith, length-append zeros (drop n t));
        room' = omega (arith, length-append zeros (drop n t'));
        same = take_at zeros (drop n t) n long ∙ sym (take_at zeros (drop n t') n long);
      }

  -- long enough tables do not matter at the first checks
  opening-alike : (t t' : List ℕ) → table_words f ≤ length t → table_words f ≤ length t' → opening_number f archive (length t) ≡ opening_number f archive (length t')
  unfolding opening_number archive_number
  opening-alike t t' h h' = rw (le-ltb (length t) (table_words f) h, le-ltb (length t') (table_words f) h')

  -- the listing is the same with any tables that are long enough
  pub listing-alike : (t t' : List ℕ) → table_words f ≤ length t → table_words f ≤ length t' → listing f archive t ≡ listing f archive t'
  unfolding listing is_end
  listing-alike t t' h h' =
      let opens = opening-alike t t' h h' in
      cases (eqb (opening_number f archive (length t')) 0)
      (λ e. rw (opens, e) (ap (λ (l : List ℕ). trace_line ++ l)
      (lines_alike (steps_of archive) opening (cleared (table_words f) t) (cleared (table_words f) t') (cleared_agree t t' h h'))))
      (λ e. rw (opens, e))
