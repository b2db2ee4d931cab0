-- Repacking accepts what it wrote: the bytes that the rule gives for the list of an accepted archive are an archive that no number refuses.
-- Assumes nothing.
use Prim.Native.Nat.{ℕ, ◌≤◌}
use mathlib.Core.Path.{◌≡◌, refl, sym, subst, ◌∙◌}
use mathlib.Core.List.{[], List, ◌∷◌, ◌++◌, append-nil}
use mathlib.Core.Bool.{false}
use mathlib.Core.Option.{none, some}
use native.Mathlib.Omega.{arith}
use lib.ListN.{length}
use Rattle.words.proofs.Tests.{cases}
use Rattle.words.proofs.Words.{AllBytes}
use Rattle.format.specs.declared.Format.{Format}
use Rattle.format.specs.Limits.{small_format}
use Rattle.records.specs.Item.{Item, Use, uses_of}
use Rattle.reader.specs.Reads.{ReadsAs}
use Rattle.rule.specs.Rule.{rule}
use Rattle.rule.specs.Refusal.{Run, ended, passed, run_of, stop_refusal, item_unresolved, unresolved_refusal, passes_limit, limit_refusal, refusal_of, items_of, Accepted}
use Rattle.rule.proofs.Accepted.{accepted_writable}
use Rattle.rule.proofs.Length.{rule-least_bytes}
use Rattle.rule.proofs.Lower.{any_run_pays}
use Rattle.rule.proofs.ReadBack.{rule_reads, rule_keeps}
use Rattle.rule.proofs.WholeRuns.{EndsAt, reads_items, reads_ends, not_refused-passes}

-- ---- refusals that the items alone decide

-- a run that ends by number 0 is not refused as reading meets it
pub ends_unrefused : (at : ℕ) (run : Run) → EndsAt at run → stop_refusal run ≡ none
ends_unrefused at (ended number place) e = rw e.0
ends_unrefused at (passed place keeps item run) e = ends_unrefused at run e

-- items with no unresolved reference
abbrev AllResolved : List Item → Type 0
AllResolved [] = Unit {0}
AllResolved (i ∷ items) = (item_unresolved (some i) ≡ false) × AllResolved items

resolved_of : (run : Run) → unresolved_refusal run ≡ none → AllResolved (items_of run)
resolved_of (ended number place) e = tt
resolved_of (passed place keeps none run) e = resolved_of run e
resolved_of (passed place keeps (some i) run) e =
    cases (item_unresolved (some i)) (λ q. let e' = rw q at e in let z : ◌≡◌ {A = ℕ} 0 1 = cc in absurd (omega arith))
    (λ q. (q, resolved_of run (rw q at e)))

of_resolved : (run : Run) → AllResolved (items_of run) → unresolved_refusal run ≡ none
of_resolved (ended number place) h = refl
of_resolved (passed place keeps none run) h = of_resolved run h
of_resolved (passed place keeps (some i) run) h = rw h.0 (of_resolved run h.1)

-- of two runs with the same items, one is not refused for an unresolved reference if the other is not
pub same_unresolved : (a b : Run) → items_of a ≡ items_of b → unresolved_refusal a ≡ none → unresolved_refusal b ≡ none
same_unresolved a b same e = of_resolved b (subst AllResolved same (resolved_of a e))

-- items behind these uses, none of which passes a limit
abbrev AllWithin : Format → List Use → List Item → Type 0
AllWithin f before [] = Unit {0}
AllWithin f before (i ∷ items) =
    (passes_limit f (before ++ uses_of i) (before ++ uses_of i) ≡ false) × AllWithin f (before ++ uses_of i) items

within_of : (f : Format) (before : List Use) (run : Run) → limit_refusal f before run ≡ none → AllWithin f before (items_of run)
within_of f before (ended number place) e = tt
within_of f before (passed place keeps none run) e =
    let e' = rw (append-nil before) at e in
    cases (passes_limit f before before) (λ q. let e'' = rw q at e' in let z : ◌≡◌ {A = ℕ} 0 1 = cc in absurd (omega arith))
    (λ q. within_of f before run (rw q at e'))
within_of f before (passed place keeps (some i) run) e =
    cases (passes_limit f (before ++ uses_of i) (before ++ uses_of i))
    (λ q. let e' = rw q at e in let z : ◌≡◌ {A = ℕ} 0 1 = cc in absurd (omega arith))
    (λ q. (q, within_of f (before ++ uses_of i) run (rw q at e)))

of_within : (f : Format) (before : List Use) (run : Run) → passes_limit f before before ≡ false → AllWithin f before (items_of run)
    → limit_refusal f before run ≡ none
of_within f before (ended number place) low h = refl
of_within f before (passed place keeps none run) low h = rw (append-nil before, low) (of_within f before run low h)
of_within f before (passed place keeps (some i) run) low h = rw h.0 (of_within f (before ++ uses_of i) run h.0 h.1)

-- nor for a limit
pub same_limits : (f : Format) (a b : Run) → items_of a ≡ items_of b → limit_refusal f [] a ≡ none → limit_refusal f [] b ≡ none
same_limits f a b same e = of_within f [] b refl (subst (AllWithin f []) same (within_of f [] a e))

-- ---- the whole

-- what is written for the list of an accepted archive of bytes is accepted
pub accepted_again : (a : List ℕ) (l : List Item) → Accepted small_format a → AllBytes a → ReadsAs small_format a l
    → Accepted small_format (rule small_format l)
unfolding refusal_of
accepted_again a l h bytes r =
    let f = small_format in
    let paid = any_run_pays f a l r in
    let short : length (rule small_format l) ≤ length a = omega (arith, paid.1, rule-least_bytes f l paid.0) in
    let writable = accepted_writable a l h bytes r short in
    let back = rule_reads f l writable in
    let before = not_refused-passes f (run_of f a) h.not_refused in
    let same : items_of (run_of f a) ≡ items_of (run_of f (rule small_format l)) = reads_items f a l r ∙ sym (reads_items f (rule small_format l) l back) in
    record {
      opened = back.0;
      not_refused = rw (
        ends_unrefused (length (rule small_format l)) (run_of f (rule small_format l)) (reads_ends f (rule small_format l) l back),
        rule_keeps f l writable,
        same_unresolved (run_of f a) (run_of f (rule small_format l)) same before.whole,
        same_limits f (run_of f a) (run_of f (rule small_format l)) same before.limits,
      );
    }
