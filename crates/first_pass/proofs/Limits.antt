-- The limits of number 12 by marks: each mark's limit is that of its keys, all limits together fill the slots, and more uses pass no fewer limits.
-- Assumes nothing.
use Prim.Native.Nat.{ℕ, ◌+◌, ◌-◌, ◌*◌, ◌%◌, ◌≤◌}
use mathlib.Core.Path.{◌≡◌, refl, sym}
use mathlib.Core.List.{List, [], ◌∷◌, ◌++◌}
use mathlib.Core.Bool.{Bool, true, false, cond, ◌&&◌, ◌||◌, true≢false}
use native.Mathlib.Omega.{arith}
use borrow.Author.Tests.{eq-eqb, ne_eqb, ltb-true, lt-ltb}
use lib.Dec.{eqb, ltb}
use Rattle.tally.specs.Models.Slots.{sum_to}
use Rattle.words.specs.Word.{pick}
use Rattle.words.proofs.Tests.{cases}
use Rattle.registering.specs.Counting.{sum_by, keys}
use Rattle.registering.proofs.Counting.{keys_prefix}
use Rattle.format.specs.declared.Format.{Format}
use Rattle.records.specs.Item.{Key, text_key, thread_key, Use}
use Rattle.tables.specs.Table.{table_words}
use Rattle.rule.specs.Rule.{same_use, same_provider, same_table}
use Rattle.rule.specs.Refusal.{alike, limit_of, passes_limit}
use Rattle.rule.proofs.Uses.{same_use_eq, same_use_refl}
use Rattle.passes.proofs.Codes.{table_mark}

-- the highest number of distinct keys of a mark: texts have even marks, threads odd ones
abbrev pub limits_of : Format → ℕ → ℕ
limits_of f mark = pick (eqb (mark % 2) 0) f.highest 255

-- is the limit of the mark's keys
pub mark_limit : (f : Format) (context : ℕ) (key : Key) → limits_of f (2 * context + table_mark key) ≡ limit_of f key
mark_limit f context (text_key bytes) = rw (eq-eqb ((2 * context + 0) % 2) 0 (omega arith))
mark_limit f context (thread_key t) = rw (ne_eqb ((2 * context + 1) % 2) 0 (λ z. omega arith))

-- all limits together are as many as there are slots
pub limits-sum : (f : Format) → sum_to 18 (limits_of f) ≤ table_words f - 18
limits-sum f = omega arith

-- ---- more uses

-- a test beside one that holds
either_true : (a : Bool) → (a || true) ≡ true
either_true true = refl
either_true false = refl

-- the keys of a use's context and table, as a sum
alike-sum : (u : Use) (vs : List Use)
    → alike u vs ≡ sum_by (λ v. cond (same_provider u.provider v.provider && same_table u.key v.key) 1 0) vs
alike-sum u [] = refl
alike-sum u (v ∷ vs) = omega (arith, alike-sum u vs)

-- more uses have no fewer distinct keys of a use's context and table
alike_more : (u : Use) (us vs : List Use) → alike u (keys same_use [] us) ≤ alike u (keys same_use [] (us ++ vs))
alike_more u us vs =
    omega (
      arith,
      alike-sum u (keys same_use [] us),
      alike-sum u (keys same_use [] (us ++ vs)),
      keys_prefix same_use same_use_eq same_use_refl
          (λ v. cond (same_provider u.provider v.provider && same_table u.key v.key) 1 0) [] us vs,
    )

-- a limit that is passed by some uses is passed with more of them
limits_more : (f : Format) (all more us vs : List Use) → passes_limit f all us ≡ true → passes_limit f (all ++ more) (us ++ vs) ≡ true
limits_more f all more [] vs h = absurd (true≢false (sym h))
limits_more f all more (u ∷ us) vs h =
    let limit = limit_of f u.key in
    let before = alike u (keys same_use [] all) in
    let after = alike u (keys same_use [] (all ++ more)) in
    cases (ltb limit before)
    (λ e. rw (lt-ltb limit after (omega (arith, ltb-true limit before e, alike_more u all more))))
    (λ e. rw (limits_more f all more us vs (rw e at h)) (either_true (ltb limit after)))

-- uses that pass a limit pass it with more uses behind them
pub limit_more : (f : Format) (us vs : List Use) → passes_limit f us us ≡ true → passes_limit f (us ++ vs) (us ++ vs) ≡ true
limit_more f us vs h = limits_more f us vs us vs h

-- a limit is passed where it is that of the last use
pub limit_last : (f : Format) (all us : List Use) (u : Use) → ltb (limit_of f u.key) (alike u (keys same_use [] all)) ≡ true
    → passes_limit f all (us ++ (u ∷ [])) ≡ true
limit_last f all [] u h = rw h
limit_last f all (v ∷ us) u h = rw (limit_last f all us u h) (either_true (ltb (limit_of f v.key) (alike v (keys same_use [] all))))
