-- The cheapest way to spell a list of uses: no choice of registrations is cheaper, and the repacking rule attains it. Assumes of the test of
-- sameness, where it is named, that what it calls the same is the same, and a key the same as itself.
use Prim.Native.Nat.{ℕ, ◌+◌, ◌*◌, ◌≤◌, min}
use mathlib.Core.Path.{◌≡◌, refl, ap}
use mathlib.Core.Bool.{Bool, true, false, cond}
use mathlib.Core.List.{[], List, ◌∷◌, ◌++◌}
use native.Mathlib.Omega.{arith}
use lib.Dec.{ltb}
use borrow.Author.Tests.{ltb-true, ltb-false}
use Rattle.words.proofs.Tests.{cases}
use Rattle.registering.specs.Counting.{sum_by, count, member, keys}
use Rattle.registering.proofs.Counting.{fresh, seen_after, sum-add, same_sym, seen_again, split, keys_mono, keys_cong, by_keys, keys_ext}

module _ {K : Type 0} (same : K → K → Bool) where
  -- the least that the uses of one key cost: all of them inline, or one registration
  abbrev pub price : (K → ℕ) → (K → ℕ) → List K → K → ℕ
  price inline register uses k = min (count same k uses * inline k) (register k)

  -- the least that all uses cost: the prices of the distinct keys
  abbrev pub best : (K → ℕ) → (K → ℕ) → List K → ℕ
  best inline register uses = sum_by (price inline register uses) (keys same [] uses)

  -- the rule: a key is registered exactly if that is cheaper than all of its uses inline
  abbrev pub is_cheaper : (K → ℕ) → (K → ℕ) → List K → K → Bool
  is_cheaper inline register uses k = ltb (register k) (count same k uses * inline k)

  -- what a use costs after those seen: a chosen key pays its registration at its first use and nothing later, any other pays each time
  abbrev pub use_cost : (K → ℕ) → (K → ℕ) → (K → Bool) → List K → K → ℕ
  use_cost inline register chosen seen u = cond (chosen u) (fresh same register seen u) (inline u)

  -- what uses cost in their order
  abbrev pub cost_in_order : (K → ℕ) → (K → ℕ) → (K → Bool) → List K → List K → ℕ
  cost_in_order inline register chosen seen [] = 0
  cost_in_order inline register chosen seen (u ∷ us) =
      use_cost inline register chosen seen u + cost_in_order inline register chosen (u ∷ seen) us

module _ {K : Type 0} (same : K → K → Bool) where
  -- the cost of uses in order is that of the first ones and of the others after them
  pub cost_append : (inline register : K → ℕ) (chosen : K → Bool) (seen us vs : List K)
      → cost_in_order same inline register chosen seen (us ++ vs)
      ≡ cost_in_order same inline register chosen seen us + cost_in_order same inline register chosen (seen_after seen us) vs
  cost_append inline register chosen seen [] vs = omega arith
  cost_append inline register chosen seen (u ∷ us) vs = omega (arith, cost_append inline register chosen (u ∷ seen) us vs)

module _ {K : Type 0} (same : K → K → Bool) (same-eq : (a b : K) → same a b ≡ true → a ≡ b)
    (same_refl : (a : K) → same a a ≡ true) where
  member-count : (f : K → ℕ) (k : K) (us : List K) → cond (member same k us) (f k) 0 ≤ count same k us * f k
  member-count f k [] = omega arith
  member-count f k (u ∷ us) =
      cases (same k u)
      (λ e. rw (e, same_sym same same-eq same_refl k u e) (omega arith))
      (λ e. rw e (omega (arith, member-count f k us)))

  -- registrations pay at least once for each distinct key among them
  registered_keys : (f : K → ℕ) (seen us registered : List K)
      → sum_by (λ k. cond (member same k registered) (f k) 0) (keys same seen us) ≤ sum_by (fresh same f seen) registered
  registered_keys f seen [] registered = omega arith
  registered_keys f seen (u ∷ us) registered =
      cases (member same u seen)
      (λ e. rw e (registered_keys f seen us registered))
      (λ e. rw e (omega (arith, split same same-eq same_refl f seen u registered e, member-count f u registered, registered_keys f (u ∷ seen) us registered)))

  -- no choice of registrations is cheaper than the best: whatever is registered, and however often,
  -- the registrations and the uses of all other keys inline cost at least as much
  pub lower : (inline register : K → ℕ) (registered uses : List K)
      → best same inline register uses ≤ sum_by register registered + sum_by (fresh same inline registered) uses
  lower inline register registered uses =
      omega (
        arith,
        keys_mono same same-eq same_refl (price same inline register uses)
            (λ k. cond (member same k registered) (register k) 0 + count same k uses * fresh same inline registered k) [] uses
            (λ k m. cases (member same k registered) (λ e. rw e (omega arith)) (λ e. rw e (omega arith))),
        sum-add (λ k. cond (member same k registered) (register k) 0) (λ k. count same k uses * fresh same inline registered k)
            (keys same [] uses),
        registered_keys register [] uses registered,
        by_keys same same-eq same_refl (fresh same inline registered) [] uses,
      )

  -- uses in order cost a registration for each distinct key that is chosen, and each use of any other
  pub cost_parts : (inline register : K → ℕ) (chosen : K → Bool) (seen us : List K)
      → cost_in_order same inline register chosen seen us
      ≡ sum_by (λ k. cond (chosen k) (register k) 0) (keys same seen us) + sum_by (λ u. cond (chosen u) 0 (inline u)) us
  cost_parts inline register chosen seen [] = refl
  cost_parts inline register chosen seen (u ∷ us) =
      cases (member same u seen)
      (λ e. let same_keys = ap (sum_by registered) (keys_ext same same-eq same_refl (u ∷ seen) seen us (seen_again same same-eq same_refl u seen e)) in
      rw e
      (cases (chosen u)
      (λ q. rw q (omega (arith, cost_parts inline register chosen (u ∷ seen) us, same_keys)))
      (λ q. rw q (omega (arith, cost_parts inline register chosen (u ∷ seen) us, same_keys)))))
      (λ e. rw e
      (cases (chosen u)
      (λ q. rw q (omega (arith, cost_parts inline register chosen (u ∷ seen) us)))
      (λ q. rw q (omega (arith, cost_parts inline register chosen (u ∷ seen) us)))))
    where
      registered : K → ℕ
      registered k = cond (chosen k) (register k) 0

  -- the rule attains the best
  pub attained : (inline register : K → ℕ) (uses : List K)
      → cost_in_order same inline register (is_cheaper same inline register uses) [] uses ≡ best same inline register uses
  attained inline register uses =
      omega (
        arith,
        cost_parts inline register chosen [] uses,
        by_keys same same-eq same_refl (λ u. cond (chosen u) 0 (inline u)) [] uses,
        sum-add (λ k. cond (chosen k) (register k) 0) (λ k. count same k uses * cond (chosen k) 0 (inline k)) (keys same [] uses),
        keys_cong same same-eq same_refl (λ k. cond (chosen k) (register k) 0 + count same k uses * cond (chosen k) 0 (inline k))
            (price same inline register uses) [] uses point,
      )
    where
      chosen : K → Bool
      chosen = is_cheaper same inline register uses

      point : (k : K) → member same k [] ≡ false
          → cond (chosen k) (register k) 0 + count same k uses * cond (chosen k) 0 (inline k) ≡ price same inline register uses k
      point k m =
          cases (chosen k)
          (λ e. rw e (omega (arith, ltb-true (register k) (count same k uses * inline k) e)))
          (λ e. rw e (omega (arith, ltb-false (register k) (count same k uses * inline k) e)))
