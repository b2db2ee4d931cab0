-- Sums over the slots of a table and over marks, and the distinct keys of a mark. Assumes nothing.
use Prim.Native.Nat.{ℕ, zero, suc, ◌+◌, ◌<◌, ◌≤◌, min}
use mathlib.Core.Path.{◌≡◌, refl, sym, ap, ◌∙◌}
use mathlib.Core.List.{[], List, ◌∷◌}
use mathlib.Core.Bool.{Bool, true, false, cond, ◌||◌}
use native.Mathlib.Omega.{arith}
use lib.Dec.{eqb}
use borrow.Author.Tests.{eqb-true, eqb-false, eq-eqb, ne_eqb}
use Rattle.words.specs.Word.{pick}
use Rattle.words.specs.Stream.{same_bytes}
use Rattle.words.proofs.Same.{same_true, same_refl}
use Rattle.words.proofs.Tests.{cases}
use Rattle.registering.specs.Counting.{sum_by, count, member, keys}
use Rattle.registering.proofs.Counting.{cover, keys_more, keys-counts, member-used, keys-member, seen_head}
use Rattle.tally.specs.Models.Slots.{key_mark, sum_to}
use Rattle.tally.specs.Models.Tally.{distinct}

-- ---- sums up to a number

-- equal numbers have equal sums
pub sum_alike : (n : ℕ) (f g : ℕ → ℕ) → ((s : ℕ) → s < n → f s ≡ g s) → sum_to n f ≡ sum_to n g
sum_alike zero f g h = refl
sum_alike (suc n) f g h = omega (arith, sum_alike n f g (λ s l. h s (omega arith)), h n (omega arith))

-- a sum of zeros is 0
sum-none : (n : ℕ) (f : ℕ → ℕ) → ((s : ℕ) → s < n → f s ≡ 0) → sum_to n f ≡ 0
sum-none zero f h = refl
sum-none (suc n) f h = omega (arith, sum-none n f (λ s l. h s (omega arith)), h n (omega arith))

-- a sum of ones is their number
pub sum_ones : (n : ℕ) → sum_to n (λ s. 1) ≡ n
sum_ones zero = refl
sum_ones (suc n) = omega (arith, sum_ones n)

-- a sum of sums is the sum of both
sum_both : (n : ℕ) (f g : ℕ → ℕ) → sum_to n (λ s. f s + g s) ≡ sum_to n f + sum_to n g
sum_both zero f g = refl
sum_both (suc n) f g = omega (arith, sum_both n f g)

-- where no number is above its bound, no sum is
sum_bounds : (n : ℕ) (f bounds : ℕ → ℕ) → ((s : ℕ) → s < n → f s ≤ bounds s) → sum_to n f ≤ sum_to n bounds
sum_bounds zero f bounds h = omega arith
sum_bounds (suc n) f bounds h = omega (arith, sum_bounds n f bounds (λ s l. h s (omega arith)), h n (omega arith))

-- and where the sum is at its bound, each number is
pub at_bounds : (n : ℕ) (f bounds : ℕ → ℕ) → ((s : ℕ) → s < n → f s ≤ bounds s) → sum_to n bounds ≤ sum_to n f
    → (s : ℕ) → s < n → f s ≡ bounds s
at_bounds zero f bounds h g s l = absurd (omega arith)
at_bounds (suc n) f bounds h g s l =
    let last = h n (omega arith) in
    let others = sum_bounds n f bounds (λ x y. h x (omega arith)) in
    cases (eqb s n)
    (λ e. rw (eqb-true s n e) (omega arith))
    (λ e. let i = eqb-false s n e in at_bounds n f bounds (λ x y. h x (omega arith)) (omega arith) s (omega arith))

-- of the numbers below n one is x
sum_one : (n x : ℕ) → x < n → sum_to n (λ s. cond (eqb x s) 1 0) ≡ 1
sum_one zero x h = absurd (omega arith)
sum_one (suc n) x h =
    cases (eqb x n)
    (λ e. let i = eqb-true x n e in
    rw e (omega (arith, sum-none n (λ s. cond (eqb x s) 1 0) (λ s l. rw (ne_eqb x s (λ q. omega arith))))))
    (λ e. let i = eqb-false x n e in rw e (omega (arith, sum_one n x (omega arith))))

-- ---- keys in slots

-- the keys of the slots below a number that are not free
abbrev pub held : (ℕ → Bool) → (ℕ → List ℕ) → ℕ → List (List ℕ)
held free key zero = []
held free key (suc n) = pick (free n) (held free key n) (key n ∷ held free key n)

module _ (free : ℕ → Bool) (key : ℕ → List ℕ) where
  -- a sum over the slots is a sum over their keys
  held_sum : (f : List ℕ → ℕ) (n : ℕ) → sum_to n (λ s. pick (free s) 0 (f (key s))) ≡ sum_by f (held free key n)
  held_sum f zero = refl
  held_sum f (suc n) = cases (free n) (λ e. rw e (omega (arith, held_sum f n))) (λ e. rw e (omega (arith, held_sum f n)))

  -- a key in no slot is not held
  pub held_none : (k : List ℕ) (n : ℕ) → ((s : ℕ) → s < n → free s ≡ false → same_bytes (key s) k ≡ false)
      → count same_bytes k (held free key n) ≡ 0
  held_none k zero h = refl
  held_none k (suc n) h =
      cases (free n)
      (λ e. rw e (held_none k n (λ s l. h s (omega arith))))
      (λ e. rw (e, h n (omega arith) e) (omega (arith, held_none k n (λ s l. h s (omega arith)))))

  -- a key in one slot is held once
  pub held_once : (k : List ℕ) (s n : ℕ) → s < n → free s ≡ false → same_bytes (key s) k ≡ true
      → ((x : ℕ) → x < n → (x ≡ s → ⊥) → free x ≡ false → same_bytes (key x) k ≡ false) → count same_bytes k (held free key n) ≡ 1
  held_once k s zero l f q h = absurd (omega arith)
  held_once k s (suc n) l f q h =
      cases (eqb s n)
      (λ e. let i = eqb-true s n e in
      rw (← i, f, q) (omega (arith, held_none k s (λ x g. h x (omega arith) (λ z. omega arith)))))
      (λ e. let i = eqb-false s n e in
      let r = held_once k s n (omega arith) f q (λ x g. h x (omega arith)) in
      cases (free n) (λ p. rw p r) (λ p. rw (p, h n (omega arith) (λ z. i (sym z)) p) (omega arith)))

  -- where the slots hold each key that was used once, and no other, a sum over them is a sum over the distinct keys
  pub held_keys : (n : ℕ) (us : List (List ℕ)) → ((k : List ℕ) → count same_bytes k (held free key n) ≡ min 1 (count same_bytes k us))
      → (f : List ℕ → ℕ) → sum_to n (λ s. pick (free s) 0 (f (key s))) ≡ sum_by f (keys same_bytes [] us)
  held_keys n us h f = held_sum f n ∙ cover same_bytes same_true same_refl f [] us (held free key n) (λ k m. h k)

-- ---- the distinct keys of a mark

-- a use of a key that was used adds no distinct key
pub distinct_old : (mark : ℕ) (key : List ℕ) (us : List (List ℕ)) → 0 < count same_bytes key us → distinct mark (key ∷ us) ≡ distinct mark us
distinct_old mark key us h =
    let one : min 1 (count same_bytes key us) ≡ 1 = omega arith in
    let more = rw one at (keys_more same_bytes same_true same_refl (λ k. cond (eqb (key_mark k) mark) 1 0) key us) in
    omega arith

-- the first use of a key adds it to the distinct keys of a mark if it is of that mark
distinct-first : (mark : ℕ) (key : List ℕ) (us : List (List ℕ)) → count same_bytes key us ≡ 0
    → distinct mark (key ∷ us) ≡ cond (eqb (key_mark key) mark) 1 0 + distinct mark us
distinct-first mark key us h =
    let none : min 1 (count same_bytes key us) ≡ 0 = omega arith in
    let more = rw none at (keys_more same_bytes same_true same_refl (λ k. cond (eqb (key_mark k) mark) 1 0) key us) in
    omega arith

-- the first use of a key adds it to the distinct keys of its mark
pub distinct-own : (mark : ℕ) (key : List ℕ) (us : List (List ℕ)) → count same_bytes key us ≡ 0 → key_mark key ≡ mark
    → distinct mark (key ∷ us) ≡ 1 + distinct mark us
distinct-own mark key us h e =
    omega (arith, distinct-first mark key us h, ap (λ (b : Bool). cond {A = ℕ} b 1 0) (eq-eqb (key_mark key) mark e))

-- and to those of no other
pub distinct_other : (mark : ℕ) (key : List ℕ) (us : List (List ℕ)) → count same_bytes key us ≡ 0 → (key_mark key ≡ mark → ⊥)
    → distinct mark (key ∷ us) ≡ distinct mark us
distinct_other mark key us h n =
    omega (arith, distinct-first mark key us h, ap (λ (b : Bool). cond {A = ℕ} b 1 0) (ne_eqb (key_mark key) mark n))

-- the distinct keys do not depend on the order of the uses
pub distinct-alike : (mark : ℕ) (us vs : List (List ℕ)) → ((key : List ℕ) → count same_bytes key us ≡ count same_bytes key vs)
    → distinct mark us ≡ distinct mark vs
distinct-alike mark us vs h = keys-counts same_bytes same_true same_refl (λ key. cond (eqb (key_mark key) mark) 1 0) us vs h

-- keys counted by marks are all keys
by_marks : (n : ℕ) (ks : List (List ℕ)) → ((key : List ℕ) → member same_bytes key ks ≡ true → key_mark key < n)
    → sum_to n (λ mark. sum_by (λ key. cond (eqb (key_mark key) mark) 1 0) ks) ≡ sum_by (λ key. 1) ks
by_marks n [] h = sum-none n (λ mark. 0) (λ s l. refl)
by_marks n (k ∷ ks) h =
    omega (
      arith,
      sum_both n (λ mark. cond (eqb (key_mark k) mark) 1 0) (λ mark. sum_by (λ key. cond (eqb (key_mark key) mark) 1 0) ks),
      sum_one n (key_mark k) (h k (seen_head same_bytes same_true same_refl k ks)),
      by_marks n ks (λ key m. h key (or_right (same_bytes key k) (member same_bytes key ks) m)),
    )
  where
    or_right : (a b : Bool) → b ≡ true → (a || b) ≡ true
    or_right true b e = refl
    or_right false b e = e

-- where all marks are below n, the distinct keys of the marks are all distinct keys
pub distinct-sum : (n : ℕ) (us : List (List ℕ)) → ((key : List ℕ) → 0 < count same_bytes key us → key_mark key < n)
    → sum_to n (λ mark. distinct mark us) ≡ sum_by (λ key. 1) (keys same_bytes [] us)
distinct-sum n us h =
    by_marks n (keys same_bytes [] us)
    (λ key m. h key (member-used same_bytes same_true same_refl key us (sym (keys-member same_bytes same_true same_refl key us) ∙ m)))
