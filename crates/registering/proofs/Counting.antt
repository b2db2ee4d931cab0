-- Laws of counting in lists: sums, uses and members, and sums over the distinct keys. Assumes nothing but of a test of sameness, where it is named,
-- that what it calls the same is the same, and a key the same as itself.
use Prim.Native.Nat.{ℕ, ◌+◌, ◌*◌, ◌≤◌, ◌<◌, min}
use mathlib.Core.Path.{◌≡◌, refl, sym, ap, ◌∙◌}
use mathlib.Core.Bool.{Bool, true, false, cond, ◌||◌, true≢false}
use mathlib.Core.List.{[], List, ◌∷◌, ◌++◌}
use native.Mathlib.Omega.{arith}
use native.Mathlib.Nat.{le_antisymm}
use Rattle.words.proofs.Tests.{cases}
use Rattle.registering.specs.Counting.{sum_by, count, member, keys}

module _ {K : Type 0} (same : K → K → Bool) where
  -- a number for each key outside a list, and 0 for its members
  abbrev pub fresh : (K → ℕ) → List K → K → ℕ
  fresh f seen k = cond (member same k seen) 0 (f k)

-- the keys seen after some uses, the latest first
abbrev pub seen_after : {K : Type 0} → List K → List K → List K
seen_after seen [] = seen
seen_after seen (u ∷ us) = seen_after (u ∷ seen) us

-- ---- sums and tests

or_false : (a b : Bool) → (a || b) ≡ false → (a ≡ false) × (b ≡ false)
or_false true b e = absurd (true≢false e)
or_false false b e = (refl, e)

or_true_right : (a : Bool) → (a || true) ≡ true
or_true_right true = refl
or_true_right false = refl

module _ {K : Type 0} where
  -- a sum of sums is the sum of both
  pub sum-add : (f g : K → ℕ) (us : List K) → sum_by (λ k. f k + g k) us ≡ sum_by f us + sum_by g us
  sum-add f g [] = refl
  sum-add f g (k ∷ us) = omega (arith, sum-add f g us)

  -- a sum of multiples is the multiple of the sum
  pub sum_scale : (n : ℕ) (f g : K → ℕ) (us : List K) → ((k : K) → g k ≡ n * f k) → sum_by g us ≡ n * sum_by f us
  sum_scale n f g [] h = omega arith
  sum_scale n f g (k ∷ us) h = omega (arith, h k, sum_scale n f g us h)

  -- the sum over two lists, one behind the other
  pub sum-append : (f : K → ℕ) (us vs : List K) → sum_by f (us ++ vs) ≡ sum_by f us + sum_by f vs
  sum-append f [] vs = omega arith
  sum-append f (u ∷ us) vs = omega (arith, sum-append f us vs)

module _ {K : Type 0} (same : K → K → Bool) where
  -- the uses of a key in two lists, one behind the other
  pub count-append : (k : K) (us vs : List K) → count same k (us ++ vs) ≡ count same k us + count same k vs
  count-append k [] vs = omega arith
  count-append k (u ∷ us) vs = omega (arith, count-append k us vs)

  -- what is seen after some uses is what was seen before and the uses
  pub member_after : (k : K) (seen us : List K) → member same k (seen_after seen us) ≡ (member same k us || member same k seen)
  member_after k seen [] = refl
  member_after k seen (u ∷ us) =
      rw (member_after k (u ∷ seen) us)
      (cases (same k u) (λ e. rw e (or_true_right (member same k us))) (λ e. rw e))

module _ {K : Type 0} (same : K → K → Bool) (same-eq : (a b : K) → same a b ≡ true → a ≡ b)
    (same_refl : (a : K) → same a a ≡ true) where
  -- ---- sameness

  -- sameness goes both ways
  pub same_sym : (a b : K) → same a b ≡ true → same b a ≡ true
  same_sym a b e = rw (same-eq a b e) (same_refl b)

  -- and so does its opposite
  pub differ_sym : (a b : K) → same a b ≡ false → same b a ≡ false
  differ_sym a b h = cases (same b a) (λ e. absurd (true≢false (sym (same_sym b a e) ∙ h))) (λ e. e)

  -- a member is used
  pub member-used : (k : K) (us : List K) → member same k us ≡ true → 0 < count same k us
  member-used k [] m = absurd (true≢false (sym m))
  member-used k (u ∷ us) m =
      cases (same k u)
      (λ e. rw (same_sym k u e) (omega arith))
      (λ e. let m' : member same k us ≡ true = rw e at m in omega (arith, member-used k us m'))

  -- what is no member is not used
  pub unused : (k : K) (us : List K) → member same k us ≡ false → count same k us ≡ 0
  unused k [] m = refl
  unused k (u ∷ us) m =
      let both = or_false (same k u) (member same k us) m in
      rw (differ_sym k u both.0) (omega (arith, unused k us both.1))

  -- the first of a list is a member of it
  pub seen_head : (u : K) (seen : List K) → member same u (u ∷ seen) ≡ true
  seen_head u seen = rw (same_refl u)

  -- a key seen again changes no member
  pub seen_again : (u : K) (seen : List K) → member same u seen ≡ true → (k : K) → member same k (u ∷ seen) ≡ member same k seen
  seen_again u seen m k = cases (same k u) (λ e. rw (e, same-eq k u e, m)) (λ e. rw e)

  -- equal numbers of the members of a list have equal sums
  pub sum_members : (f g : K → ℕ) (us : List K) → ((k : K) → member same k us ≡ true → f k ≡ g k) → sum_by f us ≡ sum_by g us
  sum_members f g [] h = refl
  sum_members f g (u ∷ us) h =
      omega (
        arith,
        h u (seen_head u us),
        sum_members f g us (λ k m. h k (rw m (or_true_right (same k u)))),
      )

  -- ---- sums over the distinct keys

  -- one key taken out of a sum
  pub split : (f : K → ℕ) (seen : List K) (k : K) (us : List K) → member same k seen ≡ false
      → sum_by (fresh same f seen) us ≡ count same k us * f k + sum_by (fresh same f (k ∷ seen)) us
  split f seen k [] h = omega arith
  split f seen k (v ∷ us) h =
      cases (same v k)
      (λ e. rw (e, same-eq v k e, h) (omega (arith, split f seen k us h)))
      (λ e. rw e (omega (arith, split f seen k us h)))

  -- what holds of unseen keys may be used in a sum over the distinct keys
  pub keys_mono : (f g : K → ℕ) (seen us : List K) → ((k : K) → member same k seen ≡ false → f k ≤ g k)
      → sum_by f (keys same seen us) ≤ sum_by g (keys same seen us)
  keys_mono f g seen [] h = omega arith
  keys_mono f g seen (u ∷ us) h =
      cases (member same u seen)
      (λ e. rw e (keys_mono f g seen us h))
      (λ e. rw e (omega (arith, h u e, keys_mono f g (u ∷ seen) us (λ k m. h k (or_false (same k u) (member same k seen) m).1))))

  -- equal numbers of the unseen keys have equal sums over the distinct keys
  pub keys_cong : (f g : K → ℕ) (seen us : List K) → ((k : K) → member same k seen ≡ false → f k ≡ g k)
      → sum_by f (keys same seen us) ≡ sum_by g (keys same seen us)
  keys_cong f g seen us h =
      le_antisymm (keys_mono f g seen us (λ k m. omega (arith, h k m))) (keys_mono g f seen us (λ k m. omega (arith, h k m)))

  -- a use of a seen key counts nothing for an unseen one
  pub count_other : (seen : List K) (u k : K) (us : List K) → member same u seen ≡ true → member same k seen ≡ false
      → count same k (u ∷ us) ≡ count same k us
  count_other seen u k us m n = cases (same u k) (λ e. cc (same-eq u k e)) (λ e. rw e (omega arith))

  sum_other : (f : K → ℕ) (seen : List K) (u : K) (us : List K) → member same u seen ≡ true
      → sum_by (λ k. count same k (u ∷ us) * f k) (keys same seen us) ≡ sum_by (λ k. count same k us * f k) (keys same seen us)
  sum_other f seen u us m = keys_cong _ _ seen us (λ k n. ap (λ (c : ℕ). c * f k) (count_other seen u k us m n))

  -- a sum over the uses of unseen keys, by keys
  pub by_keys : (f : K → ℕ) (seen us : List K)
      → sum_by (fresh same f seen) us ≡ sum_by (λ k. count same k us * f k) (keys same seen us)
  by_keys f seen [] = refl
  by_keys f seen (u ∷ us) =
      cases (member same u seen)
      (λ e. rw e (omega (arith, sum_other f seen u us e, by_keys f seen us)))
      (λ e. rw (e, same_refl u)
      (omega (arith, split f seen u us e, sum_other f (u ∷ seen) u us (seen_head u seen), by_keys f (u ∷ seen) us)))

  -- the distinct keys depend only on which keys are seen
  pub keys_ext : (seen seen' us : List K) → ((k : K) → member same k seen ≡ member same k seen')
      → keys same seen us ≡ keys same seen' us
  keys_ext seen seen' [] h = refl
  keys_ext seen seen' (u ∷ us) h =
      cases (member same u seen')
      (λ e. rw (h u, e) (keys_ext seen seen' us h))
      (λ e. rw (h u, e)
      (ap (λ (r : List K). u ∷ r) (keys_ext (u ∷ seen) (u ∷ seen') us (λ k. ap (λ (b : Bool). same k u || b) (h k)))))

  -- the distinct keys of a list begin with those of its first part; then come those of the rest that are new
  pub keys-append : (seen us vs : List K)
      → keys same seen (us ++ vs) ≡ keys same seen us ++ keys same (seen_after seen us) vs
  keys-append seen [] vs = refl
  keys-append seen (u ∷ us) vs =
      cases (member same u seen)
      (λ e. rw (e, keys-append seen us vs, keys_ext (seen_after (u ∷ seen) us) (seen_after seen us) vs (again e)))
      (λ e. rw (e, keys-append (u ∷ seen) us vs))
    where
      again : member same u seen ≡ true → (k : K) → member same k (seen_after (u ∷ seen) us) ≡ member same k (seen_after seen us)
      again e k = rw (member_after same k (u ∷ seen) us, member_after same k seen us, seen_again u seen e k)

  -- so a sum over the distinct keys of a first part is at most that of the whole list
  pub keys_prefix : (f : K → ℕ) (seen us vs : List K) → sum_by f (keys same seen us) ≤ sum_by f (keys same seen (us ++ vs))
  keys_prefix f seen us vs =
      rw (keys-append seen us vs) (omega (arith, sum-append f (keys same seen us) (keys same (seen_after seen us) vs)))

  -- an unseen key that is used stands once among the distinct keys, any other does not
  pub keys_once : (j : K) (seen us : List K)
      → count same j (keys same seen us) ≡ cond (member same j seen) 0 (min 1 (count same j us))
  keys_once j seen [] = cases (member same j seen) (λ e. rw e) (λ e. rw e)
  keys_once j seen (u ∷ us) =
      cases (member same u seen)
      (λ e. rw (e, keys_once j seen us)
      (cases (member same j seen) (λ p. rw p) (λ p. rw p (ap (min 1) (sym (count_other seen u j us e p))))))
      (λ e. rw (e, keys_once j (u ∷ seen) us)
      (cases (same u j)
      (λ p. let q = same-eq u j p in
      rw (p, ← q, same_refl u, e) (omega arith))
      (λ p. rw (p, differ_sym u j p) (cases (member same j seen) (λ q. rw q (omega arith)) (λ q. rw q (omega arith))))))

  -- the distinct keys have the members of the list
  pub keys-member : (j : K) (us : List K) → member same j (keys same [] us) ≡ member same j us
  keys-member j us =
      cases (member same j us)
      (λ e. let used = member-used j us e in
      cases (member same j (keys same [] us))
      (λ m. rw (m, e))
      (λ m. let z = unused j (keys same [] us) m in absurd (omega (arith, keys_once j [] us))))
      (λ e. let none = unused j us e in
      cases (member same j (keys same [] us))
      (λ m. let used = member-used j (keys same [] us) m in absurd (omega (arith, keys_once j [] us)))
      (λ m. rw (m, e)))

  none_left : (f : K → ℕ) (seen others before : List K)
      → ((k : K) → member same k seen ≡ false → count same k others + count same k before ≡ 0)
      → sum_by (fresh same f seen) others ≡ 0
  none_left f seen [] before h = refl
  none_left f seen (o ∷ others) before h =
      cases (member same o seen)
      (λ e. rw e (omega (arith, none_left f seen others (o ∷ before) (λ k m. omega (arith, h k m)))))
      (λ e. let z = rw (same_refl o) at (h o e) in absurd (omega arith))

  -- any list that has each unseen key of the uses once gives the sum over their distinct keys
  pub cover : (f : K → ℕ) (seen us others : List K)
      → ((k : K) → member same k seen ≡ false → count same k others ≡ min 1 (count same k us))
      → sum_by (fresh same f seen) others ≡ sum_by f (keys same seen us)
  cover f seen [] others h = none_left f seen others [] (λ k m. omega (arith, h k m))
  cover f seen (u ∷ us) others h =
      cases (member same u seen)
      (λ e. rw e (cover f seen us others (λ k m. omega (arith, h k m, count_other seen u k us e m))))
      (λ e. let one = rw (same_refl u) at (h u e) in
      let c : count same u others ≡ 1 = omega arith in
      let r = cover f (u ∷ seen) us others
      (λ k m. omega (arith, h k (or_false (same k u) (member same k seen) m).1, count_other (u ∷ seen) u k us (seen_head u seen) m)) in
      rw e (omega (arith, split f seen u others e, r, ap (λ (c : ℕ). c * f u) c)))

  -- a sum over the distinct keys depends only on which keys are used, not on their order
  pub keys-counts : (f : K → ℕ) (us vs : List K) → ((k : K) → count same k us ≡ count same k vs)
      → sum_by f (keys same [] us) ≡ sum_by f (keys same [] vs)
  keys-counts f us vs h = cover f [] vs (keys same [] us) (λ k m. rw (keys_once k [] us, h k))

  -- one use more adds its key to a sum over the distinct keys exactly if it is new
  pub keys_more : (f : K → ℕ) (k : K) (us : List K)
      → sum_by f (keys same [] (k ∷ us)) + min 1 (count same k us) * f k ≡ f k + sum_by f (keys same [] us)
  keys_more f k us =
      let r = cover f (k ∷ []) us (keys same [] us) (λ j m. keys_once j [] us) in
      omega (arith, split f [] k (keys same [] us) refl, r, ap (λ (c : ℕ). c * f k) (keys_once k [] us))
