-- Laws of a search for a key in the slots of a table: what it finds is so, and it goes on to find it when other words change. Assumes nothing.
use Prim.Native.Nat.{ℕ, zero, suc, ◌+◌, ◌-◌, ◌*◌, ◌/◌, ◌^◌, ◌<◌}
use mathlib.Core.Path.{◌≡◌, refl, ap, subst, ◌∙◌}
use mathlib.Core.List.{List}
use mathlib.Core.Bool.{Bool, true, false}
use mathlib.Core.Logic.{◌⊎◌, inl, inr, ⊎_elim}
use native.Mathlib.Omega.{arith}
use native.Mathlib.Nat.{mod-lt, mul-lt-mul_of_pos_right, div-lt_iff_lt-mul}
use lib.Dec.{ltb}
use lib.Pow.{pow_pos}
use borrow.Author.Tests.{ltb-true, ltb-false}
use Rattle.words.specs.Stream.{same_bytes}
use Rattle.words.proofs.Same.{same_true, same_refl}
use Rattle.words.proofs.Tests.{cases}
use Rattle.hashing.specs.Models.Hash.{folded_of}
use Rattle.tally.specs.declared.Slot.{Slot}
use Rattle.tally.specs.declared.Slot.TheVariants.{Here, Free, Full}
use Rattle.tally.specs.Models.Slots.{place_at, label_at, is_free, key_at, start_of, next_of, probe, seek, find_of}

-- ---- searches by two tests

-- the slot after a slot is a slot
pub next_low : (capacity s : ℕ) → s < capacity → next_of capacity s < capacity
unfolding next_of
next_low capacity s h = cases (ltb (s + 1) capacity) (λ e. rw e (ltb-true (s + 1) capacity e)) (λ e. rw e (omega arith))

-- what it means that a slot is found
abbrev Right : (ℕ → Bool) → (ℕ → Bool) → ℕ → Slot → Type 0
Right free mine capacity (Here s) = (s < capacity) × (free s ≡ false) × (mine s ≡ true)
Right free mine capacity (Free s) = (s < capacity) × (free s ≡ true)
Right free mine capacity Full = Unit {0}

module _ (free mine : ℕ → Bool) (capacity : ℕ) where
  -- what is found is so
  probe_right : (left s : ℕ) → s < capacity → Right free mine capacity (probe free mine capacity left s)
  unfolding probe
  probe_right zero s h = tt
  probe_right (suc left) s h =
      cases (free s)
      (λ e. rw e (h, e))
      (λ e. rw e (cases (mine s) (λ q. rw q (h, e, q)) (λ q. rw q (probe_right left (next_of capacity s) (next_low capacity s h)))))

  -- d slots after a stands s, around the end
  abbrev After : ℕ → ℕ → ℕ → Type 0
  After a d s = (a + d ≡ s) ⊎ (a + d ≡ s + capacity)

  -- one slot on, the distance is one less
  next_after : (a d s : ℕ) → a < capacity → s < capacity → After a (suc d) s → After (next_of capacity a) d s
  unfolding next_of
  next_after a d s h g w =
      cases (ltb (a + 1) capacity)
      (λ e. rw e (⊎_elim (λ q. inl (omega arith)) (λ q. inr (omega arith)) w))
      (λ e. let l = ltb-false (a + 1) capacity e in rw e (⊎_elim (λ q. absurd (omega arith)) (λ q. inl (omega arith)) w))

  -- where a search ends without a slot, no slot that it passed is free
  passed_taken : (left a : ℕ) → a < capacity → probe free mine capacity left a ≡ Full → (d s : ℕ) → d < left → s < capacity → After a d s → free s ≡ false
  unfolding probe
  passed_taken zero a h e d s l g w = absurd (omega arith)
  passed_taken (suc left) a h e zero s l g w =
      let i : a ≡ s = ⊎_elim (λ q. omega arith) (λ q. omega arith) w in
      cases (free a) (λ p. cc (rw p at e)) (λ p. rw (← i) p)
  passed_taken (suc left) a h e (suc d) s l g w =
      cases (free a)
      (λ p. cc (rw p at e))
      (λ p. cases (mine a)
      (λ q. cc (rw (p, q) at e))
      (λ q. passed_taken left (next_of capacity a) (next_low capacity a h) (rw (p, q) at e) d s (omega arith) g (next_after a d s h g w)))

  -- where a search of all slots ends without one, no slot is free
  all_taken : (a : ℕ) → a < capacity → probe free mine capacity capacity a ≡ Full → (s : ℕ) → s < capacity → free s ≡ false
  all_taken a h e s g =
      cases (ltb s a)
      (λ p. let l = ltb-true s a p in passed_taken capacity a h e (s + capacity - a) s (omega arith) g (inr (omega arith)))
      (λ p. let l = ltb-false s a p in passed_taken capacity a h e (s - a) s (omega arith) g (inl (omega arith)))

-- slots of which each that was taken holds what it held
module _ (free mine free' mine' : ℕ → Bool) (capacity : ℕ)
    (stay : (s : ℕ) → s < capacity → free s ≡ false → (free' s ≡ false) × (mine' s ≡ mine s)) where
  -- what was found is found
  probe_still : (left a s : ℕ) → a < capacity → probe free mine capacity left a ≡ Here s → probe free' mine' capacity left a ≡ Here s
  unfolding probe
  probe_still zero a s h e = e
  probe_still (suc left) a s h e =
      cases (free a)
      (λ p. cc (rw p at e))
      (λ p. cases (mine a)
      (λ q. rw ((stay a h p).0, (stay a h p).1, q) (rw (p, q) at e))
      (λ q. rw ((stay a h p).0, (stay a h p).1, q) (probe_still left (next_of capacity a) s (next_low capacity a h) (rw (p, q) at e))))

  -- the free slot that was found is found, once it is mine
  probe_taken : (left a s : ℕ) → a < capacity → free' s ≡ false → mine' s ≡ true → probe free mine capacity left a ≡ Free s
      → probe free' mine' capacity left a ≡ Here s
  unfolding probe
  probe_taken zero a s h f m e = cc
  probe_taken (suc left) a s h f m e =
      cases (free a)
      (λ p. let q : a ≡ s = cc (rw p at e) in rw (q, f, m))
      (λ p. cases (mine a)
      (λ q. cc (rw (p, q) at e))
      (λ q. rw ((stay a h p).0, (stay a h p).1, q) (probe_taken left (next_of capacity a) s (next_low capacity a h) f m (rw (p, q) at e))))

-- slots of which the same are free, and the others alike, are searched alike
probe-alike : (free mine free' mine' : ℕ → Bool) (capacity : ℕ)
    → ((s : ℕ) → s < capacity → (free' s ≡ free s) × (free s ≡ false → mine' s ≡ mine s))
    → (left a : ℕ) → a < capacity → probe free' mine' capacity left a ≡ probe free mine capacity left a
unfolding probe
probe-alike free mine free' mine' capacity alike zero a h = refl
probe-alike free mine free' mine' capacity alike (suc left) a h =
    cases (free a)
    (λ e. rw ((alike a h).0, e))
    (λ e. rw ((alike a h).0, e, (alike a h).1 e, probe-alike free mine free' mine' capacity alike left (next_of capacity a) (next_low capacity a h)))

-- ---- the search for a key in a table

-- a number below 2 ^ 32, scaled down to the slots, is a slot
scaled_low : (mixed capacity : ℕ) → mixed < 2 ^ 32 → 0 < capacity → mixed * capacity / 2 ^ 32 < capacity
scaled_low mixed capacity h some = (div-lt_iff_lt-mul (pow_pos 32)).1 (omega (arith, mul-lt-mul_of_pos_right h some))

-- a key's first slot is a slot
pub start_low : (capacity : ℕ) (key : List ℕ) → 0 < capacity → start_of capacity key < capacity
unfolding start_of folded_of
start_low capacity key h = scaled_low _ capacity (mod-lt _ (pow_pos 32)) h

-- a slot that stands before the last 18 words of a stretch
abbrev pub Low : ℕ → Slot → Type 0
Low stretch (Here s) = s < stretch - 18
Low stretch (Free s) = s < stretch - 18
Low stretch Full = Unit {0}

module _ (archive : List ℕ) (stretch : ℕ) (slots key : List ℕ) (some : 18 < stretch) where
  -- what the search for a key finds is so
  find_right : (slot : Slot) → find_of archive stretch slots key ≡ slot
      → Right (is_free slots) (λ s. same_bytes (key_at archive stretch slots s) key) (stretch - 18) slot
  unfolding find_of seek
  find_right slot e =
      subst (Right (is_free slots) (λ s. same_bytes (key_at archive stretch slots s) key) (stretch - 18)) e
      (probe_right (is_free slots) (λ s. same_bytes (key_at archive stretch slots s) key) (stretch - 18) (stretch - 18)
      (start_of (stretch - 18) key) (start_low (stretch - 18) key (omega arith)))

  -- a slot that is found stands before the last 18 words of a stretch
  pub found-low : (slot : Slot) → find_of archive stretch slots key ≡ slot → Low stretch slot
  found-low (Here s) e = (find_right (Here s) e).0
  found-low (Free s) e = (find_right (Free s) e).0
  found-low Full e = tt

  -- the slot found for a key is taken, and holds the key
  pub here_key : (s : ℕ) → find_of archive stretch slots key ≡ Here s → (is_free slots s ≡ false) × (key_at archive stretch slots s ≡ key)
  here_key s e = let r = find_right (Here s) e in (r.1, same_true (key_at archive stretch slots s) key r.2)

  -- the free slot found for a key is free
  pub free_slot : (s : ℕ) → find_of archive stretch slots key ≡ Free s → is_free slots s ≡ true
  free_slot s e = (find_right (Free s) e).1

  -- where there is no slot for a key, none is free
  pub full_slots : find_of archive stretch slots key ≡ Full → (s : ℕ) → s < stretch - 18 → is_free slots s ≡ false
  unfolding find_of seek
  full_slots e s l =
      all_taken (is_free slots) (λ x. same_bytes (key_at archive stretch slots x) key) (stretch - 18) (start_of (stretch - 18) key)
      (start_low (stretch - 18) key (omega arith)) e s l

-- a table of which each slot that was taken holds what it held
module _ (archive : List ℕ) (stretch : ℕ) (slots table' : List ℕ) (some : 18 < stretch)
    (stay : (s : ℕ) → s < stretch - 18 → is_free slots s ≡ false
    → (is_free table' s ≡ false) × (key_at archive stretch table' s ≡ key_at archive stretch slots s)) where
  -- a slot that was taken is still taken, and by the same key
  stay_same : (key : List ℕ) (s : ℕ) → s < stretch - 18 → is_free slots s ≡ false
      → (is_free table' s ≡ false) × (same_bytes (key_at archive stretch table' s) key ≡ same_bytes (key_at archive stretch slots s) key)
  stay_same key s l f = ((stay s l f).0, ap (λ (k : List ℕ). same_bytes k key) (stay s l f).1)

  -- a key that was found is found at its slot
  pub find_still : (key : List ℕ) (s : ℕ) → find_of archive stretch slots key ≡ Here s → find_of archive stretch table' key ≡ Here s
  unfolding find_of seek
  find_still key s e =
      probe_still (is_free slots) (λ x. same_bytes (key_at archive stretch slots x) key)
      (is_free table') (λ x. same_bytes (key_at archive stretch table' x) key)
      (stretch - 18) (stay_same key) (stretch - 18) (start_of (stretch - 18) key) s (start_low (stretch - 18) key (omega arith)) e

  -- a key that was not found is found at the free slot that it was given
  pub find_taken : (key : List ℕ) (s : ℕ) → is_free table' s ≡ false → key_at archive stretch table' s ≡ key
      → find_of archive stretch slots key ≡ Free s → find_of archive stretch table' key ≡ Here s
  unfolding find_of seek
  find_taken key s f k e =
      probe_taken (is_free slots) (λ x. same_bytes (key_at archive stretch slots x) key)
      (is_free table') (λ x. same_bytes (key_at archive stretch table' x) key)
      (stretch - 18) (stay_same key) (stretch - 18) (start_of (stretch - 18) key) s (start_low (stretch - 18) key (omega arith))
      f (ap (λ (x : List ℕ). same_bytes x key) k ∙ same_refl key) e

-- a slot with the same place and label holds the same key
pub key-alike : (archive : List ℕ) (stretch : ℕ) (slots table' : List ℕ) (s : ℕ) → place_at table' s ≡ place_at slots s
    → label_at stretch table' s ≡ label_at stretch slots s → key_at archive stretch table' s ≡ key_at archive stretch slots s
key-alike archive stretch slots table' s p l = rw (p, l)

-- a search reads only the places, and the labels of the slots that are taken
pub find_alike : (archive : List ℕ) (stretch : ℕ) (slots table' : List ℕ) → 18 < stretch
    → ((s : ℕ) → s < stretch - 18
    → (place_at table' s ≡ place_at slots s) × (is_free slots s ≡ false → label_at stretch table' s ≡ label_at stretch slots s))
    → (key : List ℕ) → find_of archive stretch table' key ≡ find_of archive stretch slots key
unfolding find_of seek
find_alike archive stretch slots table' some alike key =
    probe-alike (is_free slots) (λ x. same_bytes (key_at archive stretch slots x) key)
    (is_free table') (λ x. same_bytes (key_at archive stretch table' x) key) (stretch - 18)
    (λ s l. (
      rw (alike s l).0,
      λ f. ap (λ (k : List ℕ). same_bytes k key) (key-alike archive stretch slots table' s (alike s l).0 ((alike s l).1 f)),
    ))
    (stretch - 18) (start_of (stretch - 18) key) (start_low (stretch - 18) key (omega arith))
