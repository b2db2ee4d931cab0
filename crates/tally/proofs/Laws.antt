-- What the code needs of the slots' definitions: labels, when two keys differ, and one turn of a search.
-- Assumes nothing.
use Prim.Native.Nat.{ℕ, zero, suc, ◌+◌, ◌-◌, ◌*◌, ◌/◌, ◌%◌, ◌<◌}
use mathlib.Core.Path.{◌≡◌, refl, sym, ap, ◌∙◌}
use mathlib.Core.List.{List}
use mathlib.Core.Bool.{true, false}
use native.Mathlib.Omega.{arith}
use borrow.Author.Tests.{eq-eqb, ne_eqb}
use Rattle.words.specs.Word.{pick}
use Rattle.words.specs.Stream.{same_bytes}
use Rattle.words.proofs.Same.{same_refl}
use Rattle.tally.specs.declared.Slot.{Slot}
use Rattle.tally.specs.declared.Slot.TheVariants.{Here, Free, Full}
use Rattle.tally.specs.Models.Slots.{label_of, key_of, place_at, is_free, key_at, next_of, probe, seek, find_of}
use Rattle.tally.specs.Models.Tally.{Wide}
use Rattle.tally.proofs.Probing.{found-low}

-- ---- labels

-- the mark that a label holds
pub label_mark : (context table long : ℕ) → long < 65536 → label_of context table long / 65536 ≡ 2 * context + (table - 2)
unfolding label_of
label_mark context table long h = omega arith

-- and the length that it holds
pub label-long : (context table long : ℕ) → long < 65536 → label_of context table long % 65536 ≡ long
unfolding label_of
label-long context table long h = omega arith

-- labels are equal only in one context, for one table and one length
pub label_one : (context context' table table' long long' : ℕ) → long < 65536 → long' < 65536 → table - 2 < 2 → table' - 2 < 2
    → label_of context table long ≡ label_of context' table' long' → (context ≡ context') × (table - 2 ≡ table' - 2)
label_one context context' table table' long long' h h' k k' e =
    let m = label_mark context table long h in
    let m' = label_mark context' table' long' h' in
    let same : label_of context table long / 65536 ≡ label_of context' table' long' / 65536 = ap (λ (n : ℕ). n / 65536) e in
    (omega arith, omega arith)

-- keys with different labels are different
pub label_differs : (archive : List ℕ) (p a q b : ℕ) → (a ≡ b → ⊥) → same_bytes (key_of archive p a) (key_of archive q b) ≡ false
label_differs archive p a q b differ = rw (ne_eqb a b differ)

-- keys with one label at one place are the same
pub place_same : (archive : List ℕ) (p a q b : ℕ) → p ≡ q → a ≡ b → same_bytes (key_of archive p a) (key_of archive q b) ≡ true
place_same archive p a q b e f = rw (e, f) (same_refl (key_of archive q b))

-- ---- a search

-- a search of no slots finds none
pub seek-none : (archive : List ℕ) (stretch : ℕ) (slots key : List ℕ) (s : ℕ) → seek archive stretch slots key 0 s ≡ Full
unfolding seek probe
seek-none archive stretch slots key s = refl

-- one turn of a search: the slot is free, or has the key, or the search goes on behind it
seek_turn : (archive : List ℕ) (stretch : ℕ) (slots key : List ℕ) (left s : ℕ) → 0 < left → seek archive stretch slots key left s
    ≡ pick (is_free slots s) (Free s)
    (pick (same_bytes (key_at archive stretch slots s) key) (Here s) (seek archive stretch slots key (left - 1) (next_of (stretch - 18) s)))
unfolding seek probe
seek_turn archive stretch slots key zero s more = absurd (omega arith)
seek_turn archive stretch slots key (suc n) s more = let e : suc n - 1 ≡ n = omega arith in rw e

module _ (archive : List ℕ) (stretch : ℕ) (slots key : List ℕ) (left s : ℕ) (more : 0 < left) where
  -- a free slot ends it
  pub seek-free : place_at slots s ≡ 0 → seek archive stretch slots key left s ≡ Free s
  seek-free e = seek_turn archive stretch slots key left s more ∙ rw (eq-eqb (place_at slots s) 0 e)

  -- the key's slot ends it
  pub seek_here : (place_at slots s ≡ 0 → ⊥) → same_bytes (key_at archive stretch slots s) key ≡ true → seek archive stretch slots key left s ≡ Here s
  seek_here taken e = seek_turn archive stretch slots key left s more ∙ rw (ne_eqb (place_at slots s) 0 taken, e)

  -- a slot of another key does not
  pub seek-on : (place_at slots s ≡ 0 → ⊥) → same_bytes (key_at archive stretch slots s) key ≡ false → (next : ℕ) → next ≡ next_of (stretch - 18) s
      → seek archive stretch slots key left s ≡ seek archive stretch slots key (left - 1) next
  seek-on taken e next q = seek_turn archive stretch slots key left s more ∙ rw (ne_eqb (place_at slots s) 0 taken, e, q)

module _ {stretch : ℕ} {slots : List ℕ} {slot : Slot} {s : ℕ} (archive key : List ℕ) (wide : Wide stretch slots)
    (found : slot ≡ find_of archive stretch slots key) where
  -- the slot where a key was found is one of the slots
  pub here_below : slot ≡ Here s → s < stretch - 18
  here_below e = found-low archive stretch slots key wide.some (Here s) (sym found ∙ e)

  -- and so is the free slot where it would go
  pub free_below : slot ≡ Free s → s < stretch - 18
  free_below e = found-low archive stretch slots key wide.some (Free s) (sym found ∙ e)
