-- Slots that are taken stay so, each with its key, where a use is counted or a slot remembered: what a search found it finds again. Assumes nothing.
use Rattle.std.specs.Prelude.{Option, Some, None}
use Rattle.std.proofs.lemmas.Option.{none-some, same_Some}
use Prim.Native.Nat.{ℕ, ◌+◌, ◌-◌, ◌*◌, ◌/◌, ◌<◌}
use mathlib.Core.Path.{◌≡◌, refl, sym, ap, ◌∙◌}
use mathlib.Core.List.{List}
use mathlib.Core.Bool.{true, false, true≢false}
use native.Mathlib.Omega.{arith}
use lib.Dec.{eqb, ltb}
use lib.ListN.{get_or}
use lib.Seq.{get_or-set_same, get_or-set_other, set-get_or}
use borrow.Author.Tests.{eqb-true, eqb-false, ne_eqb}
use Rattle.words.proofs.Tests.{cases}
use Rattle.tally.specs.declared.Slot.{Slot}
use Rattle.tally.specs.declared.Slot.TheVariants.{Here, Free, Full}
use Rattle.tally.specs.Models.Slots.{key_of, place_in, with_uses, place_at, label_at, uses_at, is_free, key_at, find_of, raised, count_at, used_again, filled, slot_word, slot_of_word, remembered_at, remembering, added_slot, added}
use Rattle.tally.specs.Models.Tally.{Wide}
use Rattle.tally.proofs.Probing.{found-low, free_slot, find_still, find_taken, find_alike, key-alike}
use Rattle.tally.proofs.Frames.{same_label, filled_other, filled-place, filled-label}

-- each slot that is taken in one table is taken in another, by the same key
abbrev pub Stay : List ℕ → ℕ → List ℕ → List ℕ → Type 0
Stay archive stretch slots after =
    (x : ℕ) → x < stretch - 18 → is_free slots x ≡ false
    → (is_free after x ≡ false) × (key_at archive stretch after x ≡ key_at archive stretch slots x)

-- ---- one use more of a key that has a slot

module _ (archive : List ℕ) (stretch : ℕ) (slots : List ℕ) (wide : Wide stretch slots) (s : ℕ) (low : s < stretch - 18) where
  -- the slot's second word after it
  abbrev used_word : ℕ
  used_word = with_uses (raised (uses_at stretch slots s)) (get_or slots (stretch + s) 0)

  -- it is the one written
  pub used-word : get_or (used_again stretch slots s) (stretch + s) 0 ≡ used_word
  used-word = get_or-set_same slots (stretch + s) used_word 0 (omega (arith, wide.long))

  -- any other word is as it was
  pub used_other : (i : ℕ) → (i ≡ stretch + s → ⊥) → get_or (used_again stretch slots s) i 0 ≡ get_or slots i 0
  used_other i n = get_or-set_other slots (stretch + s) i used_word 0 n

  -- so each slot has its place
  pub used-place : (x : ℕ) → x < stretch → place_at (used_again stretch slots s) x ≡ place_at slots x
  used-place x g = ap place_in (used_other x (λ q. omega arith))

  -- and its label
  pub used-label : (x : ℕ) → x < stretch - 18 → label_at stretch (used_again stretch slots s) x ≡ label_at stretch slots x
  used-label x g =
      cases (eqb x s)
      (λ q. let i = eqb-true x s q in
      rw (used_other x (λ z. omega arith), i, used-word) (same_label (get_or slots s 0) (raised (uses_at stretch slots s)) (get_or slots (stretch + s) 0)))
      (λ q. let n = eqb-false x s q in rw (used_other x (λ z. omega arith), used_other (stretch + x) (λ z. n (omega arith))))

  -- so slots stay
  pub used_stay : Stay archive stretch slots (used_again stretch slots s)
  used_stay x g f = (
    ap (λ (p : ℕ). eqb p 0) (used-place x (omega arith)) ∙ f,
    key-alike archive stretch slots (used_again stretch slots s) x (used-place x (omega arith)) (used-label x g),
  )

-- ---- the first use of a key, in a free slot

module _ (archive : List ℕ) (stretch : ℕ) (slots : List ℕ) (wide : Wide stretch slots) (place label s : ℕ) (some : 0 < place)
    (small : place < 16777216) (mark : label / 65536 < 18) (low : s < stretch - 18) (free : is_free slots s ≡ true) where
  -- the slot is taken
  pub filled_taken : is_free (filled stretch slots place label s) s ≡ false
  filled_taken = rw (filled-place stretch slots place label s low mark wide small) (ne_eqb place 0 (λ z. omega arith))

  -- by the key
  pub filled-key : key_at archive stretch (filled stretch slots place label s) s ≡ key_of archive place label
  filled-key = rw (filled-place stretch slots place label s low mark wide small, filled-label stretch slots place label s low mark wide small)

  -- every other slot has its two words
  pub filled-words : (x : ℕ) → x < stretch - 18 → (x ≡ s → ⊥)
      → (get_or (filled stretch slots place label s) x 0 ≡ get_or slots x 0)
      × (get_or (filled stretch slots place label s) (stretch + x) 0 ≡ get_or slots (stretch + x) 0)
  filled-words x g n = (
    filled_other stretch slots place label s low mark x n (λ q. omega arith) (λ q. omega arith),
    filled_other stretch slots place label s low mark (stretch + x) (λ q. omega (arith, low)) (λ q. n (omega arith)) (λ q. omega arith),
  )

  -- so slots stay
  pub filled_stay : Stay archive stretch slots (filled stretch slots place label s)
  filled_stay x g f =
      let n : x ≡ s → ⊥ = λ i. true≢false (sym free ∙ ap (is_free slots) (sym i) ∙ f) in
      let w = filled-words x g n in (
        rw w.0 f,
        key-alike archive stretch slots (filled stretch slots place label s) x (ap place_in w.0) (rw (w.0, w.1)),
      )

-- ---- a use of any key

module _ (archive : List ℕ) (stretch : ℕ) (slots : List ℕ) (wide : Wide stretch slots) (place label most : ℕ) (some : 0 < place)
    (small : place < 16777216) (mark : label / 65536 < 18) where
  -- slots stay, whatever was found for it
  added_stay : (slot : Slot) → find_of archive stretch slots (key_of archive place label) ≡ slot
      → Stay archive stretch slots (added stretch slots place label most slot)
  added_stay (Here s) e = used_stay archive stretch slots wide s (found-low archive stretch slots (key_of archive place label) wide.some (Here s) e)
  added_stay (Free s) e =
      cases (ltb (count_at stretch slots label) most)
      (λ q. rw q (filled_stay archive stretch slots wide place label s some small mark
      (found-low archive stretch slots (key_of archive place label) wide.some (Free s) e)
      (free_slot archive stretch slots (key_of archive place label) wide.some s e)))
      (λ q. rw q (λ x g f. (f, refl)))
  added_stay Full e = λ x g f. (f, refl)

  -- so a key that was found is found at its slot
  pub added_still : (key : List ℕ) (s : ℕ) → find_of archive stretch slots key ≡ Here s
      → find_of archive stretch (added stretch slots place label most (find_of archive stretch slots (key_of archive place label))) key ≡ Here s
  added_still key s e =
      find_still archive stretch slots _ wide.some (added_stay (find_of archive stretch slots (key_of archive place label)) refl) key s e

  -- and the key that was used is found at the slot that is answered
  pub added-found : (s : ℕ) → added_slot stretch slots label most (find_of archive stretch slots (key_of archive place label)) ≡ Some s
      → find_of archive stretch (added stretch slots place label most (find_of archive stretch slots (key_of archive place label))) (key_of archive place label)
      ≡ Here s
  added-found s = go (find_of archive stretch slots (key_of archive place label)) refl
    where
      key : List ℕ
      key = key_of archive place label

      go : (slot : Slot) → find_of archive stretch slots key ≡ slot → added_slot stretch slots label most slot ≡ Some s
          → find_of archive stretch (added stretch slots place label most slot) key ≡ Here s
      go (Here x) e a =
          let i = same_Some x s a in
          rw (← i) (find_still archive stretch slots _ wide.some (added_stay (Here x) e) key x e)
      go (Free x) e a =
          let l = found-low archive stretch slots key wide.some (Free x) e in
          let f = free_slot archive stretch slots key wide.some x e in
          cases (ltb (count_at stretch slots label) most)
          (λ q. let i = same_Some x s (rw q at a) in
          rw (q, ← i)
          (find_taken archive stretch slots _ wide.some (filled_stay archive stretch slots wide place label x some small mark l f) key x
          (filled_taken archive stretch slots wide place label x some small mark l f)
          (filled-key archive stretch slots wide place label x some small mark l f) e))
          (λ q. absurd (none-some s (rw q at a)))
      go Full e a = absurd (none-some s a)

-- ---- a remembered slot

-- the word of a slot, or of none, stands for it
word_slot : (slot : Option ℕ) → slot_of_word (slot_word slot) ≡ slot
word_slot None = refl
word_slot (Some s) = rw (ne_eqb (s + 1) 0 (λ z. omega arith)) (ap Some (omega arith))

-- and every word is that of what it stands for
slot-word : (word : ℕ) → slot_word (slot_of_word word) ≡ word
slot-word word = cases (eqb word 0) (λ e. rw e (omega (arith, eqb-true word 0 e))) (λ e. rw e (omega (arith, eqb-false word 0 e)))

-- where a slot is remembered that was, nothing changes
pub remembering_same : (stretch : ℕ) (slots : List ℕ) (entry : ℕ) → remembering stretch slots entry (remembered_at stretch slots entry) ≡ slots
remembering_same stretch slots entry =
    rw (slot-word (get_or slots (2 * stretch + entry) 0)) (set-get_or slots (2 * stretch + entry) 0)

module _ (stretch : ℕ) (slots : List ℕ) (entry : ℕ) (slot : Option ℕ) where
  -- it is what is remembered there
  pub remembering-at : Wide stretch slots → entry < stretch → remembered_at stretch (remembering stretch slots entry slot) entry ≡ slot
  remembering-at wide low =
      ap slot_of_word (get_or-set_same slots (2 * stretch + entry) (slot_word slot) 0 (omega (arith, wide.long))) ∙ word_slot slot

  -- under any other number the same is remembered
  pub remembering-else : (other : ℕ) → (other ≡ entry → ⊥) → remembered_at stretch (remembering stretch slots entry slot) other ≡ remembered_at stretch slots other
  remembering-else other n =
      ap slot_of_word (get_or-set_other slots (2 * stretch + entry) (2 * stretch + other) (slot_word slot) 0 (λ q. n (omega arith)))

  -- every word before the third stretch is as it was
  pub remembering_other : (i : ℕ) → i < 2 * stretch → get_or (remembering stretch slots entry slot) i 0 ≡ get_or slots i 0
  remembering_other i l = get_or-set_other slots (2 * stretch + entry) i (slot_word slot) 0 (λ q. omega arith)

  -- so a search finds what it found
  pub remembering_find : (archive : List ℕ) → 18 < stretch → (key : List ℕ)
      → find_of archive stretch (remembering stretch slots entry slot) key ≡ find_of archive stretch slots key
  remembering_find archive some =
      find_alike archive stretch slots (remembering stretch slots entry slot) some
      (λ s l. let first = remembering_other s (omega arith) in
      (ap place_in first, λ f. rw (first, remembering_other (stretch + s) (omega arith))))
