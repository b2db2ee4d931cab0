-- Which words of a table a counted use writes, and which it leaves as they were. Assumes nothing.
use Prim.Native.Nat.{ℕ, ◌+◌, ◌-◌, ◌*◌, ◌/◌, ◌%◌, ◌<◌, min}
use mathlib.Core.Path.{◌≡◌, refl, ap, ◌∙◌}
use mathlib.Core.List.{List}
use native.Mathlib.Omega.{arith}
use lib.Dec.{ltb}
use lib.ListN.{length, drop, get_or, set, length-set}
use lib.Seq.{get_or-set_same, get_or-set_other, drop-set-lt}
use borrow.Author.Tests.{lt-ltb, ltb-true, ltb-false}
use Rattle.words.proofs.Tests.{cases}
use Rattle.tally.specs.declared.Slot.{Slot}
use Rattle.tally.specs.declared.Slot.TheVariants.{Here, Free, Full}
use Rattle.tally.specs.Models.Slots.{place_in, label_in, uses_in, first_word, with_uses, place_at, label_at, uses_at, counter_at, raised, count_at, filled, added}
use Rattle.tally.specs.Models.Tally.{Wide}
use Rattle.tally.proofs.Probing.{Low}

-- a number below the highest is raised by one
pub raised_more : (n : ℕ) → n < 65535 → raised n ≡ n + 1
unfolding raised
raised_more n h = rw (lt-ltb n 65535 h)

-- a number that stops at the highest is raised to the next one that does
pub raised-least : (n : ℕ) → raised (min 65535 n) ≡ min 65535 (1 + n)
unfolding raised
raised-least n =
    cases (ltb (min 65535 n) 65535)
    (λ e. rw e (omega (arith, ltb-true (min 65535 n) 65535 e)))
    (λ e. rw e (omega (arith, ltb-false (min 65535 n) 65535 e)))

-- ---- the words of a slot

-- the place that a first word is made of
pub word-place : (place label : ℕ) → place < 16777216 → place_in (first_word place label) ≡ place
word-place place label low = omega arith

-- and the label, with a second word that is made of it
pub word-label : (place label uses : ℕ) → place < 16777216 → label_in (first_word place label) (with_uses uses label) ≡ label
word-label place label uses low = omega arith

-- the length that a label holds is that of the second word
pub label-length : (first second : ℕ) → label_in first second % 65536 ≡ second % 65536
label-length first second = omega arith

-- the uses of a second word are those that it was given
pub word_uses : (uses second : ℕ) → uses_in (with_uses uses second) ≡ uses
word_uses uses second = omega arith

-- and its label stays
pub same_label : (first uses second : ℕ) → label_in first (with_uses uses second) ≡ label_in first second
same_label first uses second = omega arith

-- ---- a counted use

-- a free slot is taken: its first word is written
abbrev with_first : List ℕ → ℕ → ℕ → ℕ → List ℕ
with_first slots place label s = set slots s (first_word place label)

-- and its second
abbrev with_second : ℕ → List ℕ → ℕ → ℕ → ℕ → List ℕ
with_second stretch slots place label s = set (with_first slots place label s) (stretch + s) (with_uses 1 label)

-- a counted use keeps the length of the table
pub added-length : (stretch : ℕ) (slots : List ℕ) (place label most : ℕ) (slot : Slot)
    → length (added stretch slots place label most slot) ≡ length slots
added-length stretch slots place label most (Here s) = simp length-set
added-length stretch slots place label most (Free s) =
    cases (ltb (count_at stretch slots label) most) (λ e. rw e (simp length-set)) (λ e. rw e)
added-length stretch slots place label most Full = refl

-- what stands in the words of a table after a free slot was taken
module _ (stretch : ℕ) (slots : List ℕ) (place label s : ℕ) (low : s < stretch - 18) (mark : label / 65536 < 18) where
  -- no word behind the first two stretches is changed
  filled-behind : drop (2 * stretch) (filled stretch slots place label s) ≡ drop (2 * stretch) slots
  filled-behind =
      drop-set-lt (2 * stretch) (with_second stretch slots place label s) (counter_at stretch (label / 65536))
      (raised (count_at stretch slots label)) (omega arith)
      ∙ drop-set-lt (2 * stretch) (with_first slots place label s) (stretch + s) (with_uses 1 label) (omega arith)
      ∙ drop-set-lt (2 * stretch) slots s (first_word place label) (omega arith)

  -- any other word is as it was
  pub filled_other : (i : ℕ) → (i ≡ s → ⊥) → (i ≡ stretch + s → ⊥) → (i ≡ counter_at stretch (label / 65536) → ⊥)
      → get_or (filled stretch slots place label s) i 0 ≡ get_or slots i 0
  filled_other i first second c =
      get_or-set_other (with_second stretch slots place label s) (counter_at stretch (label / 65536)) i
      (raised (count_at stretch slots label)) 0 c
      ∙ get_or-set_other (with_first slots place label s) (stretch + s) i (with_uses 1 label) 0 second
      ∙ get_or-set_other slots s i (first_word place label) 0 first

  module _ (wide : Wide stretch slots) where
    -- the table is as long when both words are written
    second-length : length (with_second stretch slots place label s) ≡ length slots
    second-length = simp length-set

    -- the slot's first word is the one written
    filled-first : get_or (filled stretch slots place label s) s 0 ≡ first_word place label
    filled-first =
        get_or-set_other (with_second stretch slots place label s) (counter_at stretch (label / 65536)) s
        (raised (count_at stretch slots label)) 0 (λ q. omega arith)
        ∙ get_or-set_other (with_first slots place label s) (stretch + s) s (with_uses 1 label) 0 (λ q. omega arith)
        ∙ get_or-set_same slots s (first_word place label) 0 (omega arith)

    -- so is its second
    filled-second : get_or (filled stretch slots place label s) (stretch + s) 0 ≡ with_uses 1 label
    filled-second =
        get_or-set_other (with_second stretch slots place label s) (counter_at stretch (label / 65536)) (stretch + s)
        (raised (count_at stretch slots label)) 0 (λ q. omega arith)
        ∙ get_or-set_same (with_first slots place label s) (stretch + s) (with_uses 1 label) 0 (omega (arith, length-set slots s (first_word place label)))

    -- so the place of the slot is the one written
    pub filled-place : place < 16777216 → place_at (filled stretch slots place label s) s ≡ place
    filled-place small = ap place_in filled-first ∙ word-place place label small

    -- so is its label
    pub filled-label : place < 16777216 → label_at stretch (filled stretch slots place label s) s ≡ label
    filled-label small = rw (filled-first, filled-second) (word-label place label 1 small)

    -- so is its number of uses
    pub filled_uses : uses_at stretch (filled stretch slots place label s) s ≡ 1
    filled_uses = ap uses_in filled-second ∙ word_uses 1 label

    -- and the counter of its mark
    pub filled_counter : get_or (filled stretch slots place label s) (counter_at stretch (label / 65536)) 0
        ≡ raised (count_at stretch slots label)
    filled_counter =
        get_or-set_same (with_second stretch slots place label s) (counter_at stretch (label / 65536))
        (raised (count_at stretch slots label)) 0 (omega (arith, second-length))

-- a counted use changes no word behind the first two stretches
pub added-behind : (stretch : ℕ) (slots : List ℕ) (place label most : ℕ) (slot : Slot) → label / 65536 < 18 → Low stretch slot
    → drop (2 * stretch) (added stretch slots place label most slot) ≡ drop (2 * stretch) slots
added-behind stretch slots place label most (Here s) mark low =
    drop-set-lt (2 * stretch) slots (stretch + s) (with_uses (raised (uses_at stretch slots s)) (get_or slots (stretch + s) 0)) (omega arith)
added-behind stretch slots place label most (Free s) mark low =
    cases (ltb (count_at stretch slots label) most)
    (λ e. rw e (filled-behind stretch slots place label s low mark)) (λ e. rw e)
added-behind stretch slots place label most Full mark low = refl
