-- Which words of a table the choices and a given index write, and which they leave as they were. Assumes nothing.
use Prim.Native.Nat.{ℕ, zero, suc, ◌+◌, ◌-◌, ◌*◌, ◌/◌, ◌<◌, ◌≤◌}
use mathlib.Core.Path.{◌≡◌, refl, ap, ◌∙◌}
use mathlib.Core.List.{List}
use native.Mathlib.Omega.{arith}
use native.Mathlib.Numerals.{add-one}
use lib.Dec.{eqb}
use lib.ListN.{length, drop, get_or, set, length-set}
use lib.Seq.{get_or-set_same, get_or-set_other, drop-set-lt}
use borrow.Author.Tests.{eqb-true, eqb-false}
use Rattle.words.proofs.Tests.{cases}
use Rattle.tally.specs.declared.Slot.{Slot}
use Rattle.tally.specs.declared.Slot.TheVariants.{Here, Free, Full}
use Rattle.tally.specs.Models.Slots.{place_in, uses_in, with_uses, place_at, label_at, uses_at, counter_at, raised, count_at}
use Rattle.tally.specs.Models.Tally.{Wide}
use Rattle.tally.proofs.Probing.{Low}
use Rattle.tally.proofs.Frames.{word_uses, same_label}
use Rattle.indexing.specs.Models.Indexes.{chosen_word, chosen_to, with_index, indexed}

-- ---- the choices

-- the choices keep the length of the table
pub chosen_length : (stretch n : ℕ) (slots : List ℕ) → length (chosen_to stretch n slots) ≡ length slots
unfolding chosen_to
chosen_length stretch zero slots = refl
chosen_length stretch (suc s) slots = simp length-set (chosen_length stretch s slots)

-- and change no word behind the first two stretches
pub chosen_behind : (stretch n : ℕ) (slots : List ℕ) → n ≤ stretch → drop (2 * stretch) (chosen_to stretch n slots) ≡ drop (2 * stretch) slots
unfolding chosen_to
chosen_behind stretch zero slots h = refl
chosen_behind stretch (suc s) slots h =
    drop-set-lt (2 * stretch) (chosen_to stretch s slots) (stretch + s) (chosen_word (get_or slots s 0) (get_or slots (stretch + s) 0)) (omega arith)
    ∙ chosen_behind stretch s slots (omega arith)

-- and none outside the second
pub chosen_other : (stretch n : ℕ) (slots : List ℕ) (i : ℕ) → ((s : ℕ) → s < n → i ≡ stretch + s → ⊥)
    → get_or (chosen_to stretch n slots) i 0 ≡ get_or slots i 0
unfolding chosen_to
chosen_other stretch zero slots i h = refl
chosen_other stretch (suc s) slots i h =
    get_or-set_other (chosen_to stretch s slots) (stretch + s) i (chosen_word (get_or slots s 0) (get_or slots (stretch + s) 0)) 0 (h s (omega arith))
    ∙ chosen_other stretch s slots i (λ x l. h x (omega arith))

-- the words of the second stretch have choices
pub chosen_own : (stretch n : ℕ) (slots : List ℕ) → Wide stretch slots → n ≤ stretch → (s : ℕ) → s < n
    → get_or (chosen_to stretch n slots) (stretch + s) 0 ≡ chosen_word (get_or slots s 0) (get_or slots (stretch + s) 0)
unfolding chosen_to
chosen_own stretch zero slots wide h s l = absurd (omega arith)
chosen_own stretch (suc n) slots wide h s l =
    cases (eqb s n)
    (λ e. let i = eqb-true s n e in
    rw i
    (get_or-set_same (chosen_to stretch n slots) (stretch + n) (chosen_word (get_or slots n 0) (get_or slots (stretch + n) 0)) 0
    (omega (arith, chosen_length stretch n slots, wide.long))))
    (λ e. let i = eqb-false s n e in
    get_or-set_other (chosen_to stretch n slots) (stretch + n) (stretch + s) (chosen_word (get_or slots n 0) (get_or slots (stretch + n) 0)) 0
    (λ q. i (omega arith))
    ∙ chosen_own stretch n slots wide (omega arith) s (omega arith))

-- nothing is chosen at first
pub chosen_none : (stretch : ℕ) (slots : List ℕ) → slots ≡ chosen_to stretch 0 slots
unfolding chosen_to
chosen_none stretch slots = refl

-- one turn of choosing: slot s is chosen by the words that the table has now
pub chosen_turn : (stretch s : ℕ) (slots now : List ℕ) (word : ℕ) → s < stretch → now ≡ chosen_to stretch s slots
    → word ≡ chosen_word (get_or now s 0) (get_or now (stretch + s) 0) → set now (stretch + s) word ≡ chosen_to stretch (s + 1) slots
unfolding chosen_to
chosen_turn stretch s slots now word below e q =
    let first = chosen_other stretch s slots s (λ x l w. omega arith) in
    let second = chosen_other stretch s slots (stretch + s) (λ x l w. omega arith) in
    rw (q, e, add-one s, first, second)

-- ---- a given index

-- an index is given: the counter of its mark is written
abbrev with_counter : ℕ → List ℕ → ℕ → List ℕ
with_counter stretch slots label = set slots (counter_at stretch (label / 65536)) (raised (count_at stretch slots label))

-- a given index keeps the length of the table
pub indexed-length : (stretch : ℕ) (slots : List ℕ) (label : ℕ) (slot : Slot) → length (indexed stretch slots label slot) ≡ length slots
indexed-length stretch slots label (Here s) = cases (eqb (uses_at stretch slots s) 1) (λ e. rw e (simp length-set)) (λ e. rw e)
indexed-length stretch slots label (Free s) = refl
indexed-length stretch slots label Full = refl

-- what stands in the words of a table after an index was given
module _ (stretch : ℕ) (slots : List ℕ) (label s : ℕ) (low : s < stretch - 18) (mark : label / 65536 < 18) where
  -- the slot's second word after it
  abbrev index_word : ℕ
  index_word = with_uses (raised (raised (count_at stretch slots label))) (get_or slots (stretch + s) 0)

  -- no word behind the first two stretches is changed
  index-behind : drop (2 * stretch) (with_index stretch slots label s) ≡ drop (2 * stretch) slots
  index-behind =
      drop-set-lt (2 * stretch) (with_counter stretch slots label) (stretch + s) index_word (omega arith)
      ∙ drop-set-lt (2 * stretch) slots (counter_at stretch (label / 65536)) (raised (count_at stretch slots label)) (omega arith)

  -- any other word is as it was
  pub index_other : (i : ℕ) → (i ≡ stretch + s → ⊥) → (i ≡ counter_at stretch (label / 65536) → ⊥)
      → get_or (with_index stretch slots label s) i 0 ≡ get_or slots i 0
  index_other i u c =
      get_or-set_other (with_counter stretch slots label) (stretch + s) i index_word 0 u
      ∙ get_or-set_other slots (counter_at stretch (label / 65536)) i (raised (count_at stretch slots label)) 0 c

  -- the slot's second word is the one written
  index_word_lem : Wide stretch slots → get_or (with_index stretch slots label s) (stretch + s) 0 ≡ index_word
  index_word_lem wide =
      get_or-set_same (with_counter stretch slots label) (stretch + s) index_word 0
      (omega (arith, length-set slots (counter_at stretch (label / 65536)) (raised (count_at stretch slots label)), wide.long))

  -- so the uses that it has stand for the index
  pub index_uses : Wide stretch slots → uses_at stretch (with_index stretch slots label s) s ≡ raised (raised (count_at stretch slots label))
  index_uses wide = ap uses_in (index_word_lem wide) ∙ word_uses (raised (raised (count_at stretch slots label))) (get_or slots (stretch + s) 0)

  -- every slot has the place and the label that it had
  pub index_key : Wide stretch slots → (x : ℕ) → x < stretch - 18
      → (place_at (with_index stretch slots label s) x ≡ place_at slots x) × (label_at stretch (with_index stretch slots label s) x ≡ label_at stretch slots x)
  index_key wide x l =
      let first = index_other x (λ q. omega arith) (λ q. omega arith) in (
        ap place_in first,
        cases (eqb x s)
            (λ q. let i = eqb-true x s q in
            rw (first, i, index_word_lem wide) (same_label (get_or slots s 0) (raised (raised (count_at stretch slots label))) (get_or slots (stretch + s) 0)))
            (λ q. let n = eqb-false x s q in rw (first, index_other (stretch + x) (λ z. n (omega arith)) (λ z. omega arith))),
      )

  -- the counter of its mark is the one written
  pub index_counter : Wide stretch slots → get_or (with_index stretch slots label s) (counter_at stretch (label / 65536)) 0
      ≡ raised (count_at stretch slots label)
  index_counter wide =
      get_or-set_other (with_counter stretch slots label) (stretch + s) (counter_at stretch (label / 65536)) index_word 0 (λ q. omega arith)
      ∙ get_or-set_same slots (counter_at stretch (label / 65536)) (raised (count_at stretch slots label)) 0 (omega (arith, wide.long))

-- a given index changes no word behind the first two stretches
pub indexed-behind : (stretch : ℕ) (slots : List ℕ) (label : ℕ) (slot : Slot) → label / 65536 < 18 → Low stretch slot
    → drop (2 * stretch) (indexed stretch slots label slot) ≡ drop (2 * stretch) slots
indexed-behind stretch slots label (Here s) mark low =
    cases (eqb (uses_at stretch slots s) 1) (λ e. rw e (index-behind stretch slots label s low mark)) (λ e. rw e)
indexed-behind stretch slots label (Free s) mark low = refl
indexed-behind stretch slots label Full mark low = refl
