-- Two lists of bytes compared, byte by byte and word by word, and bytes that are all zero.
-- Assumes nothing.
use Prim.Native.Nat.{ℕ, zero, suc, ◌+◌, ◌-◌, ◌<◌, ◌≤◌}
use mathlib.Core.Path.{◌≡◌, refl, sym, ap, ◌∙◌}
use mathlib.Core.List.{[], List, ◌∷◌}
use mathlib.Core.Bool.{Bool, true, false, ◌&&◌}
use native.Mathlib.Numerals.{add-one}
use native.Mathlib.Omega.{arith}
use borrow.Author.Tests.{eq-eqb, eqb-true, eqb-false}
use lib.Dec.{eqb}
use lib.ListN.{length, get_or, drop, replicate, length-drop, drop_of_length-le}
use lib.Seq.{drop-cons, drop-drop}
use Rattle.words.specs.Word.{little, little_at}
use Rattle.words.specs.Stream.{same_bytes, all_zero}
use Rattle.words.proofs.Tests.{both_true}
use Rattle.words.proofs.Words.{AllBytes, bytes_left}

and_false : (b : Bool) → (b && false) ≡ false
and_false true = refl
and_false false = refl

-- what compares as the same is the same
pub same_true : (a b : List ℕ) → same_bytes a b ≡ true → a ≡ b
same_true [] [] e = refl
same_true [] (y ∷ ys) e = cc
same_true (x ∷ xs) [] e = cc
same_true (x ∷ xs) (y ∷ ys) e =
    let both = both_true (eqb x y) (same_bytes xs ys) e in
    let first = eqb-true x y both.0 in
    let others = same_true xs ys both.1 in
    cc

-- bytes compare as the same with themselves
pub same_refl : (a : List ℕ) → same_bytes a a ≡ true
same_refl [] = refl
same_refl (x ∷ xs) = rw (eq-eqb x x refl, same_refl xs)

-- the test says yes exactly when the bytes are the same
pub same_exactly : (a b : List ℕ) → (same_bytes a b ≡ true → a ≡ b) × (a ≡ b → same_bytes a b ≡ true)
same_exactly a b = (same_true a b, λ e. rw e (same_refl b))

-- bytes of different lengths are not the same
pub same_length : (a b : List ℕ) → (length a ≡ length b → ⊥) → same_bytes a b ≡ false
same_length [] [] h = absurd (h refl)
same_length [] (y ∷ ys) h = refl
same_length (x ∷ xs) [] h = refl
same_length (x ∷ xs) (y ∷ ys) h = rw (same_length xs ys (λ e. h (ap suc e))) (and_false (eqb x y))

-- a loop that compares from the front: byte i, then the bytes behind it
pub same_turn : (a b : List ℕ) (i : ℕ) → i < length a → i < length b
    → same_bytes (drop i a) (drop i b) ≡ (eqb (get_or a i 0) (get_or b i 0) && same_bytes (drop (i + 1) a) (drop (i + 1) b))
same_turn a b i ha hb = rw (drop-cons a i 0 ha, drop-cons b i 0 hb, add-one)

-- bytes that are not equal do not compare as the same
same_false : (a b : List ℕ) → (a ≡ b → ⊥) → same_bytes a b ≡ false
same_false a b unequal = decided (same_bytes a b) refl
  where
    decided : (same : Bool) → same_bytes a b ≡ same → same ≡ false
    decided false e = refl
    decided true e = absurd (unequal (same_true a b e))

-- where the first k bytes spell the same number, the bytes behind them decide
same_spelled : (k : ℕ) (a b : List ℕ) → AllBytes a → AllBytes b → k ≤ length a → k ≤ length b → little k a ≡ little k b
    → same_bytes a b ≡ same_bytes (drop k a) (drop k b)
unfolding little
same_spelled zero a b p q ha hb e = refl
same_spelled (suc k) [] b p q ha hb e = absurd (omega arith)
same_spelled (suc k) (x ∷ xs) [] p q ha hb e = absurd (omega arith)
same_spelled (suc k) (x ∷ xs) (y ∷ ys) p q ha hb e =
    let px = p 0 in
    let qy = q 0 in
    let first : x ≡ y = omega arith in
    let others : little k xs ≡ little k ys = omega arith in
    rw (eq-eqb x y first) (same_spelled k xs ys (λ i. p (suc i)) (λ i. q (suc i)) (omega arith) (omega arith) others)

-- where the words at a place differ, the bytes are not the same
pub words_differ : (a b : List ℕ) (place : ℕ) → (little_at a place ≡ little_at b place → ⊥) → same_bytes a b ≡ false
words_differ a b place unequal = same_false a b (λ e. unequal (ap (λ (bytes : List ℕ). little_at bytes place) e))

module _ (a b : List ℕ) (p : AllBytes a) (q : AllBytes b) where
  -- a loop that compares from the front: where the words at a place are the same, the bytes behind them decide
  pub words_same : (place : ℕ) → place + 8 ≤ length a → place + 8 ≤ length b → little_at a place ≡ little_at b place
      → same_bytes (drop place a) (drop place b) ≡ same_bytes (drop (place + 8) a) (drop (place + 8) b)
  unfolding little_at
  words_same place ha hb e =
      same_spelled 8 (drop place a) (drop place b) (bytes_left place a p) (bytes_left place b q)
      (omega (arith, length-drop place a)) (omega (arith, length-drop place b)) e
      ∙ rw (drop-drop 8 place a, drop-drop 8 place b)

  -- where the last words are the same, so is all from any place in them
  last_same : (last place : ℕ) → last + 8 ≡ length a → last + 8 ≡ length b → last ≤ place → little_at a last ≡ little_at b last
      → same_bytes (drop place a) (drop place b) ≡ true
  last_same last place ha hb behind e =
      let ends : same_bytes (drop last a) (drop last b) ≡ true =
      words_same last (omega arith) (omega arith) e
      ∙ rw (drop_of_length-le a {i = last + 8} (omega arith), drop_of_length-le b {i = last + 8} (omega arith)) in
      let sum : last + (place - last) ≡ place = omega arith in
      let from : (bytes : List ℕ) → drop (place - last) (drop last bytes) ≡ drop place bytes = λ bytes. drop-drop (place - last) last bytes ∙ rw sum in
      rw (← from a, ← from b, same_true (drop last a) (drop last b) ends) (same_refl (drop (place - last) (drop last b)))

  -- behind the loop, which left only bytes of the last word: that word decides
  pub last_decides : (last place : ℕ) → last + 8 ≡ length a → last + 8 ≡ length b → last ≤ place
      → same_bytes a b ≡ same_bytes (drop place a) (drop place b) → eqb (little_at a last) (little_at b last) ≡ same_bytes a b
  last_decides last place ha hb behind left = decided (eqb (little_at a last) (little_at b last)) refl
    where
      decided : (same : Bool) → eqb (little_at a last) (little_at b last) ≡ same → same ≡ same_bytes a b
      decided true e = sym (left ∙ last_same last place ha hb behind (eqb-true (little_at a last) (little_at b last) e))
      decided false e = sym (words_differ a b last (eqb-false (little_at a last) (little_at b last) e))

-- zeros are all zero
pub zero_zeros : (n : ℕ) → all_zero (replicate n 0) ≡ true
zero_zeros zero = refl
zero_zeros (suc n) = zero_zeros n

-- a loop that tests from the front: byte i, then the bytes behind it
pub zero_turn : (bytes : List ℕ) (i : ℕ) → i < length bytes
    → all_zero (drop i bytes) ≡ (eqb (get_or bytes i 0) 0 && all_zero (drop (i + 1) bytes))
zero_turn bytes i h = rw (drop-cons bytes i 0 h, add-one)

-- behind the last byte all is zero
pub zero_end : (bytes : List ℕ) (i : ℕ) → length bytes ≤ i → all_zero (drop i bytes) ≡ true
zero_end bytes i h = rw (drop_of_length-le bytes {i = i} h)
