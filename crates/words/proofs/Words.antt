-- Words as bytes: what a written word reads back as, what a read depends on, and bytes that stand at a place.
-- Assumes nothing.
use Prim.Native.Nat.{ℕ, zero, suc, ◌+◌, ◌*◌, ◌/◌, ◌%◌, ◌^◌, ◌<◌, ◌≤◌}
use mathlib.Core.Path.{◌≡◌, refl, ap, ◌∙◌}
use mathlib.Core.List.{List, ◌∷◌, ◌++◌, append_assoc, []}
use native.Mathlib.Nat.{add-zero, div-one, div-div-eq-div-mul}
use native.Mathlib.Omega.{arith}
use mathlib.Core.Bool.{Bool, true, false}
use borrow.Author.Tests.{ltb-true, ltb-false}
use lib.Dec.{ltb}
use lib.ListN.{length, get_or, take, drop, replicate, length-take, length-drop, get_or-eq_default}
use lib.Seq.{get_or-drop, get_or-take, drop-drop, drop-append_seam, take-append_seam}
use Rattle.words.specs.declared.Order.{Order}
use Rattle.words.specs.declared.Order.TheVariants.{Little}
use Rattle.words.specs.Word.{little, little_at, bytes_of, word_at, word_bytes, field}
use Rattle.words.specs.Stream.{padded, padding_of}

-- k bytes of a number are k bytes
pub length-bytes_of : (k n : ℕ) → length (bytes_of k n) ≡ k
unfolding bytes_of
length-bytes_of zero n = refl
length-bytes_of (suc k) n = ap suc (length-bytes_of k (n / 256))

-- the eight bytes of a word, each as a field of it
pub bytes_of-fields : (n : ℕ)
    → bytes_of 8 n
    ≡ field 0 7 n ∷ field 8 15 n ∷ field 16 23 n ∷ field 24 31 n ∷ field 32 39 n ∷ field 40 47 n ∷ field 48 55 n ∷ field 56 63 n ∷ []
unfolding bytes_of
bytes_of-fields n = simp (div-div-eq-div-mul, div-one)

-- a number that was written as k bytes reads back as itself
pub little_bytes : (k n : ℕ) (rest : List ℕ) → n < 256 ^ k → little k (bytes_of k n ++ rest) ≡ n
unfolding bytes_of little
little_bytes zero n rest h = omega arith
little_bytes (suc k) n rest h = rw (little_bytes k (n / 256) rest (omega arith)) (omega arith)

-- a number as the sum of its eight bytes
pub little-sum : (bytes : List ℕ) (place : ℕ)
    → little_at bytes place
    ≡ get_or bytes place 0 + get_or bytes (place + 1) 0 * 2 ^ 8
    + get_or bytes (place + 2) 0 * 2 ^ 16 + get_or bytes (place + 3) 0 * 2 ^ 24
    + get_or bytes (place + 4) 0 * 2 ^ 32 + get_or bytes (place + 5) 0 * 2 ^ 40
    + get_or bytes (place + 6) 0 * 2 ^ 48 + get_or bytes (place + 7) 0 * 2 ^ 56
unfolding little_at little
little-sum bytes place = simp (get_or-drop, add-zero) (omega arith)

-- every number of a list is a byte
abbrev pub AllBytes : List ℕ → Type 0
AllBytes bytes = (i : ℕ) → get_or bytes i 0 < 256

-- what is left of bytes is bytes
pub bytes_left : (n : ℕ) (bytes : List ℕ) → AllBytes bytes → AllBytes (drop n bytes)
bytes_left n bytes h i = rw (get_or-drop n bytes i 0) (h (n + i))

-- and so is what stands before a cut
pub bytes_before : (n : ℕ) (bytes : List ℕ) → AllBytes bytes → AllBytes (take n bytes)
bytes_before n bytes h i = go (ltb i n) refl
  where
    go : (b : Bool) → ltb i n ≡ b → get_or (take n bytes) i 0 < 256
    go true e = rw (get_or-take n bytes i 0 (ltb-true i n e)) (h i)
    go false e = rw (get_or-eq_default (take n bytes) 0 {n = i} (omega (arith, length-take n bytes, ltb-false i n e))) (omega arith)

-- bytes spell a number of as many bytes
pub little_lt : (k : ℕ) (bytes : List ℕ) → AllBytes bytes → little k bytes < 256 ^ k
unfolding little
little_lt zero bytes h = omega arith
little_lt (suc k) bytes h = omega (arith, h 0, little_lt k (drop 1 bytes) (bytes_left 1 bytes h))

-- k bytes spell the same number wherever those k bytes are the same
pub little_same : (k : ℕ) (a b : List ℕ) → ((i : ℕ) → i < k → get_or a i 0 ≡ get_or b i 0) → little k a ≡ little k b
unfolding little
little_same zero a b h = refl
little_same (suc k) a b h =
    rw (
      h 0 (omega arith),
      little_same k (drop 1 a) (drop 1 b) (λ i l. rw (get_or-drop 1 a i 0, get_or-drop 1 b i 0) (h (1 + i) (omega arith))),
    )

-- eight bytes spell a number of 64 bits
pub little_at_lt : (bytes : List ℕ) (place : ℕ) → AllBytes bytes → little_at bytes place < 2 ^ 64
unfolding little_at
little_at_lt bytes place h = little_lt 8 (drop place bytes) (bytes_left place bytes h)

-- a number of what is left behind a place
pub little_at-drop : (bytes : List ℕ) (a b : ℕ) → little_at (drop a bytes) b ≡ little_at bytes (a + b)
unfolding little_at
little_at-drop bytes a b = rw (drop-drop b a bytes)

-- a number that ends before a cut is not changed by it
pub little_at-take : (bytes : List ℕ) (place n : ℕ) → place + 8 ≤ n → little_at (take n bytes) place ≡ little_at bytes place
unfolding little_at
little_at-take bytes place n h =
    little_same 8 (drop place (take n bytes)) (drop place bytes)
    (λ i l. rw (get_or-drop place (take n bytes) i 0, get_or-drop place bytes i 0, get_or-take n bytes (place + i) 0 (omega arith)))

-- the bytes of a list stand at a place
abbrev pub At : List ℕ → ℕ → List ℕ → Type 0
At bytes place l = (rest : List ℕ) × (drop place bytes ≡ l ++ rest)

-- the first part of what stands at a place stands there
pub at_left : (bytes : List ℕ) (place : ℕ) (a b : List ℕ) → At bytes place (a ++ b) → At bytes place a
at_left bytes place a b h = (b ++ h.0, h.1 ∙ append_assoc a b h.0)

-- the second part of what stands at a place stands right behind the first
pub at_right : (bytes : List ℕ) (place : ℕ) (a b : List ℕ) → At bytes place (a ++ b) → At bytes (place + length a) b
at_right bytes place a b h =
    (h.0, rw (← drop-drop (length a) place bytes, h.1, append_assoc a b h.0, drop-append_seam a (b ++ h.0)))

-- where the eight bytes of a number stand, it is read
pub little-is : (bytes : List ℕ) (place n : ℕ) → n < 256 ^ 8 → At bytes place (bytes_of 8 n) → little_at bytes place ≡ n
unfolding little_at
little-is bytes place n h at = rw at.1 (little_bytes 8 n at.0 h)

-- the bytes that a number is spelled by spell it
bytes_again : (k : ℕ) (bytes : List ℕ) → k ≤ length bytes → AllBytes bytes → bytes_of k (little k bytes) ≡ take k bytes
unfolding bytes_of little
bytes_again zero bytes h b = refl
bytes_again (suc k) [] h b = absurd (omega arith)
bytes_again (suc k) (x ∷ xs) h b =
    let low : x < 256 = b 0 in
    let first : (x + 256 * little k xs) % 256 ≡ x = omega arith in
    let others : (x + 256 * little k xs) / 256 ≡ little k xs = omega arith in
    rw (first, others, bytes_again k xs (omega arith) (λ i. b (suc i)))

-- ---- words, in a byte order

-- a word is read, and written, in the one order that there is
pub word-little : (o : Order) (bytes : List ℕ) (place : ℕ) → word_at o bytes place ≡ little_at bytes place
unfolding word_at
word-little Little bytes place = refl

pub bytes_little : (o : Order) (n : ℕ) → word_bytes o n ≡ bytes_of 8 n
unfolding word_bytes
bytes_little Little n = refl

-- a written word has eight bytes
pub length-word_bytes : (o : Order) (n : ℕ) → length (word_bytes o n) ≡ 8
unfolding word_bytes
length-word_bytes Little n = length-bytes_of 8 n

-- a word of bytes has 64 bits
pub word_at_lt : (o : Order) (bytes : List ℕ) (place : ℕ) → AllBytes bytes → word_at o bytes place < 2 ^ 64
unfolding word_at
word_at_lt Little bytes place h = little_at_lt bytes place h

-- a word of what is left behind a place
pub word_at-drop : (o : Order) (bytes : List ℕ) (a b : ℕ) → word_at o (drop a bytes) b ≡ word_at o bytes (a + b)
unfolding word_at
word_at-drop Little bytes a b = little_at-drop bytes a b

-- a word that ends before a cut is not changed by it
pub word_at-take : (o : Order) (bytes : List ℕ) (place n : ℕ) → place + 8 ≤ n → word_at o (take n bytes) place ≡ word_at o bytes place
unfolding word_at
word_at-take Little bytes place n h = little_at-take bytes place n h

-- where the bytes of a word stand, the word is read
pub word-is : (o : Order) (bytes : List ℕ) (place n : ℕ) → n < 256 ^ 8 → At bytes place (word_bytes o n) → word_at o bytes place ≡ n
unfolding word_at word_bytes
word-is Little bytes place n h at = little-is bytes place n h at

-- the bytes of a word that was read are those that it was read from
pub word_again : (o : Order) (bytes : List ℕ) (place : ℕ) → place + 8 ≤ length bytes → AllBytes bytes
    → word_bytes o (word_at o bytes place) ≡ take 8 (drop place bytes)
unfolding word_at word_bytes little_at
word_again Little bytes place h b =
    bytes_again 8 (drop place bytes) (omega (arith, length-drop place bytes)) (bytes_left place bytes b)

-- where a padded stream stands, its bytes are read
pub stream-is : (bytes : List ℕ) (place : ℕ) (b : List ℕ) → At bytes place (padded b) → take (length b) (drop place bytes) ≡ b
stream-is bytes place b at =
    let left = at_left bytes place b (replicate (padding_of (length b)) 0) at in
    rw (left.1, take-append_seam b left.0)
