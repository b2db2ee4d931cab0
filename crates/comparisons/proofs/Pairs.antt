-- One turn of a loop over pairs of texts. Assumes nothing.
use Prim.Native.Nat.{ℕ, zero, suc, ◌+◌, ◌-◌, ◌<◌, ◌≤◌, min}
use mathlib.Core.Path.{◌≡◌, refl, ap, ◌∙◌}
use mathlib.Core.List.{[], List, ◌∷◌}
use native.Mathlib.Numerals.{add-one}
use native.Mathlib.Nat.{zero-min, min-zero, suc-min-suc}
use native.Mathlib.Omega.{arith}
use lib.ListN.{length, get_or, take, drop, length-drop}
use lib.Seq.{drop-cons, take_all}
use mathlib.Core.Bool.{Bool, true, false}
use Rattle.std.specs.Int.{from_bool}
use Rattle.words.specs.Word.{pick}
use Rattle.words.specs.Stream.{same_bytes}
use Rattle.comparisons.specs.Pairs.{same_pairs}

-- the first n bytes, where at most all are taken
take-least : (n : ℕ) (bytes : List ℕ) → take (min n (length bytes)) bytes ≡ take n bytes
take-least zero bytes = rw (zero-min (length bytes)) refl
take-least (suc n) [] = rw (min-zero (suc n)) refl
take-least (suc n) (x ∷ xs) = rw (suc-min-suc n (length xs)) (ap (λ (l : List ℕ). x ∷ l) (take-least n xs))

-- the bytes behind the first n, where at most all are left out
drop-least : (n : ℕ) (bytes : List ℕ) → drop (min n (length bytes)) bytes ≡ drop n bytes
drop-least zero bytes = rw (zero-min (length bytes)) refl
drop-least (suc n) [] = rw (min-zero (suc n)) refl
drop-least (suc n) (x ∷ xs) = rw (suc-min-suc n (length xs)) (drop-least n xs)

-- what is left of some bytes behind the first n
rest_from : (n : ℕ) (bytes : List ℕ) → take (length bytes - n) (drop n bytes) ≡ drop n bytes
rest_from n bytes = take_all (length bytes - n) (drop n bytes) (omega (arith, length-drop n bytes))

-- the pairs from the length at i on: that pair, then the pairs behind it
pairs_from : (lengths a b : List ℕ) (i : ℕ) → i < length lengths → let n = get_or lengths i 0 in
    same_pairs (drop i lengths) a b ≡ pick (same_bytes (take n a) (take n b)) 1 0 + same_pairs (drop (i + 1) lengths) (drop n a) (drop n b)
unfolding same_pairs
pairs_from lengths a b i h = rw (drop-cons lengths i 0 h, add-one)

-- a truth value as a number: one where it holds, and never more
pub one_if : (same : Bool) → (from_bool same ≡ pick same 1 0) × (from_bool same ≤ 1)
one_if true = (refl, omega arith)
one_if false = (refl, omega arith)

-- a loop over the pairs: `same` of those that are the same stand before the length at i; a turn takes n bytes of a and m of b, and adds r
pub pairs_turn : (lengths a b : List ℕ) (i all same n m r : ℕ) → i < length lengths
    → n ≡ min (get_or lengths i 0) (length a) → m ≡ min (get_or lengths i 0) (length b)
    → r ≡ pick (same_bytes (take n a) (take m b)) 1 0
    → all ≡ same + same_pairs (drop i lengths) a b
    → all ≡ same + r + same_pairs (drop (i + 1) lengths) (take (length a - n) (drop n a)) (take (length b - m) (drop m b))
pairs_turn lengths a b i all same n m r h en em er e =
    let long = get_or lengths i 0 in
    let front : r ≡ pick (same_bytes (take long a) (take long b)) 1 0 = er ∙ rw (en, em, take-least long a, take-least long b) refl in
    let left : take (length a - n) (drop n a) ≡ drop long a = rest_from n a ∙ rw en (drop-least long a) in
    let right : take (length b - m) (drop m b) ≡ drop long b = rest_from m b ∙ rw em (drop-least long b) in
    rw (left, right) (omega (arith, e, front, pairs_from lengths a b i h))
