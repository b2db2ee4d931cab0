-- Numbers that are missing are 0: a state is given by a list as by that list with zeros behind it. Assumes nothing.
use Prim.Native.Nat.{ℕ, zero, suc}
use mathlib.Core.Path.{◌≡◌, refl}
use mathlib.Core.List.{List, [], ◌∷◌, ◌++◌}
use lib.ListN.{get_or, drop, replicate}
use borrow.Rule.Slice.PartMut.{put_mid}
use Rattle.blocks.specs.Block.{given_state}

-- behind some of so many zeros there are zeros
zeros : (n k i : ℕ) → get_or (drop k (replicate {A = ℕ} n 0)) i 0 ≡ 0
zeros zero zero i = refl
zeros zero (suc k) i = refl
zeros (suc n) zero zero = refl
zeros (suc n) zero (suc i) = zeros n zero i
zeros (suc n) (suc k) i = zeros n k i

-- a number of a list with zeros behind it is the list's
number_of : (numbers rest : List ℕ) → ((i : ℕ) → get_or rest i 0 ≡ 0) → (i : ℕ) → get_or (numbers ++ rest) i 0 ≡ get_or numbers i 0
number_of [] rest h i = h i
number_of (n ∷ numbers) rest h zero = refl
number_of (n ∷ numbers) rest h (suc i) = number_of numbers rest h i

-- lists of the same numbers give the same state
alike : (a b : List ℕ) → ((i : ℕ) → get_or a i 0 ≡ get_or b i 0) → given_state a ≡ given_state b
unfolding given_state
alike a b h =
    rw (h 0, h 1, h 2, h 3, h 4, h 5, h 6, h 7, h 8, h 9, h 10, h 11, h 12, h 13, h 14, h 15, h 16, h 17, h 18, h 19)

-- numbers written over the first of twenty zeros
pub given_over : (k : ℕ) (part numbers : List ℕ) → part ≡ numbers → given_state (put_mid 0 k (replicate 20 0) part) ≡ given_state numbers
given_over k part numbers same =
    rw same (alike (numbers ++ drop k (replicate {A = ℕ} 20 0)) numbers (number_of numbers (drop k (replicate {A = ℕ} 20 0)) (zeros 20 k)))
