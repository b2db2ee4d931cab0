-- Texts compared, request W3: computed of the definition. Assumes nothing.
use Prim.Native.Nat.{ℕ}
use mathlib.Core.Path.{◌≡◌, refl}
use mathlib.Core.List.{[], List, ◌∷◌, ◌++◌}
use mathlib.Core.Bool.{true, false}
use Rattle.words.specs.Stream.{same_bytes}

-- seven bytes, one less than a word
abbrev seven : List ℕ
seven = 99 ∷ 104 ∷ 97 ∷ 114 ∷ 103 ∷ 101 ∷ 114 ∷ []

pub record Table : Type 0 where
  -- two empty texts are the same
  pub empty : same_bytes [] [] ≡ true
  -- an empty text is no other, on either side
  pub empty_first : same_bytes [] (0 ∷ []) ≡ false
  pub empty_second : same_bytes (0 ∷ []) [] ≡ false
  -- one byte, seven, eight and nine
  pub one : same_bytes (49 ∷ []) (49 ∷ []) ≡ true
  pub less_than_a_word : same_bytes seven seven ≡ true
  pub a_word : same_bytes (seven ++ 49 ∷ []) (seven ++ 49 ∷ []) ≡ true
  pub an_odd_byte : same_bytes (seven ++ 49 ∷ 48 ∷ []) (seven ++ 49 ∷ 48 ∷ []) ≡ true
  -- the last byte is another: of one byte, of eight, of nine, of 29
  pub one_other : same_bytes (49 ∷ []) (50 ∷ []) ≡ false
  pub last_of_a_word : same_bytes (seven ++ 49 ∷ []) (seven ++ 50 ∷ []) ≡ false
  pub odd_byte_other : same_bytes (seven ++ 49 ∷ 48 ∷ []) (seven ++ 49 ∷ 49 ∷ []) ≡ false
  pub odd_byte_far : same_bytes (seven ++ seven ++ seven ++ seven ++ 0 ∷ []) (seven ++ seven ++ seven ++ seven ++ 1 ∷ []) ≡ false
  -- a text that begins another is not the same, though zero bytes follow
  pub shorter : same_bytes seven (seven ++ 0 ∷ []) ≡ false
  pub longer : same_bytes (seven ++ 0 ∷ 0 ∷ []) (seven ++ 0 ∷ []) ≡ false

pub table : Table
table =
    record {
      empty = refl;
      empty_first = refl;
      empty_second = refl;
      one = refl;
      less_than_a_word = refl;
      a_word = refl;
      an_odd_byte = refl;
      one_other = refl;
      last_of_a_word = refl;
      odd_byte_other = refl;
      odd_byte_far = refl;
      shorter = refl;
      longer = refl;
    }
