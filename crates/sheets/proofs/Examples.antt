-- Sheets of each kind, computed of the definitions. Assumes nothing.
use Prim.Native.Nat.{ℕ}
use mathlib.Core.Path.{◌≡◌, refl}
use mathlib.Core.List.{List, [], ◌∷◌, ◌++◌}
use lib.ListN.{replicate}
use Rattle.std.specs.Prelude.{Some, None}
use Rattle.sheets.specs.Sheet.{number_at, starts_in, starts_from, is_whole, is_good, first_bad, has_version, breach_of, find_in, find_of, found_at}

-- the texts "sun" at 3, no text at 5, "charge" at 0x0201: their entries start at 1, 8 and 12
abbrev three : List ℕ
three = 1 ∷ 0 ∷ 3 ∷ 0 ∷ 3 ∷ 115 ∷ 117 ∷ 110 ∷ 0 ∷ 0 ∷ 0 ∷ 5 ∷ 0 ∷ 6 ∷ 2 ∷ 1 ∷ 99 ∷ 104 ∷ 97 ∷ 114 ∷ 103 ∷ 101 ∷ []

-- an entry of a length, an index and a text
abbrev entry : ℕ → ℕ → ℕ → ℕ → List ℕ → List ℕ
entry l₁ l₂ i₁ i₂ text = l₁ ∷ l₂ ∷ i₁ ∷ i₂ ∷ text

pub record Table : Type 0 where
  pub good : breach_of three 256 ≡ None
  pub first : find_of three 3 ≡ found_at 5 3
  pub no_text : find_of three 5 ≡ found_at 12 0
  pub high_byte_first : find_of three 0x0201 ≡ found_at 16 6
  pub unlisted : find_of three 4 ≡ None
  pub version : breach_of (2 ∷ []) 256 ≡ Some 0
  pub no_bytes : breach_of [] 256 ≡ Some 0
  pub empty : breach_of (1 ∷ []) 256 ≡ None
  pub one_left : breach_of (three ++ (0 ∷ [])) 256 ≡ Some 22
  pub three_left : breach_of (three ++ (0 ∷ 0 ∷ 9 ∷ [])) 256 ≡ Some 22
  pub past_the_end : breach_of (three ++ entry 0 2 9 9 (7 ∷ [])) 256 ≡ Some 22
  pub to_the_end : breach_of (three ++ entry 0 1 9 9 (7 ∷ [])) 256 ≡ None
  pub index_0 : breach_of (1 ∷ entry 0 0 0 0 []) 256 ≡ Some 1
  pub index_32767 : breach_of (1 ∷ entry 0 0 127 255 []) 256 ≡ None
  pub index_32768 : breach_of (1 ∷ entry 0 0 128 0 []) 256 ≡ Some 1
  pub same_index : breach_of (three ++ entry 0 0 2 1 []) 256 ≡ Some 22
  pub lower_index : breach_of (three ++ entry 0 0 0 4 []) 256 ≡ Some 22
  pub text_256 : breach_of (1 ∷ entry 1 0 0 1 (replicate 256 65)) 256 ≡ None
  pub text_257 : breach_of (1 ∷ entry 1 1 0 1 (replicate 257 65)) 256 ≡ Some 1
  pub text_257_long : breach_of (1 ∷ entry 1 1 0 1 (replicate 257 65)) 32000 ≡ None
  pub cut_finds_before : find_of (three ++ entry 0 2 9 9 (7 ∷ [])) 3 ≡ found_at 5 3
  pub cut_finds_not : find_of (three ++ entry 0 2 9 9 (7 ∷ [])) 0x0909 ≡ None

pub table : Table
unfolding number_at starts_in starts_from is_whole is_good first_bad has_version breach_of find_in find_of
table =
    record {
      good = refl;
      first = refl;
      no_text = refl;
      high_byte_first = refl;
      unlisted = refl;
      version = refl;
      no_bytes = refl;
      empty = refl;
      one_left = refl;
      three_left = refl;
      past_the_end = refl;
      to_the_end = refl;
      index_0 = refl;
      index_32767 = refl;
      index_32768 = refl;
      same_index = refl;
      lower_index = refl;
      text_256 = refl;
      text_257 = refl;
      text_257_long = refl;
      cut_finds_before = refl;
      cut_finds_not = refl;
    }
