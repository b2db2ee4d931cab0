-- The names sheet, after request W5. A list of numbers stands for the sheet's bytes.
use Rattle.std.specs.Prelude.{ℕ, zero, suc, ◌+◌, ◌*◌, List, [], ◌∷◌, Bool, ◌&&◌, length, get_or, eqb, leb, ltb, Option, Some, None}
use Rattle.words.specs.Word.{pick}
use Rattle.sheets.specs.declared.Text.{Text}

-- "big-endian 16-bit": the number of the two bytes at a place
unfoldable pub number_at : List ℕ → ℕ → ℕ
number_at bytes place = 256 * get_or bytes place 0 + get_or bytes (place + 1) 0

-- "entries of a big-endian 16-bit length, a big-endian 16-bit index, and the text": of the entry that starts at a place
abbrev pub length_at : List ℕ → ℕ → ℕ
length_at sheet at = number_at sheet at

abbrev pub index_at : List ℕ → ℕ → ℕ
index_at sheet at = number_at sheet (at + 2)

abbrev pub text_at : ℕ → ℕ
text_at at = at + 4

abbrev pub end_at : List ℕ → ℕ → ℕ
end_at sheet at = text_at at + length_at sheet at

-- where entries start: at this place, and at the end of each entry, as long as bytes are left.
-- Each entry takes at least 4 bytes, so as many turns as the sheet has bytes are enough (law `turns-enough`).
unfoldable pub starts_in : ℕ → List ℕ → ℕ → List ℕ
starts_in zero sheet at = []
starts_in (suc turns) sheet at = pick (ltb at (length sheet)) (at ∷ starts_in turns sheet (end_at sheet at)) []

unfoldable pub starts_from : List ℕ → ℕ → List ℕ
starts_from sheet at = starts_in (length sheet) sheet at

-- "one version byte, 1, then entries": the starts of the sheet's entries
abbrev pub starts : List ℕ → List ℕ
starts sheet = starts_from sheet 1

-- "1 to 3 bytes left, a text past the end" is a breach: a whole entry ends inside the sheet
unfoldable pub is_whole : List ℕ → ℕ → Bool
is_whole sheet at = leb (end_at sheet at) (length sheet)

-- "Indexes lie in 1 to 32,767 and rise strictly", no "text over the string limit": a good entry, behind one of the index `before`.
-- The first has 0 before it, so no entry has the index 0.
unfoldable pub is_good : List ℕ → ℕ → ℕ → ℕ → Bool
is_good sheet longest before at =
    is_whole sheet at && leb (length_at sheet at) longest && ltb before (index_at sheet at) && leb (index_at sheet at) 32767

-- "at the start of the first bad entry"
unfoldable pub first_bad : List ℕ → ℕ → ℕ → List ℕ → Option ℕ
first_bad sheet longest before [] = None
first_bad sheet longest before (at ∷ more) =
    pick (is_good sheet longest before at) (first_bad sheet longest (index_at sheet at) more) (Some at)

-- "one version byte, 1"; a sheet of no bytes has none (`get_or` gives 0 for it)
unfoldable pub has_version : List ℕ → Bool
has_version sheet = eqb (get_or sheet 0 0) 1

-- "at the start of the first bad entry (0 for the version)"; "an empty sheet is the version byte alone": no entry, none bad
unfoldable pub breach_of : List ℕ → ℕ → Option ℕ
breach_of sheet longest = pick (has_version sheet) (first_bad sheet longest 0 (starts sheet)) (Some 0)

-- a text that is found, by its place and length
abbrev pub found_at : ℕ → ℕ → Option Text
found_at place long = Some (record { place = place; length = long })

-- what an index stands for: the place and length of the text of the first whole entry that has it
unfoldable pub find_in : List ℕ → ℕ → List ℕ → Option Text
find_in sheet index [] = None
find_in sheet index (at ∷ more) =
    pick (is_whole sheet at && eqb (index_at sheet at) index) (found_at (text_at at) (length_at sheet at)) (find_in sheet index more)

unfoldable pub find_of : List ℕ → ℕ → Option Text
find_of sheet index = find_in sheet index (starts sheet)
