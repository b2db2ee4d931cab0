-- What is known of writing to a writer. How many bytes it takes the writer alone decides.
use Rattle.std.specs.Prelude.{ℕ, ◌≤◌, ◌≡◌, List, [], ◌∷◌, ◌++◌, length, take, true, Option, Bool}
use Rattle.std.specs.Io.KnownBytes.{Appends}

-- to what the writer held before, some of the first n bytes of a buffer are added, and all of them where they were all written
abbrev pub Gives : Option (List ℕ) → Option (List ℕ) → ℕ → Bool → List ℕ → Type 0
Gives before after n reply buffer = (given : ℕ) × (given ≤ n) × (reply ≡ true → given ≡ n) × Appends before after (take given buffer)

-- a line that says what failed: its name, a colon and a space, a text, and the line's end
abbrev pub failure_line : List ℕ → List ℕ → List ℕ
failure_line what text = what ++ (0x3a ∷ 0x20 ∷ (text ++ 0x0a ∷ []))

-- such a line is written, with a text that the system alone decides
abbrev pub Says : Option (List ℕ) → Option (List ℕ) → Bool → List ℕ → Type 0
Says before after reply what = (text : List ℕ) × Gives before after (length (failure_line what text)) reply (failure_line what text)
