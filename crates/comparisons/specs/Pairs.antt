-- Pairs of texts that are the same, counted. The texts of each side stand one behind the other.
use Rattle.std.specs.Prelude.{ℕ, ◌+◌, List, ◌∷◌, [], take, drop}
use Rattle.words.specs.Word.{pick}
use Rattle.words.specs.Stream.{same_bytes}

-- how many pairs are the same: of the first length the first bytes of a and of b, and so on; a text ends where its side does
unfoldable pub same_pairs : List ℕ → List ℕ → List ℕ → ℕ
same_pairs [] a b = 0
same_pairs (n ∷ lengths) a b = pick (same_bytes (take n a) (take n b)) 1 0 + same_pairs lengths (drop n a) (drop n b)
