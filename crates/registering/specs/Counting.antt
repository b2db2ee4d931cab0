-- Counting in lists, over any kind of key with a test of sameness.
use Rattle.std.specs.Prelude.{ℕ, ◌+◌, Bool, false, cond, ◌||◌, [], List, ◌∷◌}

module _ {K : Type 0} where
  -- the sum of a number for each element
  abbrev pub sum_by : (K → ℕ) → List K → ℕ
  sum_by f [] = 0
  sum_by f (u ∷ us) = f u + sum_by f us

module _ {K : Type 0} (same : K → K → Bool) where
  -- how often a key stands in a list
  abbrev pub count : K → List K → ℕ
  count k [] = 0
  count k (u ∷ us) = cond (same u k) 1 0 + count k us

  abbrev pub member : K → List K → Bool
  member k [] = false
  member k (u ∷ us) = same k u || member k us

  -- the distinct keys of a list by first use, without those seen
  abbrev pub keys : List K → List K → List K
  keys seen [] = []
  keys seen (u ∷ us) = let a = keys seen us in let b = u ∷ keys (u ∷ seen) us in cond (member u seen) a b
