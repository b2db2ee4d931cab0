-- When a key is registered, after document 01's repacking rule.
use Rattle.std.specs.Prelude.{ℕ, ◌+◌, ◌*◌, Bool, ltb}

-- "A string of w words used k times in a context is registered exactly if 1 + w is below k times w; a thread exactly if 3 is below 2k":
-- a thread is a key of two words
unfoldable pub registers : ℕ → ℕ → Bool
registers w k = ltb (1 + w) (k * w)
