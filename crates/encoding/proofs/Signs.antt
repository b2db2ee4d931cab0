-- Signed numbers and their bits, over the width. Assumes nothing.
use Prim.Native.Nat.{ℕ}
use mathlib.Core.Path.{◌≡◌, ap, ◌∙◌}
use lib.IntN.{ℤ}
use mir.Syntax.{Width}
use mir.Val.{SFits, to_z, of_z}
use mir.Facts.{to_z-of_z}
use Rattle.words.specs.Word.{unsigned}

-- the bits of a number that was handed on are the bits of the number
pub handed_on : (w : Width) (k : ℕ) (z : ℤ) (r : ℕ) → SFits w z → r ≡ unsigned k (to_z w (of_z w z)) → r ≡ unsigned k z
handed_on w k z r h e = e ∙ ap (unsigned k) (to_z-of_z h)
