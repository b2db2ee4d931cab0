-- A signed number as a local's bits hold it, by its sign: what printing it asks. Assumes nothing.
use native.Mathlib.Nat.{not-suc-le-zero}
use native.Mathlib.Numerals.{add-one}
use Prim.Native.Nat.{ℕ}
use mathlib.Core.Path.{◌≡◌, refl, sym, ap, subst⁻¹}
use mathlib.Core.Bool.{true, false, true≢false}
use mathlib.Core.List.{[], ◌∷◌, ◌++◌}
use borrow.Author.Tests.{ltb-true}
use lib.IntN.{ℤ, pos, negsuc, nat_abs}
use lib.Signed.{lt_z}
use mir.Syntax.{Width}
use mir.Val.{SFits, to_z, of_z}
use mir.Facts.{to_z-of_z}
use Rattle.lines.specs.Shown.{decimal, number_shown, signed_shown}

-- a number below zero is shown by `-` and its magnitude
negative : (n : ℤ) → lt_z n (pos 0) ≡ true → (32 ∷ 45 ∷ []) ++ decimal (nat_abs n) ≡ signed_shown n
unfolding signed_shown
negative (pos n) h = absurd (not-suc-le-zero (ltb-true n 0 h))
negative (negsuc n) h = ap (λ (k : ℕ). (32 ∷ 45 ∷ []) ++ decimal k) (sym (add-one n))

-- another by its magnitude alone
positive : (n : ℤ) → lt_z n (pos 0) ≡ false → (32 ∷ []) ++ decimal (nat_abs n) ≡ signed_shown n
unfolding signed_shown number_shown
positive (pos n) h = refl
positive (negsuc n) h = absurd (true≢false h)

module _ (w : Width) (n : ℤ) (f : SFits w n) where
  -- the same, of a local's bits
  pub negative_shown : lt_z (to_z w (of_z w n)) (pos 0) ≡ true → (32 ∷ 45 ∷ []) ++ decimal (nat_abs (to_z w (of_z w n))) ≡ signed_shown n
  negative_shown = subst⁻¹ (λ (z : ℤ). lt_z z (pos 0) ≡ true → (32 ∷ 45 ∷ []) ++ decimal (nat_abs z) ≡ signed_shown n) (to_z-of_z f) (negative n)

  pub positive_shown : lt_z (to_z w (of_z w n)) (pos 0) ≡ false → (32 ∷ []) ++ decimal (nat_abs (to_z w (of_z w n))) ≡ signed_shown n
  positive_shown = subst⁻¹ (λ (z : ℤ). lt_z z (pos 0) ≡ false → (32 ∷ []) ++ decimal (nat_abs z) ≡ signed_shown n) (to_z-of_z f) (positive n)

  -- a number that was handed on is the number
  pub handed_on : signed_shown (to_z w (of_z w n)) ≡ signed_shown n
  handed_on = ap signed_shown (to_z-of_z f)
