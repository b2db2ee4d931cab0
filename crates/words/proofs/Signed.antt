-- Signed numbers in two's complement: how many bits they have, and that they read back as themselves.
-- Assumes nothing.
use Prim.Native.Nat.{ℕ, ◌+◌, ◌-◌, ◌*◌, ◌^◌, ◌<◌}
use mathlib.Core.Path.{◌≡◌, refl}
use mathlib.Core.Bool.{Bool, true, false}
use native.Mathlib.Omega.{arith}
use borrow.Author.Tests.{le-ltb, lt-ltb, ltb-true, ltb-false}
use lib.Dec.{ltb}
use lib.IntN.{ℤ, pos, negsuc}
use lib.Pow.{pow_pos, pow-add}
use Rattle.words.specs.Word.{pick, signed, unsigned}

-- the signed numbers of k bits
abbrev pub SignedFits : ℕ → ℤ → Type 0
SignedFits k (pos n) = n < 2 ^ (k - 1)
SignedFits k (negsuc n) = n < 2 ^ (k - 1)

two_halves : (k : ℕ) → 0 < k → 2 ^ k ≡ 2 ^ (k - 1) + 2 ^ (k - 1)
two_halves k some =
    let next : 1 + (k - 1) ≡ k = omega arith in
    let twice : 2 ^ k ≡ 2 * 2 ^ (k - 1) = rw next at (pow-add 2 1 (k - 1)) in
    omega arith

-- in two's complement they have k bits
pub unsigned_lt : (k : ℕ) (z : ℤ) → 0 < k → SignedFits k z → unsigned k z < 2 ^ k
unsigned_lt k (pos n) some fit = omega (arith, two_halves k some)
unsigned_lt k (negsuc n) some fit = omega (arith, pow_pos k)

-- and read back as themselves
pub signed-unsigned : (k : ℕ) (z : ℤ) → 0 < k → SignedFits k z → signed k (unsigned k z) ≡ z
signed-unsigned k (pos n) some fit = rw (lt-ltb n (2 ^ (k - 1)) fit)
signed-unsigned k (negsuc n) some fit =
    let turned : 2 ^ k - 1 - (2 ^ k - 1 - n) ≡ n = omega (arith, two_halves k some) in
    rw (le-ltb (2 ^ k - 1 - n) (2 ^ (k - 1)) (omega (arith, two_halves k some)), turned)

-- two's complement gives a number of its width
pub signed-fits : (k n : ℕ) → 0 < k → n < 2 ^ k → SignedFits k (signed k n)
signed-fits k n some h = go (ltb n (2 ^ (k - 1))) refl
  where
    go : (b : Bool) → ltb n (2 ^ (k - 1)) ≡ b → SignedFits k (pick b (pos n) (negsuc (2 ^ k - 1 - n)))
    go true e = ltb-true n (2 ^ (k - 1)) e
    go false e = omega (arith, two_halves k some, ltb-false n (2 ^ (k - 1)) e)
