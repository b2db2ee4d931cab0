-- The digits that `io` makes of a number are those of the definitions. Assumes nothing.
use Prim.Native.Nat.{ℕ, zero, suc, ◌-◌, ◌*◌, ◌/◌, ◌%◌, ◌^◌, ◌≤◌, ◌<◌}
use mathlib.Core.Path.{◌≡◌, ap}
use mathlib.Core.List.{List, [], ◌∷◌, ◌++◌}
use native.Mathlib.Omega.{arith}
use native.Mathlib.Nat.{pow-suc, pow-le-pow_right}
use lib.Dec.{lit<}
use borrow.Author.Tests.{lt-ltb, le-ltb}
use Rattle.io.specs.Digits.{last_digits, hex_digit_ascii, IsDigitCount}
use Rattle.lines.proofs.Puts.{by_test}
use Rattle.lines.specs.Shown.{decimal_within, decimal}

-- the fewest digits of a number, where they are k at most
within : (k r n : ℕ) → r ≤ k → IsDigitCount 10 1 n r → last_digits 10 r n ≡ decimal_within k n
unfolding decimal_within
within k zero n h f = absurd (omega arith)
within zero (suc r) n h f = absurd (omega arith)
within (suc k) (suc zero) n h f = let e : n < 10 = f.1 in rw (lt-ltb n 10 e)
within (suc k) (suc (suc r)) n h f =
    let one : 1 ≤ 10 ^ r = pow-le-pow_right {n = 10} (lit< tt) {i = 0} {j = r} (omega arith) in
    let s : 10 ^ suc r ≡ 10 ^ r * 10 = pow-suc 10 r in
    let t : 10 ^ suc (suc r) ≡ 10 ^ suc r * 10 = pow-suc 10 (suc r) in
    let below : n < 10 ^ suc (suc r) = f.1 in
    let fewer : suc (suc r) - 1 ≡ suc r = omega arith in
    let many : 10 ^ suc r ≤ n = rw fewer at (f.2 (omega arith)) in
    let more : 10 ≤ n = omega arith in
    let fewer' : suc r - 1 ≡ r = omega arith in
    let rest : 10 ^ (suc r - 1) ≤ n / 10 = rw fewer' (omega arith) in
    rw (le-ltb n 10 more)
    (ap (λ (l : List ℕ). l ++ (hex_digit_ascii (n % 10) ∷ [])) (within k (suc r) (n / 10) (omega arith) (omega arith, omega arith, λ l. rest)))

-- a number below a power of the base has no more digits than the exponent says
fewest_within : (b least k r n : ℕ) → 0 < b → least ≤ k → n < b ^ k → IsDigitCount b least n r → r ≤ k
fewest_within b least k r n base h below f =
    by_test r k (λ l. l)
    (λ l. let many : b ^ (r - 1) ≤ n = f.2 (omega arith) in
    absurd (omega (arith, pow-le-pow_right {n = b} base {i = k} {j = r - 1} (omega arith))))

-- a number's decimal digits
pub decimal_digits : (r n : ℕ) → n < 2 ^ 64 → IsDigitCount 10 1 n r → last_digits 10 r n ≡ decimal n
unfolding decimal
decimal_digits r n h f = within 20 r n (fewest_within 10 1 20 r n (lit< tt) (omega arith) (omega arith) f) f

-- a number below a power of 16, in at least so many hexadecimal digits, has just so many
pub hex_digits : (k r n : ℕ) → n < 16 ^ k → IsDigitCount 16 k n r → last_digits 16 r n ≡ last_digits 16 k n
hex_digits k r n h f = let same : r ≡ k = omega (arith, fewest_within 16 k k r n (lit< tt) (omega arith) h f) in rw same
