-- The repacking rule without a product: by the words of a key and the number of its uses.
-- Assumes nothing.
use Prim.Native.Nat.{ℕ, ◌+◌, ◌*◌, ◌≤◌, ◌<◌}
use mathlib.Core.Path.{◌≡◌, sym, ◌∙◌}
use mathlib.Core.Bool.{true, false}
use native.Mathlib.Omega.{arith}
use native.Mathlib.Nat.{mul-le-mul_right}
use lib.Dec.{ltb}
use borrow.Author.Tests.{lt-ltb, le-ltb, ltb-true, ltb-false}
use Rattle.words.proofs.Tests.{cases}
use Rattle.registering.specs.Registers.{registers}

-- a key that is registered takes fewer words so than by its uses inline
pub registered_less : (words uses : ℕ) → registers words uses ≡ true → 1 + words < uses * words
unfolding registers
registered_less words uses e = ltb-true (1 + words) (uses * words) e

-- a key that is not takes no more, inline, than it would take registered
pub inline_least : (words uses : ℕ) → registers words uses ≡ false → uses * words ≤ 1 + words
unfolding registers
inline_least words uses e = ltb-false (1 + words) (uses * words) e

-- a key of no words is never registered
pub registers_empty : (uses : ℕ) → registers 0 uses ≡ false
registers_empty uses = cases (registers 0 uses) (λ e. absurd (omega (arith, registered_less 0 uses e))) (λ e. e)

-- neither is a key used once at most
pub registers-few : (words uses : ℕ) → uses < 2 → registers words uses ≡ false
registers-few words uses few =
    let least : uses * words ≤ 1 * words = mul-le-mul_right words (omega arith) in
    cases (registers words uses) (λ e. absurd (omega (arith, registered_less words uses e))) (λ e. e)

-- a key used twice is registered exactly if it has two words or more
pub registers_twice : (words : ℕ) → registers words 2 ≡ ltb 1 words
registers_twice words =
    cases (registers words 2)
    (λ e. e ∙ sym (lt-ltb 1 words (omega (arith, registered_less words 2 e))))
    (λ e. e ∙ sym (le-ltb 1 words (omega (arith, inline_least words 2 e))))

-- any key with words that is used three times or more is registered
pub registers_often : (words uses : ℕ) → 0 < words → 2 < uses → registers words uses ≡ true
registers_often words uses some often =
    let most : 3 * words ≤ uses * words = mul-le-mul_right words often in
    cases (registers words uses) (λ e. e) (λ e. absurd (omega (arith, inline_least words uses e)))
