-- Fields of a word: taken out by a shift and a mask, put in by a shift and `|`, and a word that is packed from a list of fields.
-- Assumes nothing.
use Prim.Native.Nat.{ℕ, zero, suc, ◌+◌, ◌-◌, ◌*◌, ◌/◌, ◌%◌, ◌^◌, ◌<◌, ◌≤◌}
use mathlib.Core.Path.{◌≡◌, refl, sym, ap, subst, ◌∙◌}
use mathlib.Core.List.{[], List, ◌∷◌}
use native.Mathlib.Nat.{add_comm, zero-add, one-mul, mul-le-mul_left, div-one, div-eq_of_lt, mod-eq_of_lt}
use native.Mathlib.Nat.{div-div-eq-div-mul, add-mul-div_left, add-mul-mod_self_left}
use native.Mathlib.Omega.{arith}
use lib.Arith.{digits_lt}
use lib.Bits.{bit_and, bit_or, and_mask, or_shifted_r}
use lib.Dec.{lit<}
use lib.Pow.{pow-add, pow_pos, shl_exact}
use Rattle.words.specs.Word.{Field, ◌of◌, pack}

-- a shift down and a mask take out the field of this offset and width
pub taken : (offset width word : ℕ) → bit_and (word / 2 ^ offset) (2 ^ width - 1) ≡ word / 2 ^ offset % 2 ^ width
taken offset width word = and_mask (word / 2 ^ offset) width

-- one, shifted up by a width, is the power whose predecessor is the mask of that width
pub mask : (width : ℕ) → width < 64 → (1 * 2 ^ width) % 2 ^ 64 ≡ 2 ^ width
mask width h = shl_exact 1 width 64 (lit< tt) (omega arith) ∙ one-mul (2 ^ width)

-- b, of j bits, shifted up and put by `|` above a, of k bits, is a sum
pub placed : (j k a b : ℕ) → a < 2 ^ k → b < 2 ^ j → j + k ≤ 64 → bit_or a ((b * 2 ^ k) % 2 ^ 64) ≡ a + b * 2 ^ k
placed j k a b ha hb h = ap (λ (n : ℕ). bit_or a n) (shl_exact j k 64 hb h) ∙ or_shifted_r b k a ha ∙ add_comm (b * 2 ^ k) a

-- that sum has j + k bits
pub placed_lt : (j k a b : ℕ) → a < 2 ^ k → b < 2 ^ j → a + b * 2 ^ k < 2 ^ (j + k)
placed_lt j k a b ha hb =
    subst (λ (n : ℕ). n < 2 ^ (j + k)) (add_comm (b * 2 ^ k) a)
    (subst (λ (n : ℕ). b * 2 ^ k + a < n) (sym (pow-add 2 j k)) (digits_lt hb ha))

-- both at once, over a word that is known to be the number a: for chains of `|`
pub joined : (j k : ℕ) {word a b : ℕ} → j + k ≤ 64 → word ≡ a → a < 2 ^ k → b < 2 ^ j
    → (bit_or word ((b * 2 ^ k) % 2 ^ 64) ≡ a + b * 2 ^ k) × (a + b * 2 ^ k < 2 ^ (j + k))
joined j k {word} {a} {b} h e ha hb =
    (ap (λ (n : ℕ). bit_or n ((b * 2 ^ k) % 2 ^ 64)) e ∙ placed j k a b ha hb h, placed_lt j k a b ha hb)

-- every field's value is below two to its width
abbrev pub Fits : List Field → Type 0
Fits [] = Unit {0}
Fits (v of w ∷ fields) = (v < 2 ^ w) × Fits fields

-- the bit at which field i stands
abbrev pub offset : ℕ → List Field → ℕ
offset i [] = 0
offset zero (v of w ∷ fields) = 0
offset (suc i) (v of w ∷ fields) = w + offset i fields

-- the width of field i
abbrev pub width : ℕ → List Field → ℕ
width i [] = 0
width zero (v of w ∷ fields) = w
width (suc i) (v of w ∷ fields) = width i fields

-- the value of field i
abbrev pub value : ℕ → List Field → ℕ
value i [] = 0
value zero (v of w ∷ fields) = v
value (suc i) (v of w ∷ fields) = value i fields

-- all widths together
abbrev pub widths : List Field → ℕ
widths [] = 0
widths (v of w ∷ fields) = w + widths fields

-- field i of a packed word is the value that was packed
pub field_law : (i : ℕ) (fields : List Field) → Fits fields
    → pack fields / 2 ^ offset i fields % 2 ^ width i fields ≡ value i fields
field_law i [] h = refl
field_law zero (v of w ∷ fields) h = rw (div-one, add-mul-mod_self_left v (2 ^ w) (pack fields), mod-eq_of_lt h.0)
field_law (suc i) (v of w ∷ fields) h =
    rw (
      pow-add 2 w (offset i fields),
      ← div-div-eq-div-mul _ (2 ^ w) (2 ^ offset i fields),
      add-mul-div_left v (pack fields) (pow_pos w),
      div-eq_of_lt h.0,
      zero-add,
    )
    (field_law i fields h.1)

-- a packed word has as many bits as its fields together
pub pack_lt : (fields : List Field) → Fits fields → pack fields < 2 ^ widths fields
pack_lt [] h = omega arith
pack_lt (v of w ∷ fields) h =
    rw (pow-add 2 w (widths fields)) (omega (arith, h.0, mul-le-mul_left (2 ^ w) (pack_lt fields h.1)))
