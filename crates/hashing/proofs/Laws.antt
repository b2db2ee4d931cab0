-- What the code needs of a key's hash: that products of halves fit a word, that four bytes read in a part are those of the whole, and one
-- turn over the blocks. Assumes nothing.
use Rattle.std.proofs.Common.{◌≡◌, ℕ, ◌+◌, ◌*◌, ◌/◌, ◌%◌, ◌^◌, ◌<◌, ◌≤◌, List, get_or, take, drop, ◌∙◌, mul-le-mul, add-one, arith, get_or-drop, get_or-take}
use Rattle.std.specs.Int.{rotate_left, w64}
use Rattle.std.specs.Int.Bits.{bit_or}
use Rattle.std.proofs.lemmas.Nat.{or_shifted}
use Rattle.std.proofs.Common.{ap}
use Rattle.words.specs.Word.{little}
use Rattle.words.proofs.Words.{little_same}
use Rattle.hashing.specs.Models.Hash.{swapped_of, block_of, blocks_of, half_at}

-- the product of two halves of a word is a word
pub product_low : (a b : ℕ) → a < 2 ^ 32 → b < 2 ^ 32 → a * b < 2 ^ 64
product_low a b h k =
    omega (arith, mul-le-mul {n₁ = a} {m₁ = b} {n₂ = 4294967295} {m₂ = 4294967295} (omega arith) (omega arith))

-- a word turned by half of its bits is the word with its halves exchanged
pub turned : (word : ℕ) → word < 2 ^ 64 → rotate_left w64 word 32 ≡ swapped_of word
unfolding swapped_of
turned word h =
    let high = word / 2 ^ 32 in
    let low = word % 2 ^ 32 in
    let up : (word * 2 ^ 32) % 2 ^ 64 ≡ low * 2 ^ 32 = omega arith in
    ap (λ (n : ℕ). bit_or n high) up ∙ or_shifted low 32 high (omega arith) ∙ omega arith

-- the first four bytes, one by one
pub half_bytes : (bytes : List ℕ)
    → half_at bytes 0 ≡ get_or bytes 0 0 + 256 * get_or bytes 1 0 + 65536 * get_or bytes 2 0 + 16777216 * get_or bytes 3 0
unfolding half_at little
half_bytes bytes = simp get_or-drop (omega arith)

-- four bytes are the first ones of a part that starts with them
pub half_part : (bytes : List ℕ) (place n : ℕ) → 4 ≤ n → half_at (take n (drop place bytes)) 0 ≡ half_at bytes place
unfolding half_at
half_part bytes place n h =
    little_same 4 (take n (drop place bytes)) (drop place bytes) (λ i l. get_or-take n (drop place bytes) i 0 (omega arith))

-- one block more
pub blocks_turn : (bytes : List ℕ) (seed i hash next : ℕ)
    → hash ≡ blocks_of bytes seed i → next ≡ block_of bytes hash (32 * i) (32 * i + 24) → next ≡ blocks_of bytes seed (i + 1)
unfolding blocks_of
blocks_turn bytes seed i hash next e f = f ∙ rw (e, add-one i)
