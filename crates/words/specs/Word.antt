-- Words and their fields, after "Words and streams" of document 01. A list of numbers stands for bytes.
use Rattle.std.specs.Prelude.{ℕ, zero, suc, ◌+◌, ◌-◌, ◌*◌, ◌/◌, ◌%◌, ◌^◌, List, ◌∷◌, [], Bool, true, false, ℤ, pos, negsuc, get_or, drop, ltb}
use Rattle.words.specs.declared.Order.{Order}
use Rattle.words.specs.declared.Order.TheVariants.{Little}

-- the first case where the test holds, else the second
abbrev pub pick : {A : Type 0} → Bool → A → A → A
pick true a b = a
pick false a b = b

-- the number that the first k of these bytes spell, the lowest byte first
unfoldable pub little : ℕ → List ℕ → ℕ
little zero bytes = 0
little (suc k) bytes = get_or bytes 0 0 + 256 * little k (drop 1 bytes)

-- the number that the eight bytes at a place spell so
unfoldable pub little_at : List ℕ → ℕ → ℕ
little_at bytes place = little 8 (drop place bytes)

-- the lowest k bytes of a number, the lowest first
unfoldable pub bytes_of : ℕ → ℕ → List ℕ
bytes_of zero n = []
bytes_of (suc k) n = n % 256 ∷ bytes_of k (n / 256)

-- "A word is 8 bytes, little-endian": the word at a byte place, in a byte order
unfoldable pub word_at : Order → List ℕ → ℕ → ℕ
word_at Little bytes place = little_at bytes place

-- and the bytes of a word that is written
unfoldable pub word_bytes : Order → ℕ → List ℕ
word_bytes Little n = bytes_of 8 n

-- "Bits are written [low..high], both included": the field [low..high] of a word
abbrev pub field : ℕ → ℕ → ℕ → ℕ
field low high word = word / 2 ^ low % 2 ^ (suc high - low)

-- a field's value and its width in bits
infix 75 ◌of◌
pub data Field : Type 0 where
  ◌of◌ : ℕ → ℕ → Field

-- a word put together from its fields, the lowest first
abbrev pub pack : List Field → ℕ
pack [] = 0
pack (value of width ∷ fields) = value + 2 ^ width * pack fields

-- "Signed numbers are two's complement": the number that k bits stand for
abbrev pub signed : ℕ → ℕ → ℤ
signed k n = pick (ltb n (2 ^ (k - 1))) (pos n) (negsuc (2 ^ k - 1 - n))

-- and the k bits that stand for a number
abbrev pub unsigned : ℕ → ℤ → ℕ
unsigned k (pos n) = n
unsigned k (negsuc n) = 2 ^ k - 1 - n

-- the bit of a truth value
abbrev pub bit : Bool → ℕ
bit true = 1
bit false = 0
