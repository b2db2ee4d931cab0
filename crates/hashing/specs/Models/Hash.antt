-- A number of some bytes by which keys fall into slots: any would do, and none of what is said of a table depends on it.
use Rattle.std.specs.Prelude.{ℕ, zero, suc, ◌+◌, ◌-◌, ◌*◌, ◌/◌, ◌%◌, ◌^◌, List, length, drop, ◌==◌, nat_lt, min, slice_index}
use Rattle.words.specs.Word.{pick, little, little_at, field}

-- the sum of two words, without what is above 64 bits
abbrev pub sum_of : ℕ → ℕ → ℕ
sum_of a b = (a + b) % 2 ^ 64

-- a word with its halves exchanged
unfoldable pub swapped_of : ℕ → ℕ
swapped_of word = field 32 63 word + field 0 31 word * 2 ^ 32

-- each half of a word times a number; the exchange puts the high bits of one product beside the low bits of the other
unfoldable pub spread_of : ℕ → ℕ → ℕ → ℕ
spread_of low high word = sum_of (field 0 31 word * low) (swapped_of (field 32 63 word * high))

-- a hash and four words more; of many multipliers that were tried, threads with numbers in a row and numbered names fall apart best by these
unfoldable pub join_of : ℕ → ℕ → ℕ → ℕ → ℕ → ℕ
join_of hash a b c d =
    sum_of (sum_of (spread_of 0x11cb92d9 0x150665e9 (sum_of hash a)) (spread_of 0x190f16e3 0x79204595 b))
    (sum_of (spread_of 0x1f740b41 0x545c46f3 c) (spread_of 0x732eb6d7 0x7e0cc889 d))

-- a hash and the bytes from `first` to the end of the word at `last`, at most 32: the words at both ends and the two next to them
-- towards the middle, which overlap where the bytes are fewer
unfoldable pub block_of : List ℕ → ℕ → ℕ → ℕ → ℕ
block_of bytes hash first last =
    let step = min 8 (last - first) in
    join_of hash (little_at bytes first) (little_at bytes (first + step)) (little_at bytes (last - step)) (little_at bytes last)

-- a hash and so many blocks of 32 bytes
unfoldable pub blocks_of : List ℕ → ℕ → ℕ → ℕ
blocks_of bytes hash zero = hash
blocks_of bytes hash (suc i) = block_of bytes (blocks_of bytes hash i) (32 * i) (32 * i + 24)

-- fewer than eight bytes as one number: the first four and the last four, or each of three
unfoldable pub half_at : List ℕ → ℕ → ℕ
half_at bytes place = little 4 (drop place bytes)

unfoldable pub few_of : List ℕ → ℕ
few_of bytes =
    let n = length bytes in
    pick (n == 0) 0
    (pick (nat_lt n 4)
    (slice_index bytes 0 + 256 * slice_index bytes (n / 2) + 65536 * slice_index bytes (n - 1))
    (half_at bytes 0 + 2 ^ 32 * half_at bytes (n - 4)))

-- a number of a seed and all of some bytes: blocks of 32, and a last one that ends with the bytes
unfoldable pub hash_of : ℕ → List ℕ → ℕ
hash_of seed bytes =
    let n = length bytes in
    let blocks = (n - 1) / 32 in
    pick (nat_lt n 8) (sum_of seed (few_of bytes))
    (block_of bytes (blocks_of bytes seed blocks) (min (32 * blocks) (n - 8)) (n - 8))

-- 32 bits of a hash, in which each of its bits has a part; short numbered names fall apart best by these multipliers
unfoldable pub folded_of : ℕ → ℕ
folded_of hash =
    let mixed = spread_of 0x13553b39 0x566fe581 hash in
    field 0 31 (field 0 31 mixed + field 32 63 mixed)
