-- Streams of bytes, their padding, parts of bytes, and the magic, after "Words and streams" and number 1 of document 01.
use Rattle.std.specs.Prelude.{ℕ, ◌+◌, ◌-◌, ◌*◌, ◌/◌, List, ◌∷◌, ◌++◌, [], Bool, true, false, ◌&&◌, length, take, drop, replicate, eqb, leb}
use Rattle.words.specs.Word.{pick}

-- "A stream of n bytes takes n/8 words, rounded up"
abbrev pub stream_words : ℕ → ℕ
stream_words n = (n + 7) / 8

-- how many bytes of padding follow a stream of n bytes
abbrev pub padding_of : ℕ → ℕ
padding_of n = 8 * stream_words n - n

-- "padding is zero bytes": a stream as it stands in a record
abbrev pub padded : List ℕ → List ℕ
padded bytes = bytes ++ replicate (padding_of (length bytes)) 0

-- out with these bytes at a place; what stands before and behind them is as it was
abbrev pub overwritten : List ℕ → ℕ → List ℕ → List ℕ
overwritten out place bytes = take place out ++ (bytes ++ drop (place + length bytes) out)

-- "A string is answered as the part of the archive it stands in, by the place and length shown; for a place and length not inside the archive, as the empty part."
unfoldable pub part_of : List ℕ → ℕ → ℕ → List ℕ
part_of bytes place long = pick (leb place (length bytes)) (pick (leb long (length bytes - place)) (take long (drop place bytes)) []) []

-- whether two lists of bytes are the same
abbrev pub same_bytes : List ℕ → List ℕ → Bool
same_bytes [] [] = true
same_bytes [] (b ∷ bs) = false
same_bytes (a ∷ as') [] = false
same_bytes (a ∷ as') (b ∷ bs) = eqb a b && same_bytes as' bs

-- whether all bytes are zero
abbrev pub all_zero : List ℕ → Bool
all_zero [] = true
all_zero (b ∷ bs) = eqb b 0 && all_zero bs

-- "10 00 04 46 78 54 16 00"
unfoldable pub magic : List ℕ
magic = 0x10 ∷ 0x00 ∷ 0x04 ∷ 0x46 ∷ 0x78 ∷ 0x54 ∷ 0x16 ∷ 0x00 ∷ []

-- number 1's opposite: the first eight bytes are the magic
unfoldable pub starts_with_magic : List ℕ → Bool
starts_with_magic bytes = same_bytes (take 8 bytes) magic
