-- Bytes written at a place, and streams with their padding.
-- Assumes nothing.
use Prim.Native.Nat.{ℕ, suc, ◌+◌, ◌*◌, ◌<◌, ◌≤◌}
use mathlib.Core.Path.{◌≡◌, ◌∙◌}
use mathlib.Core.List.{List, ◌++◌, append_assoc, []}
use mathlib.Core.Bool.{true}
use native.Mathlib.Nat.{add_assoc}
use native.Mathlib.Numerals.{add-one}
use native.Mathlib.Omega.{arith}
use lib.ListN.{length, get_or, set, take, drop, replicate, length-append, length-drop, length-replicate}
use lib.Seq.{length-take-le, take_all, take_at, drop_at, drop-drop, drop-append_seam, sets, sets-eq, paste-zero, paste-suc}
use borrow.Rule.Slice.PartMut.{put_mid}
use Rattle.words.specs.Stream.{stream_words, padding_of, padded, overwritten, all_zero}
use Rattle.words.proofs.Words.{At}
use Rattle.words.proofs.Same.{zero_zeros}

-- a stream and its padding are whole words
pub padding_whole : (n : ℕ) → n + padding_of n ≡ 8 * stream_words n
padding_whole n = omega arith

-- a padded stream is as long as its words
pub length-padded : (b : List ℕ) → length (padded b) ≡ 8 * stream_words (length b)
length-padded b = rw (length-append b, length-replicate) (padding_whole (length b))

-- the padding behind a stream is zero
pub padding_zero_lem : (b rest : List ℕ) → all_zero (take (padding_of (length b)) (drop (length b) (padded b ++ rest))) ≡ true
padding_zero_lem b rest =
    let n = padding_of (length b) in
    let zeros : List ℕ = replicate n 0 in
    rw (append_assoc b zeros rest, drop-append_seam b (zeros ++ rest), take_at zeros rest n (length-replicate n 0)) (zero_zeros n)

-- where a padded stream stands, zero padding is read behind its bytes
pub padding_is : (bytes : List ℕ) (place : ℕ) (b : List ℕ) → At bytes place (padded b)
    → all_zero (take (padding_of (length b)) (drop (place + length b) bytes)) ≡ true
padding_is bytes place b at = rw (← drop-drop (length b) place bytes, at.1) (padding_zero_lem b at.0)

-- what stands before the place, with what is written there, ends behind what is written
head_length : (out : List ℕ) (place : ℕ) (bytes : List ℕ) → place ≤ length out → length (take place out ++ bytes) ≡ place + length bytes
head_length out place bytes h = rw (length-append (take place out) bytes, length-take-le place out h)

-- writing inside of a buffer keeps its length
pub length-overwritten : (out : List ℕ) (place : ℕ) (bytes : List ℕ) → place + length bytes ≤ length out
    → length (overwritten out place bytes) ≡ length out
length-overwritten out place bytes h =
    rw (length-append (take place out), length-append bytes, length-take-le place out (omega arith), length-drop) (omega arith)

-- up to the end of the bytes written stand what was before the place, and those bytes
pub take_written : (out : List ℕ) (place : ℕ) (bytes : List ℕ) → place ≤ length out
    → take (place + length bytes) (overwritten out place bytes) ≡ take place out ++ bytes
take_written out place bytes h =
    rw (← append_assoc (take place out) bytes (drop (place + length bytes) out))
    (take_at (take place out ++ bytes) (drop (place + length bytes) out) (place + length bytes) (head_length out place bytes h))

-- what stands behind the bytes written is as it was
pub drop_written : (out : List ℕ) (place : ℕ) (bytes : List ℕ) → place ≤ length out
    → drop (place + length bytes) (overwritten out place bytes) ≡ drop (place + length bytes) out
drop_written out place bytes h =
    rw (← append_assoc (take place out) bytes (drop (place + length bytes) out))
    (drop_at (take place out ++ bytes) (drop (place + length bytes) out) (place + length bytes) (head_length out place bytes h))

-- writing a, and right behind it b, is writing a ++ b
pub overwritten_twice : (out : List ℕ) (place : ℕ) (a b : List ℕ) → place ≤ length out
    → overwritten (overwritten out place a) (place + length a) b ≡ overwritten out place (a ++ b)
overwritten_twice out place a b h =
    rw (
      take_written out place a h,
      ← drop-drop (length b) (place + length a) (overwritten out place a),
      drop_written out place a h,
      drop-drop (length b) (place + length a) out,
      length-append a b,
      ← add_assoc place (length a) (length b),
      append_assoc (take place out) a,
      append_assoc a b,
    )

-- stores of bytes one behind the other are one writing
pub stores_written : (out : List ℕ) (place : ℕ) (bytes : List ℕ) → place + length bytes ≤ length out
    → sets out place bytes ≡ overwritten out place bytes
stores_written out place bytes h = sets-eq bytes out place h ∙ append_assoc (take place out) bytes (drop (place + length bytes) out)

-- writing no bytes leaves a buffer as it is
pub none-overwritten : (out : List ℕ) (place : ℕ) (bytes : List ℕ) → out ≡ overwritten out place (take 0 bytes)
none-overwritten out place bytes = paste-zero out place bytes ∙ append_assoc (take place out) [] (drop (place + 0) out)

-- a loop that writes byte by byte: a turn's store writes one byte more
pub more_written : (out : List ℕ) (place : ℕ) (bytes : List ℕ) (i : ℕ) → place + length bytes ≤ length out → i < length bytes
    → set (overwritten out place (take i bytes)) (place + i) (get_or bytes i 0) ≡ overwritten out place (take (i + 1) bytes)
more_written out place bytes i h l =
    rw (
      length-take-le i bytes (omega arith),
      length-take-le (i + 1) bytes (omega arith),
      ← append_assoc (take place out) (take i bytes) (drop (place + i) out),
      paste-suc out place bytes i 0 (omega arith) l,
      add-one i,
      append_assoc (take place out) (take (suc i) bytes) (drop (place + suc i) out),
    )

-- a loop that writes byte by byte: all is written behind the last turn
pub all_written : (out : List ℕ) (place : ℕ) (bytes : List ℕ) (i : ℕ) → length bytes ≤ i
    → overwritten out place (take i bytes) ≡ overwritten out place bytes
all_written out place bytes i h = rw (take_all i bytes h)

-- a part of a buffer, after bytes of its length were put into it, is those bytes written at its place
pub part_written : (out : List ℕ) (place k : ℕ) (part bytes : List ℕ) → part ≡ bytes → length bytes ≡ k
    → put_mid place k out part ≡ overwritten out place bytes
part_written out place k part bytes same long = rw (same, drop-drop k place out, long)
