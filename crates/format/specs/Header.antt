-- A record's header and how far the record reaches, after "Words and streams" and the order of checks of document 01.
use Rattle.std.specs.Prelude.{ℕ, ◌*◌, List, length, Result, Ok, Err, eqb, ltb}
use Rattle.words.specs.Word.{pick, word_at, field}
use Rattle.words.specs.Stream.{starts_with_magic}
use Rattle.format.specs.declared.Format.{Format}
use Rattle.format.specs.declared.Reason.{Reason}
use Rattle.format.specs.declared.Reason.TheVariants.{Cut, Malformed}
use Rattle.format.specs.Limits.{longest_archive}

-- "Header: type [0..3], size in words with the header [4..15]. Type 15 only: size [4..35]."
unfoldable pub record_words : ℕ → ℕ
record_words header = pick (eqb (field 0 3 header) 15) (field 4 35 header) (field 4 15 header)

-- "5 for the tail, 6 for size 0, 5 for the record": how many bytes the record takes at the start of what is left of the archive
unfoldable pub extent_of : Format → List ℕ → Result ℕ Reason
extent_of f rest =
    pick (ltb (length rest) 8) (Err Cut)
    (pick (eqb (record_words (word_at f.order rest 0)) 0) (Err Malformed)
    (pick (ltb (length rest) (8 * record_words (word_at f.order rest 0))) (Err Cut)
    (Ok (8 * record_words (word_at f.order rest 0)))))

-- "checks 2, 1" and then the lent words: the number that an archive is refused by, or by `short` where fewer words are lent than wanted, or 0
unfoldable pub archive_number : List ℕ → (short wanted lent : ℕ) → ℕ
archive_number archive short wanted lent =
    pick (ltb longest_archive (length archive)) 2 (pick (starts_with_magic archive) (pick (ltb lent wanted) short 0) 1)
