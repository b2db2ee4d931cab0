-- Limits for which tables can be addressed, and what the header of an entry's record says, as functions ask for it: models of code.
use Rattle.std.specs.Prelude.{ℕ, ◌+◌, ◌^◌, ◌<◌, eqb, leb, ltb}
use Rattle.words.specs.Word.{pick, field}
use Rattle.words.specs.Stream.{stream_words}
use Rattle.format.specs.declared.Format.{Format}
use Rattle.tables.specs.declared.Resolved.{Resolved}
use Rattle.tables.specs.declared.Resolved.TheVariants.{Bad, Known}

-- limits for which the tables can be addressed
pub record FormatFits (f : Format) : Type 0 where
  pub indexes : f.highest < 2 ^ 15

-- what the header of a record of this table has: its index, and the length of the bytes that it registers, with the most that this may be
unfoldable pub header_index : (table header : ℕ) → ℕ
header_index table header = pick (eqb table 3) (field 16 23 header) (field 16 30 header)

unfoldable pub header_length : (table header : ℕ) → ℕ
header_length table header = pick (eqb table 3) 16 (field 32 46 header)

unfoldable pub longest_of : Format → (table : ℕ) → ℕ
longest_of f table = pick (eqb table 3) 16 f.longest

-- what the header of a record of this table at the place `entry` stands for where this index is wanted
unfoldable pub header_entry : Format → (table header index entry : ℕ) → Resolved
header_entry f table header index entry =
    pick (eqb (header_index table header) index)
    (pick (ltb (longest_of f table) (header_length table header)) Bad
    (pick (leb (field 4 15 header) (stream_words (header_length table header))) Bad (Known (entry + 8) (header_length table header))))
    Bad
