-- Limits and refusal numbers, after "Numbers and replies" of document 01.
use Rattle.std.specs.Prelude.{ℕ, ◌≡◌, ◌<◌, Result, Ok, Err}
use Rattle.words.specs.declared.Order.TheVariants.{Little}
use Rattle.format.specs.declared.Format.{Format}
use Rattle.format.specs.declared.Refused.{Refused}
use Rattle.format.specs.declared.Reason.{Reason}
use Rattle.format.specs.declared.Reason.TheVariants.{NoTrace, LongArchive, ShortTables, ForeignState, Cut, Malformed, LongText, HighIndex, NinthProvider, Loss, Unregistered, ManyKeys, ShortRoom, ShortOutput}

-- "strings at most 256; string indexes 1 to 511"; "A word is 8 bytes, little-endian"
abbrev pub small_format : Format
small_format = record { longest = 256; highest = 511; order = Little }

-- "Archive at most 16,777,216 bytes"
abbrev pub longest_archive : ℕ
longest_archive = 16777216

-- document 01's number of what a trace or a record is refused by: "Numbers and replies"
abbrev pub number_of : Reason → ℕ
number_of NoTrace = 1
number_of LongArchive = 2
number_of ShortTables = 3
number_of ForeignState = 4
-- 5: "1 to 7 bytes remain, or the record runs past the end"
number_of Cut = 5
-- 6: "size 0; a record or argument too small for its content; an argument past its record; a magic record other than the eight bytes"
number_of Malformed = 6
-- 7: "string over 256 bytes"
number_of LongText = 7
-- 8: "string record with index above 511"
number_of HighIndex = 8
number_of NinthProvider = 9
number_of Loss = 10
number_of Unregistered = 11
number_of ManyKeys = 12
number_of ShortRoom = 13
number_of ShortOutput = 14

-- refused by a number at a place
abbrev pub refused_at : {A : Type 0} → (number place : ℕ) → Result A Refused
refused_at number place = Err (record { number = number; place = place })

-- what a check answers that has a number, 0 where it passes: a refusal by that number at the archive's start
abbrev pub Checks : {A : Type 0} → ℕ → Result A Refused → Type 0
Checks number (Ok x) = number ≡ 0
Checks number (Err refused) = (0 < number) × (refused ≡ record { number = number; place = 0 })
