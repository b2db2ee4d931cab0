-- What a repack replies, writes and leaves, after "Repacking checks" of document 01, and demand 3 as a claim about the reply and the output.
use Rattle.std.specs.Prelude.{ℕ, ◌*◌, ◌≤◌, ◌≡◌, List, length, take, eqb, ltb, Result, Ok, Err}
use Rattle.std.proofs.Math.Option.{Option, none, some}
use Rattle.words.specs.Word.{pick}
use Rattle.words.specs.Stream.{overwritten}
use Rattle.format.specs.declared.Format.{Format}
use Rattle.format.specs.declared.Refused.{Refused}
use Rattle.format.specs.Limits.{refused_at}
use Rattle.records.specs.Item.{Item}
use Rattle.tables.specs.Table.{table_words, cleared}
use Rattle.reader.specs.Reads.{ReadsAs}
use Rattle.rule.specs.Rule.{rule}
use Rattle.rule.specs.Refusal.{Refusal, refusal, run_of, refusal_of, items_of, written_length}
use Rattle.format.specs.Header.{archive_number}

-- what a repack answers: how many bytes were written, or a refusal
abbrev pub Packed : Type 0
Packed = Result ℕ Refused

-- "Repacking work room: 27,648 such words", four times as many as the reading tables have
abbrev pub room_words : Format → ℕ
room_words f = 4 * table_words f

-- "Repacking checks 2, 1, 13": the number that archive and room are refused by before anything is read, or 0
unfoldable pub packing_number : Format → List ℕ → ℕ → ℕ
packing_number f archive room = archive_number archive 13 (room_words f) room

-- 14: "output shorter than what would be written"; "The written length in the reply counts the bytes written from the output's start"
unfoldable pub written_reply : ℕ → ℕ → Packed
written_reply output long = pick (ltb output long) (refused_at 14 0) (Ok long)

-- "then 5 to 9 as reading meets them, 10, 11, 12, 14"
abbrev pub refused_or : Option Refusal → Packed → Packed
refused_or (some (refusal number place)) reply = refused_at number place
refused_or none reply = reply

-- the reply for an archive that is let in, and an output of this length
abbrev pub passes_reply : Format → List ℕ → ℕ → Packed
passes_reply f archive output = refused_or (refusal_of f (run_of f archive)) (written_reply output (written_length f archive))

-- the reply for an archive, a room and an output of these lengths; "for 13 and 14, 0" is the place
unfoldable pub pack_reply : Format → List ℕ → ℕ → ℕ → Packed
pack_reply f archive room output =
    pick (eqb (packing_number f archive room) 0) (passes_reply f archive output) (refused_at (packing_number f archive room) 0)

-- "Refused by 1, 2 or 13: the work room is as it was. Otherwise its first 27,648 words are zero afterwards."
unfoldable pub pack_room : Format → List ℕ → List ℕ → List ℕ
pack_room f archive room = pick (eqb (packing_number f archive (length room)) 0) (cleared (room_words f) room) room

-- "Output past the written length is as it was", and all of it where the archive is refused
abbrev pub output_of : Packed → List ℕ → List ℕ → List ℕ
output_of (Err refused) output bytes = output
output_of (Ok long) output bytes = overwritten output 0 bytes

unfoldable pub pack_output : Format → List ℕ → ℕ → List ℕ → List ℕ
pack_output f archive room output = output_of (pack_reply f archive room (length output)) output (rule f (items_of (run_of f archive)))

-- "those that document 01's repacking rule gives for that list, and are themselves an archive that reads to its end as that list"; "any archive at
-- all .. that reads to its end as the same list of items .. has at least as many bytes"
pub record IsShortest (f : Format) (bytes : List ℕ) (l : List Item) : Type 0 where
  pub ruled : bytes ≡ rule f l
  pub reads_back : ReadsAs f bytes l
  pub least : (b : List ℕ) → ReadsAs f b l → length bytes ≤ length b

-- Demand 3, of a reply and the output after it: an archive that is repacked reads to its end as a list of items, and for the list that it reads as
-- the first bytes of the output, exactly as many as the reply says, are the shortest
abbrev pub Shortest : Format → List ℕ → Packed → List ℕ → Type 0
Shortest f archive (Err refused) output = Unit {0}
Shortest f archive (Ok long) output =
    (long ≤ length output)
    × ((l : List Item) × ReadsAs f archive l)
    × ((l : List Item) → ReadsAs f archive l → IsShortest f (take long output) l)
