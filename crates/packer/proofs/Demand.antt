-- The first checks of a repack, and demand 3 of what the definitions say that a repack replies and writes. Assumes nothing.
use Prim.Native.Nat.{ℕ, ◌+◌, ◌≤◌}
use mathlib.Core.Path.{◌≡◌, refl, ap, ◌∙◌}
use mathlib.Core.List.{List}
use mathlib.Core.Bool.{Bool, true, false}
use mathlib.Core.Option.{Option, none, some}
use native.Mathlib.Omega.{arith}
use borrow.Author.Tests.{eqb-true, ne_eqb, ltb-false, le-ltb}
use lib.Dec.{eqb, ltb}
use lib.ListN.{length, take, drop, length-append}
use lib.Seq.{take-append_seam}
use Rattle.words.proofs.Words.{AllBytes}
use Rattle.words.specs.Word.{pick}
use Rattle.words.specs.Stream.{starts_with_magic, overwritten}
use Rattle.words.proofs.Tests.{on-pick}
use Rattle.format.specs.declared.Format.{Format}
use Rattle.format.specs.Limits.{small_format, longest_archive}
use Rattle.tables.specs.Table.{table_words, cleared}
use Rattle.reader.specs.Step.{opening_number}
use Rattle.rule.specs.Rule.{rule}
use Rattle.rule.specs.Refusal.{Refusal, refusal, run_of, refusal_of, items_of, Accepted, written_length}
use Rattle.rule.proofs.Theorems.{run_items, accepted_reads, shortest, reads_back}
use Rattle.format.specs.Header.{archive_number}
use Rattle.std.specs.Prelude.{Ok}
use Rattle.format.specs.Limits.{refused_at}
use Rattle.packer.specs.Pack.{Packed, room_words, packing_number, written_reply, refused_or, pack_reply, pack_room, output_of, pack_output, Shortest}

-- ---- the first checks

-- what passes the first checks of a repack passes that of a reading, and the room is long enough
pub opened : (f : Format) (archive : List ℕ) (room : ℕ) → packing_number f archive room ≡ 0
    → (opening_number f archive (table_words f) ≡ 0) × (room_words f ≤ room)
unfolding packing_number opening_number archive_number
opened f archive room =
    go (ltb longest_archive (length archive)) (starts_with_magic archive) (ltb room (room_words f)) refl (ltb (table_words f) (table_words f))
    (le-ltb (table_words f) (table_words f) (omega arith))
  where
    go : (long magic few : Bool) → ltb room (room_words f) ≡ few → (short : Bool) → short ≡ false
        → ◌≡◌ {A = ℕ} (pick long 2 (pick magic (pick few 13 0) 1)) 0
        → (◌≡◌ {A = ℕ} (pick long 2 (pick magic (pick short 3 0) 1)) 0) × (room_words f ≤ room)
    go true magic few e short s z = absurd (omega arith)
    go false true true e short s z = absurd (omega arith)
    go false true false e short s z = (rw s, ltb-false room (room_words f) e)
    go false false few e short s z = absurd (omega arith)

-- what is refused at the first checks: the reply has its number, and room and output are as they were
pub refused_reply : (f : Format) (archive room output : List ℕ) (number : ℕ) → number ≡ packing_number f archive (length room) → (number ≡ 0 → ⊥)
    → (refused_at number 0 ≡ pack_reply f archive (length room) (length output)) × (room ≡ pack_room f archive room)
    × (output ≡ pack_output f archive (length room) output)
unfolding pack_reply pack_room pack_output
refused_reply f archive room output number is nonzero = rw (← is, ne_eqb number 0 nonzero) (refl, refl, refl)

-- what passes the first checks: the reply is that of the passes, the room is cleared, and the output is as the reply says
pub passed_reply : (f : Format) (archive room output : List ℕ) (reply : Packed) (last after : List ℕ) → packing_number f archive (length room) ≡ 0
    → reply ≡ refused_or (refusal_of f (run_of f archive)) (written_reply (length output) (written_length f archive))
    → last ≡ cleared (room_words f) room
    → after ≡ output_of (refused_or (refusal_of f (run_of f archive)) (written_reply (length output) (written_length f archive))) output
    (rule f (items_of (run_of f archive)))
    → (reply ≡ pack_reply f archive (length room) (length output)) × (last ≡ pack_room f archive room)
    × (after ≡ pack_output f archive (length room) output)
unfolding pack_reply pack_room pack_output
passed_reply f archive room output reply last after opens replied clear put = rw opens (replied, clear, put)

-- ---- what was written

-- what is written at the start of an output are its first bytes
overwritten-first : (output bytes : List ℕ) → take (length bytes) (overwritten output 0 bytes) ≡ bytes
overwritten-first output bytes = take-append_seam bytes (drop (0 + length bytes) output)

-- the bytes of an accepted archive, written at the start of an output that holds them, are the shortest
written_shortest : (archive output : List ℕ) → AllBytes archive → Accepted small_format archive
    → Shortest small_format archive (Ok (written_length small_format archive)) (overwritten output 0 (rule small_format (items_of (run_of small_format archive))))
written_shortest archive output bytes accepted =
    let items = items_of (run_of small_format archive) in (
      omega (arith, length-append (rule small_format items) (drop (0 + length (rule small_format items)) output)),
      (items, accepted_reads small_format archive accepted),
      (λ l reads.
          let same : rule small_format items ≡ rule small_format l = ap (rule small_format) (run_items small_format archive l reads) in
          let first : take (length (rule small_format items)) (overwritten output 0 (rule small_format items)) ≡ rule small_format l = overwritten-first output (rule small_format items) ∙ same in
          record {
            ruled = first;
            reads_back = rw first (reads_back archive l accepted bytes reads).0;
            least = λ b r. rw first (omega (arith, ap length same, shortest small_format archive b l accepted reads r));
          }),
    )

-- Demand 3: for every archive of bytes, room and output.
pub demand : (archive : List ℕ) (room : ℕ) (output : List ℕ) → AllBytes archive
    → Shortest small_format archive (pack_reply small_format archive room (length output)) (pack_output small_format archive room output)
unfolding pack_reply pack_output written_reply
demand archive room output bytes =
    on-pick P (eqb (packing_number small_format archive room) 0) _ _
    (λ e. passed (eqb-true (packing_number small_format archive room) 0 e) (refusal_of small_format (run_of small_format archive)) refl) (λ e. tt)
  where
    P : Packed → Type 0
    P reply = Shortest small_format archive reply (output_of reply output (rule small_format (items_of (run_of small_format archive))))

    passed : packing_number small_format archive room ≡ 0 → (r : Option Refusal) → refusal_of small_format (run_of small_format archive) ≡ r
        → P (refused_or r (written_reply (length output) (written_length small_format archive)))
    passed opens (some (refusal number place)) e = tt
    passed opens none e =
        on-pick P (ltb (length output) (written_length small_format archive)) _ _ (λ q. tt)
        (λ q. written_shortest archive output bytes (record { opened = (opened small_format archive room opens).0; not_refused = e }))
