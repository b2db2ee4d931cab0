-- `register_resolved` meets its contract: what is known gets its index and is registered under it (given_known), and nothing else is (given_bad,
-- given_unresolved, given_empty).
use Prim.Native.Nat.{ℕ}
use mathlib.Core.Path.{sym, ap, subst, ◌∙◌}
use mathlib.Core.List.{◌++◌, append-nil}
use native.Mathlib.Omega.{arith}
use lib.ListN.{length, take}
use Rattle.passes.specs.Models.Known.{KnownFits}
use Rattle.tally.specs.Models.Slots.{label_of}
use Rattle.format.proofs.Headers.{part_from}
use Rattle.tables.specs.Table.{looked_up}
use Rattle.passes.proofs.Known.{reference-fits}
use Rattle.passes.proofs.Rooms.{slots_back}
use Rattle.rewriting.specs.Models.Write.{tables_in, slots_in, given_bytes}
use Rattle.rewriting.proofs.Spelling.{slots_wide}
use Rattle.rewriting.proofs.Registering.{given_bad, given_unresolved, given_empty, registration_fits, Indexed, given_known, one_registered}
use Rattle.rewriting.proofs.register_resolved.Goals as goal

pub label_of-label-requires : goal.label_of-label-requires
label_of-label-requires c =
    let known = subst KnownFits (sym c.resolve.ensures ∙ c.in-Known.is)
    (reference-fits c.args.out.now.format c.args.archive.now (take c.table_words-words.result c.args.room.now) c.args.context c.args.lookup.table
    c.args.until c.args.lookup.reference c.requires.room_fits.1.0.0.reference c.requires.room_fits.0.short) in
    (c.requires.room_fits.0.low, c.requires.room_fits.1.0.0.low, c.requires.room_fits.1.0.0.high, known.1)

pub give_index-index-requires : goal.give_index-index-requires
unfolding label_of
give_index-index-requires c =
    let known = subst KnownFits (sym c.resolve.ensures ∙ c.in-Known.is)
    (reference-fits c.args.out.now.format c.args.archive.now (take c.table_words-words.result c.args.room.now) c.args.context c.args.lookup.table
    c.args.until c.args.lookup.reference c.requires.room_fits.1.0.0.reference c.requires.room_fits.0.short) in (
      slots_wide c.args.out.now.format c.table_words-words.result c.args.room.now c.requires.room_fits.0.limits c.table_words-words.ensures
          c.requires.room_fits.0.wide,
      omega (arith, c.label_of-label.ensures, known.1, c.requires.room_fits.0.low, c.requires.room_fits.1.0.0.low, c.requires.room_fits.1.0.0.high),
    )

pub put_registration-requires-clause-registration_fits : goal.put_registration-requires-clause-registration_fits
put_registration-requires-clause-registration_fits c =
    let f = c.args.out.now.format in
    let room = c.args.room.now in
    let r = looked_up f c.args.archive.now (tables_in f room) c.args.context c.args.until c.args.lookup in
    let indexed : Indexed f c.args.archive.now (slots_in f room) c.args.context c.args.lookup.table r c.in-Known.place c.in-Known.length c.label_of-label.result
    c.give_index-index.result c.text.result.now =
    record {
      known = rw c.table_words-words.ensures at (sym c.resolve.ensures ∙ c.in-Known.is);
      some = c.if-length-eq0.false;
      labelled = c.label_of-label.ensures;
      given = rw (part_from c.table_words-words.result room, c.table_words-words.ensures) at c.give_index-index.ensures.value;
      is = c.text.ensures;
    } in
    let bytes = given_bytes f c.args.archive.now (slots_in f room) c.args.context c.args.lookup.table r in
    (registration_fits f c.args.archive.now (slots_in f room) c.args.context c.args.lookup.table r c.in-Known.place c.in-Known.length
    c.label_of-label.result c.give_index-index.result c.text.result.now indexed c.args.out.now.place (length c.args.out.now.buffer.now)
    c.requires.room_fits.1.0.1 (rw (append-nil bytes) at c.requires.lookup_in_bounds)).0

pub put_registration-requires-clause-bytes_in_bounds : goal.put_registration-requires-clause-bytes_in_bounds
put_registration-requires-clause-bytes_in_bounds c =
    let f = c.args.out.now.format in
    let room = c.args.room.now in
    let r = looked_up f c.args.archive.now (tables_in f room) c.args.context c.args.until c.args.lookup in
    let indexed : Indexed f c.args.archive.now (slots_in f room) c.args.context c.args.lookup.table r c.in-Known.place c.in-Known.length c.label_of-label.result
    c.give_index-index.result c.text.result.now =
    record {
      known = rw c.table_words-words.ensures at (sym c.resolve.ensures ∙ c.in-Known.is);
      some = c.if-length-eq0.false;
      labelled = c.label_of-label.ensures;
      given = rw (part_from c.table_words-words.result room, c.table_words-words.ensures) at c.give_index-index.ensures.value;
      is = c.text.ensures;
    } in
    let bytes = given_bytes f c.args.archive.now (slots_in f room) c.args.context c.args.lookup.table r in
    (registration_fits f c.args.archive.now (slots_in f room) c.args.context c.args.lookup.table r c.in-Known.place c.in-Known.length
    c.label_of-label.result c.give_index-index.result c.text.result.now indexed c.args.out.now.place (length c.args.out.now.buffer.now)
    c.requires.room_fits.1.0.1 (rw (append-nil bytes) at c.requires.lookup_in_bounds)).1

pub returns-in-Bad-clause-room_after : goal.returns-in-Bad-clause-room_after
returns-in-Bad-clause-room_after c =
    let f = c.args.out.now.format in
    let room = c.args.room.now in
    let r = looked_up f c.args.archive.now (tables_in f room) c.args.context c.args.until c.args.lookup in
    (one_registered c.args.archive.now room c.args.out.now c.args.context c.args.until c.args.lookup _ _
    (given_bad c.args.archive.now room c.args.out.now c.args.context c.args.lookup.table r
    (rw c.table_words-words.ensures at (sym c.resolve.ensures ∙ c.in-Bad.is)))).0

pub returns-in-Bad-clause-out_after : goal.returns-in-Bad-clause-out_after
returns-in-Bad-clause-out_after c =
    let f = c.args.out.now.format in
    let room = c.args.room.now in
    let r = looked_up f c.args.archive.now (tables_in f room) c.args.context c.args.until c.args.lookup in
    (one_registered c.args.archive.now room c.args.out.now c.args.context c.args.until c.args.lookup _ _
    (given_bad c.args.archive.now room c.args.out.now c.args.context c.args.lookup.table r
    (rw c.table_words-words.ensures at (sym c.resolve.ensures ∙ c.in-Bad.is)))).1

pub returns-in-Unresolved-clause-room_after : goal.returns-in-Unresolved-clause-room_after
returns-in-Unresolved-clause-room_after c =
    let f = c.args.out.now.format in
    let room = c.args.room.now in
    let r = looked_up f c.args.archive.now (tables_in f room) c.args.context c.args.until c.args.lookup in
    (one_registered c.args.archive.now room c.args.out.now c.args.context c.args.until c.args.lookup _ _
    (given_unresolved c.args.archive.now room c.args.out.now c.args.context c.args.lookup.table r _
    (rw c.table_words-words.ensures at (sym c.resolve.ensures ∙ c.in-Unresolved.is)))).0

pub returns-in-Unresolved-clause-out_after : goal.returns-in-Unresolved-clause-out_after
returns-in-Unresolved-clause-out_after c =
    let f = c.args.out.now.format in
    let room = c.args.room.now in
    let r = looked_up f c.args.archive.now (tables_in f room) c.args.context c.args.until c.args.lookup in
    (one_registered c.args.archive.now room c.args.out.now c.args.context c.args.until c.args.lookup _ _
    (given_unresolved c.args.archive.now room c.args.out.now c.args.context c.args.lookup.table r _
    (rw c.table_words-words.ensures at (sym c.resolve.ensures ∙ c.in-Unresolved.is)))).1

pub returns-else-length-eq0-clause-room_after : goal.returns-else-length-eq0-clause-room_after
returns-else-length-eq0-clause-room_after c =
    let f = c.args.out.now.format in
    let room = c.args.room.now in
    let r = looked_up f c.args.archive.now (tables_in f room) c.args.context c.args.until c.args.lookup in
    let indexed : Indexed f c.args.archive.now (slots_in f room) c.args.context c.args.lookup.table r c.in-Known.place c.in-Known.length c.label_of-label.result
    c.give_index-index.result c.text.result.now =
    record {
      known = rw c.table_words-words.ensures at (sym c.resolve.ensures ∙ c.in-Known.is);
      some = c.if-length-eq0.false;
      labelled = c.label_of-label.ensures;
      given = rw (part_from c.table_words-words.result room, c.table_words-words.ensures) at c.give_index-index.ensures.value;
      is = c.text.ensures;
    } in
    (one_registered c.args.archive.now room c.args.out.now c.args.context c.args.until c.args.lookup _ _
    (given_known c.args.archive.now room c.args.out.now c.args.context c.args.lookup.table r c.in-Known.place
    c.in-Known.length c.label_of-label.result c.give_index-index.result c.text.result.now c.give_index-index.new.slots _ _ indexed
    (rw (part_from c.table_words-words.result room, c.table_words-words.ensures) at c.give_index-index.ensures.slots_after)
    (slots_back c.table_words-words.result room c.give_index-index.new.slots
    ∙ ap (λ (m : ℕ). take m room ++ c.give_index-index.new.slots) c.table_words-words.ensures)
    c.put_registration.ensures)).0

pub returns-else-length-eq0-clause-out_after : goal.returns-else-length-eq0-clause-out_after
returns-else-length-eq0-clause-out_after c =
    let f = c.args.out.now.format in
    let room = c.args.room.now in
    let r = looked_up f c.args.archive.now (tables_in f room) c.args.context c.args.until c.args.lookup in
    let indexed : Indexed f c.args.archive.now (slots_in f room) c.args.context c.args.lookup.table r c.in-Known.place c.in-Known.length c.label_of-label.result
    c.give_index-index.result c.text.result.now =
    record {
      known = rw c.table_words-words.ensures at (sym c.resolve.ensures ∙ c.in-Known.is);
      some = c.if-length-eq0.false;
      labelled = c.label_of-label.ensures;
      given = rw (part_from c.table_words-words.result room, c.table_words-words.ensures) at c.give_index-index.ensures.value;
      is = c.text.ensures;
    } in
    (one_registered c.args.archive.now room c.args.out.now c.args.context c.args.until c.args.lookup _ _
    (given_known c.args.archive.now room c.args.out.now c.args.context c.args.lookup.table r c.in-Known.place
    c.in-Known.length c.label_of-label.result c.give_index-index.result c.text.result.now c.give_index-index.new.slots _ _ indexed
    (rw (part_from c.table_words-words.result room, c.table_words-words.ensures) at c.give_index-index.ensures.slots_after)
    (slots_back c.table_words-words.result room c.give_index-index.new.slots
    ∙ ap (λ (m : ℕ). take m room ++ c.give_index-index.new.slots) c.table_words-words.ensures)
    c.put_registration.ensures)).1

pub returns-then-length-eq0-clause-room_after : goal.returns-then-length-eq0-clause-room_after
returns-then-length-eq0-clause-room_after c =
    let f = c.args.out.now.format in
    let room = c.args.room.now in
    let r = looked_up f c.args.archive.now (tables_in f room) c.args.context c.args.until c.args.lookup in
    (one_registered c.args.archive.now room c.args.out.now c.args.context c.args.until c.args.lookup _ _
    (given_empty c.args.archive.now room c.args.out.now c.args.context c.args.lookup.table r c.in-Known.place c.in-Known.length
    (rw c.table_words-words.ensures at (sym c.resolve.ensures ∙ c.in-Known.is)) c.if-length-eq0.true)).0

pub returns-then-length-eq0-clause-out_after : goal.returns-then-length-eq0-clause-out_after
returns-then-length-eq0-clause-out_after c =
    let f = c.args.out.now.format in
    let room = c.args.room.now in
    let r = looked_up f c.args.archive.now (tables_in f room) c.args.context c.args.until c.args.lookup in
    (one_registered c.args.archive.now room c.args.out.now c.args.context c.args.until c.args.lookup _ _
    (given_empty c.args.archive.now room c.args.out.now c.args.context c.args.lookup.table r c.in-Known.place c.in-Known.length
    (rw c.table_words-words.ensures at (sym c.resolve.ensures ∙ c.in-Known.is)) c.if-length-eq0.true)).1
