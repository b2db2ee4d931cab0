-- `register_lookup` meets its contract: the slot that is remembered for a reference is that of what it stands for (slot_of), which is registered with
-- the slot's key (slot_fits, given_slot). Assumes nothing.
use mathlib.Core.Path.{sym, ◌∙◌}
use mathlib.Core.List.{append-nil}
use Rattle.format.proofs.Headers.{part_from}
use Rattle.tables.specs.Table.{looked_up}
use Rattle.rewriting.specs.Models.Write.{tables_in, slots_in, given_bytes}
use Rattle.rewriting.proofs.Remembering.{slot_of}
use Rattle.rewriting.proofs.Registering.{slot_fits, given_slot, one_registered}
use Rattle.rewriting.proofs.Spelling.{room_wide}
use Rattle.rewriting.proofs.register_lookup.Goals as goal

pub register_slot-requires-clause-format_fits : goal.register_slot-requires-clause-format_fits
register_slot-requires-clause-format_fits c =
    let f = c.args.out.now.format in
    let room = c.args.room.now in
    let asked = c.requires.room_fits in
    let slot = slot_of f c.args.archive.now (tables_in f room) (slots_in f room) c.args.context c.args.until c.args.lookup c.in-Some.slot asked.2
    (room_wide f room asked.0.limits asked.0.wide) asked.0.low asked.0.short asked.1.0.0
    (rw (part_from c.table_words-words.result room, c.table_words-words.ensures) at (sym c.in-Some.is ∙ c.recall.ensures)) in
    let r = looked_up f c.args.archive.now (tables_in f room) c.args.context c.args.until c.args.lookup in
    let bytes = given_bytes f c.args.archive.now (slots_in f room) c.args.context c.args.lookup.table r in
    let x = slot_fits c.args.archive.now room c.args.out.now c.args.context c.args.until c.args.lookup c.in-Some.slot asked.0.low asked.1.0.0 slot
    asked.1.0.1 (rw (append-nil bytes) at c.requires.lookup_in_bounds) in
    (asked.0.limits, asked.0.wide, x.0)

pub register_slot-requires-clause-s_in_bounds : goal.register_slot-requires-clause-s_in_bounds
register_slot-requires-clause-s_in_bounds c =
    let f = c.args.out.now.format in
    let room = c.args.room.now in
    let asked = c.requires.room_fits in
    let slot = slot_of f c.args.archive.now (tables_in f room) (slots_in f room) c.args.context c.args.until c.args.lookup c.in-Some.slot asked.2
    (room_wide f room asked.0.limits asked.0.wide) asked.0.low asked.0.short asked.1.0.0
    (rw (part_from c.table_words-words.result room, c.table_words-words.ensures) at (sym c.in-Some.is ∙ c.recall.ensures)) in
    let r = looked_up f c.args.archive.now (tables_in f room) c.args.context c.args.until c.args.lookup in
    let bytes = given_bytes f c.args.archive.now (slots_in f room) c.args.context c.args.lookup.table r in
    let x = slot_fits c.args.archive.now room c.args.out.now c.args.context c.args.until c.args.lookup c.in-Some.slot asked.0.low asked.1.0.0 slot
    asked.1.0.1 (rw (append-nil bytes) at c.requires.lookup_in_bounds) in
    x.1

pub returns-in-Some-clause-room_after : goal.returns-in-Some-clause-room_after
returns-in-Some-clause-room_after c =
    let f = c.args.out.now.format in
    let room = c.args.room.now in
    let asked = c.requires.room_fits in
    let slot = slot_of f c.args.archive.now (tables_in f room) (slots_in f room) c.args.context c.args.until c.args.lookup c.in-Some.slot asked.2
    (room_wide f room asked.0.limits asked.0.wide) asked.0.low asked.0.short asked.1.0.0
    (rw (part_from c.table_words-words.result room, c.table_words-words.ensures) at (sym c.in-Some.is ∙ c.recall.ensures)) in
    (one_registered c.args.archive.now room c.args.out.now c.args.context c.args.until c.args.lookup _ _
    (given_slot c.args.archive.now room c.args.out.now c.args.context c.args.until c.args.lookup c.in-Some.slot asked.0.low asked.1.0.0 slot
    _ _ c.register_slot.ensures.room_after c.register_slot.ensures.out_after)).0

pub returns-in-Some-clause-out_after : goal.returns-in-Some-clause-out_after
returns-in-Some-clause-out_after c =
    let f = c.args.out.now.format in
    let room = c.args.room.now in
    let asked = c.requires.room_fits in
    let slot = slot_of f c.args.archive.now (tables_in f room) (slots_in f room) c.args.context c.args.until c.args.lookup c.in-Some.slot asked.2
    (room_wide f room asked.0.limits asked.0.wide) asked.0.low asked.0.short asked.1.0.0
    (rw (part_from c.table_words-words.result room, c.table_words-words.ensures) at (sym c.in-Some.is ∙ c.recall.ensures)) in
    (one_registered c.args.archive.now room c.args.out.now c.args.context c.args.until c.args.lookup _ _
    (given_slot c.args.archive.now room c.args.out.now c.args.context c.args.until c.args.lookup c.in-Some.slot asked.0.low asked.1.0.0 slot
    _ _ c.register_slot.ensures.room_after c.register_slot.ensures.out_after)).1
