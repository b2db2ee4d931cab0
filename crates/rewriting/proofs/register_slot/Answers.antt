-- `register_slot` meets its contract: label and place are those of the slot (slot_words), whose key gets its index and is registered under it.
-- Assumes nothing.
use Prim.Native.Nat.{ℕ}
use mathlib.Core.Path.{◌≡◌, ap, ◌∙◌}
use mathlib.Core.List.{◌++◌}
use lib.ListN.{take}
use Rattle.format.proofs.Headers.{part_from}
use Rattle.tally.specs.Models.Slots.{label_at}
use Rattle.tables.specs.Table.{table_words}
use Rattle.passes.proofs.Rooms.{slots_back}
use Rattle.encoding.proofs.Writing.{writes_same}
use Rattle.rewriting.specs.Models.Write.{slots_in, slot_index, slot_bytes, slot_given_bytes, slot_given_slots}
use Rattle.rewriting.proofs.Registering.{slot_words}
use Rattle.rewriting.proofs.register_slot.Goals as goal

pub put_registration-requires-clause-bytes_in_bounds : goal.put_registration-requires-clause-bytes_in_bounds
unfolding slot_given_bytes
put_registration-requires-clause-bytes_in_bounds c =
    let f = c.args.out.now.format in
    let slots = slots_in f c.args.room.now in
    let words = slot_words c.table_words-words.result c.args.room.now c.args.s in
    let label : c.label_in-label.result ≡ label_at (table_words f) slots c.args.s = rw c.table_words-words.ensures at (c.label_in-label.ensures ∙ words.1) in
    let index : c.give_index_at-index.result ≡ slot_index (table_words f) slots c.args.s =
    rw (part_from c.table_words-words.result c.args.room.now, c.table_words-words.ensures, label) at c.give_index_at-index.ensures.value in
    let bytes : c.text-bytes.result.now ≡ slot_bytes c.args.archive.now (table_words f) slots c.args.s =
    c.text-bytes.ensures ∙ rw (c.place_in.ensures, label, words.0, c.table_words-words.ensures) in
    rw (index, bytes) c.requires.s_in_bounds

pub returns-clause-room_after : goal.returns-clause-room_after
unfolding slot_given_slots
returns-clause-room_after c =
    let f = c.args.out.now.format in
    let words = c.table_words-words.result in
    let slots = slots_in f c.args.room.now in
    let label : c.label_in-label.result ≡ label_at (table_words f) slots c.args.s =
    rw c.table_words-words.ensures at (c.label_in-label.ensures ∙ (slot_words words c.args.room.now c.args.s).1) in
    let changed : c.give_index_at-index.new.slots ≡ slot_given_slots f slots c.args.s =
    rw (part_from words c.args.room.now, c.table_words-words.ensures, label) at c.give_index_at-index.ensures.slots_after in
    slots_back words c.args.room.now c.give_index_at-index.new.slots
    ∙ ap (λ (m : ℕ). take m c.args.room.now ++ c.give_index_at-index.new.slots) c.table_words-words.ensures
    ∙ ap (λ x. take (table_words f) c.args.room.now ++ x) changed

pub returns-clause-out_after : goal.returns-clause-out_after
unfolding slot_given_bytes
returns-clause-out_after c =
    let f = c.args.out.now.format in
    let slots = slots_in f c.args.room.now in
    let words = slot_words c.table_words-words.result c.args.room.now c.args.s in
    let label : c.label_in-label.result ≡ label_at (table_words f) slots c.args.s = rw c.table_words-words.ensures at (c.label_in-label.ensures ∙ words.1) in
    let index : c.give_index_at-index.result ≡ slot_index (table_words f) slots c.args.s =
    rw (part_from c.table_words-words.result c.args.room.now, c.table_words-words.ensures, label) at c.give_index_at-index.ensures.value in
    let bytes : c.text-bytes.result.now ≡ slot_bytes c.args.archive.now (table_words f) slots c.args.s =
    c.text-bytes.ensures ∙ rw (c.place_in.ensures, label, words.0, c.table_words-words.ensures) in
    writes_same c.put_registration.ensures (rw (index, bytes))
