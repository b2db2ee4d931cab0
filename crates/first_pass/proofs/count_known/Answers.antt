-- `first_pass::count_known` meets its contract: the use is counted and its slot noted, one call behind the other in the room (lent_twice).
-- Assumes nothing.
use Rattle.std.specs.Prelude.{is_some}
use Rattle.tally.specs.Models.Slots.{label_of, key_of, find_of}
use mathlib.Core.List.{List, ◌++◌}
use Prim.Native.Nat.{ℕ}
use mathlib.Core.Path.{ap, refl, sym, ◌∙◌}
use native.Mathlib.Omega.{arith}
use lib.ListN.{take, drop, take-append-drop, length-drop}
use borrow.Author.Tests.{eq-eqb, ne_eqb}
use Rattle.tables.specs.Table.{table_words}
use Rattle.tally.specs.Models.Slots.{label_of}
use Rattle.format.proofs.Headers.{part_from}
use Rattle.first_pass.specs.Models.Count.{count_good, count_slots}
use Rattle.first_pass.proofs.Laws.{lent_twice}
use Rattle.first_pass.proofs.Memory.{slot_added}
use Rattle.first_pass.proofs.count_known.Goals as goal

-- the clauses, of their product
by_clause : {A B : Type 0} → A × B → record { value : A; room_after : B }
by_clause w = record { value = w.0; room_after = w.1 }

pub returns-then-length-eq0 : goal.returns-then-length-eq0
unfolding count_good count_slots
returns-then-length-eq0 c = by_clause (simp (eq-eqb _ _ c.if-length-eq0.true) (refl, sym (take-append-drop (table_words c.args.f) c.args.room.now)))

pub add_use-slot-requires : goal.add_use-slot-requires
unfolding label_of
add_use-slot-requires c = (
  record {
    some = omega (arith, c.table_words-words.ensures);
    low = omega (arith, c.table_words-words.ensures, c.requires.0.fits.indexes);
    long = simp part_from (omega (arith, c.table_words-words.ensures, c.requires.0.wide, length-drop c.table_words-words.result c.args.room.now));
  },
  omega (arith, c.requires.3, c.if-length-eq0.false),
  omega (arith, c.label_of-label.ensures, c.requires.4, c.requires.0.low, c.requires.1, c.requires.2),
)

pub returns : goal.returns
unfolding count_good count_slots
returns c = by_clause (let slot_is = rw (part_from c.table_words-words.result c.args.room.now) at c.add_use-slot.ensures.value in
    let slots_are = rw (part_from c.table_words-words.result c.args.room.now) at c.add_use-slot.ensures.slots_after in
    let twice = lent_twice c.table_words-words.result c.args.room.now c.add_use-slot.new.slots c.note.new.slots (omega (
      arith,
      c.table_words-words.ensures,
      c.requires.0.wide,
    )) in
    let slot = find_of c.args.archive.now c.table_words-words.result (drop c.table_words-words.result c.args.room.now) (key_of
    c.args.archive.now c.args.place c.label_of-label.result) in
    let noted = rw (part_from, twice.0) at c.note.ensures in
    simp (← c.table_words-words.ensures, ne_eqb _ _ c.if-length-eq0.false, ← c.label_of-label.ensures, ← c.highest_of-highest.ensures) (
      c.is_some.ensures ∙ (ap is_some slot_is.0 ∙ slot_added c.table_words-words.result (drop c.table_words-words.result c.args.room.now)
          c.label_of-label.result c.highest_of-highest.result slot),
      twice.1 ∙ ap (λ (l : List ℕ). take c.table_words-words.result c.args.room.now ++ l) (noted ∙ rw (slots_are, slot_is.0)),
    ))
