-- `passes::registered_slot` meets its contract: the label fits a word. Assumes nothing.
use native.Mathlib.Omega.{arith}
use Rattle.tally.specs.Models.Slots.{label_of}
use Rattle.passes.proofs.registered_slot.Goals as goal

pub slot_of-requires : goal.slot_of-requires
unfolding label_of
slot_of-requires c =
    (rw c.table_words.ensures c.requires.1, omega (arith, c.label_of-label.ensures, c.requires.2, c.requires.3, c.requires.4, c.requires.5))
