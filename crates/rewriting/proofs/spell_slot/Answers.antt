-- `spell_slot` meets its contract: the index, the place and the length are read from the two words of the slot. Assumes nothing.
use Rattle.rewriting.specs.Models.Write.{slot_spelled}
use Rattle.rewriting.proofs.spell_slot.Goals as goal

pub returns : goal.returns
unfolding slot_spelled
returns c =
    rw (← c.index_at-index.ensures, ← c.place_in.ensures, ← c.label_in.ensures)
