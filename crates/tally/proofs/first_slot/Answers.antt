-- `tally::first_slot` meets its contract: the hash is that of the definition. Assumes nothing.
use Rattle.tally.specs.Models.Slots.{start_of}
use Rattle.tally.proofs.first_slot.Goals as goal

pub returns : goal.returns
unfolding start_of
returns c = rw (c.folded.ensures.0, c.hash.ensures, c.part-key.ensures)
