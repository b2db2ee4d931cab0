-- `indexing::index_of` meets its contract: the slot that is found is below the capacity (here_below). Assumes nothing.
use Rattle.tally.proofs.Laws.{here_below}
use Rattle.indexing.proofs.index_of.Goals as goal

pub index_at-requires : goal.index_at-requires
index_at-requires c = (c.requires.0, here_below _ _ c.requires.0 c.find-slot.ensures c.in-Here.is)
