-- `indexing::give_index` meets its contract: the slot that is found is below the capacity (here_below). Assumes nothing.
use Rattle.tally.proofs.Laws.{here_below}
use Rattle.indexing.proofs.give_index.Goals as goal

pub give_index_at-requires : goal.give_index_at-requires
give_index_at-requires c = (c.requires.0, here_below _ _ c.requires.0 c.find-slot.ensures c.in-Here.is, c.requires.1)
