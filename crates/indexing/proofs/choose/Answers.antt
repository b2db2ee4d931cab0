-- `indexing::choose` meets its contract: each turn makes the uses of one more slot its choice, by words that earlier turns left alone
-- (chosen_turn). Assumes nothing.
use lib.ListN.{length-set}
use Rattle.indexing.proofs.Frames.{chosen_turn}
use Rattle.indexing.proofs.choose.Goals as goal

pub loop-s-preserved : goal.loop-s-preserved
loop-s-preserved c = (
  simp length-set c.loop-s.invariant.0,
  chosen_turn c.args.stretch c.loop-s.s c.args.slots.now c.loop-s.slots c.choice.result c.loop-s-test.true c.loop-s.invariant.1 c.choice.ensures,
)
