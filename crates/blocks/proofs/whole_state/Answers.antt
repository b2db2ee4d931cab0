-- `whole_state` meets its contract: each number is the one that the definition names.
use Rattle.blocks.specs.Block.{given_state}
use Rattle.blocks.proofs.whole_state.Goals as goal

pub returns : goal.returns
unfolding given_state
returns c =
    rw (
      c.id_of.ensures,
      c.id_of-2.ensures,
      c.id_of-3.ensures,
      c.id_of-4.ensures,
      c.id_of-5.ensures,
      c.id_of-6.ensures,
      c.id_of-7.ensures,
      c.id_of-8.ensures,
    )
