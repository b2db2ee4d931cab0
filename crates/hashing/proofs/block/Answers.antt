-- `hashing::block` meets its contract: the four words are those of the definition. Assumes nothing.
use Rattle.hashing.specs.Models.Hash.{block_of}
use Rattle.hashing.proofs.block.Goals as goal

pub returns : goal.returns
unfolding block_of
returns c =
    rw (
      ← c.min-step.ensures,
      ← c.little_word.ensures,
      ← c.little_word-2.ensures,
      ← c.little_word-3.ensures,
      ← c.little_word-4.ensures,
    ) c.join.ensures
