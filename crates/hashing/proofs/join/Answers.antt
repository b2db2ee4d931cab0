-- `hashing::join` meets its contract: the sums are those of the definition, one by one. Assumes nothing.
use Rattle.hashing.specs.Models.Hash.{join_of}
use Rattle.hashing.proofs.join.Goals as goal

pub returns : goal.returns
unfolding join_of
returns c =
    simp (
      ← c.spread-4.ensures,
      ← c.spread-3.ensures,
      ← c.spread-2.ensures,
      ← c.spread.ensures,
    )
