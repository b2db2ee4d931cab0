-- `hashing::folded` meets its contract: the sum of the halves is that of the definition. Assumes nothing.
use Rattle.std.proofs.Common.{arith}
use Rattle.hashing.specs.Models.Hash.{folded_of}
use Rattle.hashing.proofs.folded.Goals as goal

pub returns : goal.returns
unfolding folded_of
returns c = (
  rw (← c.spread-mixed.ensures, ← c.field.ensures, ← c.field-2.ensures) c.field-3.ensures,
  omega (arith, c.field-3.ensures),
)
