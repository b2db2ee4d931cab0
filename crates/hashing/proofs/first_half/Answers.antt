-- `hashing::first_half` meets its contract: std's sum of four bytes is what they spell (half_bytes). Assumes nothing.
use Rattle.std.proofs.Common.{arith}
use Rattle.hashing.proofs.Laws.{half_bytes}
use Rattle.hashing.proofs.first_half.Goals as goal

pub returns : goal.returns
returns c = (omega (arith, c.from_le_bytes.ensures, half_bytes c.args.bytes.now), omega arith)
