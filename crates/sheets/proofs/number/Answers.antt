-- `number` meets its contract: std's sum of the two bytes is that of the definition. Assumes nothing.
use Rattle.std.proofs.Common.{arith}
use Rattle.sheets.specs.Sheet.{number_at}
use Rattle.sheets.proofs.number.Goals as goal

pub returns : goal.returns
unfolding number_at
returns c = (omega (arith, c.from_be_bytes.ensures), omega arith)
