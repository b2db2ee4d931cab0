-- `reader::stop` meets its contract, which is its text. Assumes nothing.
use mathlib.Core.Path.{refl}
use Rattle.reader.specs.Step.{stopping}
use Rattle.reader.proofs.stop.Goals as goal

pub returns : goal.returns
unfolding stopping
returns c = refl
