-- `value_type` meets its contract for each case of a value.
use Rattle.lines.specs.Shown.{value_type}
use Rattle.lines.proofs.value_type.Goals as goal

pub returns-in-Scalar : goal.returns-in-Scalar
unfolding value_type
returns-in-Scalar c = rw c.in-Scalar.is c.argument_type.ensures

pub returns-in-Text : goal.returns-in-Text
unfolding value_type
returns-in-Text c = rw c.in-Text.is
