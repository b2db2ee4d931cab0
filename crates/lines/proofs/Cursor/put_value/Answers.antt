-- `put_value` meets its contract: what is put is the definition's for each case of a value.
use Rattle.lines.specs.Shown.{value_shown}
use Rattle.lines.proofs.Cursor.put_value.Goals as goal

pub returns-in-Scalar : goal.returns-in-Scalar
unfolding value_shown
returns-in-Scalar c = rw c.in-Scalar.is c.put_scalar.ensures

pub returns-in-Text : goal.returns-in-Text
unfolding value_shown
returns-in-Text c = rw c.in-Text.is c.put_text.ensures
