-- `put_boolean` meets its contract: `1` for true and `0` for false.
use Rattle.lines.specs.Shown.{boolean_shown}
use Rattle.lines.proofs.Cursor.put_boolean.Goals as goal

pub returns-then-value : goal.returns-then-value
unfolding boolean_shown
returns-then-value c = rw c.if-value.true c.put_bytes.ensures

pub returns-else-value : goal.returns-else-value
unfolding boolean_shown
returns-else-value c = rw c.if-value.false c.put_bytes-else-value.ensures
