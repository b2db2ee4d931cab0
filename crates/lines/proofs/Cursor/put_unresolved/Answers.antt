-- `put_unresolved` meets its contract: a space and `?`, then the digits of the index.
use Rattle.lines.specs.Shown.{unresolved_shown}
use Rattle.lines.proofs.Puts.{◌then◌}
use Rattle.lines.proofs.Cursor.put_unresolved.Goals as goal

pub returns : goal.returns
unfolding unresolved_shown
returns c =
    c.put_bytes.ensures then c.put_decimal.ensures
