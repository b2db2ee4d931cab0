-- `put_number` meets its contract: a space, then the digits.
use Rattle.lines.specs.Shown.{number_shown}
use Rattle.lines.proofs.Puts.{◌then◌}
use Rattle.lines.proofs.Cursor.put_number.Goals as goal

pub returns : goal.returns
unfolding number_shown
returns c =
    c.put_bytes.ensures then c.put_decimal.ensures
