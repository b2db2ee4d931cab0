-- `put_end` meets its contract: the parts of the line, one behind the other.
use Rattle.item_lines.specs.Line.{end_line}
use Rattle.lines.proofs.Puts.{◌then◌}
use Rattle.item_lines.proofs.put_end.Goals as goal

pub returns : goal.returns
unfolding end_line
returns c =
    rw (← c.from.ensures) (c.put_bytes.ensures then c.put_number.ensures then c.put_number-2.ensures then c.put_bytes-2.ensures)
