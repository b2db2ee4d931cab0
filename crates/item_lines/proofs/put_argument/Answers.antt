-- `put_argument` meets its contract: the parts of the line, one behind the other.
use Rattle.item_lines.specs.Line.{argument_line}
use Rattle.lines.proofs.Puts.{◌then◌}
use Rattle.item_lines.proofs.put_argument.Goals as goal

pub returns : goal.returns
unfolding argument_line
returns c =
    rw (← c.value_type.ensures)
    (c.put_bytes.ensures then c.put_number.ensures then c.put_text.ensures then c.put_value.ensures then c.put_bytes-2.ensures)
