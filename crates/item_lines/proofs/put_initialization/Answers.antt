-- `put_initialization` meets its contract: the parts of the line, one behind the other.
use Rattle.item_lines.specs.Line.{initialization_line}
use Rattle.lines.proofs.Puts.{◌then◌}
use Rattle.item_lines.proofs.put_initialization.Goals as goal

pub returns : goal.returns
unfolding initialization_line
returns c =
    c.put_bytes.ensures then c.put_number.ensures then c.put_bytes-2.ensures
