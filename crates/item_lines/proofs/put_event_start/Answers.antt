-- `put_event_start` meets its contract: the parts of the line, one behind the other.
use Rattle.item_lines.specs.Line.{event_start}
use Rattle.lines.proofs.Puts.{◌then◌}
use Rattle.item_lines.proofs.put_event_start.Goals as goal

pub returns : goal.returns
unfolding event_start
returns c =
    rw (← c.from.ensures) (c.put_bytes.ensures then c.put_number.ensures then c.put_timestamp.ensures)
