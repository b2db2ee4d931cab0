-- `put_provider_event` meets its contract: the parts of the line, one behind the other.
use Rattle.item_lines.specs.Line.{provider_event_line}
use Rattle.lines.proofs.Puts.{◌then◌}
use Rattle.item_lines.proofs.put_provider_event.Goals as goal

pub returns : goal.returns
unfolding provider_event_line
returns c =
    rw (← c.from.ensures, ← c.from-2.ensures) (c.put_bytes.ensures then c.put_number.ensures then c.put_number-2.ensures then c.put_bytes-2.ensures)
