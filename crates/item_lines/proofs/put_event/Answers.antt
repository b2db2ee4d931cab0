-- `put_event` meets its contract: the parts of the line, one behind the other.
use Rattle.item_lines.specs.Line.{event_shown}
use Rattle.lines.proofs.Puts.{◌then◌}
use Rattle.item_lines.proofs.put_event.Goals as goal

pub returns : goal.returns
unfolding event_shown
returns c =
    c.put_event_start.ensures then c.put_referents.ensures then c.put_number.ensures then c.put_extra.ensures
