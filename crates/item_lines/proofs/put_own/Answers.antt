-- `put_own` meets its contract: what is put is the definition's for each kind.
use Rattle.item_lines.specs.Line.{own_shown}
use Rattle.item_lines.proofs.put_own.Goals as goal

pub returns-in-Event : goal.returns-in-Event
unfolding own_shown
returns-in-Event c = rw c.in-Event.is c.put_event.ensures

pub returns-in-Log : goal.returns-in-Log
unfolding own_shown
returns-in-Log c = rw c.in-Log.is c.put_log.ensures
