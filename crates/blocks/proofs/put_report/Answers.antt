-- `put_report` meets its contract: the block of each kind is the one that the definition has for it.
use Rattle.blocks.specs.Block.{answer_numbers}
use Rattle.blocks.proofs.put_report.Goals as goal

pub returns-in-Event : goal.returns-in-Event
unfolding answer_numbers
returns-in-Event c = rw c.in-Event.is c.put_event.ensures

pub returns-in-Log : goal.returns-in-Log
unfolding answer_numbers
returns-in-Log c = rw c.in-Log.is c.put_log.ensures
