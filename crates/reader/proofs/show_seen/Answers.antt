-- `reader::show_seen` meets its contract: each answer is what the definition gives for what was matched. Assumes nothing.
use Rattle.reader.specs.Models.Replies.{seen_reply}
use Rattle.reader.specs.Step.{stopping}
use Rattle.reader.proofs.show_seen.Goals as goal

pub returns-in-Err : goal.returns-in-Err
unfolding seen_reply stopping
returns-in-Err c = simp (← c.stop.ensures, c.in-Err.is)

pub returns-in-Ok : goal.returns-in-Ok
unfolding seen_reply
returns-in-Ok c = simp (← c.move_to.ensures, c.in-Ok.is)
