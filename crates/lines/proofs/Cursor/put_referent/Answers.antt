-- `put_referent` meets its contract: what is put is the definition's for each case of what is referred to.
use Rattle.lines.specs.Shown.{referent_shown}
use Rattle.lines.proofs.Cursor.put_referent.Goals as goal

pub returns-in-Text : goal.returns-in-Text
unfolding referent_shown
returns-in-Text c =
    rw c.in-Text.is c.put_text.ensures

pub returns-in-Thread : goal.returns-in-Thread
unfolding referent_shown
returns-in-Thread c =
    rw c.in-Thread.is c.put_thread.ensures
