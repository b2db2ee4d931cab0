-- `put_thread` meets its contract: what is put is the definition's for each case of a thread.
use Rattle.lines.specs.Shown.{thread_shown}
use Rattle.lines.proofs.Cursor.put_thread.Goals as goal

pub returns-in-Words : goal.returns-in-Words
unfolding thread_shown
returns-in-Words c = rw c.in-Words.is c.put_words.ensures

pub returns-in-Unresolved : goal.returns-in-Unresolved
unfolding thread_shown
returns-in-Unresolved c =
    rw c.in-Unresolved.is c.put_unresolved.ensures
