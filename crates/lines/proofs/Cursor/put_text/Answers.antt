-- `put_text` meets its contract: what is put is the definition's for each case of a text.
use Rattle.lines.specs.Shown.{text_shown}
use Rattle.lines.proofs.Cursor.put_text.Goals as goal

pub returns-in-At : goal.returns-in-At
unfolding text_shown
returns-in-At c =
    rw (c.in-At.is, ← c.part.ensures) c.put_text_bytes.ensures

pub returns-in-Unresolved : goal.returns-in-Unresolved
unfolding text_shown
returns-in-Unresolved c =
    rw c.in-Unresolved.is c.put_unresolved.ensures
