-- `put_words` meets its contract: one number, then the other.
use Rattle.lines.proofs.Puts.{◌then◌}
use Rattle.lines.proofs.Cursor.put_words.Goals as goal

pub returns : goal.returns
returns c =
    c.put_number.ensures then c.put_number-2.ensures
