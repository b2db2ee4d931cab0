-- `put_text_bytes` meets its contract: the length, a colon, the bytes.
use Rattle.lines.specs.Shown.{bytes_shown}
use Rattle.lines.proofs.Puts.{◌then◌}
use Rattle.lines.proofs.Cursor.put_text_bytes.Goals as goal

pub returns : goal.returns
unfolding bytes_shown
returns c =
    c.put_number.ensures then c.put_bytes.ensures then c.put_bytes-2.ensures
