-- `put_log` meets its contract: the parts of the line, one behind the other.
use Rattle.item_lines.specs.Line.{log_shown}
use Rattle.lines.proofs.Puts.{◌then◌}
use Rattle.item_lines.proofs.put_log.Goals as goal

pub returns : goal.returns
unfolding log_shown
returns c =
    let message = rw c.text.ensures at c.put_text_bytes.ensures in
    c.put_bytes.ensures then c.put_timestamp.ensures then c.put_referent.ensures then message
