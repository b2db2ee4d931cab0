-- `put_provider_info` meets its contract: the parts of the line, one behind the other.
use Rattle.item_lines.specs.Line.{provider_info_line}
use Rattle.lines.proofs.Puts.{◌then◌}
use Rattle.item_lines.proofs.put_provider_info.Goals as goal

pub returns : goal.returns
unfolding provider_info_line
returns c =
    rw (← c.from.ensures) (c.put_bytes.ensures then c.put_number.ensures then c.put_text_bytes.ensures then c.put_bytes-2.ensures)
