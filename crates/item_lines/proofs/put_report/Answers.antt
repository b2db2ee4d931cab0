-- `put_report` meets its contract: what is shown of its kind, and the end of the line.
use Rattle.item_lines.specs.Line.{report_line}
use Rattle.lines.proofs.Puts.{◌then◌}
use Rattle.item_lines.proofs.put_report.Goals as goal

pub returns : goal.returns
unfolding report_line
returns c =
    c.put_own.ensures then c.put_bytes.ensures
