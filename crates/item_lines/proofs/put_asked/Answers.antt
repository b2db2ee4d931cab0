-- `put_asked` meets its contract: what is put is the definition's for each case.
use Rattle.item_lines.specs.Line.{asked_line}
use Rattle.item_lines.proofs.put_asked.Goals as goal

pub returns-in-Err : goal.returns-in-Err
unfolding asked_line
returns-in-Err c = rw c.in-Err.is c.put_end.ensures

pub returns-in-Ok : goal.returns-in-Ok
unfolding asked_line
returns-in-Ok c =
    rw c.in-Ok.is c.put_argument.ensures
