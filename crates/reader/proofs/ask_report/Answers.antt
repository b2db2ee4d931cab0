-- `reader::ask_report` meets its contract: each answer is what the definition gives under the tests that led there. Assumes nothing.
use Rattle.reader.proofs.ask_report.Goals as goal

pub returns-in-Err : goal.returns-in-Err
returns-in-Err c = simp (c.at.ensures, ← c.find_argument.ensures, c.in-Err.is)

pub returns-in-Ok : goal.returns-in-Ok
returns-in-Ok c =
    simp (← c.show_argument.ensures, ← c.find_argument.ensures, c.in-Ok.is)
