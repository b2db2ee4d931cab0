-- `is_whole` meets its contract: to compare what is left is to compare where the entry ends. Assumes nothing.
use Rattle.std.proofs.Common.{arith}
use Rattle.std.proofs.lemmas.Bool.Decides.{nat_tests}
use Rattle.sheets.specs.Sheet.{is_whole}
use Rattle.sheets.proofs.is_whole.Goals as goal

pub returns-then-left-ge4 : goal.returns-then-left-ge4
unfolding is_whole
returns-then-left-ge4 c = grind (arith, nat_tests, c.number.ensures.0)

pub returns-else-left-ge4 : goal.returns-else-left-ge4
unfolding is_whole
returns-else-left-ge4 c = grind (arith, nat_tests)
