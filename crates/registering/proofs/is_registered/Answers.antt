-- `registering::is_registered` meets its contract: each answer is what the rule gives for so many uses. Assumes nothing.
use Rattle.std.proofs.Common.{arith}
use Rattle.std.proofs.lemmas.Bool.Decides.{nat_tests}
use Rattle.registering.proofs.Registers.{registers_empty, registers-few, registers_twice, registers_often}
use Rattle.registering.proofs.is_registered.Goals as goal

pub returns-in-2 : goal.returns-in-2
returns-in-2 c = rw (c.in-2.is, registers_twice c.args.words)

pub returns-in-0 : goal.returns-in-0
returns-in-0 c = rw (registers-few c.args.words c.args.uses (omega arith))

pub returns-in_default : goal.returns-in_default
returns-in_default c = grind (arith, nat_tests, registers_empty c.args.uses, registers_often c.args.words c.args.uses)
