-- `first_pass::conclude` meets its contract: each answer is what the definition gives for what was found. Assumes nothing.
use Rattle.first_pass.specs.Models.Found.{concluded}
use Rattle.first_pass.proofs.conclude.Goals as goal

pub returns-in-Some : goal.returns-in-Some
unfolding concluded
returns-in-Some c = simp c.in-Some.is

pub returns-in-None : goal.returns-in-None
unfolding concluded
returns-in-None c = simp c.in-None.is
