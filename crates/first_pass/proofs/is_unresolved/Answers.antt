-- `first_pass::is_unresolved` meets its contract: each answer is what the definition gives for what was looked up. Assumes nothing.
use Rattle.first_pass.specs.Models.Count.{unresolved_in}
use Rattle.first_pass.proofs.is_unresolved.Goals as goal

pub returns-in-Bad : goal.returns-in-Bad
unfolding unresolved_in
returns-in-Bad c = simp (c.in-Bad.is, ← c.resolve.ensures)

pub returns-in-Unresolved : goal.returns-in-Unresolved
unfolding unresolved_in
returns-in-Unresolved c = simp (c.in-Unresolved.is, ← c.resolve.ensures)

pub returns-in-Known : goal.returns-in-Known
unfolding unresolved_in
returns-in-Known c = simp (c.in-Known.is, ← c.resolve.ensures)
