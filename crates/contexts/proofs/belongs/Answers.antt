-- `contexts::belongs` meets its contract: each answer is what the definition gives under the tests that led there. Assumes nothing.
use native.Mathlib.Omega.{arith}
use Rattle.std.proofs.lemmas.Bool.Decides.{nat_tests}
use Rattle.contexts.specs.Context.{belongs_to}
use Rattle.contexts.proofs.belongs.Goals.{then-s-eq0, else-s-eq0, then-s-n, else-s-n}
use Rattle.contexts.proofs.belongs.Goals as goal

pub returns-then-s-le8 : goal.returns-then-s-le8
unfolding belongs_to
returns-then-s-le8 c = grind (arith, nat_tests)

pub returns-else-s-le8 : goal.returns-else-s-le8
unfolding belongs_to
returns-else-s-le8 c =
    elim c.if-s-n.branch [
      | then-s-n w ↦ grind (arith, nat_tests)
      | else-s-n w ↦
          elim c.if-s-eq0.branch [ then-s-eq0 v ↦ grind (arith, nat_tests) | else-s-eq0 v ↦ grind (arith, nat_tests) ]
    ]
