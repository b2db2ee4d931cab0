-- `contexts::provider_of` meets its contract: each answer is what the definition gives under the tests that led there. Assumes nothing.
use mathlib.Core.Path.{ap}
use lib.ListN.{get_or}
use native.Mathlib.Omega.{arith}
use borrow.Author.Tests.{eq-eqb, ne_eqb}
use Rattle.std.specs.Prelude.{Some}
use Rattle.contexts.specs.Context.{provider_of}
use Rattle.contexts.proofs.provider_of.Goals as goal

pub returns-then-s-eq0 : goal.returns-then-s-eq0
unfolding provider_of
returns-then-s-eq0 c = simp (eq-eqb _ _ c.if-s-eq0.true)

pub returns : goal.returns
unfolding provider_of
returns c = simp (ne_eqb _ _ c.if-s-eq0.false) (ap (λ slot. Some (get_or c.args.s.ids slot 0)) (omega arith))
