-- `records::has_extra` meets its contract: each answer is what the definition gives under the tests that led there. Assumes nothing.
use borrow.Author.Tests.{eq-eqb, ne_eqb}
use Rattle.records.specs.Layout.{has_extra}
use Rattle.records.proofs.has_extra.Goals as goal

pub returns-then-variant-eq1 : goal.returns-then-variant-eq1
unfolding has_extra
returns-then-variant-eq1 c = simp (eq-eqb _ _ c.if-variant-eq1.true)

pub returns-else-variant-eq1 : goal.returns-else-variant-eq1
unfolding has_extra
returns-else-variant-eq1 c = simp (ne_eqb _ _ c.if-variant-eq1.false)
