-- `losses::fields_keep` meets its contract: each answer is what the definition gives under the tests that led there. Assumes nothing.
use borrow.Author.Tests.{eq-eqb, ne_eqb}
use Rattle.losses.specs.Models.Checking.{fields_keep}
use Rattle.losses.proofs.fields_keep.Goals as goal

pub returns-then-reserved-ne0 : goal.returns-then-reserved-ne0
unfolding fields_keep
returns-then-reserved-ne0 c = rw (ne_eqb _ _ c.if-reserved-ne0.true)

pub returns-then-both_padding_zero : goal.returns-then-both_padding_zero
unfolding fields_keep
returns-then-both_padding_zero c = rw (
  eq-eqb _ _ c.if-reserved-ne0.false,
  ← c.both_padding_zero.ensures,
  c.if-both_padding_zero.true,
) c.both_padding_zero-then-both_padding_zero.ensures

pub returns-else-both_padding_zero : goal.returns-else-both_padding_zero
unfolding fields_keep
returns-else-both_padding_zero c = rw (eq-eqb _ _ c.if-reserved-ne0.false, ← c.both_padding_zero.ensures, c.if-both_padding_zero.false)
