-- `format::record_words` meets its contract: each answer is what the definition gives under the tests that led there. Assumes nothing.
use borrow.Author.Tests.{eq-eqb, ne_eqb}
use Rattle.format.specs.Header.{record_words}
use Rattle.format.proofs.record_words.Goals as goal

pub returns-then-field-eq15 : goal.returns-then-field-eq15
unfolding record_words
returns-then-field-eq15 c = simp (← c.field-then-field-eq15.ensures, eq-eqb _ _ c.if-field-eq15.true, ← c.field.ensures)

pub returns-else-field-eq15 : goal.returns-else-field-eq15
unfolding record_words
returns-else-field-eq15 c = simp (← c.field-else-field-eq15.ensures, ne_eqb _ _ c.if-field-eq15.false, ← c.field.ensures)
