-- `records::is_event` meets its contract: each answer is what the definition gives under the tests that led there. Assumes nothing.
use borrow.Author.Tests.{eq-eqb, ne_eqb}
use Rattle.records.specs.Layout.{is_event}
use Rattle.records.proofs.is_event.Goals as goal

pub returns-then-field-eq4 : goal.returns-then-field-eq4
unfolding is_event
returns-then-field-eq4 c = simp (← c.field-then-field-eq4.ensures, eq-eqb _ _ c.if-field-eq4.true, ← c.field.ensures)

pub returns-else-field-eq4 : goal.returns-else-field-eq4
unfolding is_event
returns-else-field-eq4 c = simp (ne_eqb _ _ c.if-field-eq4.false, ← c.field.ensures)
