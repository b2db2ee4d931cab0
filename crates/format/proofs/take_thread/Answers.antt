-- `format::take_thread` meets its contract: each answer is what the definition gives under the tests that led there. Assumes nothing.
use borrow.Author.Tests.{eq-eqb, ne_eqb}
use Rattle.format.specs.Part.{take_thread}
use Rattle.format.proofs.take_thread.Goals as goal

pub returns-then-reference-eq0 : goal.returns-then-reference-eq0
unfolding take_thread
returns-then-reference-eq0 c = simp (← c.take_words.ensures, eq-eqb _ _ c.if-reference-eq0.true)

pub returns : goal.returns
unfolding take_thread
returns c = simp (ne_eqb _ _ c.if-reference-eq0.false)
