-- `format::take_text` meets its contract: each answer is what the definition gives under the tests that led there. Assumes nothing.
use borrow.Author.Tests.{eq-eqb, ne_eqb, lt-ltb, le-ltb}
use Rattle.format.specs.Part.{take_text}
use Rattle.format.proofs.take_text.Goals as goal

pub returns-then-reference-eq0 : goal.returns-then-reference-eq0
unfolding take_text
returns-then-reference-eq0 c = simp (eq-eqb _ _ c.if-reference-eq0.true)

pub returns-then-reference-lt32768 : goal.returns-then-reference-lt32768
unfolding take_text
returns-then-reference-lt32768 c = simp (lt-ltb _ _ c.if-reference-lt32768.true, ne_eqb _ _ c.if-reference-eq0.false)

pub returns : goal.returns
unfolding take_text
returns c = simp (← c.take_stream.ensures, le-ltb _ _ c.if-reference-lt32768.false, ne_eqb _ _ c.if-reference-eq0.false)
