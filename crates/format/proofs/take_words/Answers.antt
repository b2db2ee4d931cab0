-- `format::take_words` meets its contract: each answer is what the definition gives under the tests that led there. Assumes nothing.
use borrow.Author.Tests.{lt-ltb, le-ltb}
use Rattle.format.specs.Part.{take_words}
use Rattle.format.proofs.take_words.Goals as goal

pub returns-then-start-source : goal.returns-then-start-source
unfolding take_words
returns-then-start-source c = simp (lt-ltb _ _ c.if-start-source.true)

pub returns : goal.returns
unfolding take_words
returns c = simp (le-ltb _ _ c.if-start-source.false)
