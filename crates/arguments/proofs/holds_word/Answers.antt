-- `arguments::holds_word` meets its contract: each answer is what the definition gives under the tests that led there. Assumes nothing.
use borrow.Author.Tests.{lt-ltb, le-ltb, lt-leb}
use Rattle.arguments.specs.Argument.{holds_word}
use Rattle.arguments.proofs.holds_word.Goals as goal

pub returns-then-variant-ge3 : goal.returns-then-variant-ge3
unfolding holds_word
returns-then-variant-ge3 c = simp (le-ltb _ _ c.if-variant-ge3.true)

pub returns-else-variant-ge3 : goal.returns-else-variant-ge3
unfolding holds_word
returns-else-variant-ge3 c = simp (lt-ltb _ _ c.if-variant-ge3.false, lt-leb _ _ c.if-variant-ge3.false)
