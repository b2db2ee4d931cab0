-- `format::take_stream` meets its contract: each answer is what the definition gives under the tests that led there. Assumes nothing.
use borrow.Author.Tests.{lt-ltb, le-ltb}
use Rattle.format.specs.Part.{take_stream}
use Rattle.format.proofs.take_stream.Goals as goal

pub returns-then-f-n : goal.returns-then-f-n
unfolding take_stream
returns-then-f-n c = simp (lt-ltb _ _ c.if-f-n.true)

pub returns-then-start-source : goal.returns-then-start-source
unfolding take_stream
returns-then-start-source c = simp (lt-ltb _ _ c.if-start-source.true, ← c.stream_words.ensures, le-ltb _ _ c.if-f-n.false)

pub returns : goal.returns
unfolding take_stream
returns c = simp (le-ltb _ _ c.if-start-source.false, ← c.stream_words.ensures, le-ltb _ _ c.if-f-n.false)
