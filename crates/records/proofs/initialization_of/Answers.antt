-- `records::initialization_of` meets its contract: each answer is what the definition gives under the tests that led there. Assumes nothing.
use borrow.Author.Tests.{lt-ltb, le-ltb}
use Rattle.records.specs.Record.{initialization_of}
use Rattle.format.specs.Part.{take_parts, take_part, take_words}
use Rattle.records.proofs.initialization_of.Goals as goal

pub returns-then-end-place : goal.returns-then-end-place
unfolding initialization_of take_parts take_part take_words
returns-then-end-place c = simp (c.number.ensures, lt-ltb _ _ c.if-end-place.true)

pub returns : goal.returns
unfolding initialization_of take_parts take_part take_words
returns c = simp (← c.word.ensures, le-ltb _ _ c.if-end-place.false)
