-- `format::take_part` meets its contract: each answer is what the definition gives under the tests that led there. Assumes nothing.
use Rattle.format.specs.Part.{take_part}
use Rattle.format.proofs.take_part.Goals as goal

pub returns-in-Words : goal.returns-in-Words
unfolding take_part
returns-in-Words c = simp c.in-Words.is c.take_words.ensures

pub returns-in-Stream : goal.returns-in-Stream
unfolding take_part
returns-in-Stream c = simp c.in-Stream.is c.take_stream.ensures

pub returns-in-Text : goal.returns-in-Text
unfolding take_part
returns-in-Text c = simp c.in-Text.is c.take_text.ensures

pub returns-in-Thread : goal.returns-in-Thread
unfolding take_part
returns-in-Thread c = simp c.in-Thread.is c.take_thread.ensures
