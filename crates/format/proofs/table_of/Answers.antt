-- `format::table_of` meets its contract: each answer is what the definition gives under the tests that led there. Assumes nothing.
use Rattle.format.specs.Part.{table_of}
use Rattle.format.proofs.table_of.Goals as goal

pub returns-in-Words : goal.returns-in-Words
unfolding table_of
returns-in-Words c = simp c.in-Words.is

pub returns-in-Stream : goal.returns-in-Stream
unfolding table_of
returns-in-Stream c = simp c.in-Stream.is

pub returns-in-Text : goal.returns-in-Text
unfolding table_of
returns-in-Text c = simp c.in-Text.is

pub returns-in-Thread : goal.returns-in-Thread
unfolding table_of
returns-in-Thread c = simp c.in-Thread.is
