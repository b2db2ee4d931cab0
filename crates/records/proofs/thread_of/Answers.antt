-- `records::thread_of` meets its contract: each answer is what the definition gives under the tests that led there. Assumes nothing.
use borrow.Author.Tests.{eq-eqb, ne_eqb}
use Rattle.records.specs.Record.{thread_of}
use Rattle.format.specs.Part.{take_parts, take_part}
use Rattle.records.proofs.thread_of.Goals as goal

pub returns-then-index-eq0 : goal.returns-then-index-eq0
unfolding thread_of take_parts take_part
returns-then-index-eq0 c = simp (eq-eqb _ _ c.if-index-eq0.true, ← c.field-index.ensures, ← c.word-header.ensures)

pub returns-in-Err : goal.returns-in-Err
unfolding thread_of take_parts take_part
returns-in-Err c =
    simp (c.number.ensures, c.in-Err.is, ← c.take_words.ensures, ne_eqb _ _ c.if-index-eq0.false, ← c.field-index.ensures, ← c.word-header.ensures)

pub returns-in-Ok : goal.returns-in-Ok
unfolding thread_of take_parts take_part
returns-in-Ok c =
    simp (c.in-Ok.is, ← c.take_words.ensures, ne_eqb _ _ c.if-index-eq0.false, ← c.field-index.ensures, ← c.word-header.ensures)
