-- `records::string_of` meets its contract: each answer is what the definition gives under the tests that led there. Assumes nothing.
use borrow.Author.Tests.{eq-eqb, ne_eqb, lt-ltb, le-ltb}
use Rattle.records.specs.Record.{string_of}
use Rattle.format.specs.Part.{take_parts, take_part}
use Rattle.records.proofs.string_of.Goals as goal

pub returns-then-index-eq0 : goal.returns-then-index-eq0
unfolding string_of take_parts take_part
returns-then-index-eq0 c = simp (eq-eqb _ _ c.if-index-eq0.true, ← c.field-length.ensures, ← c.field-index.ensures, ← c.word-header.ensures)

pub returns-then-f-index : goal.returns-then-f-index
unfolding string_of take_parts take_part
returns-then-f-index c =
    simp (c.number.ensures, lt-ltb _ _ c.if-f-index.true, ne_eqb _ _ c.if-index-eq0.false, ← c.field-length.ensures, ← c.field-index.ensures, ← c.word-header.ensures)

pub returns-in-Err : goal.returns-in-Err
unfolding string_of take_parts take_part
returns-in-Err c =
    simp (
      c.number-in-Err.ensures,
      c.in-Err.is,
      ← c.take_stream.ensures,
      le-ltb _ _ c.if-f-index.false,
      ne_eqb _ _ c.if-index-eq0.false,
      ← c.field-length.ensures,
      ← c.field-index.ensures,
      ← c.word-header.ensures,
    )

pub returns-in-Ok : goal.returns-in-Ok
unfolding string_of take_parts take_part
returns-in-Ok c =
    simp (
      c.in-Ok.is,
      ← c.take_stream.ensures,
      le-ltb _ _ c.if-f-index.false,
      ne_eqb _ _ c.if-index-eq0.false,
      ← c.field-length.ensures,
      ← c.field-index.ensures,
      ← c.word-header.ensures,
    )
