-- `records::provider_info_of` meets its contract: each answer is what the definition gives under the tests that led there. Assumes nothing.
use Rattle.records.specs.Record.{provider_info_of}
use Rattle.format.specs.Part.{take_parts, take_part}
use Rattle.records.proofs.provider_info_of.Goals as goal

pub returns-in-Err : goal.returns-in-Err
unfolding provider_info_of take_parts take_part
returns-in-Err c =
    simp (c.number.ensures, c.in-Err.is, ← c.take_stream.ensures, ← c.field-length.ensures, ← c.word-header.ensures)

pub returns-in-Ok : goal.returns-in-Ok
unfolding provider_info_of take_parts take_part
returns-in-Ok c =
    simp (← c.field.ensures, c.in-Ok.is, ← c.take_stream.ensures, ← c.field-length.ensures, ← c.word-header.ensures)
