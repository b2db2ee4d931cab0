-- `records::take_tail` meets its contract: each answer is what the definition gives for the parts that were taken. Assumes nothing.
use native.Mathlib.Omega.{arith}
use mathlib.Core.Path.{sym, ◌∙◌}
use Rattle.std.proofs.lemmas.Result.{err_from_is_err_and}
use Rattle.format.specs.Part.{take_parts}
use Rattle.format.proofs.Parts.{part_taken}
use Rattle.records.specs.Models.Layouts.{take_pair}
use Rattle.records.proofs.Layouts.{stream-part}
use Rattle.records.proofs.take_tail.Goals as goal

pub take_stream-requires : goal.take_stream-requires
take_stream-requires c =
    let first = c.in_ok-first.first in
    let moved = part_taken c.args.f c.args.part c.args.place c.args.source.now c.args.start first.reference first.next c.requires.2
    (sym c.take_part.ensures ∙ c.in_ok-first.was) in
    (c.requires.1, omega (arith, moved.1, c.requires.3), c.requires.3)

pub returns-in_err-first : goal.returns-in_err-first
unfolding take_pair take_parts
returns-in_err-first c =
    let by = err_from_is_err_and c.from_residual.result c.from_residual.ensures.1 in
    rw (by.1, by.2) simp (c.in_err-first.was, ← c.take_part.ensures)

pub returns-in_err-second : goal.returns-in_err-second
unfolding take_pair take_parts
returns-in_err-second c =
    let by = err_from_is_err_and c.from_residual-in_err-second.result c.from_residual-in_err-second.ensures.1 in
    rw (by.1, by.2) simp (stream-part, c.in_err-second.was, ← c.take_stream.ensures, c.in_ok-first.was, ← c.take_part.ensures)

pub returns : goal.returns
unfolding take_pair take_parts
returns c =
    simp (stream-part, c.in_ok-second.was, ← c.take_stream.ensures, c.in_ok-first.was, ← c.take_part.ensures)
