-- `reader::ask_place` meets its contract: each answer is what the definition gives under the tests that led there. Assumes nothing.
use native.Mathlib.Omega.{arith}
use borrow.Author.Tests.{eq-eqb, ne_eqb}
use mathlib.Core.Path.{◌≡◌, ap, sym, ◌∙◌}
use Rattle.std.specs.Prelude.{Err}
use Prim.Native.Nat.{◌-◌}
use lib.ListN.{length, take, drop, length-drop}
use lib.Seq.{length-take-le}
use Rattle.format.proofs.Headers.{part_from, extent_read}
use Rattle.contexts.proofs.Contexts.{belongs_facts}
use Rattle.records.specs.Record.{record_of}
use Rattle.reader.specs.Ask.{asked_place}
use Rattle.reader.proofs.Asks.{extent_behind, asked_none, asked_record}
use Rattle.reader.proofs.ask_place.Goals as goal

pub returns-then-at-ne0 : goal.returns-then-at-ne0
unfolding asked_place
returns-then-at-ne0 c = simp (c.at-foreign.ensures, ne_eqb _ _ c.if-at-ne0.true)

pub returns-then-archive-at : goal.returns-then-archive-at
returns-then-archive-at c =
    ap Err c.at-foreign.ensures
    ∙ sym (asked_none c.args.f c.args.archive.now c.args.tables.now c.args.s c.args.at c.args.number _ (extent_behind c.args.f
    c.args.archive.now c.args.at c.if-archive-at.true))

pub overflow_add-at : goal.overflow_add-at
overflow_add-at c =
    let w = extent_read c.args.f (drop c.args.at c.args.archive.now) c.in-Ok.size (simp part_from at (sym
    c.extent_of.ensures ∙ c.in-Ok.is)) in
    omega (
      arith,
      c.requires.1,
      c.if-archive-at.false,
      w.inside,
      length-drop c.args.at
          c.args.archive.now,
    )

pub returns-then-at-size : goal.returns-then-at-size
unfolding asked_place record_of
returns-then-at-size c =
    let e = simp part_from at (sym c.extent_of.ensures ∙ c.in-Ok.is) in
    rw (c.at-foreign.ensures, eq-eqb _ _ c.if-at-ne0.false, e, ne_eqb _ _ c.if-at-size.true)

pub slice_bounds-ask_report-end : goal.slice_bounds-ask_report-end
slice_bounds-ask_report-end c =
    let rest = take (length c.args.archive.now - c.args.at) (drop c.args.at c.args.archive.now) in
    let w = extent_read c.args.f rest c.in-Ok.size (sym c.extent_of.ensures ∙ c.in-Ok.is) in
    sym (length-take-le c.in-Ok.size rest
    w.inside)

pub invariant_of-registrations-clause-one_of_nine : goal.invariant_of-registrations-clause-one_of_nine
invariant_of-registrations-clause-one_of_nine c =
    let b = belongs_facts c.args.s (length c.args.archive.now) c.requires.3 in omega (arith, b.few, b.known)

pub ask_report-requires : goal.ask_report-requires
ask_report-requires c =
    let rest = take (length c.args.archive.now - c.args.at) (drop c.args.at c.args.archive.now) in
    let w = extent_read c.args.f rest c.in-Ok.size (sym c.extent_of.ensures ∙ c.in-Ok.is) in
    let l : length rest ≡ length c.args.archive.now - c.args.at = simp part_from (length-drop c.args.at c.args.archive.now) in
    let t = length-take-le c.in-Ok.size rest w.inside in
    (rw t w.some, rw t (omega (arith, c.requires.1, c.if-archive-at.false, w.inside)))

pub returns-in-Err : goal.returns-in-Err
returns-in-Err c =
    ap Err c.at-foreign.ensures
    ∙ sym (asked_none c.args.f c.args.archive.now c.args.tables.now c.args.s c.args.at c.args.number _ (simp part_from at (sym
    c.extent_of.ensures ∙ c.in-Err.is)))

pub returns-else-at-size : goal.returns-else-at-size
returns-else-at-size c =
    simp part_from at c.ask_report.ensures ∙ sym (asked_record c.args.f c.args.archive.now c.args.tables.now c.args.s c.args.at c.args.number
    c.in-Ok.size c.if-at-ne0.false (simp part_from at (sym c.extent_of.ensures ∙ c.in-Ok.is)) c.if-at-size.false)
