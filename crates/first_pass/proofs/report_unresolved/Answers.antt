-- `first_pass::report_unresolved` meets its contract: one reference after the other is asked for, as the definition does. Assumes nothing.
use native.Mathlib.Omega.{arith}
use Rattle.passes.proofs.Places.{report_bounds}
use Rattle.first_pass.specs.Models.Count.{any_unresolved}
use Rattle.first_pass.proofs.report_unresolved.Goals as goal

pub returns-then-is_unresolved : goal.returns-then-is_unresolved
unfolding any_unresolved
returns-then-is_unresolved c = simp (← c.is_unresolved.ensures, c.if-is_unresolved.true)

pub returns-then-is_unresolved-2 : goal.returns-then-is_unresolved-2
unfolding any_unresolved
returns-then-is_unresolved-2 c =
    simp (← c.is_unresolved.ensures, c.if-is_unresolved.false, ← c.is_unresolved-2.ensures, c.if-is_unresolved-2.true)

pub returns-then-is_unresolved-3 : goal.returns-then-is_unresolved-3
unfolding any_unresolved
returns-then-is_unresolved-3 c =
    simp (
      ← c.is_unresolved.ensures,
      c.if-is_unresolved.false,
      ← c.is_unresolved-2.ensures,
      c.if-is_unresolved-2.false,
      ← c.is_unresolved-3.ensures,
      c.if-is_unresolved-3.true,
    )

pub slice_bounds-arguments_unresolved-count : goal.slice_bounds-arguments_unresolved-count
slice_bounds-arguments_unresolved-count c =
    let b = report_bounds c.args.f c.args.archive.now c.args.s.place c.args.report c.args.next c.requires.4.0 c.requires.4.1 in
    b.first

pub slice_bounds-arguments_unresolved-start : goal.slice_bounds-arguments_unresolved-start
slice_bounds-arguments_unresolved-start c =
    let b = report_bounds c.args.f c.args.archive.now c.args.s.place c.args.report c.args.next c.requires.4.0 c.requires.4.1 in
    b.first

pub slice_bounds-arguments_unresolved-end : goal.slice_bounds-arguments_unresolved-end
slice_bounds-arguments_unresolved-end c =
    let b = report_bounds c.args.f c.args.archive.now c.args.s.place c.args.report c.args.next c.requires.4.0 c.requires.4.1 in
    b.last

pub arguments_unresolved-requires : goal.arguments_unresolved-requires
arguments_unresolved-requires c =
    let b = report_bounds c.args.f c.args.archive.now c.args.s.place c.args.report c.args.next c.requires.4.0 c.requires.4.1 in
    omega (arith, b.part, b.last, c.requires.2)

pub returns : goal.returns
unfolding any_unresolved
returns c =
    simp (
      ← c.is_unresolved.ensures,
      c.if-is_unresolved.false,
      ← c.is_unresolved-2.ensures,
      c.if-is_unresolved-2.false,
      ← c.is_unresolved-3.ensures,
      c.if-is_unresolved-3.false,
    ) c.arguments_unresolved.ensures
