-- `views::take_argument` meets its contract: the walk remembers where the asked argument starts, and each answer is what the definition
-- gives under the tests that led there. Assumes nothing.
use native.Mathlib.Omega.{arith}
use mathlib.Core.Path.{sym, ◌∙◌}
use Prim.Native.Nat.{◌-◌, ◌≤◌}
use lib.ListN.{drop, length-drop}
use Rattle.format.proofs.Headers.{part_from}
use Rattle.arguments.proofs.Arguments.{sought_refused, sought_ended}
use Rattle.records.specs.Layout.{report_of}
use Rattle.records.proofs.Layouts.{layout_fits, fields_read}
use Rattle.views.specs.Models.Numbered.{argument_in}
use Rattle.views.proofs.Numbered.{sought_stands, argument_sought}
use Rattle.views.proofs.take_argument.Goals as goal

pub take_fields-requires : goal.take_fields-requires
take_fields-requires c = (rw c.requires.0 (layout_fits _), c.requires.2, omega (arith, c.requires.3))

pub overflow_sub-from : goal.overflow_sub-from
overflow_sub-from c =
    let s = fields_read c.args.f c.args.layout c.args.source.now c.args.at _ _ _ _ _ c.requires.2 (sym c.take_fields.ensures
    ∙ c.in-Ok.is) in omega (arith, s.starts)

pub slice_bounds-seek-count : goal.slice_bounds-seek-count
slice_bounds-seek-count c =
    let s = fields_read c.args.f c.args.layout c.args.source.now c.args.at _ _ _ _ _ c.requires.2 (sym c.take_fields.ensures
    ∙ c.in-Ok.is) in omega (arith, s.starts, s.ends)

pub slice_bounds-seek-start : goal.slice_bounds-seek-start
slice_bounds-seek-start c =
    let s = fields_read c.args.f c.args.layout c.args.source.now c.args.at _ _ _ _ _ c.requires.2 (sym c.take_fields.ensures
    ∙ c.in-Ok.is) in omega (arith, s.starts, s.ends)

pub seek-requires : goal.seek-requires
seek-requires c =
    let s = fields_read c.args.f c.args.layout c.args.source.now c.args.at _ _ _ _ _ c.requires.2 (sym c.take_fields.ensures
    ∙ c.in-Ok.is) in
    (simp part_from (omega (arith, c.requires.3, s.starts, s.ends, length-drop (c.in-Ok.fields.next - c.args.at) c.args.source.now)), c.requires.1)

pub last_word-requires : goal.last_word-requires
last_word-requires c =
    let i = sought_stands c.args.f c.args.layout c.args.source.now c.args.at c.args.number c.requires.2 (sym c.take_fields.ensures
    ∙ c.in-Ok.is)
    (simp part_from at (sym c.seek.ensures ∙ c.in-Ok-seek.is)) in
    let b : c.args.layout.behind ≤ 1 = rw c.requires.0 (layout_fits _).behind in (
      omega (arith, i.begins, i.behind),
      i.ends,
      omega (
        arith,
        c.requires.3,
      ),
      b,
    )

pub overflow_sub-before : goal.overflow_sub-before
overflow_sub-before c =
    let i = sought_stands c.args.f c.args.layout c.args.source.now c.args.at c.args.number c.requires.2 (sym c.take_fields.ensures
    ∙ c.in-Ok.is)
    (simp part_from at (sym c.seek.ensures ∙ c.in-Ok-seek.is)) in omega (arith, i.begins, i.starts)

pub slice_bounds-argument_of-count : goal.slice_bounds-argument_of-count
slice_bounds-argument_of-count c =
    let i = sought_stands c.args.f c.args.layout c.args.source.now c.args.at c.args.number c.requires.2 (sym c.take_fields.ensures
    ∙ c.in-Ok.is)
    (simp part_from at (sym c.seek.ensures ∙ c.in-Ok-seek.is)) in omega (arith, i.begins, i.starts, i.inside)

pub slice_bounds-argument_of-start : goal.slice_bounds-argument_of-start
slice_bounds-argument_of-start c =
    let i = sought_stands c.args.f c.args.layout c.args.source.now c.args.at c.args.number c.requires.2 (sym c.take_fields.ensures
    ∙ c.in-Ok.is)
    (simp part_from at (sym c.seek.ensures ∙ c.in-Ok-seek.is)) in omega (arith, i.begins, i.starts, i.inside)

pub argument_of-requires : goal.argument_of-requires
argument_of-requires c =
    let i = sought_stands c.args.f c.args.layout c.args.source.now c.args.at c.args.number c.requires.2 (sym c.take_fields.ensures
    ∙ c.in-Ok.is)
    (simp part_from at (sym c.seek.ensures ∙ c.in-Ok-seek.is)) in simp part_from (omega (
      arith,
      c.requires.3,
      i.begins,
      i.starts,
      i.inside,
      length-drop
          (c.in-Ok-seek.sought.start - c.args.at) c.args.source.now,
    ))

pub returns-in_default : goal.returns-in_default
unfolding argument_in report_of
returns-in_default c =
    simp (← c.requires.0, ← c.take_fields.ensures, c.in_default.is)

pub returns-in_default-seek : goal.returns-in_default-seek
unfolding argument_in report_of
returns-in_default-seek c =
    let w = sought_refused c.args.f c.args.layout.count c.args.number (drop (c.in-Ok.fields.next - c.args.at) c.args.source.now)
    c.in-Ok.fields.next _ (simp part_from at (sym c.seek.ensures ∙ c.in_default-seek.is)) in
    simp (← c.requires.0, ← c.take_fields.ensures, c.in-Ok.is, w)

pub returns-in_default-last_word : goal.returns-in_default-last_word
unfolding argument_in report_of
returns-in_default-last_word c =
    let w = sought_ended c.args.f c.args.layout.count c.args.number (drop (c.in-Ok.fields.next - c.args.at) c.args.source.now)
    c.in-Ok.fields.next _ _ (simp part_from at (sym c.seek.ensures ∙ c.in-Ok-seek.is)) in
    simp (← c.requires.0, ← c.take_fields.ensures, c.in-Ok.is, w.0, ← c.last_word.ensures, c.in_default-last_word.is)

pub returns : goal.returns
returns c =
    simp part_from at c.argument_of.ensures ∙ sym (argument_sought c.args.f c.args.layout c.args.source.now c.args.at c.args.number c.requires.2 (sym
    c.requires.0) c.requires.1 (sym c.take_fields.ensures ∙ c.in-Ok.is) (simp part_from at (sym c.seek.ensures
    ∙ c.in-Ok-seek.is)) (sym c.last_word.ensures
    ∙ c.in-Ok-last_word.is))
