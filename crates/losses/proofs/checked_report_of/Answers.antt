-- `losses::checked_report_of` meets its contract: what stands in the record and what it loses come from one walk (checked_report). Assumes nothing.
use Prim.Native.Nat.{◌+◌, ◌≤◌, ◌-◌}
use mathlib.Core.Path.{refl, sym, ap, ◌∙◌}
use native.Mathlib.Omega.{arith}
use lib.ListN.{length, drop, length-drop}
use Rattle.format.proofs.Headers.{part_from}
use Rattle.records.specs.Layout.{layout_of}
use Rattle.records.specs.Loss.{record_keeps}
use Rattle.records.proofs.Layouts.{layout_fits, fields_read, walk_ends}
use Rattle.losses.proofs.Checking.{fields-inside, checked_ended, checked_report, report-refused, fields-refused}
use Rattle.losses.proofs.checked_report_of.Goals as goal

pub take_fields-requires : goal.take_fields-requires
take_fields-requires c =
    (rw c.layout_of-layout.ensures (layout_fits c.word.result), omega (arith, c.requires.0), omega (arith, c.requires.1))

pub overflow_sub-from : goal.overflow_sub-from
overflow_sub-from c =
    let s = fields_read c.args.f c.layout_of-layout.result c.args.source.now c.args.place c.in-Ok.fields.first
    c.in-Ok.fields.second c.in-Ok.fields.third c.in-Ok.fields.stream
    c.in-Ok.fields.next (omega (arith, c.requires.0)) (sym
    c.take_fields.ensures ∙ c.in-Ok.is) in
    omega (arith, s.starts)

pub slice_bounds-check_arguments-count : goal.slice_bounds-check_arguments-count
slice_bounds-check_arguments-count c =
    let s = fields_read c.args.f c.layout_of-layout.result c.args.source.now c.args.place c.in-Ok.fields.first
    c.in-Ok.fields.second c.in-Ok.fields.third c.in-Ok.fields.stream
    c.in-Ok.fields.next (omega (arith, c.requires.0)) (sym
    c.take_fields.ensures ∙ c.in-Ok.is) in
    omega (arith, s.starts, s.ends)

pub slice_bounds-check_arguments-start : goal.slice_bounds-check_arguments-start
slice_bounds-check_arguments-start c =
    let s = fields_read c.args.f c.layout_of-layout.result c.args.source.now c.args.place c.in-Ok.fields.first
    c.in-Ok.fields.second c.in-Ok.fields.third c.in-Ok.fields.stream
    c.in-Ok.fields.next (omega (arith, c.requires.0)) (sym
    c.take_fields.ensures ∙ c.in-Ok.is) in
    omega (arith, s.starts, s.ends)

pub overflow_mul-extra : goal.overflow_mul-extra
overflow_mul-extra c =
    let b : c.layout_of-layout.result.behind ≤ 1 = rw c.layout_of-layout.ensures (layout_fits c.word.result).behind in
    omega (arith, b)

pub check_arguments-requires : goal.check_arguments-requires
check_arguments-requires c =
    let s = fields_read c.args.f c.layout_of-layout.result c.args.source.now c.args.place c.in-Ok.fields.first c.in-Ok.fields.second
    c.in-Ok.fields.third c.in-Ok.fields.stream c.in-Ok.fields.next (omega (arith, c.requires.0)) (sym
    c.take_fields.ensures ∙ c.in-Ok.is) in
    simp part_from (omega (arith, s.starts, s.ends, c.requires.1, length-drop (c.in-Ok.fields.next - c.args.place) c.args.source.now))

pub last_word-last-requires : goal.last_word-last-requires
last_word-last-requires c =
    let s = fields_read c.args.f c.layout_of-layout.result c.args.source.now c.args.place c.in-Ok.fields.first c.in-Ok.fields.second
    c.in-Ok.fields.third c.in-Ok.fields.stream c.in-Ok.fields.next (omega (arith, c.requires.0)) (sym
    c.take_fields.ensures ∙ c.in-Ok.is) in
    let part = drop (c.in-Ok.fields.next - c.args.place) c.args.source.now in
    let ended = checked_ended c.args.f c.layout_of-layout.result.count part c.in-Ok.fields.next _ c.in-Ok-check_arguments.end.at c.in-Ok-check_arguments.end.keeps
    (simp part_from at (sym c.check_arguments.ensures ∙ c.in-Ok-check_arguments.is)) in
    let w = walk_ends c.args.f c.layout_of-layout.result.count part c.in-Ok.fields.next c.in-Ok-check_arguments.end.at ended.0 in
    let b : c.layout_of-layout.result.behind ≤ 1 = rw c.layout_of-layout.ensures (layout_fits c.word.result).behind in (
      omega (arith, s.starts, w.0),
      omega (arith, s.starts, s.ends, w.1, length-drop (c.in-Ok.fields.next - c.args.place) c.args.source.now),
      omega
          (arith, c.requires.1),
      b,
    )

pub fields_keep-kept-requires : goal.fields_keep-kept-requires
fields_keep-kept-requires c =
    let s = fields_read c.args.f c.layout_of-layout.result c.args.source.now c.args.place c.in-Ok.fields.first c.in-Ok.fields.second
    c.in-Ok.fields.third c.in-Ok.fields.stream c.in-Ok.fields.next (omega (arith, c.requires.0)) (sym
    c.take_fields.ensures ∙ c.in-Ok.is) in
    let inside = fields-inside c.layout_of-layout.result c.args.place (c.args.place + length c.args.source.now) c.in-Ok.fields.first
    c.in-Ok.fields.second c.in-Ok.fields.third c.in-Ok.fields.stream c.in-Ok.fields.next s in
    (omega (arith, c.requires.1), inside.0, inside.1, inside.2, inside.3)

pub report_with-requires : goal.report_with-requires
report_with-requires c =
    let s = fields_read c.args.f c.layout_of-layout.result c.args.source.now c.args.place c.in-Ok.fields.first c.in-Ok.fields.second
    c.in-Ok.fields.third c.in-Ok.fields.stream c.in-Ok.fields.next (omega (arith, c.requires.0)) (sym
    c.take_fields.ensures ∙ c.in-Ok.is) in
    rw (← c.word.ensures, ← c.layout_of-layout.ensures) (omega (arith, s.starts, s.ends))

pub returns-in-Err : goal.returns-in-Err
unfolding record_keeps
returns-in-Err c =
    let is = fields-refused c.args.f c.args.source.now c.args.place c.layout_of-layout.result c.in-Err.reason (sym
    (c.layout_of-layout.ensures ∙ ap layout_of c.word.ensures)) (sym c.take_fields.ensures ∙ c.in-Err.is) in
    rw (c.refused.ensures, is) (refl, refl)

pub returns-in-Err-check_arguments : goal.returns-in-Err-check_arguments
unfolding record_keeps
returns-in-Err-check_arguments c =
    let is = report-refused c.args.f c.args.source.now c.args.place c.layout_of-layout.result c.in-Ok.fields.first c.in-Ok.fields.second
    c.in-Ok.fields.third c.in-Ok.fields.stream c.in-Ok.fields.next c.in-Err-check_arguments.reason (sym
    (c.layout_of-layout.ensures ∙ ap layout_of c.word.ensures)) (sym c.take_fields.ensures ∙ c.in-Ok.is) (simp part_from at (sym
    c.check_arguments.ensures ∙ c.in-Err-check_arguments.is)) in
    rw (c.refused-in-Err-check_arguments.ensures, is) (refl, refl)

pub returns : goal.returns
returns c =
    let is = checked_report c.args.f c.args.source.now c.args.place c.layout_of-layout.result c.in-Ok.fields.first c.in-Ok.fields.second
    c.in-Ok.fields.third c.in-Ok.fields.stream c.in-Ok.fields.next c.in-Ok-check_arguments.end.at c.in-Ok-check_arguments.end.keeps
    c.requires.0 (sym (c.layout_of-layout.ensures ∙ ap layout_of c.word.ensures)) (sym c.take_fields.ensures
    ∙ c.in-Ok.is) (simp part_from at (sym
    c.check_arguments.ensures ∙ c.in-Ok-check_arguments.is)) in
    rw (c.report_with.ensures, c.fields_keep-kept.ensures, c.last_word-last.ensures)
    (sym is.0, sym is.1)
