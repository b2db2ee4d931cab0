-- `losses::kept_report_of` meets its contract: the arguments of a record that loses nothing end where its last words start (kept-report).
-- Assumes nothing.
use Prim.Native.Nat.{◌≤◌}
use mathlib.Core.Path.{sym, ap, ◌∙◌}
use native.Mathlib.Omega.{arith}
use Rattle.records.specs.Layout.{layout_of, report_of}
use Rattle.records.proofs.Layouts.{layout_fits, fields_read}
use Rattle.losses.proofs.Kept.{kept-report}
use Rattle.losses.proofs.kept_report_of.Goals as goal

pub take_fields-requires : goal.take_fields-requires
take_fields-requires c =
    (rw c.layout_of-layout.ensures (layout_fits c.word.result), omega (arith, c.requires.0), omega (arith, c.requires.1))

pub overflow_mul-at : goal.overflow_mul-at
overflow_mul-at c =
    let b : c.layout_of-layout.result.behind ≤ 1 = rw c.layout_of-layout.ensures (layout_fits c.word.result).behind in
    omega (arith, b)

pub overflow_sub-at : goal.overflow_sub-at
overflow_sub-at c =
    let b : c.layout_of-layout.result.behind ≤ 1 = rw c.layout_of-layout.ensures (layout_fits c.word.result).behind in
    omega (arith, b, c.requires.0)

pub last_word-last-requires : goal.last_word-last-requires
last_word-last-requires c =
    let b : c.layout_of-layout.result.behind ≤ 1 = rw c.layout_of-layout.ensures (layout_fits c.word.result).behind in
    (omega (arith, b, c.requires.0), omega arith, omega (arith, c.requires.1), b)

pub report_with-requires : goal.report_with-requires
report_with-requires c =
    let s = fields_read c.args.f c.layout_of-layout.result c.args.source.now c.args.place c.in-Ok.fields.first c.in-Ok.fields.second
    c.in-Ok.fields.third c.in-Ok.fields.stream c.in-Ok.fields.next (omega (arith, c.requires.0)) (sym
    c.take_fields.ensures ∙ c.in-Ok.is) in
    rw (← c.word.ensures, ← c.layout_of-layout.ensures) (omega (arith, s.starts, s.ends))

pub returns-in-Err : goal.returns-in-Err
unfolding report_of
returns-in-Err c =
    simp (c.number.ensures, ← c.word.ensures, ← c.layout_of-layout.ensures, ← c.take_fields.ensures, c.in-Err.is)

pub returns-in-Ok : goal.returns-in-Ok
returns-in-Ok c =
    let is = kept-report c.args.f c.args.source.now c.args.place c.layout_of-layout.result c.in-Ok.fields.first c.in-Ok.fields.second
    c.in-Ok.fields.third c.in-Ok.fields.stream c.in-Ok.fields.next c.requires.0 (sym
    (c.layout_of-layout.ensures ∙ ap layout_of c.word.ensures)) (sym c.take_fields.ensures ∙ c.in-Ok.is) c.requires.2 in
    rw (c.report_with.ensures, c.last_word-last.ensures) (sym is)
