-- `views::see_report` meets its contract: fields, arguments and last word are read as the definition reads them (report-is), and the search
-- of the arguments is the one over the archive (source_behind). Assumes nothing.
use native.Mathlib.Omega.{arith}
use mathlib.Core.Path.{sym, ap, ◌∙◌}
use Prim.Native.Nat.{◌-◌, ◌≤◌}
use lib.ListN.{drop, length-drop}
use Rattle.std.proofs.lemmas.Result.{err_from_is_err_and}
use Rattle.format.proofs.Headers.{part_from}
use Rattle.records.specs.Layout.{layout_of, report_of}
use Rattle.records.specs.declared.Record.{Record}
use Rattle.records.specs.declared.Content.{Content}
use Rattle.records.proofs.Layouts.{report-is, layout_fits, fields_read, walk_ends}
use Rattle.views.proofs.Searches.{search_refused, search_ended}
use Rattle.records.specs.Effect.{effect_of}
use Rattle.views.proofs.Lookups.{source_behind}
use Rattle.views.proofs.see_report.Goals as goal

pub take_fields-requires : goal.take_fields-requires
take_fields-requires c =
    (rw c.layout_of-layout.ensures (layout_fits c.word.result), c.requires.1, omega (arith, c.requires.2))

pub overflow_sub-from : goal.overflow_sub-from
overflow_sub-from c =
    let s = fields_read c.args.registrations.now.format c.layout_of-layout.result c.args.source.now c.args.registrations.now.until c.in_ok-fields.fields.first c.in_ok-fields.fields.second
    c.in_ok-fields.fields.third c.in_ok-fields.fields.stream c.in_ok-fields.fields.next c.requires.1 (sym c.take_fields.ensures ∙ c.in_ok-fields.was) in
    omega (arith, s.starts)

pub slice_bounds-rest-count : goal.slice_bounds-rest-count
slice_bounds-rest-count c =
    let s = fields_read c.args.registrations.now.format c.layout_of-layout.result c.args.source.now c.args.registrations.now.until c.in_ok-fields.fields.first c.in_ok-fields.fields.second
    c.in_ok-fields.fields.third c.in_ok-fields.fields.stream c.in_ok-fields.fields.next c.requires.1 (sym c.take_fields.ensures ∙ c.in_ok-fields.was) in
    omega (arith, s.starts, s.ends)

pub slice_bounds-rest-start : goal.slice_bounds-rest-start
slice_bounds-rest-start c =
    let s = fields_read c.args.registrations.now.format c.layout_of-layout.result c.args.source.now c.args.registrations.now.until c.in_ok-fields.fields.first c.in_ok-fields.fields.second
    c.in_ok-fields.fields.third c.in_ok-fields.fields.stream c.in_ok-fields.fields.next c.requires.1 (sym c.take_fields.ensures ∙ c.in_ok-fields.was) in
    omega (arith, s.starts, s.ends)

pub search_arguments-requires : goal.search_arguments-requires
search_arguments-requires c =
    let s = fields_read c.args.registrations.now.format c.layout_of-layout.result c.args.source.now c.args.registrations.now.until c.in_ok-fields.fields.first c.in_ok-fields.fields.second
    c.in_ok-fields.fields.third c.in_ok-fields.fields.stream c.in_ok-fields.fields.next c.requires.1 (sym c.take_fields.ensures ∙ c.in_ok-fields.was) in
    simp part_from (
    omega (
      arith,
      s.starts,
      s.ends,
      c.requires.2,
      length-drop (c.in_ok-fields.fields.next - c.args.registrations.now.until) c.args.source.now,
    )
    )

pub last_word-requires : goal.last_word-requires
last_word-requires c =
    let part = drop (c.in_ok-fields.fields.next - c.args.registrations.now.until) c.args.source.now in
    let s = fields_read c.args.registrations.now.format c.layout_of-layout.result c.args.source.now c.args.registrations.now.until c.in_ok-fields.fields.first c.in_ok-fields.fields.second
    c.in_ok-fields.fields.third c.in_ok-fields.fields.stream c.in_ok-fields.fields.next c.requires.1 (sym c.take_fields.ensures ∙ c.in_ok-fields.was) in
    let e = search_ended c.args.registrations.now.format c.args.registrations.now.archive.now c.args.registrations.now.words.now c.args.registrations.now.context c.args.registrations.now.until c.layout_of-layout.result.count part
    c.in_ok-fields.fields.next c.in_ok-searched.searched.at
    c.in_ok-searched.searched.found (simp part_from at (sym c.search_arguments.ensures ∙ c.in_ok-searched.was)) in
    let w = walk_ends c.args.registrations.now.format c.layout_of-layout.result.count part c.in_ok-fields.fields.next c.in_ok-searched.searched.at e.0 in
    let b : c.layout_of-layout.result.behind ≤ 1 = rw c.layout_of-layout.ensures (layout_fits c.word.result).behind in (
      omega (arith, s.starts, w.0),
      omega (arith, s.starts, s.ends, w.1, length-drop (c.in_ok-fields.fields.next - c.args.registrations.now.until) c.args.source.now),
      omega (arith, c.requires.2),
      b,
    )

pub report_read-report-requires : goal.report_read-report-requires
report_read-report-requires c =
    let s = fields_read c.args.registrations.now.format c.layout_of-layout.result c.args.source.now c.args.registrations.now.until c.in_ok-fields.fields.first c.in_ok-fields.fields.second
    c.in_ok-fields.fields.third c.in_ok-fields.fields.stream c.in_ok-fields.fields.next c.requires.1 (sym c.take_fields.ensures ∙ c.in_ok-fields.was) in
    rw (← c.word.ensures, ← c.layout_of-layout.ensures) (omega (arith, s.starts, s.ends))

pub see_referents-requires : goal.see_referents-requires
see_referents-requires c =
    let part = drop (c.in_ok-fields.fields.next - c.args.registrations.now.until) c.args.source.now in
    let e = search_ended c.args.registrations.now.format c.args.registrations.now.archive.now c.args.registrations.now.words.now c.args.registrations.now.context c.args.registrations.now.until c.layout_of-layout.result.count part
    c.in_ok-fields.fields.next c.in_ok-searched.searched.at
    c.in_ok-searched.searched.found (simp part_from at (sym c.search_arguments.ensures ∙ c.in_ok-searched.was)) in
    let is = report-is c.args.registrations.now.format c.args.source.now c.args.registrations.now.until c.layout_of-layout.result (sym (c.layout_of-layout.ensures
    ∙ ap layout_of c.word.ensures)) (sym c.take_fields.ensures
    ∙ c.in_ok-fields.was) e.0 (sym c.last_word.ensures ∙ c.in_ok-last.was) in (
      c.requires.0,
      ap (λ (r : Record). r.content) c.requires.3.0 ∙ (is
          ∙ ap Content.Report (sym c.report_read-report.ensures)),
    )

pub returns-in_err-fields : goal.returns-in_err-fields
unfolding report_of effect_of
returns-in_err-fields c =
    let by = err_from_is_err_and c.from_residual.result c.from_residual.ensures.1 in
    rw (by.1, by.2) simp (← c.word.ensures, ← c.layout_of-layout.ensures, ← c.take_fields.ensures, c.in_err-fields.was)

pub returns-in_err-searched : goal.returns-in_err-searched
unfolding report_of effect_of
returns-in_err-searched c =
    let by = err_from_is_err_and c.from_residual-in_err-searched.result c.from_residual-in_err-searched.ensures.1 in
    let part = drop (c.in_ok-fields.fields.next - c.args.registrations.now.until) c.args.source.now in
    let e = search_refused c.args.registrations.now.format c.args.registrations.now.archive.now c.args.registrations.now.words.now c.args.registrations.now.context c.args.registrations.now.until c.layout_of-layout.result.count part
    c.in_ok-fields.fields.next c.in_err-searched.field-0.0
    (simp part_from at (sym c.search_arguments.ensures ∙ c.in_err-searched.was)) in
    rw (by.1, by.2) simp (← c.word.ensures, ← c.layout_of-layout.ensures, ← c.take_fields.ensures, c.in_ok-fields.was, e)

pub returns-in_err-last : goal.returns-in_err-last
unfolding report_of effect_of
returns-in_err-last c =
    let by = err_from_is_err_and c.from_residual-in_err-last.result c.from_residual-in_err-last.ensures.1 in
    let part = drop (c.in_ok-fields.fields.next - c.args.registrations.now.until) c.args.source.now in
    let e = search_ended c.args.registrations.now.format c.args.registrations.now.archive.now c.args.registrations.now.words.now c.args.registrations.now.context c.args.registrations.now.until c.layout_of-layout.result.count part
    c.in_ok-fields.fields.next c.in_ok-searched.searched.at
    c.in_ok-searched.searched.found (simp part_from at (sym c.search_arguments.ensures ∙ c.in_ok-searched.was)) in
    rw (by.1, by.2) simp (
      ← c.word.ensures,
      ← c.layout_of-layout.ensures,
      ← c.take_fields.ensures,
      c.in_ok-fields.was,
      e.0,
      ← c.last_word.ensures,
      c.in_err-last.was,
    )

pub returns : goal.returns
returns c =
    let part = drop (c.in_ok-fields.fields.next - c.args.registrations.now.until) c.args.source.now in
    let s = fields_read c.args.registrations.now.format c.layout_of-layout.result c.args.source.now c.args.registrations.now.until c.in_ok-fields.fields.first c.in_ok-fields.fields.second
    c.in_ok-fields.fields.third c.in_ok-fields.fields.stream c.in_ok-fields.fields.next c.requires.1 (sym c.take_fields.ensures ∙ c.in_ok-fields.was) in
    let e = search_ended c.args.registrations.now.format c.args.registrations.now.archive.now c.args.registrations.now.words.now c.args.registrations.now.context c.args.registrations.now.until c.layout_of-layout.result.count part
    c.in_ok-fields.fields.next c.in_ok-searched.searched.at
    c.in_ok-searched.searched.found (simp part_from at (sym c.search_arguments.ensures ∙ c.in_ok-searched.was)) in
    let is = report-is c.args.registrations.now.format c.args.source.now c.args.registrations.now.until c.layout_of-layout.result (sym (c.layout_of-layout.ensures
    ∙ ap layout_of c.word.ensures)) (sym c.take_fields.ensures
    ∙ c.in_ok-fields.was) e.0 (sym c.last_word.ensures ∙ c.in_ok-last.was) in
    let same = source_behind c.args.registrations.now.archive.now c.args.source.now c.args.registrations.now.until c.in_ok-fields.fields.next (omega (arith, s.starts)) c.requires.3.1 in
    rw (is, ← same, ← e.1, ← c.report_read-report.ensures) c.see_referents.ensures
