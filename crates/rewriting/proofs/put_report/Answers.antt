-- `put_report` meets its contract: the pieces, the arguments and the last word are written one behind the other, and the header last (headed,
-- report_joined).
use mathlib.Core.Path.{ap}
use native.Mathlib.Omega.{arith}
use Rattle.records.specs.declared.Record.{Record}
use Rattle.passes.proofs.Places.{report_bounds}
use Rattle.encoding.proofs.Writing.{◌then◌, writes_same, headed}
use lib.ListN.{length, length-append}
use Rattle.records.specs.Lookups.{arguments_to}
use Rattle.encoding.specs.Encoded.{parts_bytes}
use Rattle.rewriting.specs.Models.Write.{tables_in, slots_in, arguments_bytes, spelled_pieces}
use Rattle.rewriting.proofs.Spelling.{ReportSpelled, report-header, report-long, body_parts, report_parts_long, header_long, report_joined}
use Rattle.rewriting.proofs.put_report.Goals as goal

pub put_pieces-requires-clause-third_in_bounds : goal.put_pieces-requires-clause-third_in_bounds
put_pieces-requires-clause-third_in_bounds c =
    let f = c.args.out.now.format in
    let tables = tables_in f c.args.room.now in
    let slots = slots_in f c.args.room.now in
    let spelled : ReportSpelled f c.args.archive.now tables slots c.args.s c.args.report c.spell-first.result c.spell-second.result c.spell-third.result =
    record { first-is = c.spell-first.ensures; second_is = c.spell-second.ensures; third-is = c.spell-third.ensures } in
    let long = report_parts_long f c.args.archive.now tables slots c.args.s c.args.report c.args.next c.spell-first.result c.spell-second.result
    c.spell-third.result spelled in
    omega (arith, long, c.requires.next_in_bounds)

pub slice_bounds-part-count : goal.slice_bounds-part-count
slice_bounds-part-count c =
    (report_bounds c.args.out.now.format c.args.archive.now c.args.s.place c.args.report c.args.next c.requires.room_fits.1.inside
    c.requires.room_fits.1.is).first

pub slice_bounds-part-start : goal.slice_bounds-part-start
slice_bounds-part-start c =
    (report_bounds c.args.out.now.format c.args.archive.now c.args.s.place c.args.report c.args.next c.requires.room_fits.1.inside
    c.requires.room_fits.1.is).first

pub slice_bounds-part-end : goal.slice_bounds-part-end
slice_bounds-part-end c =
    (report_bounds c.args.out.now.format c.args.archive.now c.args.s.place c.args.report c.args.next c.requires.room_fits.1.inside
    c.requires.room_fits.1.is).last

pub put_arguments-requires-clause-part_bound : goal.put_arguments-requires-clause-part_bound
put_arguments-requires-clause-part_bound c =
    let f = c.args.out.now.format in
    let tables = tables_in f c.args.room.now in
    let slots = slots_in f c.args.room.now in
    let spelled : ReportSpelled f c.args.archive.now tables slots c.args.s c.args.report c.spell-first.result c.spell-second.result c.spell-third.result =
    record { first-is = c.spell-first.ensures; second_is = c.spell-second.ensures; third-is = c.spell-third.ensures } in
    let long = report_parts_long f c.args.archive.now tables slots c.args.s c.args.report c.args.next c.spell-first.result c.spell-second.result
    c.spell-third.result spelled in
    let bounds = report_bounds c.args.out.now.format c.args.archive.now c.args.s.place c.args.report c.args.next c.requires.room_fits.1.inside
    c.requires.room_fits.1.is in
    let pieced = c.put_pieces.ensures in (
      omega (arith, bounds.part, bounds.last, c.requires.room_fits.0.short),
      rw pieced.same.format (omega (arith, long, c.requires.next_in_bounds, pieced.place, pieced.same.long)),
    )

pub put_last-requires : goal.put_last-requires
put_last-requires c =
    let f = c.args.out.now.format in
    let tables = tables_in f c.args.room.now in
    let slots = slots_in f c.args.room.now in
    let spelled : ReportSpelled f c.args.archive.now tables slots c.args.s c.args.report c.spell-first.result c.spell-second.result c.spell-third.result =
    record { first-is = c.spell-first.ensures; second_is = c.spell-second.ensures; third-is = c.spell-third.ensures } in
    let long = report_parts_long f c.args.archive.now tables slots c.args.s c.args.report c.args.next c.spell-first.result c.spell-second.result
    c.spell-third.result spelled in
    let argued = c.put_pieces.ensures then c.put_arguments.ensures in
    let pieces = parts_bytes f (spelled_pieces f c.args.archive.now c.args.report c.spell-first.result c.spell-second.result c.spell-third.result) in
    let arguments = arguments_bytes f c.args.archive.now tables slots c.args.s.current c.args.s.place
    (arguments_to f c.args.archive.now c.args.report c.args.next) in
    rw argued.same.format (
      ap (λ (r : Record). r.content) c.requires.room_fits.1.is,
      omega (arith, long, c.requires.next_in_bounds, argued.place, argued.same.long, length-append pieces arguments),
    )

pub put_header-requires : goal.put_header-requires
put_header-requires c =
    let f = c.args.out.now.format in
    let tables = tables_in f c.args.room.now in
    let slots = slots_in f c.args.room.now in
    let spelled : ReportSpelled f c.args.archive.now tables slots c.args.s c.args.report c.spell-first.result c.spell-second.result c.spell-third.result =
    record { first-is = c.spell-first.ensures; second_is = c.spell-second.ensures; third-is = c.spell-third.ensures } in
    let long = report-long f c.args.archive.now tables slots c.args.s c.args.report c.args.next c.spell-first.result c.spell-second.result
    c.spell-third.result spelled in
    let body = ap length (body_parts f c.args.archive.now tables slots c.args.s c.args.report c.args.next c.spell-first.result c.spell-second.result
    c.spell-third.result spelled) in
    let all = c.put_pieces.ensures then c.put_arguments.ensures then c.put_last.ensures in
    rw all.same.format (
      omega (arith, body, all.place, c.requires.room_fits.2.size),
      report-header f c.args.archive.now tables slots c.args.s c.args.report c.args.next c.spell-first.result c.spell-second.result
          c.spell-third.result spelled c.requires.room_fits.2.header,
      omega (arith, long, c.requires.next_in_bounds, all.same.long),
    )

pub returns : goal.returns
returns c =
    let f = c.args.out.now.format in
    let tables = tables_in f c.args.room.now in
    let slots = slots_in f c.args.room.now in
    let spelled : ReportSpelled f c.args.archive.now tables slots c.args.s c.args.report c.spell-first.result c.spell-second.result c.spell-third.result =
    record { first-is = c.spell-first.ensures; second_is = c.spell-second.ensures; third-is = c.spell-third.ensures } in
    let long = report-long f c.args.archive.now tables slots c.args.s c.args.report c.args.next c.spell-first.result c.spell-second.result
    c.spell-third.result spelled in
    let body = ap length (body_parts f c.args.archive.now tables slots c.args.s c.args.report c.args.next c.spell-first.result c.spell-second.result
    c.spell-third.result spelled) in
    let all = c.put_pieces.ensures then c.put_arguments.ensures then c.put_last.ensures in
    let header = header_long f c.args.archive.now tables slots c.args.s c.args.report c.args.next c.spell-first.result c.spell-second.result
    c.spell-third.result spelled _ in
    writes_same (headed c.args.out.now (omega (arith, long, c.requires.next_in_bounds)) all header c.put_header.ensures)
    (report_joined f c.args.archive.now tables slots c.args.s c.args.report c.args.next c.spell-first.result c.spell-second.result
    c.spell-third.result spelled _ (omega (arith, body, all.place)))
