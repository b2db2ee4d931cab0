-- `rewriting::put_record` meets its contract: a report is written right behind its registrations (record_written). Assumes nothing.
use mathlib.Core.Path.{◌≡◌, ap, ◌∙◌}
use native.Mathlib.Omega.{arith}
use lib.ListN.{length}
use Rattle.records.specs.declared.Content.{Content}
use Rattle.rewriting.proofs.Registering.{record_fits, record_remembers, record_written}
use borrow.Author.Rules.{rules}
use Rattle.rewriting.proofs.put_record.Goals as goal

pub put_report-requires-clause-room_fits : goal.put_report-requires-clause-room_fits
put_report-requires-clause-room_fits c =
    let can = c.requires.room_fits.0 in
    let long : length c.register_waiting.new.room ≡ length c.args.room.now = search rules in
    let fit = c.requires.content_fits_in.0.report c.in-Report.report c.in-Report.is in
    let same = c.register_waiting.ensures.out_after.same.format in (
      rw same (record { limits = can.limits; short = can.short; wide = omega (arith, can.wide, long); low = can.low }),
      rw same (record {
        inside = c.requires.room_fits.1;
        is = c.requires.room_fits.2 ∙ ap (λ (x : Content). record { content = x; next = c.args.next }) c.in-Report.is;
      }),
      record_fits c.args.archive.now c.args.room.now c.args.out.now c.args.s c.in-Report.report c.args.next
          c.register_waiting.new.room c.register_waiting.new.out (omega (arith, c.requires.room_fits.0.wide))
          (c.register_waiting.ensures.room_after, c.register_waiting.ensures.out_after) fit.1,
      record_remembers c.args.archive.now c.args.room.now c.args.out.now c.args.s c.in-Report.report c.args.next
          c.register_waiting.new.room c.register_waiting.new.out (omega (arith, c.requires.room_fits.0.wide))
          (c.register_waiting.ensures.room_after, c.register_waiting.ensures.out_after) can fit.0 (c.requires.room_fits.3 c.in-Report.report c.in-Report.is),
    )

pub returns-in-Report-clause-out_after : goal.returns-in-Report-clause-out_after
returns-in-Report-clause-out_after c =
    rw c.in-Report.is (record_written c.args.archive.now c.args.room.now c.args.out.now c.args.s c.in-Report.report c.args.next
    c.register_waiting.new.room c.register_waiting.new.out (omega (arith, c.requires.room_fits.0.wide))
    (c.register_waiting.ensures.room_after, c.register_waiting.ensures.out_after) c.put_report.ensures)
