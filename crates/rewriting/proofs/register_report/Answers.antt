-- `register_report` meets its contract: the three references and the arguments are registered one behind the other (registering_next,
-- registering-ends).
use mathlib.Core.Path.{◌≡◌}
use native.Mathlib.Omega.{arith}
use lib.ListN.{length}
use Rattle.records.specs.Lookups.{report_lookups}
use Rattle.passes.proofs.Places.{report_bounds}
use Rattle.rewriting.proofs.Registering.{registering-starts, registering-ends, still_fits, still_remembers, left_space, next_fits, next_space, registering_next}
use borrow.Author.Rules.{rules}
use Rattle.rewriting.proofs.register_report.Goals as goal

pub register_lookup-requires-2-clause-room_fits : goal.register_lookup-requires-2-clause-room_fits
register_lookup-requires-2-clause-room_fits c =
    let f = c.args.out.now.format in
    let can = c.requires.room_fits.0 in
    let starts = registering-starts c.args.archive.now c.args.s.current c.args.s.place (λ f. report_lookups f c.args.archive.now c.args.report c.args.next)
    c.args.room.now c.args.out.now c.requires.lookups_fit_in c.requires.next_in_bounds c.requires.room_fits.2 in
    let longfirst : length c.register_lookup.new.room ≡ length c.args.room.now = search rules in
    let first = registering_next _ _ _ _ _ _ can starts (c.register_lookup.ensures.room_after, c.register_lookup.ensures.out_after) longfirst in
    (still_fits _ _ _ _ _ _ can first, next_fits _ _ _ _ _ _ can first, still_remembers _ _ _ _ _ _ can first)

pub register_lookup-requires-3-clause-room_fits : goal.register_lookup-requires-3-clause-room_fits
register_lookup-requires-3-clause-room_fits c =
    let f = c.args.out.now.format in
    let can = c.requires.room_fits.0 in
    let starts = registering-starts c.args.archive.now c.args.s.current c.args.s.place (λ f. report_lookups f c.args.archive.now c.args.report c.args.next)
    c.args.room.now c.args.out.now c.requires.lookups_fit_in c.requires.next_in_bounds c.requires.room_fits.2 in
    let longfirst : length c.register_lookup.new.room ≡ length c.args.room.now = search rules in
    let first = registering_next _ _ _ _ _ _ can starts (c.register_lookup.ensures.room_after, c.register_lookup.ensures.out_after) longfirst in
    let longsecond : length c.register_lookup-2.new.room ≡ length c.register_lookup.new.room = search rules in
    let second = registering_next _ _ _ _ _ _ can first (c.register_lookup-2.ensures.room_after, c.register_lookup-2.ensures.out_after) longsecond in
    (still_fits _ _ _ _ _ _ can second, next_fits _ _ _ _ _ _ can second, still_remembers _ _ _ _ _ _ can second)

pub register_lookup-requires-3-clause-lookup_in_bounds : goal.register_lookup-requires-3-clause-lookup_in_bounds
register_lookup-requires-3-clause-lookup_in_bounds c =
    let f = c.args.out.now.format in
    let can = c.requires.room_fits.0 in
    let starts = registering-starts c.args.archive.now c.args.s.current c.args.s.place (λ f. report_lookups f c.args.archive.now c.args.report c.args.next)
    c.args.room.now c.args.out.now c.requires.lookups_fit_in c.requires.next_in_bounds c.requires.room_fits.2 in
    let longfirst : length c.register_lookup.new.room ≡ length c.args.room.now = search rules in
    let first = registering_next _ _ _ _ _ _ can starts (c.register_lookup.ensures.room_after, c.register_lookup.ensures.out_after) longfirst in
    let longsecond : length c.register_lookup-2.new.room ≡ length c.register_lookup.new.room = search rules in
    let second = registering_next _ _ _ _ _ _ can first (c.register_lookup-2.ensures.room_after, c.register_lookup-2.ensures.out_after) longsecond in
    next_space _ _ _ _ _ _ can second

pub slice_bounds-register_arguments-count : goal.slice_bounds-register_arguments-count
slice_bounds-register_arguments-count c =
    (report_bounds c.args.out.now.format c.args.archive.now c.args.s.place c.args.report c.args.next c.requires.room_fits.1.inside
    c.requires.room_fits.1.is).first

pub slice_bounds-register_arguments-start : goal.slice_bounds-register_arguments-start
slice_bounds-register_arguments-start c =
    (report_bounds c.args.out.now.format c.args.archive.now c.args.s.place c.args.report c.args.next c.requires.room_fits.1.inside
    c.requires.room_fits.1.is).first

pub slice_bounds-register_arguments-end : goal.slice_bounds-register_arguments-end
slice_bounds-register_arguments-end c =
    (report_bounds c.args.out.now.format c.args.archive.now c.args.s.place c.args.report c.args.next c.requires.room_fits.1.inside
    c.requires.room_fits.1.is).last

pub register_arguments-requires-clause-room_fits : goal.register_arguments-requires-clause-room_fits
register_arguments-requires-clause-room_fits c =
    let f = c.args.out.now.format in
    let can = c.requires.room_fits.0 in
    let starts = registering-starts c.args.archive.now c.args.s.current c.args.s.place (λ f. report_lookups f c.args.archive.now c.args.report c.args.next)
    c.args.room.now c.args.out.now c.requires.lookups_fit_in c.requires.next_in_bounds c.requires.room_fits.2 in
    let longfirst : length c.register_lookup.new.room ≡ length c.args.room.now = search rules in
    let first = registering_next _ _ _ _ _ _ can starts (c.register_lookup.ensures.room_after, c.register_lookup.ensures.out_after) longfirst in
    let longsecond : length c.register_lookup-2.new.room ≡ length c.register_lookup.new.room = search rules in
    let second = registering_next _ _ _ _ _ _ can first (c.register_lookup-2.ensures.room_after, c.register_lookup-2.ensures.out_after) longsecond in
    let longthird : length c.register_lookup-3.new.room ≡ length c.register_lookup-2.new.room = search rules in
    let third = registering_next _ _ _ _ _ _ can second (c.register_lookup-3.ensures.room_after, c.register_lookup-3.ensures.out_after) longthird in
    (still_fits _ _ _ _ _ _ can third, rw third.writing.written.same.format third.fits, still_remembers _ _ _ _ _ _ can third)

pub register_arguments-requires-clause-part_bound : goal.register_arguments-requires-clause-part_bound
register_arguments-requires-clause-part_bound c =
    let f = c.args.out.now.format in
    let can = c.requires.room_fits.0 in
    let starts = registering-starts c.args.archive.now c.args.s.current c.args.s.place (λ f. report_lookups f c.args.archive.now c.args.report c.args.next)
    c.args.room.now c.args.out.now c.requires.lookups_fit_in c.requires.next_in_bounds c.requires.room_fits.2 in
    let longfirst : length c.register_lookup.new.room ≡ length c.args.room.now = search rules in
    let first = registering_next _ _ _ _ _ _ can starts (c.register_lookup.ensures.room_after, c.register_lookup.ensures.out_after) longfirst in
    let longsecond : length c.register_lookup-2.new.room ≡ length c.register_lookup.new.room = search rules in
    let second = registering_next _ _ _ _ _ _ can first (c.register_lookup-2.ensures.room_after, c.register_lookup-2.ensures.out_after) longsecond in
    let longthird : length c.register_lookup-3.new.room ≡ length c.register_lookup-2.new.room = search rules in
    let third = registering_next _ _ _ _ _ _ can second (c.register_lookup-3.ensures.room_after, c.register_lookup-3.ensures.out_after) longthird in
    let bounds = report_bounds f c.args.archive.now c.args.s.place c.args.report c.args.next c.requires.room_fits.1.inside c.requires.room_fits.1.is in
    (omega (arith, bounds.part, bounds.last, can.short), rw third.writing.written.same.format (left_space _ _ _ _ _ _ can third))

pub returns-clause-out_after : goal.returns-clause-out_after
returns-clause-out_after c =
    let f = c.args.out.now.format in
    let can = c.requires.room_fits.0 in
    let starts = registering-starts c.args.archive.now c.args.s.current c.args.s.place (λ f. report_lookups f c.args.archive.now c.args.report c.args.next)
    c.args.room.now c.args.out.now c.requires.lookups_fit_in c.requires.next_in_bounds c.requires.room_fits.2 in
    let longfirst : length c.register_lookup.new.room ≡ length c.args.room.now = search rules in
    let first = registering_next _ _ _ _ _ _ can starts (c.register_lookup.ensures.room_after, c.register_lookup.ensures.out_after) longfirst in
    let longsecond : length c.register_lookup-2.new.room ≡ length c.register_lookup.new.room = search rules in
    let second = registering_next _ _ _ _ _ _ can first (c.register_lookup-2.ensures.room_after, c.register_lookup-2.ensures.out_after) longsecond in
    let longthird : length c.register_lookup-3.new.room ≡ length c.register_lookup-2.new.room = search rules in
    let third = registering_next _ _ _ _ _ _ can second (c.register_lookup-3.ensures.room_after, c.register_lookup-3.ensures.out_after) longthird in
    (registering-ends _ _ _ _ _ _ _ third (c.register_arguments.ensures.room_after, c.register_arguments.ensures.out_after)).1
