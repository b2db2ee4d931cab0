-- `register_waiting` meets its contract: where no key waits, nothing is to be done (settled_registered). Assumes nothing.
use Rattle.records.specs.Lookups.{report_lookups}
use Rattle.rewriting.proofs.Settled.{settled_registered}
use Rattle.rewriting.proofs.register_waiting.Goals as goal

pub returns-else-waits-clause-room_after : goal.returns-else-waits-clause-room_after
returns-else-waits-clause-room_after c =
    (settled_registered c.args.archive.now c.args.room.now c.args.out.now c.args.s.current c.args.s.place
    (λ f. report_lookups f c.args.archive.now c.args.report c.args.next) c.requires.room_fits.0.limits c.requires.room_fits.0.wide
    (c.requires.settled c.if-waits.false)).0

pub returns-else-waits-clause-out_after : goal.returns-else-waits-clause-out_after
returns-else-waits-clause-out_after c =
    (settled_registered c.args.archive.now c.args.room.now c.args.out.now c.args.s.current c.args.s.place
    (λ f. report_lookups f c.args.archive.now c.args.report c.args.next) c.requires.room_fits.0.limits c.requires.room_fits.0.wide
    (c.requires.settled c.if-waits.false)).1
