-- `put_registration` meets its contract: nothing without an index, else the record of a thread or of a text (registration_none, -thread, -text).
use mathlib.Core.Path.{sym, ap}
use native.Mathlib.Omega.{arith}
use lib.ListN.{length}
use Rattle.encoding.proofs.Writing.{writes_none, writes_same}
use Rattle.rewriting.proofs.Registering.{registration_none, registration_thread, registration_text}
use Rattle.rewriting.proofs.put_registration.Goals as goal

pub returns-then-index-eq0 : goal.returns-then-index-eq0
returns-then-index-eq0 c =
    let out = c.args.out.now in
    writes_same (writes_none out) (sym (registration_none out.format c.args.table c.args.index c.args.bytes.now c.if-index-eq0.true))

pub put_thread_record-requires : goal.put_thread_record-requires
put_thread_record-requires c =
    let is = registration_thread c.args.out.now.format c.args.table c.args.index c.args.bytes.now c.word.result c.word-then-table-eq3.result
    c.if-index-eq0.false c.if-table-eq3.true c.word.ensures c.word-then-table-eq3.ensures in
    omega (arith, c.requires.registration_fits.thread-low c.if-table-eq3.true, c.requires.bytes_in_bounds, ap length is)

pub returns-then-table-eq3 : goal.returns-then-table-eq3
returns-then-table-eq3 c =
    writes_same c.put_thread_record.ensures
    (sym (registration_thread c.args.out.now.format c.args.table c.args.index c.args.bytes.now c.word.result c.word-then-table-eq3.result
    c.if-index-eq0.false c.if-table-eq3.true c.word.ensures c.word-then-table-eq3.ensures))

pub put_string_record-requires : goal.put_string_record-requires
put_string_record-requires c =
    omega (
      arith,
      c.requires.registration_fits.low,
      c.requires.registration_fits.short,
      c.requires.bytes_in_bounds,
      ap length (registration_text c.args.out.now.format c.args.table c.args.index c.args.bytes.now c.if-index-eq0.false c.if-table-eq3.false),
    )

pub returns : goal.returns
returns c =
    writes_same c.put_string_record.ensures
    (sym (registration_text c.args.out.now.format c.args.table c.args.index c.args.bytes.now c.if-index-eq0.false c.if-table-eq3.false))
