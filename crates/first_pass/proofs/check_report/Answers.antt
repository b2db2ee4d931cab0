-- `first_pass::check_report` meets its contract: each answer is what the definition gives under the tests that led there. Assumes nothing.
use Prim.Native.Nat.{◌≤◌}
use mathlib.Core.Path.{◌≡◌, refl, sym}
use native.Mathlib.Omega.{arith}
use lib.ListN.{length, take, take-append-drop}
use lib.Seq.{length-take-le}
use Rattle.tables.specs.Table.{table_words}
use Rattle.first_pass.specs.Models.Count.{tables_in, report_checked}
use Rattle.first_pass.proofs.Laws.{room_after}
use Rattle.first_pass.proofs.check_report.Goals as goal

-- the clauses, of their product
by_clause : {A B : Type 0} → A × B → record { value : A; room_after : B }
by_clause w = record { value = w.0; room_after = w.1 }

pub returns-then-counted : goal.returns-then-counted
unfolding report_checked
returns-then-counted c = by_clause (rw (
  c.if-clean.true,
  ← c.count_report-counted.ensures.good_value,
  c.if-counted.true,
  ← c.count_report-counted.ensures.words_value,
) (refl, c.count_report-counted.ensures.room_after))

pub slice_bounds-report_unresolved-end-then-clean : goal.slice_bounds-report_unresolved-end-then-clean
slice_bounds-report_unresolved-end-then-clean c =
    sym (length-take-le c.table_words-words.result c.count_report-counted.new.room (omega (
      arith,
      c.table_words-words.ensures,
      c.room-1.given,
      c.requires.0.wide,
    )))

pub report_unresolved-requires : goal.report_unresolved-requires
report_unresolved-requires c =
    let h : c.table_words-words.result ≤ length c.count_report-counted.new.room = omega (
      arith,
      c.table_words-words.ensures,
      c.room-1.given,
      c.requires.0.wide,
    ) in (
      rw (length-take-le c.table_words-words.result c.count_report-counted.new.room h) (omega (arith, c.table_words-words.ensures)),
      c.requires.0.fits,
      c.requires.0.short,
      c.requires.0.low,
      c.requires.1,
    )

pub returns-then-report_unresolved : goal.returns-then-report_unresolved
unfolding report_checked
returns-then-report_unresolved c = by_clause (let t : take c.table_words-words.result c.count_report-counted.new.room ≡ tables_in c.args.f
    c.args.room.now =
    rw c.table_words-words.ensures (room_after (table_words c.args.f) c.args.room.now _ c.count_report-counted.new.room (omega (
      arith,
      c.requires.0.wide,
    )) c.count_report-counted.ensures.room_after).tables in
    let u = rw t at c.report_unresolved.ensures in
    rw (c.if-clean.true, ← c.count_report-counted.ensures.good_value, c.if-counted.false, ← u, c.if-report_unresolved.true) (
      refl,
      c.count_report-counted.ensures.room_after,
    ))

pub returns-then-clean : goal.returns-then-clean
unfolding report_checked
returns-then-clean c = by_clause (let t : take c.table_words-words.result c.count_report-counted.new.room ≡ tables_in c.args.f c.args.room.now =
    rw c.table_words-words.ensures (room_after (table_words c.args.f) c.args.room.now _ c.count_report-counted.new.room (omega (
      arith,
      c.requires.0.wide,
    )) c.count_report-counted.ensures.room_after).tables in
    let u = rw t at c.report_unresolved.ensures in
    rw (c.if-clean.true, ← c.count_report-counted.ensures.good_value, c.if-counted.false, ← u, c.if-report_unresolved.false) (
      refl,
      c.count_report-counted.ensures.room_after,
    ))

pub slice_bounds-report_unresolved-end-3 : goal.slice_bounds-report_unresolved-end-3
slice_bounds-report_unresolved-end-3 c =
    sym (length-take-le c.table_words-words.result c.args.room.now (omega (arith, c.table_words-words.ensures, c.requires.0.wide)))

pub report_unresolved-requires-2 : goal.report_unresolved-requires-2
report_unresolved-requires-2 c =
    let h : c.table_words-words.result ≤ length c.args.room.now = omega (arith, c.table_words-words.ensures, c.requires.0.wide) in (
      rw (length-take-le c.table_words-words.result c.args.room.now h) (omega (arith, c.table_words-words.ensures)),
      c.requires.0.fits,
      c.requires.0.short,
      c.requires.0.low,
      c.requires.1,
    )

pub returns-then-report_unresolved-2 : goal.returns-then-report_unresolved-2
unfolding report_checked
returns-then-report_unresolved-2 c = by_clause (let u = rw c.table_words-words.ensures at c.report_unresolved-2.ensures in
    rw (c.if-clean.false, ← u, c.if-report_unresolved-2.true) (refl, sym (take-append-drop (table_words c.args.f) c.args.room.now)))

pub returns : goal.returns
unfolding report_checked
returns c = by_clause (let u = rw c.table_words-words.ensures at c.report_unresolved-2.ensures in
    rw (c.if-clean.false, ← u, c.if-report_unresolved-2.false) (refl, sym (take-append-drop (table_words c.args.f) c.args.room.now)))
