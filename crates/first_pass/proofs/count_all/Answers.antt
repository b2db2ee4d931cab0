-- `first_pass::count_all` meets its contract: the loop keeps what holds of the room before each record, and the measure is the rest of the archive.
-- Assumes nothing.
use mathlib.Core.Path.{sym}
use native.Mathlib.Omega.{arith}
use lib.ListN.{length-drop}
use lib.Seq.{length-take-le}
use Rattle.format.proofs.Headers.{part_from}
use Rattle.passes.proofs.Turns.{record_index}
use Rattle.passes.proofs.Memory.{record_renews}
use Rattle.first_pass.proofs.Rooms.{room_starts, room_state, room_wide, room_ends, followed-long, room_stops, record_ends, room_recalls, room_words_lem, room_turns}
use Rattle.first_pass.proofs.count_all.Goals as goal

-- the clauses, of their product
by_clause : {A B C D : Type 0} → A × (B × (C × D)) → record { count_is : A; room_after : B; slots_left : C; room_len_unchanged : D }
by_clause w = record { count_is = w.0; room_after = w.1.0; slots_left = w.1.1.0; room_len_unchanged = w.1.1.1 }

pub loop-s-init : goal.loop-s-init
loop-s-init c =
    rw c.opening_state-s.ensures (room_starts c.args.f c.args.archive.now c.args.room.now c.requires.0
    (λ i. (c.type_inv.archive i).fits) c.requires.1 c.requires.2 c.requires.3)

pub checked_record_at-checked-requires : goal.checked_record_at-checked-requires
checked_record_at-checked-requires c =
    let q = room_state c.args.f c.args.archive.now c.args.room.now c.loop-s.room c.loop-s.s c.loop-s.found c.loop-s.words c.loop-s.invariant in
    (omega (arith, q), omega (arith, c.loop-s-test.true))

pub slice_bounds-follow-end : goal.slice_bounds-follow-end
slice_bounds-follow-end c =
    omega (
      arith,
      c.table_words-stretch.ensures,
      room_wide c.args.f c.args.archive.now c.args.room.now c.loop-s.room c.loop-s.s
          c.loop-s.found c.loop-s.words c.loop-s.invariant,
    )

pub slice_bounds-follow-end-in-loop-s : goal.slice_bounds-follow-end-in-loop-s
slice_bounds-follow-end-in-loop-s c =
    let wide = room_wide c.args.f c.args.archive.now c.args.room.now c.loop-s.room c.loop-s.s c.loop-s.found c.loop-s.words c.loop-s.invariant in
    sym (length-take-le c.table_words-stretch.result c.loop-s.room (omega (arith, c.table_words-stretch.ensures, wide)))

pub follow-requires : goal.follow-requires
follow-requires c =
    let q = room_state c.args.f c.args.archive.now c.args.room.now c.loop-s.room c.loop-s.s c.loop-s.found c.loop-s.words c.loop-s.invariant in
    (c.requires.0, q.1, q.2, q.4, rw c.checked_record_at-checked.ensures.record_value (record_index c.args.f c.args.archive.now c.loop-s.s.place))

pub shape_of-room-in-Err : goal.shape_of-room-in-Err
shape_of-room-in-Err c =
    followed-long c.args.f c.args.archive.now c.args.room.now c.loop-s.room c.loop-s.s c.loop-s.found c.loop-s.words c.loop-s.invariant
    c.loop-s-test.true c.checked_record_at-checked.result.record
    c.checked_record_at-checked.ensures.record_value c.follow.result c.follow.ensures.value c.table_words-stretch.result
    c.table_words-stretch.ensures c.follow.new.tables
    c.follow.ensures.tables_after

pub returns-in-Err : goal.returns-in-Err
returns-in-Err c = by_clause (room_stops c.args.f c.args.archive.now c.args.room.now c.loop-s.room c.loop-s.s c.loop-s.found
    c.loop-s.words c.loop-s.invariant c.loop-s-test.true c.checked_record_at-checked.result.record
    c.checked_record_at-checked.ensures.record_value c.follow.result c.follow.ensures.value c.table_words-stretch.result
    c.table_words-stretch.ensures c.follow.new.tables
    c.follow.ensures.tables_after
    c.in-Err.number c.in-Err.is)

pub slice_bounds-renew-count : goal.slice_bounds-renew-count
slice_bounds-renew-count c =
    let long = followed-long c.args.f c.args.archive.now c.args.room.now c.loop-s.room c.loop-s.s c.loop-s.found c.loop-s.words
    c.loop-s.invariant c.loop-s-test.true
    c.checked_record_at-checked.result.record
    c.checked_record_at-checked.ensures.record_value c.follow.result c.follow.ensures.value c.table_words-stretch.result
    c.table_words-stretch.ensures c.follow.new.tables
    c.follow.ensures.tables_after in
    omega (arith, long, c.table_words-stretch.ensures, c.loop-s.invariant.wide)

pub slice_bounds-renew-start : goal.slice_bounds-renew-start
slice_bounds-renew-start c =
    let long = followed-long c.args.f c.args.archive.now c.args.room.now c.loop-s.room c.loop-s.s c.loop-s.found c.loop-s.words
    c.loop-s.invariant c.loop-s-test.true
    c.checked_record_at-checked.result.record
    c.checked_record_at-checked.ensures.record_value c.follow.result c.follow.ensures.value c.table_words-stretch.result
    c.table_words-stretch.ensures c.follow.new.tables
    c.follow.ensures.tables_after in
    omega (arith, long, c.table_words-stretch.ensures, c.loop-s.invariant.wide)

pub renew-requires : goal.renew-requires
renew-requires c =
    let q = room_state c.args.f c.args.archive.now c.args.room.now c.loop-s.room c.loop-s.s c.loop-s.found c.loop-s.words c.loop-s.invariant in
    let long = followed-long c.args.f c.args.archive.now c.args.room.now c.loop-s.room c.loop-s.s c.loop-s.found c.loop-s.words
    c.loop-s.invariant c.loop-s-test.true
    c.checked_record_at-checked.result.record
    c.checked_record_at-checked.ensures.record_value c.follow.result c.follow.ensures.value c.table_words-stretch.result
    c.table_words-stretch.ensures c.follow.new.tables
    c.follow.ensures.tables_after in (
      c.requires.0,
      record {
        some = omega arith;
        low = omega (arith, c.requires.0.indexes);
        long = simp (part_from, length-drop) (omega (arith, long, c.table_words-stretch.ensures, c.loop-s.invariant.wide));
      },
      q.2,
      rw c.checked_record_at-checked.ensures.record_value (record_renews c.args.f c.args.archive.now c.loop-s.s.place),
    )

pub check_record-counted-requires : goal.check_record-counted-requires
check_record-counted-requires c =
    let q = room_state c.args.f c.args.archive.now c.args.room.now c.loop-s.room c.loop-s.s c.loop-s.found c.loop-s.words c.loop-s.invariant in
    let long = followed-long c.args.f c.args.archive.now c.args.room.now c.loop-s.room c.loop-s.s c.loop-s.found c.loop-s.words
    c.loop-s.invariant c.loop-s-test.true
    c.checked_record_at-checked.result.record
    c.checked_record_at-checked.ensures.record_value c.follow.result c.follow.ensures.value c.table_words-stretch.result
    c.table_words-stretch.ensures c.follow.new.tables
    c.follow.ensures.tables_after in
    let e = record_ends c.args.f c.args.archive.now c.args.room.now c.loop-s.room c.loop-s.s c.loop-s.found c.loop-s.words
    c.loop-s.invariant c.loop-s-test.true
    c.checked_record_at-checked.result.record
    c.checked_record_at-checked.ensures.record_value c.follow.result c.follow.ensures.value c.table_words-stretch.result
    c.table_words-stretch.ensures c.follow.new.tables
    c.follow.ensures.tables_after
    c.in-Ok.state c.in-Ok.is in
    let recalls = room_recalls c.args.f c.args.archive.now c.args.room.now c.loop-s.room c.loop-s.s c.loop-s.found c.loop-s.words
    c.loop-s.invariant c.loop-s-test.true
    c.checked_record_at-checked.result.record
    c.checked_record_at-checked.ensures.record_value c.follow.result c.follow.ensures.value c.table_words-stretch.result
    c.table_words-stretch.ensures c.follow.new.tables
    c.follow.ensures.tables_after
    c.in-Ok.state c.in-Ok.is c.renew.new.slots (rw part_from at c.renew.ensures) in (
      record { fits = c.requires.0; short = q.0; wide = omega (arith, c.room-in-loop-s-1.given, long, c.loop-s.invariant.wide); low = q.2 },
      (
        q.3,
        sym
            c.checked_record_at-checked.ensures.record_value,
      ),
      rw c.checked_record_at-checked.ensures.record_value c.checked_record_at-checked.ensures.keeps_value,
      recalls,
    )

pub overflow_add-words : goal.overflow_add-words
overflow_add-words c =
    omega (
      arith,
      (room_state c.args.f c.args.archive.now c.args.room.now c.loop-s.room c.loop-s.s c.loop-s.found c.loop-s.words c.loop-s.invariant).0,
      room_words_lem c.args.f c.args.archive.now c.args.room.now c.loop-s.room c.loop-s.s c.loop-s.found c.loop-s.words c.loop-s.invariant
          c.loop-s-test.true c.checked_record_at-checked.result.record
          c.checked_record_at-checked.ensures.record_value c.follow.result c.follow.ensures.value
          c.table_words-stretch.result c.table_words-stretch.ensures c.follow.new.tables
          c.follow.ensures.tables_after
          c.in-Ok.state c.in-Ok.is c.renew.new.slots (rw part_from at c.renew.ensures) c.check_record-counted.result
          c.is_none-clean.result c.is_none-clean.ensures c.check_record-counted.ensures.value,
    )

pub loop-s-smaller : goal.loop-s-smaller
loop-s-smaller c =
    omega (
      arith,
      c.loop-s-test.true,
      record_ends c.args.f c.args.archive.now c.args.room.now c.loop-s.room c.loop-s.s c.loop-s.found c.loop-s.words c.loop-s.invariant
          c.loop-s-test.true c.checked_record_at-checked.result.record
          c.checked_record_at-checked.ensures.record_value c.follow.result c.follow.ensures.value
          c.table_words-stretch.result c.table_words-stretch.ensures c.follow.new.tables
          c.follow.ensures.tables_after
          c.in-Ok.state c.in-Ok.is,
    )

pub loop-s-preserved : goal.loop-s-preserved
loop-s-preserved c =
    rw c.unwrap_or-words.ensures (room_turns c.args.f c.args.archive.now c.args.room.now c.loop-s.room c.loop-s.s c.loop-s.found c.loop-s.words c.loop-s.invariant
    c.loop-s-test.true c.checked_record_at-checked.result.record
    c.checked_record_at-checked.ensures.record_value c.follow.result c.follow.ensures.value c.table_words-stretch.result
    c.table_words-stretch.ensures c.follow.new.tables
    c.follow.ensures.tables_after
    c.in-Ok.state c.in-Ok.is c.renew.new.slots (rw part_from at c.renew.ensures) c.check_record-counted.result
    c.is_none-clean.result c.is_none-clean.ensures c.check_record-counted.ensures.value c.check_record-counted.new.room
    c.lowest-found.result
    c.room-in-loop-s-2-1.given c.check_record-counted.ensures.room_after c.lowest-found.ensures)

pub shape_of-room : goal.shape_of-room
shape_of-room c =
    c.loop-s.invariant.long

pub returns : goal.returns
returns c = by_clause (rw c.conclude.ensures (room_ends c.args.f c.args.archive.now c.args.room.now c.loop-s.room c.loop-s.s
    c.loop-s.found c.loop-s.words c.loop-s.invariant
    c.loop-s-test.false))
