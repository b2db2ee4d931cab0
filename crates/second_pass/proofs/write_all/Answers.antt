-- `second_pass::write_all` meets its contract: each turn follows a record and remembers the slot of what it registers (room_renewed), then writes the
-- bytes of one record more; at the end they are the rule's, and the room is as it is left (passing_turn, passing_end). The slot that is kept is of a
-- key that waits, or none does (settled-renewed, settled-behind). Assumes nothing.
use borrow.Author.Rules.{rules}
use Prim.Native.Nat.{ℕ}
use mathlib.Core.Path.{◌≡◌, refl, sym, ap, ◌∙◌}
use native.Mathlib.Omega.{arith}
use Rattle.rewriting.proofs.Passing.{asked_limits, passing_keeps, passing_start, passing_end, can_follow, can_renew, room_renewed, settled-renewed, passing_goes, passing_turn, turn_holds}
use Rattle.rewriting.proofs.Settled.{settled-behind, can_wait, waiting_in}
use Rattle.indexing.proofs.Settled.{waiting_none, waiting_on}
use Rattle.std.specs.Prelude.{Result, Ok, Err}
use Rattle.contexts.specs.declared.State.{State}
use Rattle.records.specs.Effect.{effect_of}
use Rattle.effects.specs.Follow.{on_followed}
use Rattle.effects.proofs.Stops.{Above, followed_above}
use Rattle.passes.specs.Models.Follow.{after_record}
use Rattle.second_pass.proofs.write_all.Goals as goal

-- a record that does not stop the pass leads to a state
goes_on : (r : Result State ℕ) (s : State) → Above r → on_followed r (λ number. number) (λ state. 0) ≡ 0
    → r ≡ Ok (on_followed r (λ number. s) (λ state. state))
goes_on (Ok state) s h z = refl
goes_on (Err number) s h z = absurd (omega (arith, z, h))

pub loop-s-init : goal.loop-s-init
loop-s-init c = (
  rw c.opening_state-s.ensures (passing_start c.requires.asks (λ i. omega (arith, c.type_inv.archive i)) c.requires.chosen),
  waiting_in c.args.f c.table_words-stretch.result c.args.room.now c.waiting_slot-waiting.result c.table_words-stretch.ensures
      c.waiting_slot-waiting.ensures,
  record { buffer = refl; long = refl; format = refl },
)

pub kept_record_at-record-requires : goal.kept_record_at-record-requires
kept_record_at-record-requires c = (
  omega (arith, (asked_limits c.args.f c.args.archive.now c.args.room.now c.args.out.now c.requires.asks).1),
  omega (arith, c.loop-s-test.true),
  passing_keeps c.loop-s.invariant.0 c.loop-s-test.true,
)

pub follow-requires : goal.follow-requires
follow-requires c =
    can_follow c.requires.asks c.loop-s.invariant.0 c.loop-s-test.true c.kept_record_at-record.ensures

pub returns-in_default-clause-out_after : goal.returns-in_default-clause-out_after
returns-in_default-clause-out_after c =
    absurd (c.in_default.not-Ok _ (c.follow.ensures.value
    ∙ goes_on (after_record c.loop-s.s c.kept_record_at-record.result.content c.kept_record_at-record.result.next) c.loop-s.s
    (followed_above c.loop-s.s (effect_of c.kept_record_at-record.result.content) c.kept_record_at-record.result.next)
    (passing_goes c.requires.asks c.loop-s.invariant.0 c.loop-s-test.true c.kept_record_at-record.ensures)))

pub returns-in_default-clause-room_after : goal.returns-in_default-clause-room_after
returns-in_default-clause-room_after c =
    absurd (c.in_default.not-Ok _ (c.follow.ensures.value
    ∙ goes_on (after_record c.loop-s.s c.kept_record_at-record.result.content c.kept_record_at-record.result.next) c.loop-s.s
    (followed_above c.loop-s.s (effect_of c.kept_record_at-record.result.content) c.kept_record_at-record.result.next)
    (passing_goes c.requires.asks c.loop-s.invariant.0 c.loop-s-test.true c.kept_record_at-record.ensures)))

pub returns-in_default-clause-slots_indexed : goal.returns-in_default-clause-slots_indexed
returns-in_default-clause-slots_indexed c =
    absurd (c.in_default.not-Ok _ (c.follow.ensures.value
    ∙ goes_on (after_record c.loop-s.s c.kept_record_at-record.result.content c.kept_record_at-record.result.next) c.loop-s.s
    (followed_above c.loop-s.s (effect_of c.kept_record_at-record.result.content) c.kept_record_at-record.result.next)
    (passing_goes c.requires.asks c.loop-s.invariant.0 c.loop-s-test.true c.kept_record_at-record.ensures)))

pub returns-in_default-clause-room_len_unchanged : goal.returns-in_default-clause-room_len_unchanged
returns-in_default-clause-room_len_unchanged c =
    absurd (c.in_default.not-Ok _ (c.follow.ensures.value
    ∙ goes_on (after_record c.loop-s.s c.kept_record_at-record.result.content c.kept_record_at-record.result.next) c.loop-s.s
    (followed_above c.loop-s.s (effect_of c.kept_record_at-record.result.content) c.kept_record_at-record.result.next)
    (passing_goes c.requires.asks c.loop-s.invariant.0 c.loop-s-test.true c.kept_record_at-record.ensures)))

pub renew-requires : goal.renew-requires
renew-requires c =
    can_renew c.requires.asks c.loop-s.invariant.0 c.loop-s-test.true c.kept_record_at-record.ensures c.table_words-stretch.ensures
    c.follow.ensures.tables_after

pub put_record-requires-clause-room_fits : goal.put_record-requires-clause-room_fits
put_record-requires-clause-room_fits c =
    let room = room_renewed c.requires.asks c.loop-s.invariant.0 c.loop-s-test.true c.kept_record_at-record.ensures
    c.table_words-stretch.ensures c.follow.ensures.tables_after c.renew.ensures in
    let t = passing_turn c.requires.asks c.loop-s.invariant.0 c.loop-s-test.true c.kept_record_at-record.ensures room in
    rw c.loop-s.invariant.2.format (t.can.0, t.can.1, t.can.2, t.remembers)

pub put_record-requires-clause-content_fits_in : goal.put_record-requires-clause-content_fits_in
put_record-requires-clause-content_fits_in c =
    let room = room_renewed c.requires.asks c.loop-s.invariant.0 c.loop-s-test.true c.kept_record_at-record.ensures
    c.table_words-stretch.ensures c.follow.ensures.tables_after c.renew.ensures in
    let t = passing_turn c.requires.asks c.loop-s.invariant.0 c.loop-s-test.true c.kept_record_at-record.ensures room in
    let settled = settled-renewed c.requires.asks c.loop-s.invariant.0 c.loop-s-test.true c.kept_record_at-record.ensures room in
    rw c.loop-s.invariant.2.format
    (t.fits, λ none. settled (waiting_none _ _ c.loop-s.waiting c.loop-s.invariant.1 (grind (arith, c.is_some-waits.ensures, none))))

pub put_record-requires-clause-next_in_bounds : goal.put_record-requires-clause-next_in_bounds
put_record-requires-clause-next_in_bounds c =
    let room = room_renewed c.requires.asks c.loop-s.invariant.0 c.loop-s-test.true c.kept_record_at-record.ensures
    c.table_words-stretch.ensures c.follow.ensures.tables_after c.renew.ensures in
    let t = passing_turn c.requires.asks c.loop-s.invariant.0 c.loop-s-test.true c.kept_record_at-record.ensures room in
    turn_holds c.loop-s.output t c.loop-s.invariant.2.format

pub waiting_slot-waiting-requires-in-loop-s : goal.waiting_slot-waiting-requires-in-loop-s
waiting_slot-waiting-requires-in-loop-s c =
    let room = room_renewed c.requires.asks c.loop-s.invariant.0 c.loop-s-test.true c.kept_record_at-record.ensures
    c.table_words-stretch.ensures c.follow.ensures.tables_after c.renew.ensures in
    let t = passing_turn c.requires.asks c.loop-s.invariant.0 c.loop-s-test.true c.kept_record_at-record.ensures room in
    let settled = settled-renewed c.requires.asks c.loop-s.invariant.0 c.loop-s-test.true c.kept_record_at-record.ensures room in
    let same = c.loop-s.invariant.2.format in
    let after = rw same at c.put_record.ensures.room_after in
    let written = rw same at c.put_record.ensures.out_after in
    let on = t.on c.put_record.new.room c.put_record.new.out.buffer.now c.put_record.new.out.place after written.buffer written.place in
    can_wait c.args.f c.table_words-stretch.result c.put_record.new.room c.loop-s.waiting t.can.0.limits c.table_words-stretch.ensures
    (omega (arith, on.long, c.requires.asks.3))
    (waiting_on _ _ _ c.loop-s.waiting c.loop-s.invariant.1 (λ none. settled-behind c.args.f c.args.archive.now _ c.put_record.new.room c.loop-s.s
    c.kept_record_at-record.result.content c.kept_record_at-record.result.next t.can.0.limits t.can.0.wide after (settled none)))

pub loop-s-smaller : goal.loop-s-smaller
loop-s-smaller c =
    let room = room_renewed c.requires.asks c.loop-s.invariant.0 c.loop-s-test.true c.kept_record_at-record.ensures
    c.table_words-stretch.ensures c.follow.ensures.tables_after c.renew.ensures in
    let t = passing_turn c.requires.asks c.loop-s.invariant.0 c.loop-s-test.true c.kept_record_at-record.ensures room in
    let to = ap (λ (r : Result State ℕ). on_followed r (λ number. c.loop-s.s) (λ state. state)) (sym c.in-Ok.is ∙ c.follow.ensures.value) in
    omega (arith, c.loop-s-test.true, t.nearer, ap (λ (s : State). s.place) to)

pub loop-s-preserved : goal.loop-s-preserved
loop-s-preserved c =
    let room = room_renewed c.requires.asks c.loop-s.invariant.0 c.loop-s-test.true c.kept_record_at-record.ensures
    c.table_words-stretch.ensures c.follow.ensures.tables_after c.renew.ensures in
    let t = passing_turn c.requires.asks c.loop-s.invariant.0 c.loop-s-test.true c.kept_record_at-record.ensures room in
    let same = c.loop-s.invariant.2.format in
    let after = rw same at c.put_record.ensures.room_after in
    let written = rw same at c.put_record.ensures.out_after in
    let on = t.on c.put_record.new.room c.put_record.new.out.buffer.now c.put_record.new.out.place after written.buffer written.place in
    let to = ap (λ (r : Result State ℕ). on_followed r (λ number. c.loop-s.s) (λ state. state)) (sym c.in-Ok.is ∙ c.follow.ensures.value) in
    let still = c.put_record.ensures.out_after.same in
    let before = c.loop-s.invariant.2 in (
      rw to on,
      waiting_in c.args.f c.table_words-stretch.result c.put_record.new.room c.waiting_slot-waiting-in-loop-s.result
          c.table_words-stretch.ensures c.waiting_slot-waiting-in-loop-s.ensures,
      record { buffer = still.buffer ∙ before.buffer; long = still.long ∙ before.long; format = still.format ∙ before.format },
    )

pub returns-clause-out_after : goal.returns-clause-out_after
returns-clause-out_after c =
    let all = (passing_end c.loop-s.invariant.0 c.loop-s-test.false).0 in
    let same = sym c.loop-s.invariant.2.buffer in
    search (rules, same, all)

pub returns-clause-room_after : goal.returns-clause-room_after
returns-clause-room_after c =
    (passing_end c.loop-s.invariant.0 c.loop-s-test.false).1.0

pub returns-clause-slots_indexed : goal.returns-clause-slots_indexed
returns-clause-slots_indexed c =
    (passing_end c.loop-s.invariant.0 c.loop-s-test.false).1.1.0
