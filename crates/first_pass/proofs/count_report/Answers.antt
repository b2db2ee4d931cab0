-- `first_pass::count_report` meets its contract: the three references and then the arguments are counted, as the definition does. Assumes nothing.
use Prim.Native.Nat.{◌-◌}
use mathlib.Core.Path.{ap}
use mathlib.Core.List.{◌∷◌}
use mathlib.Core.Bool.{◌&&◌}
use native.Mathlib.Omega.{arith}
use lib.ListN.{take, drop}
use Rattle.records.specs.Lookups.{argument_lookups, arguments_to}
use Rattle.records.proofs.Bounds.{own-words-few, behind-few}
use Rattle.passes.proofs.Places.{report_bounds}
use Rattle.first_pass.specs.Models.Count.{tables_in}
use Rattle.first_pass.proofs.References.{report-words}
use Rattle.first_pass.proofs.Laws.{counted_then, words-few, stream-inside, stream-few, lookup_countable, report_countable, arguments-behind, report-kept, can_after, recalls_after_one}
use Rattle.records.specs.declared.Record.{Record}
use Rattle.first_pass.proofs.count_report.Goals as goal

-- the clauses, of their product
by_clause : {A B C : Type 0} → A × (B × C) → record { good_value : A; words_value : B; room_after : C }
by_clause w = record { good_value = w.0; words_value = w.1.0; room_after = w.1.1 }

pub count_reference-first-requires : goal.count_reference-first-requires
count_reference-first-requires c =
    let stands = report_countable c.args.f c.args.archive.now c.args.s.place c.args.report c.args.next c.requires.2 c.requires.1.1 in
    let k = lookup_countable c.args.archive.now c.args.report.first stands.0 in
    (c.requires.0, k.least, k.most, k.stands, c.requires.3)

pub count_reference-second-requires : goal.count_reference-second-requires
count_reference-second-requires c =
    let stands = report_countable c.args.f c.args.archive.now c.args.s.place c.args.report c.args.next c.requires.2 c.requires.1.1 in
    let first = lookup_countable c.args.archive.now c.args.report.first stands.0 in
    let k = lookup_countable c.args.archive.now c.args.report.second stands.1.0 in (
      can_after c.args.f c.args.archive.now c.args.room.now c.args.s.current c.args.s.place c.requires.0 c.count_reference-first.new.room
          c.room-1.given,
      k.least,
      k.most,
      k.stands,
      recalls_after_one c.args.f c.args.archive.now c.args.room.now c.args.s.current c.args.s.place c.requires.0
          c.count_reference-first.new.room c.room-1.given c.args.report.first first.least
          first.most first.stands c.requires.3 c.count_reference-first.ensures.room_after,
    )

pub count_reference-third-requires : goal.count_reference-third-requires
count_reference-third-requires c =
    let stands = report_countable c.args.f c.args.archive.now c.args.s.place c.args.report c.args.next c.requires.2 c.requires.1.1 in
    let first = lookup_countable c.args.archive.now c.args.report.first stands.0 in
    let second = lookup_countable c.args.archive.now c.args.report.second stands.1.0 in
    let k = lookup_countable c.args.archive.now c.args.report.third stands.1.1.0 in
    let can = can_after c.args.f c.args.archive.now c.args.room.now c.args.s.current c.args.s.place c.requires.0
    c.count_reference-first.new.room c.room-1.given in
    let recalls = recalls_after_one c.args.f c.args.archive.now c.args.room.now c.args.s.current c.args.s.place c.requires.0
    c.count_reference-first.new.room c.room-1.given c.args.report.first
    first.least first.most first.stands c.requires.3 c.count_reference-first.ensures.room_after in (
      can_after c.args.f c.args.archive.now c.count_reference-first.new.room c.args.s.current c.args.s.place can
          c.count_reference-second.new.room c.room-2-1.given,
      k.least,
      k.most,
      k.stands,
      recalls_after_one c.args.f c.args.archive.now c.count_reference-first.new.room c.args.s.current c.args.s.place can
          c.count_reference-second.new.room c.room-2-1.given c.args.report.second second.least
          second.most second.stands recalls c.count_reference-second.ensures.room_after,
    )

pub slice_bounds-count_arguments-count : goal.slice_bounds-count_arguments-count
slice_bounds-count_arguments-count c =
    (report_bounds c.args.f c.args.archive.now c.args.s.place c.args.report c.args.next c.requires.1.0 c.requires.1.1).first

pub slice_bounds-count_arguments-start : goal.slice_bounds-count_arguments-start
slice_bounds-count_arguments-start c =
    (report_bounds c.args.f c.args.archive.now c.args.s.place c.args.report c.args.next c.requires.1.0 c.requires.1.1).first

pub slice_bounds-count_arguments-end : goal.slice_bounds-count_arguments-end
slice_bounds-count_arguments-end c =
    (report_bounds c.args.f c.args.archive.now c.args.s.place c.args.report c.args.next c.requires.1.0 c.requires.1.1).last

pub count_arguments-counted-requires : goal.count_arguments-counted-requires
count_arguments-counted-requires c =
    let b = report_bounds c.args.f c.args.archive.now c.args.s.place c.args.report c.args.next c.requires.1.0 c.requires.1.1 in
    let behind = arguments-behind c.args.f c.args.archive.now c.args.s.place c.args.report c.args.next c.requires.2 c.requires.1.1 in
    let stands = report_countable c.args.f c.args.archive.now c.args.s.place c.args.report c.args.next c.requires.2 c.requires.1.1 in
    let first = lookup_countable c.args.archive.now c.args.report.first stands.0 in
    let second = lookup_countable c.args.archive.now c.args.report.second stands.1.0 in
    let third = lookup_countable c.args.archive.now c.args.report.third stands.1.1.0 in
    let can = can_after c.args.f c.args.archive.now c.args.room.now c.args.s.current c.args.s.place c.requires.0
    c.count_reference-first.new.room c.room-1.given in
    let can2 = can_after c.args.f c.args.archive.now c.count_reference-first.new.room c.args.s.current c.args.s.place can
    c.count_reference-second.new.room c.room-2-1.given in
    let recalls = recalls_after_one c.args.f c.args.archive.now c.args.room.now c.args.s.current c.args.s.place c.requires.0
    c.count_reference-first.new.room c.room-1.given c.args.report.first
    first.least first.most first.stands c.requires.3 c.count_reference-first.ensures.room_after in
    let recalls2 = recalls_after_one c.args.f c.args.archive.now c.count_reference-first.new.room c.args.s.current c.args.s.place can
    c.count_reference-second.new.room c.room-2-1.given c.args.report.second
    second.least second.most second.stands recalls c.count_reference-second.ensures.room_after in (
      can_after c.args.f c.args.archive.now c.count_reference-second.new.room c.args.s.current c.args.s.place can2
          c.count_reference-third.new.room c.room-3-1.given,
      omega (arith, b.part, b.last),
      omega (arith, b.few),
      behind,
      recalls_after_one c.args.f c.args.archive.now c.count_reference-second.new.room c.args.s.current c.args.s.place can2
          c.count_reference-third.new.room c.room-3-1.given c.args.report.third third.least
          third.most third.stands recalls2 c.count_reference-third.ensures.room_after,
      report-kept c.args.f c.args.archive.now c.args.s c.args.report c.args.next c.requires.1.1 c.requires.4,
    )

pub own_words-requires : goal.own_words-requires
own_words-requires c =
    ap (λ (r : Record). r.content) c.requires.1.1

pub inline_bytes-requires : goal.inline_bytes-requires
inline_bytes-requires c =
    let b = report_bounds c.args.f c.args.archive.now c.args.s.place c.args.report c.args.next c.requires.1.0 c.requires.1.1 in
    let stream = stream-few c.args.s.place c.args.next c.args.report.stream
    (stream-inside c.args.f c.args.archive.now c.args.s.place c.args.report c.args.next c.requires.1.1) in
    omega (arith, stream, b.last, c.requires.0.short)

pub overflow_add-fixed : goal.overflow_add-fixed
overflow_add-fixed c =
    omega (arith, c.own_words.ensures, own-words-few c.args.report.own)

pub overflow_add-fixed-2 : goal.overflow_add-fixed-2
overflow_add-fixed-2 c =
    omega (arith, c.own_words.ensures, own-words-few c.args.report.own)

pub overflow_add-result : goal.overflow_add-result
overflow_add-result c =
    let b = report_bounds c.args.f c.args.archive.now c.args.s.place c.args.report c.args.next c.requires.1.0 c.requires.1.1 in
    let stream = stream-few c.args.s.place c.args.next c.args.report.stream
    (stream-inside c.args.f c.args.archive.now c.args.s.place c.args.report c.args.next c.requires.1.1) in
    let most = words-few c.args.f c.args.report.count (take (c.args.next - c.args.report.arguments) (drop c.args.report.arguments
    c.args.archive.now)) c.args.report.arguments in
    omega (
      arith,
      stream,
      b.last,
      b.few,
      c.requires.0.short,
      c.count_arguments-counted.ensures.words_value,
      most,
      c.inline_bytes.ensures,
      c.own_words.ensures,
      own-words-few c.args.report.own,
    )

pub own_behind-requires : goal.own_behind-requires
own_behind-requires c =
    ap (λ (r : Record). r.content) c.requires.1.1

pub overflow_add-result-2 : goal.overflow_add-result-2
overflow_add-result-2 c =
    let b = report_bounds c.args.f c.args.archive.now c.args.s.place c.args.report c.args.next c.requires.1.0 c.requires.1.1 in
    let stream = stream-few c.args.s.place c.args.next c.args.report.stream
    (stream-inside c.args.f c.args.archive.now c.args.s.place c.args.report c.args.next c.requires.1.1) in
    let most = words-few c.args.f c.args.report.count (take (c.args.next - c.args.report.arguments) (drop c.args.report.arguments
    c.args.archive.now)) c.args.report.arguments in
    omega (
      arith,
      stream,
      b.last,
      b.few,
      c.requires.0.short,
      c.count_arguments-counted.ensures.words_value,
      most,
      c.inline_bytes.ensures,
      c.own_words.ensures,
      own-words-few c.args.report.own,
      c.own_behind.ensures,
      behind-few c.args.report.own,
    )

pub shape_of-room : goal.shape_of-room
shape_of-room c =
    omega (arith, c.room-1.given, c.room-2-1.given, c.room-3-1.given, c.room-4-1.given)

pub returns : goal.returns
returns c = by_clause (let b = report_bounds c.args.f c.args.archive.now c.args.s.place c.args.report c.args.next c.requires.1.0 c.requires.1.1 in
    let arguments = argument_lookups (arguments_to c.args.f c.args.archive.now c.args.report c.args.next) in
    let third = counted_then c.args.f c.args.archive.now c.count_reference-second.new.room c.args.s.current c.args.s.place
    c.args.report.third arguments (omega (arith, c.requires.0.wide, c.room-1.given, c.room-2-1.given)) c.count_reference-third.result
    c.count_arguments-counted.result.good c.count_reference-third.new.room c.count_arguments-counted.new.room
    (c.count_reference-third.ensures.value, c.count_reference-third.ensures.room_after) (
      c.count_arguments-counted.ensures.good_value,
      c.count_arguments-counted.ensures.room_after,
    ) in
    let second = counted_then c.args.f c.args.archive.now c.count_reference-first.new.room c.args.s.current c.args.s.place
    c.args.report.second (c.args.report.third ∷ arguments) (omega (
      arith,
      c.requires.0.wide,
      c.room-1.given,
    )) c.count_reference-second.result
    (c.count_reference-third.result && c.count_arguments-counted.result.good) c.count_reference-second.new.room
    c.count_arguments-counted.new.room (c.count_reference-second.ensures.value, c.count_reference-second.ensures.room_after) third in
    let first = counted_then c.args.f c.args.archive.now c.args.room.now c.args.s.current c.args.s.place c.args.report.first
    (c.args.report.second ∷ c.args.report.third ∷ arguments) (omega (arith, c.requires.0.wide)) c.count_reference-first.result
    (c.count_reference-second.result && (c.count_reference-third.result && c.count_arguments-counted.result.good))
    c.count_reference-first.new.room c.count_arguments-counted.new.room (
      c.count_reference-first.ensures.value,
      c.count_reference-first.ensures.room_after,
    ) second in
    let words = report-words c.args.f c.args.archive.now (tables_in c.args.f c.args.room.now) c.args.s c.args.report c.args.next
    c.args.s.place c.args.next
    (stream-inside c.args.f c.args.archive.now c.args.s.place c.args.report c.args.next c.requires.1.1) b.last in (
      rw (c.both-good.ensures, c.both-2.ensures, c.both.ensures) first.0,
      (rw (c.own_words.ensures, c.inline_bytes.ensures, c.count_arguments-counted.ensures.words_value, c.own_behind.ensures) words, first.1),
    ))
