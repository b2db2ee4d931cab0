-- `first_pass::count_arguments` meets its contract: the loop keeps a walk, in which what was counted and what is left are the whole. Assumes nothing.
use Prim.Native.Nat.{◌+◌, ◌-◌}
use mathlib.Core.Path.{◌≡◌, refl, sym, ◌∙◌}
use mathlib.Core.List.{[], ◌∷◌}
use native.Mathlib.Omega.{arith}
use lib.ListN.{length}
use Rattle.format.proofs.Headers.{part_from}
use Rattle.arguments.specs.Argument.{arguments_read}
use Rattle.arguments.proofs.Arguments.{texts_inside, texts_refused}
use Rattle.records.specs.Lookups.{text_lookup}
use Rattle.first_pass.proofs.Memory.{stands_can}
use Rattle.first_pass.proofs.Laws.{walk_ends, none_left, none_read, walk_turns_texts, turn_few, texts_countable, can_after, recalls_after}
use borrow.Author.Rules.{rules}
use Rattle.first_pass.proofs.count_arguments.Goals as goal

-- the clauses, of their product
by_clause : {A B C : Type 0} → A × (B × C) → record { good_value : A; words_value : B; room_after : C }
by_clause w = record { good_value = w.0; words_value = w.1.0; room_after = w.1.1 }

pub loop-init : goal.loop-init
loop-init c =
    let all : c.args.count - 0 ≡ c.args.count = omega arith in
    rw all (record {
      tables = refl;
      long = refl;
      goods = refl;
      slots = refl;
      sum = omega arith;
      inside = refl;
      behind = c.requires.3;
      recalls = c.requires.4;
      few = omega arith;
      kept = c.requires.5;
    })

pub texts_of-requires : goal.texts_of-requires
texts_of-requires c =
    omega (arith, c.loop.invariant.inside, c.requires.1, c.requires.0.short)

pub shape_of-room-in_default : goal.shape_of-room-in_default
shape_of-room-in_default c =
    c.loop.invariant.long

pub returns-in_default : goal.returns-in_default
returns-in_default c = by_clause (let all = arguments_read c.args.f c.args.count c.args.part.now c.args.place in
    let end = c.args.place + length c.args.part.now in
    let none = none_read c.args.f c.args.archive.now c.args.room.now c.args.context c.args.until all end c.loop.room (c.args.count - c.loop.counter)
    c.loop.rest.now c.loop.at
    c.loop.good c.loop.words c.args.count c.loop.invariant _ (omega arith) (texts_refused c.args.f
    c.loop.rest.now c.loop.at _ (sym
    c.texts_of.ensures ∙ c.in_default.is)) in
    walk_ends c.args.f c.args.archive.now c.args.room.now c.args.context c.args.until all end c.loop.room (c.args.count - c.loop.counter)
    c.loop.rest.now c.loop.at c.loop.good
    c.loop.words c.args.count c.loop.invariant none)

pub count_texts-requires : goal.count_texts-requires
count_texts-requires c =
    let k = texts_countable c.args.f c.args.archive.now c.loop.rest.now c.loop.at c.in-Ok.texts.name c.in-Ok.texts.value
    c.in-Ok.texts.size c.loop.invariant.behind (omega
    (arith, c.loop.invariant.inside, c.requires.1)) (sym c.texts_of.ensures ∙ c.in-Ok.is) in (
      can_after c.args.f c.args.archive.now c.args.room.now c.args.context c.args.until c.requires.0 c.loop.room c.loop.invariant.long,
      stands_can c.args.archive.now
          c.in-Ok.texts.name k.0.stands,
      stands_can c.args.archive.now c.in-Ok.texts.value k.1.0.stands,
      c.loop.invariant.recalls,
    )

pub inline_bytes-requires : goal.inline_bytes-requires
inline_bytes-requires c =
    let all = arguments_read c.args.f c.args.count c.args.part.now c.args.place in
    let end = c.args.place + length c.args.part.now in
    let read = sym c.texts_of.ensures ∙ c.in-Ok.is in
    let few = turn_few c.args.f c.args.archive.now c.args.room.now c.args.context c.args.until all end c.loop.room (c.args.count - c.loop.counter)
    c.loop.rest.now c.loop.at c.loop.good
    c.loop.words c.args.count c.loop.invariant c.in-Ok.texts.name c.in-Ok.texts.value c.in-Ok.texts.size (omega arith) read in
    omega (arith, few.0, few.1, c.loop.invariant.inside, c.requires.1, c.requires.0.short)

pub inline_bytes-requires-in-loop : goal.inline_bytes-requires-in-loop
inline_bytes-requires-in-loop c =
    let all = arguments_read c.args.f c.args.count c.args.part.now c.args.place in
    let end = c.args.place + length c.args.part.now in
    let read = sym c.texts_of.ensures ∙ c.in-Ok.is in
    let few = turn_few c.args.f c.args.archive.now c.args.room.now c.args.context c.args.until all end c.loop.room (c.args.count - c.loop.counter)
    c.loop.rest.now c.loop.at c.loop.good
    c.loop.words c.args.count c.loop.invariant c.in-Ok.texts.name c.in-Ok.texts.value c.in-Ok.texts.size (omega arith) read in
    omega (arith, few.0, few.1, c.loop.invariant.inside, c.requires.1, c.requires.0.short)

pub overflow_add-spelled : goal.overflow_add-spelled
overflow_add-spelled c =
    let all = arguments_read c.args.f c.args.count c.args.part.now c.args.place in
    let end = c.args.place + length c.args.part.now in
    let read = sym c.texts_of.ensures ∙ c.in-Ok.is in
    let few = turn_few c.args.f c.args.archive.now c.args.room.now c.args.context c.args.until all end c.loop.room (c.args.count - c.loop.counter)
    c.loop.rest.now c.loop.at c.loop.good
    c.loop.words c.args.count c.loop.invariant c.in-Ok.texts.name c.in-Ok.texts.value c.in-Ok.texts.size (omega arith) read in
    omega (
      arith,
      few.0,
      few.1,
      c.loop.invariant.inside,
      c.requires.1,
      c.requires.0.short,
      c.inline_bytes.ensures,
      c.inline_bytes-in-loop.ensures,
    )

pub overflow_sub-words : goal.overflow_sub-words
overflow_sub-words c =
    let all = arguments_read c.args.f c.args.count c.args.part.now c.args.place in
    let end = c.args.place + length c.args.part.now in
    let read = sym c.texts_of.ensures ∙ c.in-Ok.is in
    let few = turn_few c.args.f c.args.archive.now c.args.room.now c.args.context c.args.until all end c.loop.room (c.args.count - c.loop.counter)
    c.loop.rest.now c.loop.at c.loop.good
    c.loop.words c.args.count c.loop.invariant c.in-Ok.texts.name c.in-Ok.texts.value c.in-Ok.texts.size (omega arith) read in
    omega (
      arith,
      few.0,
      few.1,
      c.loop.invariant.inside,
      c.requires.1,
      c.requires.0.short,
      c.inline_bytes.ensures,
      c.inline_bytes-in-loop.ensures,
    )

pub overflow_add-words : goal.overflow_add-words
overflow_add-words c =
    let all = arguments_read c.args.f c.args.count c.args.part.now c.args.place in
    let end = c.args.place + length c.args.part.now in
    let read = sym c.texts_of.ensures ∙ c.in-Ok.is in
    let few = turn_few c.args.f c.args.archive.now c.args.room.now c.args.context c.args.until all end c.loop.room (c.args.count - c.loop.counter)
    c.loop.rest.now c.loop.at c.loop.good
    c.loop.words c.args.count c.loop.invariant c.in-Ok.texts.name c.in-Ok.texts.value c.in-Ok.texts.size (omega arith) read in
    omega (arith, few.2, c.loop.invariant.few, c.requires.2, c.inline_bytes.ensures, c.inline_bytes-in-loop.ensures)

pub slice_bounds-rest-count : goal.slice_bounds-rest-count
slice_bounds-rest-count c =
    texts_inside c.args.f c.loop.rest.now c.loop.at c.in-Ok.texts.name c.in-Ok.texts.value c.in-Ok.texts.size (sym
    c.texts_of.ensures ∙ c.in-Ok.is)

pub slice_bounds-rest-start : goal.slice_bounds-rest-start
slice_bounds-rest-start c =
    texts_inside c.args.f c.loop.rest.now c.loop.at c.in-Ok.texts.name c.in-Ok.texts.value c.in-Ok.texts.size (sym
    c.texts_of.ensures ∙ c.in-Ok.is)

pub overflow_add-at : goal.overflow_add-at
overflow_add-at c =
    let s = texts_inside c.args.f c.loop.rest.now c.loop.at c.in-Ok.texts.name c.in-Ok.texts.value c.in-Ok.texts.size (sym
    c.texts_of.ensures ∙ c.in-Ok.is) in
    omega (arith, s, c.loop.invariant.inside, c.requires.1, c.requires.0.short)

pub loop-preserved : goal.loop-preserved
loop-preserved c =
    let all = arguments_read c.args.f c.args.count c.args.part.now c.args.place in
    let end = c.args.place + length c.args.part.now in
    let long : length c.count_texts.new.room ≡ length c.loop.room = search rules in
    let read = sym c.texts_of.ensures ∙ c.in-Ok.is in
    let k = texts_countable c.args.f c.args.archive.now c.loop.rest.now c.loop.at c.in-Ok.texts.name c.in-Ok.texts.value
    c.in-Ok.texts.size c.loop.invariant.behind (omega
    (arith, c.loop.invariant.inside, c.requires.1)) read in
    let can = can_after c.args.f c.args.archive.now c.args.room.now c.args.context c.args.until c.requires.0 c.loop.room
    c.loop.invariant.long in
    let less : c.args.count - c.loop.counter - 1 ≡ c.args.count - (c.loop.counter + 1) = omega arith in
    rw (part_from, ← less, c.both-good.ensures, c.inline_bytes.ensures, c.inline_bytes-in-loop.ensures)
    (walk_turns_texts c.args.f c.args.archive.now c.args.room.now c.args.context c.args.until all end c.loop.room (c.args.count - c.loop.counter)
    c.loop.rest.now c.loop.at c.loop.good
    c.loop.words c.args.count c.loop.invariant c.in-Ok.texts.name c.in-Ok.texts.value c.in-Ok.texts.size c.count_texts.result
    c.count_texts.new.room (omega arith) read (omega
    (arith, c.loop.invariant.long, c.requires.0.wide)) long (
      c.count_texts.ensures.value,
      c.count_texts.ensures.room_after,
    ) (recalls_after c.args.f c.args.archive.now c.loop.room c.args.context c.args.until can
    c.count_texts.new.room long
    (text_lookup c.in-Ok.texts.name ∷ text_lookup c.in-Ok.texts.value ∷ []) k c.loop.invariant.recalls c.count_texts.ensures.room_after))

pub shape_of-room : goal.shape_of-room
shape_of-room c = c.loop.invariant.long

pub returns : goal.returns
returns c = by_clause (let all = arguments_read c.args.f c.args.count c.args.part.now c.args.place in
    let end = c.args.place + length c.args.part.now in
    let none = none_left c.args.f c.args.archive.now c.args.room.now c.args.context c.args.until all end c.loop.room (c.args.count - c.loop.counter)
    c.loop.rest.now c.loop.at
    c.loop.good c.loop.words c.args.count c.loop.invariant (omega (arith, c.loop-test.false)) in
    walk_ends c.args.f c.args.archive.now c.args.room.now c.args.context c.args.until all end c.loop.room (c.args.count - c.loop.counter)
    c.loop.rest.now c.loop.at c.loop.good
    c.loop.words c.args.count c.loop.invariant none)
