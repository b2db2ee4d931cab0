-- `register_arguments` meets its contract: the loop keeps what is still to be registered and written (Registering), a name and a text at a time.
use Prim.Native.Nat.{◌+◌, ◌-◌}
use mathlib.Core.Path.{◌≡◌, sym, ◌∙◌}
use native.Mathlib.Omega.{arith}
use lib.ListN.{length, length-drop}
use Rattle.format.proofs.Headers.{part_from}
use Rattle.arguments.proofs.Arguments.{texts_inside}
use Rattle.rewriting.proofs.Walks.{texts_first, texts_refused, lookups_none}
use Rattle.rewriting.proofs.Registering.{registering_done, registering_as, still_fits, still_remembers, next_fits, next_space, registering_next}
use borrow.Author.Rules.{rules}
use Rattle.rewriting.proofs.register_arguments.Goals as goal

pub returns-in_default-clause-room_after : goal.returns-in_default-clause-room_after
returns-in_default-clause-room_after c =
    let same = c.loop.invariant.0.writing.written.same.format in
    let stop = texts_refused c.args.out.now.format (c.args.count - c.loop.counter) c.loop.rest.now c.loop.from _ (omega arith)
    (rw same at (sym c.texts_of.ensures ∙ c.in_default.is)) in
    (registering_done _ _ _ _ _ _ (registering_as _ _ _ _ _ _ stop c.loop.invariant.0)).0

pub returns-in_default-clause-out_after : goal.returns-in_default-clause-out_after
returns-in_default-clause-out_after c =
    let same = c.loop.invariant.0.writing.written.same.format in
    let stop = texts_refused c.args.out.now.format (c.args.count - c.loop.counter) c.loop.rest.now c.loop.from _ (omega arith)
    (rw same at (sym c.texts_of.ensures ∙ c.in_default.is)) in
    (registering_done _ _ _ _ _ _ (registering_as _ _ _ _ _ _ stop c.loop.invariant.0)).1

pub register_lookup-requires-clause-room_fits : goal.register_lookup-requires-clause-room_fits
register_lookup-requires-clause-room_fits c =
    let same = c.loop.invariant.0.writing.written.same.format in
    let turn = texts_first c.args.out.now.format (c.args.count - c.loop.counter) c.loop.rest.now c.loop.from c.in-Ok.texts.name c.in-Ok.texts.value c.in-Ok.texts.size
    (omega arith) (rw same at (sym c.texts_of.ensures ∙ c.in-Ok.is)) in
    let can = c.requires.room_fits.0 in
    let here = registering_as _ _ _ _ _ _ turn c.loop.invariant.0 in
    (still_fits _ _ _ _ _ _ can here, next_fits _ _ _ _ _ _ can here, still_remembers _ _ _ _ _ _ can here)

pub register_lookup-requires-clause-lookup_in_bounds : goal.register_lookup-requires-clause-lookup_in_bounds
register_lookup-requires-clause-lookup_in_bounds c =
    let same = c.loop.invariant.0.writing.written.same.format in
    let turn = texts_first c.args.out.now.format (c.args.count - c.loop.counter) c.loop.rest.now c.loop.from c.in-Ok.texts.name c.in-Ok.texts.value c.in-Ok.texts.size
    (omega arith) (rw same at (sym c.texts_of.ensures ∙ c.in-Ok.is)) in
    let can = c.requires.room_fits.0 in
    let here = registering_as _ _ _ _ _ _ turn c.loop.invariant.0 in
    next_space _ _ _ _ _ _ can here

pub register_lookup-requires-in-loop-clause-room_fits : goal.register_lookup-requires-in-loop-clause-room_fits
register_lookup-requires-in-loop-clause-room_fits c =
    let same = c.loop.invariant.0.writing.written.same.format in
    let turn = texts_first c.args.out.now.format (c.args.count - c.loop.counter) c.loop.rest.now c.loop.from c.in-Ok.texts.name c.in-Ok.texts.value c.in-Ok.texts.size
    (omega arith) (rw same at (sym c.texts_of.ensures ∙ c.in-Ok.is)) in
    let can = c.requires.room_fits.0 in
    let here = registering_as _ _ _ _ _ _ turn c.loop.invariant.0 in
    let long : length c.register_lookup.new.room ≡ length c.loop.room = search rules in
    let named = registering_next _ _ _ _ _ _ can here (c.register_lookup.ensures.room_after, c.register_lookup.ensures.out_after) long in
    (still_fits _ _ _ _ _ _ can named, next_fits _ _ _ _ _ _ can named, still_remembers _ _ _ _ _ _ can named)

pub register_lookup-requires-in-loop-clause-lookup_in_bounds : goal.register_lookup-requires-in-loop-clause-lookup_in_bounds
register_lookup-requires-in-loop-clause-lookup_in_bounds c =
    let same = c.loop.invariant.0.writing.written.same.format in
    let turn = texts_first c.args.out.now.format (c.args.count - c.loop.counter) c.loop.rest.now c.loop.from c.in-Ok.texts.name c.in-Ok.texts.value c.in-Ok.texts.size
    (omega arith) (rw same at (sym c.texts_of.ensures ∙ c.in-Ok.is)) in
    let can = c.requires.room_fits.0 in
    let here = registering_as _ _ _ _ _ _ turn c.loop.invariant.0 in
    let long : length c.register_lookup.new.room ≡ length c.loop.room = search rules in
    let named = registering_next _ _ _ _ _ _ can here (c.register_lookup.ensures.room_after, c.register_lookup.ensures.out_after) long in
    next_space _ _ _ _ _ _ can named

pub slice_bounds-rest-count : goal.slice_bounds-rest-count
slice_bounds-rest-count c =
    texts_inside c.loop.out.format c.loop.rest.now c.loop.from c.in-Ok.texts.name c.in-Ok.texts.value c.in-Ok.texts.size
    (sym c.texts_of.ensures ∙ c.in-Ok.is)

pub slice_bounds-rest-start : goal.slice_bounds-rest-start
slice_bounds-rest-start c =
    texts_inside c.loop.out.format c.loop.rest.now c.loop.from c.in-Ok.texts.name c.in-Ok.texts.value c.in-Ok.texts.size
    (sym c.texts_of.ensures ∙ c.in-Ok.is)

pub overflow_add-from : goal.overflow_add-from
overflow_add-from c =
    let inside =
    texts_inside c.loop.out.format c.loop.rest.now c.loop.from c.in-Ok.texts.name c.in-Ok.texts.value c.in-Ok.texts.size
    (sym c.texts_of.ensures ∙ c.in-Ok.is) in
    omega (arith, inside, c.loop.invariant.1, c.requires.part_bound.0)

pub loop-preserved : goal.loop-preserved
loop-preserved c =
    let less : c.args.count - c.loop.counter - 1 ≡ c.args.count - (c.loop.counter + 1) = omega arith in
    let same = c.loop.invariant.0.writing.written.same.format in
    let turn = texts_first c.args.out.now.format (c.args.count - c.loop.counter) c.loop.rest.now c.loop.from c.in-Ok.texts.name c.in-Ok.texts.value c.in-Ok.texts.size
    (omega arith) (rw same at (sym c.texts_of.ensures ∙ c.in-Ok.is)) in
    let can = c.requires.room_fits.0 in
    let here = registering_as _ _ _ _ _ _ turn c.loop.invariant.0 in
    let long : length c.register_lookup.new.room ≡ length c.loop.room = search rules in
    let named = registering_next _ _ _ _ _ _ can here (c.register_lookup.ensures.room_after, c.register_lookup.ensures.out_after) long in
    let inside =
    texts_inside c.loop.out.format c.loop.rest.now c.loop.from c.in-Ok.texts.name c.in-Ok.texts.value c.in-Ok.texts.size
    (sym c.texts_of.ensures ∙ c.in-Ok.is) in
    let long2 : length c.register_lookup-in-loop.new.room ≡ length c.register_lookup.new.room = search rules in
    rw (part_from c.in-Ok.texts.size c.loop.rest.now, ← less) (
      registering_next _ _ _ _ _ _ can named (c.register_lookup-in-loop.ensures.room_after, c.register_lookup-in-loop.ensures.out_after) long2,
      omega (arith, inside, c.loop.invariant.1, length-drop c.in-Ok.texts.size c.loop.rest.now),
    )

pub returns-clause-room_after : goal.returns-clause-room_after
returns-clause-room_after c =
    let none = lookups_none c.args.out.now.format (c.args.count - c.loop.counter) c.loop.rest.now c.loop.from (omega arith) in
    (registering_done _ _ _ _ _ _ (registering_as _ _ _ _ _ _ none c.loop.invariant.0)).0

pub returns-clause-out_after : goal.returns-clause-out_after
returns-clause-out_after c =
    let none = lookups_none c.args.out.now.format (c.args.count - c.loop.counter) c.loop.rest.now c.loop.from (omega arith) in
    (registering_done _ _ _ _ _ _ (registering_as _ _ _ _ _ _ none c.loop.invariant.0)).1
