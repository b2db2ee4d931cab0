-- `put_arguments` meets its contract: the loop keeps what is written and what is left together the whole (Walk).
use Prim.Native.Nat.{◌+◌, ◌-◌}
use mathlib.Core.Path.{◌≡◌, refl, sym, ◌∙◌}
use native.Mathlib.Omega.{arith}
use lib.ListN.{length-drop}
use Rattle.format.proofs.Headers.{part_from}
use Rattle.arguments.proofs.Arguments.{argument_read}
use Rattle.encoding.proofs.Writing.{writes_same}
use Rattle.rewriting.proofs.Walks.{argument_first, argument_refused, arguments-none}
use Rattle.rewriting.proofs.Spelling.{walk_as, walk_fits, walk_goes_on, walk_ends}
use Rattle.rewriting.proofs.put_arguments.Goals as goal

pub returns-in_default : goal.returns-in_default
returns-in_default c =
    let f = c.args.out.now.format in
    let same = c.loop.invariant.0.writing.written.same.format in
    let none = argument_refused f (c.args.count - c.loop.counter) c.loop.rest.now c.loop.from _ (omega arith)
    (rw same at (sym c.argument_of.ensures ∙ c.in_default.is)) in
    writes_same (walk_ends _ _ _ _ _ _ _ (walk_as _ _ _ _ _ _ _ none c.loop.invariant.0)) refl

pub put_argument-requires-clause-room_fits : goal.put_argument-requires-clause-room_fits
put_argument-requires-clause-room_fits c =
    let f = c.args.out.now.format in
    let same = c.loop.invariant.0.writing.written.same.format in
    let turn = argument_first f (c.args.count - c.loop.counter) c.loop.rest.now c.loop.from c.in-Ok.argued.argument c.in-Ok.argued.size (omega arith)
    (rw same at (sym c.argument_of.ensures ∙ c.in-Ok.is)) in
    let w = walk_as _ _ _ _ _ _ _ turn c.loop.invariant.0 in
    rw same (c.requires.room_fits.0, w.fit.0, c.requires.room_fits.2)

pub put_argument-requires-clause-argument_in_bounds : goal.put_argument-requires-clause-argument_in_bounds
put_argument-requires-clause-argument_in_bounds c =
    let f = c.args.out.now.format in
    let same = c.loop.invariant.0.writing.written.same.format in
    let turn = argument_first f (c.args.count - c.loop.counter) c.loop.rest.now c.loop.from c.in-Ok.argued.argument c.in-Ok.argued.size (omega arith)
    (rw same at (sym c.argument_of.ensures ∙ c.in-Ok.is)) in
    rw same (walk_fits _ _ _ _ _ _ _ (walk_as _ _ _ _ _ _ _ turn c.loop.invariant.0))

pub slice_bounds-rest-count : goal.slice_bounds-rest-count
slice_bounds-rest-count c =
    (argument_read c.loop.out.format c.loop.rest.now c.loop.from c.in-Ok.argued.argument c.in-Ok.argued.size
    (sym c.argument_of.ensures ∙ c.in-Ok.is)).inside

pub slice_bounds-rest-start : goal.slice_bounds-rest-start
slice_bounds-rest-start c =
    (argument_read c.loop.out.format c.loop.rest.now c.loop.from c.in-Ok.argued.argument c.in-Ok.argued.size
    (sym c.argument_of.ensures ∙ c.in-Ok.is)).inside

pub overflow_add-from : goal.overflow_add-from
overflow_add-from c =
    let read = argument_read c.loop.out.format c.loop.rest.now c.loop.from c.in-Ok.argued.argument c.in-Ok.argued.size
    (sym c.argument_of.ensures ∙ c.in-Ok.is) in
    omega (arith, read.inside, c.loop.invariant.1, c.requires.part_bound.0)

pub loop-preserved : goal.loop-preserved
loop-preserved c =
    let less : c.args.count - c.loop.counter - 1 ≡ c.args.count - (c.loop.counter + 1) = omega arith in
    let f = c.args.out.now.format in
    let same = c.loop.invariant.0.writing.written.same.format in
    let read = rw same at (sym c.argument_of.ensures ∙ c.in-Ok.is) in
    let turn = argument_first f (c.args.count - c.loop.counter) c.loop.rest.now c.loop.from c.in-Ok.argued.argument c.in-Ok.argued.size (omega arith)
    read in
    let w = walk_as _ _ _ _ _ _ _ turn c.loop.invariant.0 in
    let inside = (argument_read f c.loop.rest.now c.loop.from c.in-Ok.argued.argument c.in-Ok.argued.size read).inside in
    rw (part_from c.in-Ok.argued.size c.loop.rest.now, ← less) (
      walk_goes_on _ _ _ _ _ _ _ w refl c.put_argument.ensures,
      omega (arith, inside, c.loop.invariant.1, length-drop c.in-Ok.argued.size c.loop.rest.now),
    )

pub returns : goal.returns
returns c =
    let none = arguments-none c.args.out.now.format (c.args.count - c.loop.counter) c.loop.rest.now c.loop.from (omega arith) in
    writes_same (walk_ends _ _ _ _ _ _ _ (walk_as _ _ _ _ _ _ _ none c.loop.invariant.0)) refl
