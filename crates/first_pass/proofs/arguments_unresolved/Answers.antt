-- `first_pass::arguments_unresolved` meets its contract: the loop keeps the definition of the whole equal to that of what is left. Assumes nothing.
use Prim.Native.Nat.{◌+◌, ◌-◌}
use mathlib.Core.Path.{◌≡◌, refl, sym, ◌∙◌}
use lib.ListN.{length-drop}
use native.Mathlib.Omega.{arith}
use Rattle.format.proofs.Headers.{part_from}
use Rattle.arguments.specs.Argument.{arguments_read}
use Rattle.arguments.proofs.Arguments.{texts_inside}
use Rattle.first_pass.specs.Models.Count.{any_unresolved}
use Rattle.first_pass.proofs.Laws.{unresolved_turn}
use Rattle.first_pass.proofs.arguments_unresolved.Goals as goal

pub loop-init : goal.loop-init
loop-init c =
    let all : c.args.count - 0 ≡ c.args.count = omega arith in
    (rw all refl, refl)

pub returns-in_default : goal.returns-in_default
returns-in_default c =
    let turn = unresolved_turn c.args.registrations.now.format c.args.registrations.now.archive.now c.args.registrations.now.words.now c.args.registrations.now.context c.args.registrations.now.until (c.args.count - c.loop.counter)
    c.loop.rest.now c.loop.at (omega arith) in
    sym (c.loop.invariant.0 ∙ turn ∙ simp (← c.texts_of.ensures, c.in_default.is))

pub returns-then-is_unresolved : goal.returns-then-is_unresolved
returns-then-is_unresolved c =
    let turn = unresolved_turn c.args.registrations.now.format c.args.registrations.now.archive.now c.args.registrations.now.words.now c.args.registrations.now.context c.args.registrations.now.until (c.args.count - c.loop.counter)
    c.loop.rest.now c.loop.at (omega arith) in
    sym (c.loop.invariant.0 ∙ turn ∙ simp (← c.texts_of.ensures, c.in-Ok.is, ← c.is_unresolved.ensures, c.if-is_unresolved.true))

pub returns-then-is_unresolved-2 : goal.returns-then-is_unresolved-2
returns-then-is_unresolved-2 c =
    let turn = unresolved_turn c.args.registrations.now.format c.args.registrations.now.archive.now c.args.registrations.now.words.now c.args.registrations.now.context c.args.registrations.now.until (c.args.count - c.loop.counter)
    c.loop.rest.now c.loop.at (omega arith) in
    sym (c.loop.invariant.0 ∙ turn
    ∙ simp (
      ← c.texts_of.ensures,
      c.in-Ok.is,
      ← c.is_unresolved.ensures,
      c.if-is_unresolved.false,
      ← c.is_unresolved-in-loop.ensures,
      c.if-is_unresolved-2.true,
    ))

pub slice_bounds-rest-count : goal.slice_bounds-rest-count
slice_bounds-rest-count c =
    texts_inside c.args.registrations.now.format c.loop.rest.now c.loop.at c.in-Ok.texts.name c.in-Ok.texts.value c.in-Ok.texts.size (sym
    c.texts_of.ensures ∙ c.in-Ok.is)

pub slice_bounds-rest-start : goal.slice_bounds-rest-start
slice_bounds-rest-start c =
    texts_inside c.args.registrations.now.format c.loop.rest.now c.loop.at c.in-Ok.texts.name c.in-Ok.texts.value c.in-Ok.texts.size (sym
    c.texts_of.ensures ∙ c.in-Ok.is)

pub overflow_add-at : goal.overflow_add-at
overflow_add-at c =
    let s = texts_inside c.args.registrations.now.format c.loop.rest.now c.loop.at c.in-Ok.texts.name c.in-Ok.texts.value c.in-Ok.texts.size (sym
    c.texts_of.ensures ∙ c.in-Ok.is) in
    omega (arith, s, c.loop.invariant.1)

pub loop-preserved : goal.loop-preserved
loop-preserved c =
    let turn = unresolved_turn c.args.registrations.now.format c.args.registrations.now.archive.now c.args.registrations.now.words.now c.args.registrations.now.context c.args.registrations.now.until (c.args.count - c.loop.counter)
    c.loop.rest.now c.loop.at (omega arith) in
    let s = texts_inside c.args.registrations.now.format c.loop.rest.now c.loop.at c.in-Ok.texts.name c.in-Ok.texts.value c.in-Ok.texts.size (sym
    c.texts_of.ensures ∙ c.in-Ok.is) in
    let less : c.args.count - c.loop.counter - 1 ≡ c.args.count - (c.loop.counter + 1) = omega arith in (
      c.loop.invariant.0 ∙ turn
          ∙ simp (
            ← c.texts_of.ensures,
            c.in-Ok.is,
            ← c.is_unresolved.ensures,
            c.if-is_unresolved.false,
            ← c.is_unresolved-in-loop.ensures,
            c.if-is_unresolved-2.false,
            less,
            part_from,
          ),
      simp part_from (omega (arith, s, c.loop.invariant.1, length-drop c.in-Ok.texts.size c.loop.rest.now)),
    )

pub returns : goal.returns
unfolding arguments_read any_unresolved
returns c =
    let none : c.args.count - c.loop.counter ≡ 0 = omega (arith, c.loop-test.false) in
    sym (c.loop.invariant.0 ∙ rw none)
