-- `losses::check_arguments` meets its contract: the loop keeps the definition of the whole equal to that of what is left. Assumes nothing.
use Prim.Native.Nat.{◌+◌, ◌-◌}
use mathlib.Core.Path.{◌≡◌, refl, sym, ◌∙◌}
use lib.ListN.{length-drop}
use native.Mathlib.Omega.{arith}
use Rattle.std.proofs.lemmas.Result.{err_from_is_err_and}
use Rattle.format.proofs.Headers.{part_from}
use Rattle.losses.specs.Models.Checking.{checked_arguments}
use Rattle.losses.proofs.Checking.{checked_inside, check_turn, check_refused, check_end}
use Rattle.losses.proofs.check_arguments.Goals as goal

pub loop-init : goal.loop-init
unfolding checked_arguments
loop-init c =
    let all : c.args.count - 0 ≡ c.args.count = omega arith in
    record { walk = rw all; room = refl }

pub check_argument-requires : goal.check_argument-requires
check_argument-requires c = omega (arith, c.loop.invariant.room, c.requires)

pub returns-in_err-checked : goal.returns-in_err-checked
returns-in_err-checked c =
    let by = err_from_is_err_and c.from_residual.result c.from_residual.ensures.1 in
    rw (by.1, by.2)
    (sym (c.loop.invariant.walk ∙ check_refused c.args.f c.loop.keeps (c.args.count - c.loop.counter) c.loop.rest.now c.loop.at c.args.extra
    c.in_err-checked.field-0.0 (omega arith) (sym c.check_argument.ensures ∙ c.in_err-checked.was)))

pub slice_bounds-rest-count : goal.slice_bounds-rest-count
slice_bounds-rest-count c =
    let x = c.in_ok-checked.checked in
    checked_inside c.args.f c.loop.rest.now c.loop.at x.size x.keeps (sym c.check_argument.ensures ∙ c.in_ok-checked.was)

pub slice_bounds-rest-start : goal.slice_bounds-rest-start
slice_bounds-rest-start c =
    let x = c.in_ok-checked.checked in
    checked_inside c.args.f c.loop.rest.now c.loop.at x.size x.keeps (sym c.check_argument.ensures ∙ c.in_ok-checked.was)

pub overflow_add-at : goal.overflow_add-at
overflow_add-at c =
    let x = c.in_ok-checked.checked in
    let inside = checked_inside c.args.f c.loop.rest.now c.loop.at x.size x.keeps (sym c.check_argument.ensures ∙ c.in_ok-checked.was) in
    omega (arith, inside, c.loop.invariant.room, c.requires)

pub loop-preserved : goal.loop-preserved
loop-preserved c =
    let x = c.in_ok-checked.checked in
    let e = sym c.check_argument.ensures ∙ c.in_ok-checked.was in
    let inside = checked_inside c.args.f c.loop.rest.now c.loop.at x.size x.keeps e in
    let less : c.args.count - c.loop.counter - 1 ≡ c.args.count - (c.loop.counter + 1) = omega arith in
    record {
      walk = c.loop.invariant.walk
          ∙ check_turn c.args.f c.loop.keeps (c.args.count - c.loop.counter) c.loop.rest.now c.loop.at c.args.extra x.size x.keeps (omega arith) e
          ∙ simp (less, part_from);
      room = simp part_from (omega (arith, inside, c.loop.invariant.room, length-drop x.size c.loop.rest.now));
    }

pub returns : goal.returns
returns c =
    sym (c.loop.invariant.walk ∙ check_end c.args.f c.loop.keeps (c.args.count - c.loop.counter) c.loop.rest.now c.loop.at c.args.extra
    (omega (arith, c.loop-test.false)))
