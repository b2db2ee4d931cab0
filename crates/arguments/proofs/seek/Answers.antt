-- `arguments::seek` meets its contract: the loop keeps where the arguments end, and where the asked one starts, equal to that of what is left. Assumes nothing.
use Prim.Native.Nat.{ℕ, ◌+◌, ◌-◌}
use mathlib.Core.Path.{◌≡◌, sym, ◌∙◌}
use mathlib.Core.Logic.{inl, inr}
use native.Mathlib.Omega.{arith}
use lib.ListN.{length-drop}
use borrow.Author.Tests.{lt-ltb}
use Rattle.std.proofs.Common.{Err}
use Rattle.std.proofs.lemmas.Result.{err_from_is_err_and}
use Rattle.format.proofs.Headers.{part_from}
use Rattle.arguments.specs.Argument.{walked, arguments_of}
use Rattle.arguments.specs.Models.Reading.{sought_of}
use Rattle.arguments.proofs.Arguments.{walk_turn, argument_read, texts_read, texts_refused, texts_inside, start_turn}
use Rattle.arguments.proofs.seek.Goals as goal
use Rattle.arguments.proofs.seek.Goals.{then-here-number, else-here-number}

pub returns-in_err-texts : goal.returns-in_err-texts
unfolding sought_of
returns-in_err-texts c =
    let by = err_from_is_err_and c.from_residual.result c.from_residual.ensures.1 in
    let stopped : walked (arguments_of c.args.f c.args.count c.args.part.now c.args.place) ≡ Err c.in_err-texts.field-0.0 = c.loop-here.invariant.ends
    ∙ walk_turn c.args.f (c.args.count - c.loop-here.here) c.loop-here.rest.now c.loop-here.at (omega arith)
    ∙ simp (texts_refused c.args.f c.loop-here.rest.now c.loop-here.at c.in_err-texts.field-0.0 (sym c.texts_of.ensures ∙ c.in_err-texts.was)) in
    rw (by.1, by.2, stopped)

pub slice_bounds-rest-count : goal.slice_bounds-rest-count
slice_bounds-rest-count c =
    let t = c.in_ok-texts.texts in
    texts_inside c.args.f c.loop-here.rest.now c.loop-here.at t.name t.value t.size (sym c.texts_of.ensures ∙ c.in_ok-texts.was)

pub slice_bounds-rest-start : goal.slice_bounds-rest-start
slice_bounds-rest-start c =
    let t = c.in_ok-texts.texts in
    texts_inside c.args.f c.loop-here.rest.now c.loop-here.at t.name t.value t.size (sym c.texts_of.ensures ∙ c.in_ok-texts.was)

pub overflow_add-at : goal.overflow_add-at
overflow_add-at c =
    let t = c.in_ok-texts.texts in
    let inside = texts_inside c.args.f c.loop-here.rest.now c.loop-here.at t.name t.value t.size (sym c.texts_of.ensures ∙ c.in_ok-texts.was) in
    omega (arith, inside, c.loop-here.invariant.room, c.requires.0)

pub loop-here-preserved : goal.loop-here-preserved
loop-here-preserved c =
    let t = c.in_ok-texts.texts in
    let left : ℕ = c.args.count - c.loop-here.here in
    let asked : ℕ = c.args.count - c.args.number in
    let less : c.args.count - c.loop-here.here - 1 ≡ c.args.count - (c.loop-here.here + 1) = omega arith in
    let q = texts_read c.args.f c.loop-here.rest.now c.loop-here.at t.name t.value t.size (sym c.texts_of.ensures ∙ c.in_ok-texts.was) in
    let s = argument_read c.args.f c.loop-here.rest.now c.loop-here.at q.0 t.size q.1 in
    record {
      ends = c.loop-here.invariant.ends
          ∙ walk_turn c.args.f left c.loop-here.rest.now c.loop-here.at (omega arith)
          ∙ simp (q.1, less, part_from);
      room = simp part_from (omega (arith, s.inside, c.loop-here.invariant.room, length-drop t.size c.loop-here.rest.now));
      starts = c.loop-here.invariant.starts
          ∙ start_turn {A = left ≡ asked} {B = left ≡ asked → ⊥} c.args.f left asked c.loop-here.start
          c.if-here-number.start c.loop-here.rest.now c.loop-here.at q.0 t.size (omega arith) (omega (arith, c.requires.1))
          q.1 (λ t. t) (λ e. e)
          (elim c.if-here-number.branch [
            | then-here-number w ↦ inl (omega (arith, w.if-here-number.true), w.start-is)
            | else-here-number w ↦ inr (λ e. w.if-here-number.false (omega (arith, e, c.requires.1)), w.start-is)
          ])
          ∙ simp (less, part_from);
    }

pub returns : goal.returns
unfolding sought_of arguments_of
returns c =
    let none : c.args.count - c.loop-here.here ≡ 0 = omega (arith, c.loop-here-test.false) in
    rw (c.loop-here.invariant.ends, c.loop-here.invariant.starts, none, lt-ltb 0 (c.args.count - c.args.number) (omega (arith, c.requires.1)))
