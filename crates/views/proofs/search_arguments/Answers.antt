-- `views::search_arguments` meets its contract: the loop keeps the search of all arguments equal to that of those left, with whether an
-- entry before was bad (keeping). Assumes nothing.
use Prim.Native.Nat.{◌+◌, ◌-◌}
use mathlib.Core.Path.{◌≡◌, refl, sym, ap, ◌∙◌}
use mathlib.Core.Bool.{false}
use mathlib.Core.Logic.{inl, inr}
use native.Mathlib.Omega.{arith}
use lib.ListN.{length-drop}
use Rattle.std.proofs.lemmas.Result.{err_from_is_err_and}
use Rattle.words.specs.Word.{pick}
use Rattle.format.proofs.Headers.{part_from}
use Rattle.arguments.proofs.Arguments.{texts_inside}
use Rattle.arguments.specs.Argument.{arguments_of}
use Rattle.views.specs.Models.Seen.{searched_of}
use Rattle.views.specs.Shown.{none_bad}
use Rattle.views.proofs.Searches.{keeping, keeping_found, keeping_end, keeping_turn, marked, search_turn}
use Rattle.views.proofs.search_arguments.Goals as goal
use Rattle.views.proofs.search_arguments.Goals.{then-is_bad, else-is_bad, then-is_bad-2, else-is_bad-2}

pub loop-init : goal.loop-init
loop-init c =
    let all : c.args.count - 0 ≡ c.args.count = omega arith in
    record { search = rw all (sym (keeping_found _)); room = refl }

pub returns-in_err-texts : goal.returns-in_err-texts
returns-in_err-texts c =
    let by = err_from_is_err_and c.from_residual.result c.from_residual.ensures.1 in
    rw (by.1, by.2)
    (sym (c.loop.invariant.search ∙ (ap (keeping c.loop.found) (search_turn c.args.registrations.now.format c.args.registrations.now.archive.now c.args.registrations.now.words.now c.args.registrations.now.context
    c.args.registrations.now.until (c.args.count - c.loop.counter) c.loop.rest.now c.loop.at (omega arith)) ∙ simp (← c.texts_of.ensures, c.in_err-texts.was))))

pub slice_bounds-rest-count : goal.slice_bounds-rest-count
slice_bounds-rest-count c =
    let t = c.in_ok-texts.texts in
    texts_inside c.args.registrations.now.format c.loop.rest.now c.loop.at t.name t.value t.size (sym c.texts_of.ensures ∙ c.in_ok-texts.was)

pub slice_bounds-rest-start : goal.slice_bounds-rest-start
slice_bounds-rest-start c =
    let t = c.in_ok-texts.texts in
    texts_inside c.args.registrations.now.format c.loop.rest.now c.loop.at t.name t.value t.size (sym c.texts_of.ensures ∙ c.in_ok-texts.was)

pub overflow_add-at : goal.overflow_add-at
overflow_add-at c =
    let t = c.in_ok-texts.texts in
    let inside = texts_inside c.args.registrations.now.format c.loop.rest.now c.loop.at t.name t.value t.size (sym c.texts_of.ensures ∙ c.in_ok-texts.was) in
    omega (arith, inside, c.loop.invariant.room, c.requires)

pub loop-preserved : goal.loop-preserved
loop-preserved c =
    let t = c.in_ok-texts.texts in
    let inside = texts_inside c.args.registrations.now.format c.loop.rest.now c.loop.at t.name t.value t.size (sym c.texts_of.ensures ∙ c.in_ok-texts.was) in
    let less : c.args.count - c.loop.counter - 1 ≡ c.args.count - (c.loop.counter + 1) = omega arith in
    let one : c.if-is_bad.found ≡ pick c.is_bad.result false c.loop.found =
    marked (λ t. t) (λ e. e) (elim c.if-is_bad.branch [
      | then-is_bad w ↦ inl (w.if-is_bad.true, w.found-is)
      | else-is_bad w ↦ inr (w.if-is_bad.false, w.found-is)
    ]) in
    let two : c.if-is_bad-2.found ≡ pick c.is_bad-in-loop.result false c.if-is_bad.found =
    marked (λ t. t) (λ e. e) (elim c.if-is_bad-2.branch [
      | then-is_bad-2 w ↦ inl (w.if-is_bad-2.true, w.found-is)
      | else-is_bad-2 w ↦ inr (w.if-is_bad-2.false, w.found-is)
    ]) in
    record {
      search = c.loop.invariant.search
          ∙ (ap (keeping c.loop.found) (search_turn c.args.registrations.now.format c.args.registrations.now.archive.now c.args.registrations.now.words.now c.args.registrations.now.context c.args.registrations.now.until
          (c.args.count - c.loop.counter) c.loop.rest.now c.loop.at (omega arith)) ∙ simp (
            ← c.texts_of.ensures,
            c.in_ok-texts.was,
            ← c.resolve.ensures,
            ← c.is_bad.ensures,
            ← c.resolve-in-loop.ensures,
            ← c.is_bad-in-loop.ensures,
            two,
            one,
            keeping_turn,
            less,
            part_from,
          ));
      room = simp part_from (omega (arith, inside, c.loop.invariant.room, length-drop t.size c.loop.rest.now));
    }

pub returns : goal.returns
unfolding arguments_of searched_of none_bad
returns c =
    let none : c.args.count - c.loop.counter ≡ 0 = omega (arith, c.loop-test.false) in
    sym (c.loop.invariant.search ∙ rw none (keeping_end c.loop.found c.loop.at))
