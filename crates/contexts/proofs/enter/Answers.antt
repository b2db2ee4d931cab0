-- `contexts::enter` meets its contract: each answer is what the definition gives for what the search found; a slot that is found is below the count (found_lt). Assumes nothing.
use mathlib.Core.Path.{sym, ap, ◌∙◌}
use native.Mathlib.Omega.{arith}
use borrow.Author.Tests.{eq-eqb, ne_eqb}
use Rattle.std.specs.Prelude.{Some}
use Rattle.contexts.specs.Context.{in_context, entering}
use Rattle.contexts.proofs.Contexts.{found_lt}
use Rattle.contexts.proofs.enter.Goals as goal

pub overflow_add-result : goal.overflow_add-result
overflow_add-result c = omega (arith, found_lt c.args.s.ids c.args.s.count c.args.id c.in-Some.slot (sym c.find_id.ensures ∙ c.in-Some.is))

pub returns-in-Some : goal.returns-in-Some
unfolding entering
returns-in-Some c =
    simp (← c.find_id.ensures, c.in-Some.is) (ap (λ current. Some (in_context c.args.s current c.args.place)) (omega arith))

pub returns-in-None : goal.returns-in-None
unfolding entering
returns-in-None c = simp (← c.find_id.ensures, c.in-None.is, eq-eqb _ _ c.if-count-eq8.true)

pub returns-in-None-2 : goal.returns-in-None-2
unfolding entering
returns-in-None-2 c =
    simp (← c.find_id.ensures, c.in-None-2.is, ne_eqb _ _ c.if-count-eq8.false, c.with.ensures, c.with-in-None-2.ensures)
