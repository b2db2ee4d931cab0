-- `effects::follow` meets its contract: each answer is what the definition gives for the effect that was matched. Assumes nothing.
use mathlib.Core.Path.{◌≡◌, sym, ◌∙◌}
use borrow.Author.Tests.{eq-eqb, ne_eqb}
use Rattle.effects.specs.Follow.{stopped, followed}
use Rattle.effects.proofs.follow.Goals as goal

pub returns-in-Stop-eq0 : goal.returns-in-Stop-eq0
unfolding followed stopped
returns-in-Stop-eq0 c =
    simp (c.in-Stop-eq0.is, eq-eqb c.in-Stop-eq0.field-0 0 (sym c.in-Stop-eq0.field-0-is ∙ c.in-Stop-eq0.field-0-test))

pub returns-in-Stop : goal.returns-in-Stop
unfolding followed stopped
returns-in-Stop c =
    let some : c.in-Stop.number ≡ 0 → ⊥ = rw c.in-Stop.is at c.in-Stop.number-test.1 in
    simp (c.in-Stop.is, ne_eqb c.in-Stop.number 0 some)

pub returns-in-Enter : goal.returns-in-Enter
unfolding followed
returns-in-Enter c = simp (← c.enter.ensures, c.in-Enter.is, ← c.number.ensures) c.ok_or.ensures.value

pub returns-in-SetRate : goal.returns-in-SetRate
unfolding followed
returns-in-SetRate c = simp (← c.set_rate.ensures, c.in-SetRate.is)

pub returns-in-Register : goal.returns-in-Register
unfolding followed
returns-in-Register c = simp (← c.move_to.ensures, c.in-Register.is)

pub returns-in-Pass : goal.returns-in-Pass
unfolding followed
returns-in-Pass c = simp (← c.move_to-in-Pass.ensures, c.in-Pass.is)
