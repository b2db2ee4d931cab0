-- `reader::step_plain` meets its contract: the state and the tables follow the effect. Assumes nothing.
use mathlib.Core.Path.{refl}
use Rattle.reader.specs.Step.{effect_decision, stopping}
use Rattle.effects.specs.Follow.{changed}
use Rattle.reader.proofs.step_plain.Goals as goal

-- the clauses, of their product
by_clause : {A B : Type 0} → A × B → record { value : A; tables_after : B }
by_clause w = record { value = w.0; tables_after = w.1 }

pub returns-in-Err : goal.returns-in-Err
unfolding effect_decision stopping changed
returns-in-Err c = by_clause (simp (
  ← c.effect_of-effect.ensures,
  ← c.follow.ensures,
  c.in-Err.is,
) (c.stop.ensures, refl))

pub change_of-requires : goal.change_of-requires
change_of-requires c =
    rw c.effect_of-effect.ensures (c.requires.0, c.requires.2, c.requires.3, c.requires.4)

pub returns-in-Ok : goal.returns-in-Ok
unfolding effect_decision
returns-in-Ok c = by_clause (simp (
  ← c.effect_of-effect.ensures,
  ← c.follow.ensures,
  c.in-Ok.is,
  ← c.change_of.ensures,
  ← c.plain_answer.ensures,
) (refl, c.apply.ensures))
