-- `passes::follow` meets its contract: state and tables are what the record's effect makes of them. Assumes nothing.
use mathlib.Core.Path.{◌∙◌}
use Rattle.passes.proofs.follow.Goals as goal

pub change_of-requires : goal.change_of-requires
change_of-requires c =
    (c.requires.0, c.requires.2, c.requires.3, rw c.effect_of-effect.ensures c.requires.4)

pub returns : goal.returns
returns c = record {
  value = c.follow.ensures ∙ rw c.effect_of-effect.ensures;
  tables_after = c.apply.ensures ∙ rw (c.change_of.ensures, c.effect_of-effect.ensures);
}
