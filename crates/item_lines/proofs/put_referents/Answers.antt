-- `put_referents` meets its contract: the three that are referred to, one behind the other.
use Rattle.item_lines.specs.Line.{referents_shown}
use Rattle.lines.proofs.Puts.{◌then◌}
use Rattle.item_lines.proofs.put_referents.Goals as goal

pub returns : goal.returns
unfolding referents_shown
returns c =
    c.put_referent.ensures then c.put_referent-2.ensures then c.put_referent-3.ensures
