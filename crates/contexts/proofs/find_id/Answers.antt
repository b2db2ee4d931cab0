-- `contexts::find_id` meets its contract: the position of the first equal id is what the definition finds (find_position). Assumes nothing.
use mathlib.Core.Path.{sym, ◌∙◌}
use lib.Dec.{eqb}
use lib.ListN.{take}
use Rattle.std.proofs.Common.{rules, tests}
use Rattle.std.proofs.lemmas.Iterator.{YieldsList-from_slice}
use Rattle.std.proofs.lemmas.Iterator.Search.{position_from_yields_List}
use Rattle.contexts.proofs.Contexts.{find_position}
use Rattle.contexts.proofs.find_id.Goals as goal

pub returns : goal.returns
returns c =
    position_from_yields_List (λ own. eqb own c.args.id) _ _ _ c.position.ensures.ran (YieldsList-from_slice (take c.args.count c.args.ids) cc)
    (λ x b q k. search (rules, tests)) ∙ sym (find_position c.args.ids c.args.count c.args.id)
