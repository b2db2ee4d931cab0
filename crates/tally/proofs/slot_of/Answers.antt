-- `tally::slot_of` meets its contract: the answer is what the definition gives for what the search found, and a slot that was found is below the
-- capacity (here_below). Assumes nothing.
use mathlib.Core.Path.{refl}
use native.Mathlib.Omega.{arith}
use Rattle.tally.proofs.Laws.{here_below}
use Rattle.tally.proofs.slot_of.Goals as goal

pub returns-in-Here : goal.returns-in-Here
returns-in-Here c =
    let low = here_below _ _ c.requires.0 c.find-slot.ensures c.in-Here.is in
    simp (← c.find-slot.ensures, c.in-Here.is) (refl, omega (arith, low, c.requires.0.low))
