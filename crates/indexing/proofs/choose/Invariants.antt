use mathlib.Core.Path.{◌≡◌}
use lib.ListN.{length}
use Rattle.indexing.specs.Models.Indexes.{chosen_to}
use Rattle.indexing.proofs.choose.Given as goal

abbrev pub invariant-loop-s : goal.invariant-loop-s
invariant-loop-s l = (length l.slots ≡ length l.initial.slots) × (l.slots ≡ chosen_to l.stretch l.s l.initial.slots)
