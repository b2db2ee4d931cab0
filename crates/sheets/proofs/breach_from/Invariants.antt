use Prim.Native.Nat.{◌≤◌, ◌-◌}
use mathlib.Core.Path.{◌≡◌}
use lib.ListN.{length}
use Rattle.sheets.specs.Sheet.{first_bad, starts_from}
use Rattle.sheets.proofs.breach_from.Given as goal

abbrev pub invariant-loop-at : goal.invariant-loop-at
invariant-loop-at l = (l.at ≤ length l.sheet) × (first_bad l.sheet l.longest l.last (starts_from l.sheet l.start) ≡ first_bad l.sheet
    l.longest l.before (starts_from l.sheet l.at))

abbrev pub decreases-loop-at : goal.decreases-loop-at
decreases-loop-at l = length l.sheet - l.at
