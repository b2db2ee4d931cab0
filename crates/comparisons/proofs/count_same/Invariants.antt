use Prim.Native.Nat.{◌≤◌, ◌+◌}
use mathlib.Core.Path.{◌≡◌}
use lib.ListN.{drop}
use Rattle.comparisons.specs.Pairs.{same_pairs}
use Rattle.comparisons.proofs.count_same.Given as goal

abbrev pub invariant-loop-length : goal.invariant-loop-length
invariant-loop-length g l =
    (l.count ≤ l.length-index) × (same_pairs l.lengths l.a l.b ≡ l.count + same_pairs (drop l.length-index l.lengths) l.left l.right)
