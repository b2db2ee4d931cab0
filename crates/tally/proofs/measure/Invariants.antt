use Prim.Native.Nat.{ℕ, ◌*◌, ◌^◌, ◌≤◌}
use mathlib.Core.Path.{◌≡◌}
use Rattle.tally.specs.Models.Slots.{place_at, label_at, uses_at, cost_of, sum_to}
use Rattle.tally.proofs.measure.Given as goal

abbrev pub invariant-loop-s : goal.invariant-loop-s
invariant-loop-s l = (l.sum ≤ l.s * 2 ^ 14) × (l.sum ≡ sum_to l.s (λ (i : ℕ). cost_of (place_at l.slots i) (label_at l.stretch l.slots i)
    (uses_at l.stretch l.slots i)))
