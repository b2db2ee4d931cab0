use Prim.Native.Nat.{ℕ, ◌<◌}
use mathlib.Core.Path.{◌≡◌}
use Rattle.tally.specs.Models.Slots.{uses_at}
use Rattle.indexing.proofs.first_waiting.Given as goal

abbrev pub invariant-loop-s : goal.invariant-loop-s
invariant-loop-s l = (x : ℕ) → x < l.s → uses_at l.stretch l.slots x ≡ 1 → ⊥
