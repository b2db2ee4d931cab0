-- `tally::measure` meets its contract: the sum is that of the slots passed, and each adds less than 2 ^ 14. Assumes nothing.
use Prim.Native.Nat.{◌-◌}
use mathlib.Core.Path.{◌≡◌, ◌∙◌}
use native.Mathlib.Omega.{arith}
use Rattle.tally.specs.Models.Slots.{measure_of}
use Rattle.tally.proofs.measure.Goals as goal

pub returns : goal.returns
unfolding measure_of
returns c =
    let e : c.loop-s.s ≡ c.args.stretch - 18 = omega arith in
    (c.loop-s.invariant.1 ∙ rw e, omega (arith, c.loop-s.invariant.0, c.requires.low))
