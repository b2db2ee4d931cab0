use Prim.Native.Nat.{◌-◌, ◌<◌}
use mathlib.Core.Path.{◌≡◌}
use Rattle.tally.specs.Models.Slots.{key_of, seek, find_of}
use Rattle.tally.proofs.find.Given as goal

abbrev pub invariant-loop : goal.invariant-loop
invariant-loop l = (l.s < l.capacity) × (find_of l.archive l.stretch l.slots (key_of l.archive l.place l.label)
    ≡ seek l.archive l.stretch l.slots (key_of l.archive l.place l.label) (l.capacity - l.counter) l.s)
