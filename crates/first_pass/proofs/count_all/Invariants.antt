use Prim.Native.Nat.{◌-◌}
use lib.ListN.{length}
use Rattle.first_pass.proofs.Rooms.{RoomCounting}
use Rattle.first_pass.proofs.count_all.Given as goal

abbrev pub invariant-loop-s : goal.invariant-loop-s
invariant-loop-s l = RoomCounting l.f l.archive l.initial.room l.room l.s l.found l.words

abbrev pub decreases-loop-s : goal.decreases-loop-s
decreases-loop-s l = length l.archive - l.s.place
