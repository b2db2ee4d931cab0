use Prim.Native.Nat.{◌+◌, ◌-◌}
use mathlib.Core.Path.{◌≡◌}
use lib.ListN.{length}
use Rattle.losses.specs.Models.Checking.{checked_arguments}
use Rattle.losses.proofs.Checking.{end_from}
use Rattle.losses.proofs.check_arguments.Given as goal

-- the walk over all comes to what it comes to from here, where all before keeps or not
abbrev pub invariant-loop : goal.invariant-loop
invariant-loop l = record {
  walk : checked_arguments l.f l.count l.part l.place l.extra ≡ end_from l.f l.keeps (l.count - l.counter) l.rest l.at l.extra;
  room : l.at + length l.rest ≡ l.place + length l.part;
}
