use Prim.Native.Nat.{◌+◌, ◌-◌}
use mathlib.Core.Path.{◌≡◌}
use lib.ListN.{length}
use Rattle.arguments.specs.Argument.{walked, arguments_of}
use Rattle.arguments.specs.Models.Reading.{start_of}
use Rattle.arguments.proofs.Arguments.{start_from}
use Rattle.arguments.proofs.seek.Given as goal

-- where the arguments end, and where the asked one starts, are found in those that are left
abbrev pub invariant-loop-here : goal.invariant-loop-here
invariant-loop-here l = record {
  ends : walked (arguments_of l.f l.count l.part l.place) ≡ walked (arguments_of l.f (l.count - l.here) l.rest l.at);
  room : l.at + length l.rest ≡ l.place + length l.part;
  starts : start_of l.f l.number l.part l.place ≡ start_from l.f (l.count - l.here) (l.count - l.number) l.start l.rest l.at;
}
