use Prim.Native.Nat.{◌+◌, ◌-◌}
use lib.ListN.{length}
use Rattle.arguments.specs.Argument.{arguments_read}
use Rattle.first_pass.proofs.Laws.{Walk}
use Rattle.first_pass.proofs.count_arguments.Given as goal

abbrev pub invariant-loop : goal.invariant-loop
invariant-loop l = Walk l.f l.archive l.initial.room l.context l.until (arguments_read l.f l.count l.part l.place) (l.place + length
    l.part) l.room (l.count - l.counter) l.rest l.at l.good l.words l.count
