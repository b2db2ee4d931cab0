use Prim.Native.Nat.{◌+◌, ◌-◌}
use mathlib.Core.Path.{◌≡◌}
use lib.ListN.{length}
use Rattle.arguments.specs.Argument.{arguments_read}
use Rattle.records.specs.Lookups.{argument_lookups}
use Rattle.rewriting.proofs.Registering.{Registering}
use Rattle.rewriting.proofs.register_arguments.Given as goal

abbrev pub invariant-loop : goal.invariant-loop
invariant-loop l =
    Registering l.archive l.context l.until (λ f. argument_lookups (arguments_read f l.count l.part l.place)) l.initial.room l.initial.out
    (argument_lookups (arguments_read l.initial.out.format (l.count - l.counter) l.rest l.from)) l.room l.out
    × (l.from + length l.rest ≡ l.place + length l.part)
