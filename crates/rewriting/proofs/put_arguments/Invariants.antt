use Prim.Native.Nat.{◌+◌, ◌-◌}
use mathlib.Core.Path.{◌≡◌}
use lib.ListN.{length}
use Rattle.arguments.specs.Argument.{arguments_read}
use Rattle.rewriting.specs.Models.Write.{tables_in, slots_in}
use Rattle.rewriting.proofs.Spelling.{Walk}
use Rattle.rewriting.proofs.put_arguments.Given as goal

abbrev pub invariant-loop : goal.invariant-loop
invariant-loop l =
    Walk l.initial.out l.archive (tables_in l.initial.out.format l.room) (slots_in l.initial.out.format l.room) l.context l.until
    (arguments_read l.initial.out.format l.count l.part l.place) l.out (arguments_read l.initial.out.format (l.count - l.counter) l.rest l.from)
    × (l.from + length l.rest ≡ l.place + length l.part)
