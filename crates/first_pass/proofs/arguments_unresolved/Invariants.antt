use Prim.Native.Nat.{◌+◌, ◌-◌}
use mathlib.Core.Path.{◌≡◌}
use lib.ListN.{length}
use Rattle.arguments.specs.Argument.{arguments_read}
use Rattle.records.specs.Lookups.{argument_lookups}
use Rattle.first_pass.specs.Models.Count.{any_unresolved}
use Rattle.first_pass.proofs.arguments_unresolved.Given as goal

-- the references of all are unresolved where those that are left are
abbrev pub invariant-loop : goal.invariant-loop
invariant-loop l =
    (any_unresolved l.registrations.format l.registrations.archive.now l.registrations.words.now l.registrations.context l.registrations.until
    (argument_lookups (arguments_read l.registrations.format l.count l.part l.place))
    ≡ any_unresolved l.registrations.format l.registrations.archive.now l.registrations.words.now l.registrations.context l.registrations.until
    (argument_lookups (arguments_read l.registrations.format (l.count - l.counter) l.rest l.at)))
    × (l.at + length l.rest ≡ l.place + length l.part)
