use Prim.Native.Nat.{◌-◌}
use Rattle.format.specs.Limits.{small_format}
use Rattle.listings.specs.Listing.{argument_lines}
use Rattle.lines.proofs.Puts.{Leaves}
use Rattle.listings.proofs.put_arguments.Given as goal

abbrev pub invariant-loop-number : goal.invariant-loop-number
invariant-loop-number l =
    let lines = argument_lines small_format l.archive l.tables l.state l.place in
    Leaves l.initial.out (lines 0 l.count) l.out (lines l.number (l.count - l.number))
