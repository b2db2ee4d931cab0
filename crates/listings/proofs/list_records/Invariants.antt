use Prim.Native.Nat.{◌-◌}
use mathlib.Core.Path.{◌≡◌}
use Rattle.format.specs.Limits.{small_format}
use Rattle.listings.specs.Listing.{lines_from, tables_from, steps_of}
use Rattle.lines.proofs.Puts.{Leaves}
use Rattle.listings.proofs.list_records.Given as goal

abbrev pub invariant-loop : goal.invariant-loop
invariant-loop l =
    let all = steps_of l.archive in
    let left = steps_of l.archive - l.counter in
    (tables_from small_format l.archive all l.initial.state l.initial.tables ≡ tables_from small_format l.archive left l.state l.tables)
    × Leaves l.initial.out (lines_from small_format l.archive all l.initial.state l.initial.tables) l.out (lines_from small_format l.archive left l.state l.tables)
