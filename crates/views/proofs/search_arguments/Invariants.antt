use Prim.Native.Nat.{◌+◌, ◌-◌}
use mathlib.Core.Path.{◌≡◌}
use lib.ListN.{length}
use Rattle.arguments.specs.Argument.{arguments_of}
use Rattle.views.specs.Models.Seen.{searched_of}
use Rattle.views.proofs.Searches.{keeping}
use Rattle.views.proofs.search_arguments.Given as goal

-- the search of all is that of those that are left, where the entries before were found or not
abbrev pub invariant-loop : goal.invariant-loop
invariant-loop l = record {
  search : searched_of l.registrations.format l.registrations.archive.now l.registrations.words.now l.registrations.context l.registrations.until (arguments_of l.registrations.format l.count l.part l.place)
      ≡ keeping l.found (searched_of l.registrations.format l.registrations.archive.now l.registrations.words.now l.registrations.context l.registrations.until (arguments_of l.registrations.format (l.count - l.counter) l.rest l.at));
  room : l.at + length l.rest ≡ l.place + length l.part;
}
