-- The bytes before the turn are the same, so that those from there on decide.
use mathlib.Core.Path.{◌≡◌}
use lib.ListN.{drop}
use Rattle.words.specs.Stream.{same_bytes}
use Rattle.words.proofs.same_each.Given as goal

abbrev pub invariant-loop-i : goal.invariant-loop-i
invariant-loop-i l = same_bytes l.a l.b ≡ same_bytes (drop l.i l.a) (drop l.i l.b)
