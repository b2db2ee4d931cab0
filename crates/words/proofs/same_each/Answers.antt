-- `same_each` meets its contract: each turn compares one byte and leaves the bytes behind it (same_turn).
use Prim.Native.Nat.{ℕ}
use lib.ListN.{drop_of_length-le}
use Rattle.std.proofs.Common.{rules}
use Rattle.words.proofs.Same.{same_turn}
use Rattle.words.proofs.same_each.Goals as goal

pub returns-then-a-i : goal.returns-then-a-i
returns-then-a-i c = search (rules, same_turn)

pub loop-i-preserved : goal.loop-i-preserved
loop-i-preserved c = search (rules, same_turn)

pub returns : goal.returns
returns c = search (rules, drop_of_length-le {A = ℕ})
