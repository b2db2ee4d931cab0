-- `same_by_bytes` meets its contract: each turn compares one byte and leaves the bytes behind it (same_turn). Assumes nothing.
use Prim.Native.Nat.{ℕ}
use mathlib.Core.Path.{sym}
use lib.ListN.{drop_of_length-le}
use Rattle.std.proofs.Common.{rules}
use Rattle.words.proofs.Same.{same_length, same_turn}
use Rattle.comparisons.proofs.same_by_bytes.Goals as goal

pub returns-then-a-b : goal.returns-then-a-b
returns-then-a-b c = sym (same_length c.args.a.now c.args.b.now c.if-a-b.true)

pub returns-then-a-i : goal.returns-then-a-i
returns-then-a-i c = search (rules, same_turn)

pub loop-i-preserved : goal.loop-i-preserved
loop-i-preserved c = search (rules, same_turn)

pub returns : goal.returns
returns c = search (rules, drop_of_length-le {A = ℕ})
