-- `count_same` meets its contract: each turn compares one pair and leaves the pairs behind it (pairs_turn). Assumes nothing.
use mathlib.Core.Path.{sym, ap, ◌∙◌}
use mathlib.Core.Bool.{Bool}
use native.Mathlib.Nat.{add-zero}
use native.Mathlib.Omega.{arith}
use lib.ListN.{drop_of_length-le}
use Rattle.words.specs.Word.{pick}
use Rattle.comparisons.specs.Pairs.{same_pairs}
use Rattle.comparisons.proofs.Pairs.{one_if, pairs_turn}
use Rattle.comparisons.proofs.count_same.Goals as goal

pub loop-length-preserved : goal.loop-length-preserved
loop-length-preserved g c =
    let same = c.requires.compares _ _ _ c.same.ensures in
    let one = c.from-count.ensures ∙ (one_if c.same.result).0 ∙ ap (λ (s : Bool). pick s 1 0) same in (
      omega (arith, c.from-count.ensures, (one_if c.same.result).1),
      pairs_turn c.args.lengths.now c.loop-length.left.now c.loop-length.right.now c.loop-length.length-index
          (same_pairs c.args.lengths.now c.args.a.now c.args.b.now)
          c.loop-length.count c.min-n.result c.min-m.result c.from-count.result c.loop-length-test.true c.min-n.ensures c.min-m.ensures
          one c.loop-length.invariant.1,
    )

pub returns : goal.returns
unfolding same_pairs
returns g c =
    sym (c.loop-length.invariant.1
    ∙ rw (drop_of_length-le c.args.lengths.now {i = c.loop-length.length-index} (omega arith)) (add-zero _))
