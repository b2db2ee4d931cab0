-- `is_good` meets its contract: each answer is what the definition gives under the tests that led there. Assumes nothing.
use Rattle.std.proofs.Common.{arith, sym}
use Rattle.std.proofs.lemmas.Bool.Decides.{nat_tests}
use Rattle.sheets.specs.Sheet.{is_good}
use Rattle.sheets.proofs.Turns.{whole-ends}
use Rattle.sheets.proofs.is_good.Goals as goal

pub returns-then-not-is_whole : goal.returns-then-not-is_whole
unfolding is_good
returns-then-not-is_whole c = rw (← c.if-not-is_whole.ensures)

pub number-index-requires : goal.number-index-requires
number-index-requires c =
    let ends = whole-ends _ _ (sym c.if-not-is_whole.ensures) in omega arith

pub number-requires : goal.number-requires
number-requires c =
    let ends = whole-ends _ _ (sym c.if-not-is_whole.ensures) in omega arith

pub returns-then-before-index : goal.returns-then-before-index
unfolding is_good
returns-then-before-index c =
    rw (← c.if-not-is_whole.ensures, ← c.number-index.ensures.0, ← c.number.ensures.0) (grind (arith, nat_tests))

pub returns-else-before-index : goal.returns-else-before-index
unfolding is_good
returns-else-before-index c =
    rw (← c.if-not-is_whole.ensures, ← c.number-index.ensures.0, ← c.number.ensures.0) (grind (arith, nat_tests))
