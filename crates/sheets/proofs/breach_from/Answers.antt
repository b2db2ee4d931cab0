-- `breach_from` meets its contract: each turn leaves the entries behind a good one (bad_later). Assumes nothing.
use Prim.Native.Nat.{◌+◌}
use mathlib.Core.Path.{◌≡◌, sym, ◌∙◌}
use native.Mathlib.Omega.{arith}
use Rattle.sheets.specs.Sheet.{end_at}
use Rattle.sheets.proofs.Turns.{good_is, bad_here, bad_later, bad_none}
use Rattle.sheets.proofs.breach_from.Goals as goal

pub returns-then-not-is_good : goal.returns-then-not-is_good
returns-then-not-is_good c =
    sym (c.loop-at.invariant.1
    ∙ bad_here c.args.sheet.now c.args.longest c.loop-at.before c.loop-at.at c.loop-at-test.true (sym c.if-not-is_good.ensures))

pub number-before-requires : goal.number-before-requires
number-before-requires c = let g = good_is _ _ _ _ (sym c.if-not-is_good.ensures) in omega arith

pub number-requires : goal.number-requires
number-requires c = let g = good_is _ _ _ _ (sym c.if-not-is_good.ensures) in omega arith

pub loop-at-preserved : goal.loop-at-preserved
loop-at-preserved c =
    let g = good_is _ _ _ _ (sym c.if-not-is_good.ensures) in
    let next : c.loop-at.at + (4 + c.number.result) ≡ end_at c.args.sheet.now c.loop-at.at = omega (arith, c.number.ensures.0) in (
      omega (arith, g.whole),
      c.loop-at.invariant.1
          ∙ bad_later c.args.sheet.now c.args.longest c.loop-at.before c.loop-at.at c.loop-at-test.true (sym c.if-not-is_good.ensures)
          ∙ rw (next, ← c.number-before.ensures.0),
    )

pub returns : goal.returns
returns c =
    sym (c.loop-at.invariant.1 ∙ bad_none c.args.sheet.now c.args.longest c.loop-at.before c.loop-at.at (omega arith))
