-- `field` meets its contract: a shift and the mask of the width take out a field (mask, taken).
use Prim.Native.Nat.{◌+◌, ◌-◌}
use native.Mathlib.Numerals.{add-one}
use native.Mathlib.Omega.{arith}
use lib.Pow.{pow_pos}
use Rattle.words.proofs.Fields.{mask, taken}
use Rattle.words.proofs.field.Goals as goal

pub overflow_sub-result-2 : goal.overflow_sub-result-2
overflow_sub-result-2 c =
    let width = c.args.high + 1 - c.args.low in
    rw (mask width (omega arith)) (pow_pos width)

pub returns : goal.returns
returns c =
    let width = c.args.high + 1 - c.args.low in
    rw (mask width (omega arith), ← add-one c.args.high) (taken c.args.low width c.args.word)
