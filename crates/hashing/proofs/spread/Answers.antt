-- `hashing::spread` meets its contract: the halves are fields of the word, and so no product overflows (product_low). Assumes nothing.
use Rattle.std.proofs.Common.{◌*◌, arith}
use Rattle.hashing.specs.Models.Hash.{spread_of}
use Rattle.hashing.proofs.Laws.{product_low, turned}
use Rattle.hashing.proofs.spread.Goals as goal

pub overflow_mul-above : goal.overflow_mul-above
overflow_mul-above c =
    omega (arith, product_low c.field.result c.args.high (omega (arith, c.field.ensures)) c.requires.1)

pub overflow_mul-result : goal.overflow_mul-result
overflow_mul-result c =
    omega (arith, product_low c.field-2.result c.args.low (omega (arith, c.field-2.ensures)) c.requires.0)

pub returns : goal.returns
unfolding spread_of
returns c =
    let half = product_low c.field.result c.args.high (omega (arith, c.field.ensures)) c.requires.1 in
    rw (← c.field.ensures, ← c.field-2.ensures, c.rotate_left.ensures, turned (c.field.result * c.args.high) half)
