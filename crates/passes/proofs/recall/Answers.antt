-- `passes::recall` meets its contract: the position of the entry is one of the tables' words (at_lt). Assumes nothing.
use native.Mathlib.Omega.{arith}
use Rattle.tables.proofs.Tables.{at_lt}
use Rattle.passes.proofs.recall.Goals as goal

pub remembered-requires : goal.remembered-requires
remembered-requires c =
    let low = at_lt c.args.f _ c.args.table c.in-Index.index c.position_of-own.result
    c.position_of-own.ensures (omega (arith, c.requires.2)) (omega (arith, c.if-highest_of-index.false, c.highest_of.ensures)) in
    (rw c.table_words.ensures c.requires.1, omega (arith, c.table_words.ensures, low))
