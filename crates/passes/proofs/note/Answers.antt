-- `passes::note` meets its contract: the position of the entry is one of the tables' words (at_lt). Assumes nothing.
use native.Mathlib.Omega.{arith}
use Rattle.tables.proofs.Tables.{at_lt}
use Rattle.passes.proofs.note.Goals as goal

pub remember-requires : goal.remember-requires
remember-requires c =
    let low = at_lt c.args.f c.args.context c.args.table c.in-Index.index c.position_of-at.result c.position_of-at.ensures c.requires.2
    (omega (arith, c.if-index-highest_of.true, c.highest_of.ensures)) in
    (rw c.table_words.ensures c.requires.1, omega (arith, c.table_words.ensures, low), c.requires.3)
