-- `Registrations::resolve` meets its contract: each answer is what the definition gives under the tests that led there; an entry stands inside the tables (at_lt). Assumes nothing.
use borrow.Author.Tests.{eq-eqb, ne_eqb, lt-ltb, le-ltb}
use native.Mathlib.Omega.{arith}
use Rattle.tables.specs.Table.{resolved}
use Rattle.tables.proofs.Tables.{at_lt}
use Rattle.tables.proofs.Registrations.resolve.Goals as goal

pub returns-then-highest_of-index : goal.returns-then-highest_of-index
unfolding resolved
returns-then-highest_of-index c = simp (lt-ltb _ _ c.if-highest_of-index.true, ← c.highest_of.ensures, c.in-Index.is)

pub offset_bounds-self-at : goal.offset_bounds-self-at
offset_bounds-self-at c =
    let h = at_lt _ _ _ _ _ c.position_of-at.ensures (omega (arith, c.args.self.now.one_of_nine)) (omega (arith, c.if-highest_of-index.false)) in omega (arith, h)

pub bounds-self-at : goal.bounds-self-at
bounds-self-at c =
    let h = at_lt _ _ _ _ _ c.position_of-at.ensures (omega (arith, c.args.self.now.one_of_nine)) (omega (arith, c.if-highest_of-index.false)) in
    omega (arith, h)

pub returns-then-entry-eq0 : goal.returns-then-entry-eq0
unfolding resolved
returns-then-entry-eq0 c =
    simp (eq-eqb _ _ c.if-entry-eq0.true, ← c.position_of-at.ensures, le-ltb _ _ c.if-highest_of-index.false, ← c.highest_of.ensures, c.in-Index.is)

pub returns-in-Inline : goal.returns-in-Inline
unfolding resolved
returns-in-Inline c = simp c.in-Inline.is

pub returns-else-entry-eq0 : goal.returns-else-entry-eq0
unfolding resolved
returns-else-entry-eq0 c =
    simp (
      ← c.entry_at.ensures,
      ne_eqb _ _ c.if-entry-eq0.false,
      ← c.position_of-at.ensures,
      le-ltb _ _ c.if-highest_of-index.false,
      ← c.highest_of.ensures,
      c.in-Index.is,
    )
