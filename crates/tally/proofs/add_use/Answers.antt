-- `tally::add_use` meets its contract: each table and answer is what the definition gives for what the search found; the slot that is found is
-- below the capacity (here_below, free_below). Assumes nothing.
use mathlib.Core.Path.{refl}
use native.Mathlib.Omega.{arith}
use borrow.Author.Tests.{lt-ltb}
use Rattle.tally.proofs.Laws.{here_below, free_below}
use Rattle.tally.proofs.add_use.Goals as goal

-- the clauses, of their product
by_clause : {A B : Type 0} → A × B → record { value : A; slots_after : B }
by_clause w = record { value = w.0; slots_after = w.1 }

pub use_again-requires : goal.use_again-requires
use_again-requires c =
    (c.requires.0, here_below _ _ c.requires.0 c.find-slot.ensures c.in-Here.is)

pub fill-requires : goal.fill-requires
fill-requires c =
    (c.requires.0, free_below _ _ c.requires.0 c.find-slot.ensures c.in-Free.is, c.requires.1, c.requires.2)

pub returns-then-keys-most : goal.returns-then-keys-most
returns-then-keys-most c = by_clause (let low = free_below _ _ c.requires.0 c.find-slot.ensures c.in-Free.is in
    simp (← c.find-slot.ensures, c.in-Free.is, lt-ltb _ _ c.if-keys-most.true) ((refl, omega (arith, low, c.requires.0.low)), c.fill.ensures))

pub returns-in-Here : goal.returns-in-Here
returns-in-Here c = by_clause (let low = here_below _ _ c.requires.0 c.find-slot.ensures c.in-Here.is in
    simp (← c.find-slot.ensures, c.in-Here.is) ((refl, omega (arith, low, c.requires.0.low)), c.use_again.ensures))
