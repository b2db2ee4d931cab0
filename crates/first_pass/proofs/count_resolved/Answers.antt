-- `first_pass::count_resolved` meets its contract: what was looked up is counted, and bytes that are known stand in the archive (known_stands).
-- Assumes nothing.
use mathlib.Core.Path.{refl, sym, ◌∙◌}
use native.Mathlib.Omega.{arith}
use lib.ListN.{take, take-append-drop}
use lib.Seq.{length-take-le}
use Rattle.passes.proofs.Places.{known_stands}
use Rattle.first_pass.specs.Models.Count.{count_good, count_slots}
use Rattle.first_pass.proofs.Memory.{can_stand}
use Rattle.first_pass.proofs.count_resolved.Goals as goal

-- the clauses, of their product
by_clause : {A B : Type 0} → A × B → record { value : A; room_after : B }
by_clause w = record { value = w.0; room_after = w.1 }

pub slice_bounds-registrations-end-2 : goal.slice_bounds-registrations-end-2
slice_bounds-registrations-end-2 c =
    sym (length-take-le c.table_words-words.result c.args.room.now (omega (arith, c.table_words-words.ensures, c.requires.0.wide)))

pub invariant_of-registrations-clause-addressed : goal.invariant_of-registrations-clause-addressed
invariant_of-registrations-clause-addressed c = c.requires.0.fits

pub invariant_of-registrations-clause-bounded : goal.invariant_of-registrations-clause-bounded
invariant_of-registrations-clause-bounded c = omega (arith, c.requires.0.short)

pub invariant_of-registrations-clause-lent : goal.invariant_of-registrations-clause-lent
invariant_of-registrations-clause-lent c =
    let long = length-take-le c.table_words-words.result c.args.room.now (omega (arith, c.table_words-words.ensures, c.requires.0.wide)) in
    rw long (omega (arith, c.table_words-words.ensures))

pub invariant_of-registrations-clause-one_of_nine : goal.invariant_of-registrations-clause-one_of_nine
invariant_of-registrations-clause-one_of_nine c = c.requires.0.low

pub count_known-requires : goal.count_known-requires
count_known-requires c =
    let k = known_stands c.args.f c.args.archive.now (take c.table_words-words.result c.args.room.now) c.args.context c.args.table
    c.args.until c.args.reference
    c.in-Known.place c.in-Known.length (can_stand c.args.archive.now c.args.reference c.requires.3) (sym c.resolve.ensures
    ∙ c.in-Known.is) in
    (c.requires.0, c.requires.1, c.requires.2, omega (arith, k.inside, c.requires.0.short), k.short)

pub returns-in-Bad : goal.returns-in-Bad
unfolding count_good count_slots
returns-in-Bad c = by_clause (simp (← c.table_words-words.ensures, ← c.resolve.ensures, c.in-Bad.is) (
  refl,
  sym (take-append-drop c.table_words-words.result c.args.room.now),
))

pub returns-in-Unresolved : goal.returns-in-Unresolved
unfolding count_good count_slots
returns-in-Unresolved c = by_clause (simp (← c.table_words-words.ensures, ← c.resolve.ensures, c.in-Unresolved.is) (
  refl,
  sym (take-append-drop c.table_words-words.result c.args.room.now),
))

pub returns-in-Known : goal.returns-in-Known
returns-in-Known c = by_clause (let is = rw c.table_words-words.ensures at (sym c.resolve.ensures ∙ c.in-Known.is) in
    rw is (c.count_known.ensures.value, c.count_known.ensures.room_after))
