-- `reader::step` meets its contract: each answer is what the definition gives under the tests that led there. Assumes nothing.
use native.Mathlib.Omega.{arith}
use borrow.Author.Tests.{ne_eqb}
use mathlib.Core.Path.{refl, ap, sym, ◌∙◌}
use lib.ListN.{length}
use Rattle.format.specs.declared.Refused.{Refused}
use Rattle.effects.specs.Follow.{changed}
use Rattle.tables.proofs.Tables.{small_fits}
use Rattle.reader.specs.Step.{opening_number, stopping, decision_of, reply_of}
use Rattle.reader.proofs.Steps.{admitted}
use Rattle.reader.proofs.step.Goals as goal

-- the clauses, of their product
by_clause : {A B : Type 0} → A × B → record { value : A; tables_after : B }
by_clause w = record { value = w.0; tables_after = w.1 }

pub check_opening-requires : goal.check_opening-requires
check_opening-requires c = rw c.small_format-f.ensures small_fits

pub returns-in-Err : goal.returns-in-Err
unfolding decision_of stopping changed
returns-in-Err c =
    let number = opening_number c.small_format-f.result c.args.archive.now (length c.args.tables.now) in
    by_clause (simp (
      ← c.small_format-f.ensures,
      ne_eqb number 0 (λ z. omega (arith, z, c.in-Err.ensures.0)),
    ) (c.stop.ensures ∙ ap (λ (r : Refused). reply_of (stopping c.args.state r.number 0)) c.in-Err.ensures.1, refl))

pub step_place-requires : goal.step_place-requires
step_place-requires c =
    let a = admitted c.small_format-f.result c.args.archive.now (length c.args.tables.now) c.in_default.ensures in
    (rw c.small_format-f.ensures small_fits, omega (arith, a.short), a.enough, sym c.belongs.ensures ∙ c.if-belongs.true)

pub returns-then-belongs : goal.returns-then-belongs
unfolding decision_of
returns-then-belongs c = by_clause (simp (
  ← c.small_format-f.ensures,
  c.in_default.ensures,
  ← c.belongs.ensures,
  c.if-belongs.true,
) (c.step_place.ensures.value, c.step_place.ensures.tables_after))

pub returns : goal.returns
unfolding decision_of stopping changed
returns c = by_clause (simp (
  ← c.small_format-f.ensures,
  c.in_default.ensures,
  ← c.belongs.ensures,
  c.if-belongs.false,
) (c.stop-2.ensures, refl))
