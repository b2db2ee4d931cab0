-- `reader::step_place` meets its contract: the record at the place is the one that its extent gives (source_here, cut_decides). Assumes nothing.
use native.Mathlib.Omega.{arith}
use borrow.Author.Tests.{eq-eqb, ne_eqb}
use mathlib.Core.Path.{refl, sym, ◌∙◌}
use lib.ListN.{length}
use Rattle.format.proofs.Headers.{part_from}
use Rattle.contexts.proofs.Contexts.{belongs_facts}
use Rattle.effects.specs.Follow.{changed}
use Rattle.reader.specs.Step.{stopping, place_decision}
use Rattle.reader.proofs.Steps.{source_here, cut_decides}
use Rattle.reader.proofs.step_place.Goals as goal

-- the clauses, of their product
by_clause : {A B : Type 0} → A × B → record { value : A; tables_after : B }
by_clause w = record { value = w.0; tables_after = w.1 }

pub returns-then-place-archive : goal.returns-then-place-archive
unfolding place_decision stopping changed
returns-then-place-archive c = by_clause (simp (eq-eqb _ _ c.if-place-archive.true) (c.stop.ensures, refl))

pub slice_bounds-rest-count : goal.slice_bounds-rest-count
slice_bounds-rest-count c =
    let b = belongs_facts c.args.s (length c.args.archive.now) c.requires.3 in omega (arith, b.inside)

pub slice_bounds-rest-start : goal.slice_bounds-rest-start
slice_bounds-rest-start c =
    let b = belongs_facts c.args.s (length c.args.archive.now) c.requires.3 in omega (arith, b.inside)

pub slice_bounds-step_record-end : goal.slice_bounds-step_record-end
slice_bounds-step_record-end c =
    let e = simp part_from at (sym c.extent_of.ensures ∙ c.in-Ok.is) in
    let h = source_here c.args.f c.args.archive.now c.args.s.place c.in-Ok.size e in
    simp part_from (sym h.long)

pub step_record-requires : goal.step_record-requires
step_record-requires c =
    let e = simp part_from at (sym c.extent_of.ensures ∙ c.in-Ok.is) in
    let h = source_here c.args.f c.args.archive.now c.args.s.place c.in-Ok.size e in
    let b = belongs_facts c.args.s (length c.args.archive.now) c.requires.3 in
    simp (part_from, h.long) (
      c.requires.0,
      c.requires.1,
      c.requires.2,
      b.few,
      omega (arith, b.few, b.known),
      (
        b.inside,
        h.some,
        omega (arith, h.inside, b.inside),
        (h.is, refl),
      ),
    )

pub returns-in-Err : goal.returns-in-Err
unfolding place_decision stopping changed
returns-in-Err c = by_clause (let e = simp part_from at (sym c.extent_of.ensures ∙ c.in-Err.is) in
    simp (ne_eqb _ _ c.if-place-archive.false, cut_decides c.args.f c.args.archive.now c.args.tables.now c.args.s c.in-Err.reason e, ← c.number.ensures)
    (c.stop-in-Err.ensures, refl))

pub returns-in-Ok : goal.returns-in-Ok
unfolding place_decision
returns-in-Ok c = by_clause (let e = simp part_from at (sym c.extent_of.ensures ∙ c.in-Ok.is) in
    let h = source_here c.args.f c.args.archive.now c.args.s.place c.in-Ok.size e in
    simp (ne_eqb _ _ c.if-place-archive.false, h.is)
    (simp (part_from, h.long) at c.step_record.ensures.value, simp (part_from, h.long) at c.step_record.ensures.tables_after))
