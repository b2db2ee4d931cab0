-- `losses::checked_record_at` meets its contract: each answer is what the definition gives under the tests that led there. Assumes nothing.
use Prim.Native.Nat.{◌+◌, ◌-◌}
use mathlib.Core.Path.{◌≡◌, refl, sym, ◌∙◌}
use native.Mathlib.Omega.{arith}
use lib.ListN.{length, take, drop, length-drop}
use lib.Seq.{length-take-le}
use Rattle.format.proofs.Headers.{part_from, extent_read}
use Rattle.records.specs.Record.{record_of}
use Rattle.records.specs.Loss.{record_keeps}
use Rattle.losses.proofs.checked_record_at.Goals as goal

-- the clauses, of their product
by_clause : {A B : Type 0} → A × B → record { record_value : A; keeps_value : B }
by_clause w = record { record_value = w.0; keeps_value = w.1 }

pub slice_bounds-checked_content_of-end : goal.slice_bounds-checked_content_of-end
slice_bounds-checked_content_of-end c =
    let rest = take (length c.args.archive.now - c.args.place) (drop c.args.place c.args.archive.now) in
    let w = extent_read c.args.f rest c.in-Ok.size (sym c.extent_of.ensures ∙ c.in-Ok.is) in
    sym (length-take-le c.in-Ok.size rest w.inside)

pub checked_content_of-checked-requires : goal.checked_content_of-checked-requires
checked_content_of-checked-requires c =
    let rest = drop c.args.place c.args.archive.now in
    let e = rw (part_from c.args.place c.args.archive.now) at (sym c.extent_of.ensures ∙ c.in-Ok.is) in
    let w = extent_read c.args.f rest c.in-Ok.size e in
    let long = length-take-le c.in-Ok.size rest w.inside in
    let all = length-drop c.args.place c.args.archive.now in
    rw (part_from c.args.place c.args.archive.now) (omega (arith, long, w.some), omega (arith, long, w.inside, all, c.requires.0))

pub overflow_add-result : goal.overflow_add-result
overflow_add-result c =
    let rest = drop c.args.place c.args.archive.now in
    let e = rw (part_from c.args.place c.args.archive.now) at (sym c.extent_of.ensures ∙ c.in-Ok.is) in
    let w = extent_read c.args.f rest c.in-Ok.size e in
    omega (arith, w.inside, length-drop c.args.place c.args.archive.now, c.requires.0)

pub returns-in-Err : goal.returns-in-Err
unfolding record_of record_keeps
returns-in-Err c = by_clause (let e = rw (part_from c.args.place c.args.archive.now) at (sym
    c.extent_of.ensures ∙ c.in-Err.is) in
    rw (e, c.number.ensures) (refl, refl))

pub returns-in-Ok : goal.returns-in-Ok
unfolding record_of
returns-in-Ok c = by_clause (let e = rw (part_from c.args.place c.args.archive.now) at (sym c.extent_of.ensures ∙ c.in-Ok.is) in
    let checked = rw (part_from c.args.place c.args.archive.now) at c.checked_content_of-checked.ensures in
    let z : c.args.place + c.in-Ok.size - c.args.place ≡ c.in-Ok.size = omega arith in rw (e, z) (rw checked.0 refl, checked.1))
