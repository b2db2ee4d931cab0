-- `losses::kept_record_at` meets its contract: each answer is what the definition gives under the tests that led there. Assumes nothing.
use Prim.Native.Nat.{◌+◌, ◌-◌}
use mathlib.Core.Path.{◌≡◌, sym, ◌∙◌}
use native.Mathlib.Omega.{arith}
use lib.ListN.{length, take, drop, length-drop}
use lib.Seq.{length-take-le}
use Rattle.format.proofs.Headers.{part_from, extent_read}
use Rattle.records.specs.Record.{record_of}
use Rattle.losses.proofs.kept_record_at.Goals as goal

pub slice_bounds-kept_content_of-end : goal.slice_bounds-kept_content_of-end
slice_bounds-kept_content_of-end c =
    let w = extent_read c.args.f (take (length c.args.archive.now - c.args.place) (drop c.args.place c.args.archive.now))
    c.in-Ok.size (sym c.extent_of.ensures ∙ c.in-Ok.is) in
    sym (length-take-le c.in-Ok.size (take (length c.args.archive.now - c.args.place) (drop c.args.place c.args.archive.now))
    w.inside)

pub kept_content_of-requires : goal.kept_content_of-requires
unfolding record_of
kept_content_of-requires c =
    let rest = drop c.args.place c.args.archive.now in
    let e = rw (part_from c.args.place c.args.archive.now) at (sym c.extent_of.ensures ∙ c.in-Ok.is) in
    let w = extent_read c.args.f rest c.in-Ok.size e in
    let long = length-take-le c.in-Ok.size rest w.inside in
    let all = length-drop c.args.place c.args.archive.now in
    let z : c.args.place + c.in-Ok.size - c.args.place ≡ c.in-Ok.size = omega arith in
    rw (part_from c.args.place c.args.archive.now) (
      omega (arith, long, w.some),
      omega (arith, long, w.inside, all, c.requires.0),
      rw (e, z) at
          c.requires.2,
    )

pub overflow_add-result : goal.overflow_add-result
overflow_add-result c =
    let rest = drop c.args.place c.args.archive.now in
    let e = rw (part_from c.args.place c.args.archive.now) at (sym c.extent_of.ensures ∙ c.in-Ok.is) in
    let w = extent_read c.args.f rest c.in-Ok.size e in
    omega (arith, w.inside, length-drop c.args.place c.args.archive.now, c.requires.0)

pub returns-in-Err : goal.returns-in-Err
unfolding record_of
returns-in-Err c = let e = simp part_from at (sym c.extent_of.ensures ∙ c.in-Err.is) in rw (e, c.number.ensures)

pub returns-in-Ok : goal.returns-in-Ok
unfolding record_of
returns-in-Ok c =
    let e = simp part_from at (sym c.extent_of.ensures ∙ c.in-Ok.is) in
    rw (e, ← (simp part_from at c.kept_content_of.ensures))
