-- `tally::find` meets its contract: each turn passes one taken slot of another key and leaves the search behind it (seek-on). Assumes nothing.
use Prim.Native.Nat.{◌+◌, ◌-◌}
use mathlib.Core.Path.{◌≡◌, refl, sym, ◌∙◌}
use native.Mathlib.Omega.{arith}
use Rattle.tally.specs.Models.Slots.{find_of}
use Rattle.tally.proofs.Probing.{start_low, next_low}
use Rattle.tally.proofs.Laws.{seek-none, seek-free, seek_here, seek-on}
use Rattle.tally.proofs.find.Goals as goal

pub loop-init : goal.loop-init
unfolding find_of
loop-init c =
    let all : c.args.stretch - 18 - 0 ≡ c.args.stretch - 18 = omega arith in
    rw (c.first_slot-s.ensures, all) (start_low _ _ (omega (arith, c.requires.0.some)), refl)

pub returns-then-p-eq0 : goal.returns-then-p-eq0
returns-then-p-eq0 c =
    sym (c.loop.invariant.1 ∙ seek-free _ _ _ _ _ _ (omega (arith, c.loop-test.true)) (sym c.place_in-p.ensures ∙ c.if-p-eq0.true))

pub returns-then-same_key : goal.returns-then-same_key
returns-then-same_key c =
    sym (c.loop.invariant.1 ∙ seek_here _ _ _ _ _ _ (omega (arith, c.loop-test.true)) (λ z. c.if-p-eq0.false (c.place_in-p.ensures ∙ z))
    (rw (← c.place_in-p.ensures, ← c.label_in-own.ensures) (sym c.same_key.ensures ∙ c.if-same_key.true)))

pub loop-preserved : goal.loop-preserved
loop-preserved c =
    let left : c.args.stretch - 18 - (c.loop.counter + 1) ≡ c.args.stretch - 18 - c.loop.counter - 1 = omega arith in (
      rw c.next_slot-s.ensures (next_low _ _ c.loop.invariant.0),
      c.loop.invariant.1
          ∙ rw left (seek-on _ _ _ _ _ _ (omega (arith, c.loop-test.true)) (λ z. c.if-p-eq0.false (c.place_in-p.ensures ∙ z))
          (rw (← c.place_in-p.ensures, ← c.label_in-own.ensures) (sym c.same_key.ensures ∙ c.if-same_key.false)) _ c.next_slot-s.ensures),
    )

pub returns : goal.returns
returns c =
    let none : c.args.stretch - 18 - c.loop.counter ≡ 0 = omega (arith, c.loop-test.false) in
    sym (c.loop.invariant.1 ∙ rw none (seek-none _ _ _ _ _))
