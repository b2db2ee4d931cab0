-- `find` meets its contract: each turn leaves the entries behind one with another index (find_later). Assumes nothing.
use Prim.Native.Nat.{ℕ, ◌+◌}
use mathlib.Core.Path.{◌≡◌, refl, sym, ap, ◌∙◌}
use mathlib.Core.List.{List}
use native.Mathlib.Omega.{arith}
use borrow.Author.Tests.{eq-eqb, ne_eqb}
use Rattle.sheets.specs.Sheet.{find_of, found_at, index_at, number_at, text_at, end_at}
use Rattle.sheets.proofs.Turns.{whole-ends, find_here, find_later, find_none, find_cut}
use Rattle.sheets.proofs.find.Goals as goal

pub loop-at-init : goal.loop-at-init
unfolding find_of
loop-at-init c = refl

pub returns-then-not-is_whole : goal.returns-then-not-is_whole
returns-then-not-is_whole c =
    sym (c.loop-at.invariant ∙ find_cut c.args.sheet.now c.args.index c.loop-at.at c.loop-at-test.true (sym c.if-not-is_whole.ensures))

pub number-length-requires : goal.number-length-requires
number-length-requires c =
    let ends = whole-ends _ _ (sym c.if-not-is_whole.ensures) in omega arith

pub number-requires : goal.number-requires
number-requires c =
    let ends = whole-ends _ _ (sym c.if-not-is_whole.ensures) in omega arith

pub returns-then-number-index : goal.returns-then-number-index
returns-then-number-index c =
    let sheet : List ℕ = c.args.sheet.now in
    let at : ℕ = c.loop-at.at in
    let own : index_at sheet at ≡ c.args.index = ap (number_at sheet) (omega arith) ∙ sym c.number.ensures.0 ∙ c.if-number-index.true in
    let here = find_here sheet c.args.index at c.loop-at-test.true (sym c.if-not-is_whole.ensures) (eq-eqb _ _ own) in
    sym (c.loop-at.invariant ∙ here ∙ ap (found_at (text_at at)) (sym c.number-length.ensures.0))

pub loop-at-preserved : goal.loop-at-preserved
loop-at-preserved c =
    let sheet : List ℕ = c.args.sheet.now in
    let at : ℕ = c.loop-at.at in
    let other : index_at sheet at ≡ c.args.index → ⊥ = λ e. c.if-number-index.false (c.number.ensures.0 ∙ ap (number_at sheet) (omega arith) ∙ e) in
    let next : at + (4 + c.number-length.result) ≡ end_at sheet at = omega (arith, c.number-length.ensures.0) in
    c.loop-at.invariant
    ∙ find_later sheet c.args.index at c.loop-at-test.true (sym c.if-not-is_whole.ensures) (ne_eqb _ _ other)
    ∙ rw next

pub returns : goal.returns
returns c =
    sym (c.loop-at.invariant ∙ find_none c.args.sheet.now c.args.index c.loop-at.at (omega arith))
