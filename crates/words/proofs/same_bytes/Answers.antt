-- `same_bytes` meets its contract: each turn compares one word and leaves the bytes behind it (words_same), and behind the turns the last word decides (last_decides).
use Prim.Native.Nat.{◌+◌, ◌-◌, ◌*◌}
use mathlib.Core.Path.{◌≡◌, refl, sym, ◌∙◌}
use native.Mathlib.Omega.{arith}
use lib.ListN.{length}
use Rattle.words.proofs.Words.{AllBytes}
use Rattle.words.proofs.Same.{same_length, words_same, words_differ, last_decides}
use borrow.Author.Rules.{rules}
use Rattle.words.proofs.same_bytes.Goals as goal

pub returns-then-a-b : goal.returns-then-a-b
returns-then-a-b c =
    sym (same_length c.args.a.now c.args.b.now (λ e. omega (arith, e, c.if-a-b.true)))

pub loop-i-init : goal.loop-i-init
loop-i-init c = refl

pub returns-then-little_word : goal.returns-then-little_word
returns-then-little_word c =
    sym (words_differ c.args.a.now c.args.b.now (8 * c.loop-i.i) (λ e. c.if-little_word.true (c.little_word.ensures ∙ e
    ∙ sym c.little_word-in-loop-i.ensures)))

pub loop-i-preserved : goal.loop-i-preserved
loop-i-preserved c =
    let p : AllBytes c.args.a.now = search rules in
    let q : AllBytes c.args.b.now = search rules in
    let next : 8 * (c.loop-i.i + 1) ≡ 8 * c.loop-i.i + 8 = omega arith in
    rw next
    (c.loop-i.invariant
    ∙ words_same c.args.a.now c.args.b.now p q (8 * c.loop-i.i) (omega arith) (omega arith)
    (sym c.little_word.ensures ∙ c.if-little_word.false ∙ c.little_word-in-loop-i.ensures))

pub returns : goal.returns
returns c =
    let p : AllBytes c.args.a.now = search rules in
    let q : AllBytes c.args.b.now = search rules in
    rw (c.little_word-2.ensures, c.little_word-3.ensures)
    (last_decides c.args.a.now c.args.b.now p q (length c.args.a.now - 8) (8 * c.loop-i.i) (omega arith) (omega arith) (omega arith) c.loop-i.invariant)
