-- `records::last_word` meets its contract: each answer is what the definition gives under the tests that led there. Assumes nothing.
use borrow.Author.Tests.{eq-eqb, ne_eqb, lt-ltb, le-ltb}
use Rattle.records.specs.Layout.{last_word}
use Rattle.records.proofs.last_word.Goals as goal

pub returns-then-place-source : goal.returns-then-place-source
unfolding last_word
returns-then-place-source c = simp (lt-ltb _ _ c.if-place-source.true)

pub returns-then-behind-eq0 : goal.returns-then-behind-eq0
unfolding last_word
returns-then-behind-eq0 c = simp (eq-eqb _ _ c.if-behind-eq0.true, le-ltb _ _ c.if-place-source.false)

pub returns : goal.returns
unfolding last_word
returns c =
    simp (← c.word.ensures, ne_eqb _ _ c.if-behind-eq0.false, le-ltb _ _ c.if-place-source.false)
