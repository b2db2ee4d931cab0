-- `losses::words_keep` meets its contract: each answer is what the definition gives under the tests that led there. Assumes nothing.
use borrow.Author.Tests.{eq-eqb, ne_eqb}
use Rattle.records.specs.Loss.{words_keep}
use Rattle.losses.proofs.words_keep.Goals as goal

pub returns-else-source-size : goal.returns-else-source-size
unfolding words_keep
returns-else-source-size c = simp (ne_eqb _ _ c.if-source-size.false)

pub returns-then-source-size : goal.returns-then-source-size
unfolding words_keep
returns-then-source-size c = simp (eq-eqb _ _ c.if-source-size.true)
