-- `losses::stream_keeps` meets its contract: each answer is what the definition gives under the tests that led there. Assumes nothing.
use native.Mathlib.Omega.{arith}
use Rattle.records.specs.Loss.{stream_keeps}
use Rattle.losses.proofs.stream_keeps.Goals as goal

pub words_keep-requires : goal.words_keep-requires
words_keep-requires c = omega (arith, c.stream_words.ensures, c.requires.2)

pub returns-then-words_keep : goal.returns-then-words_keep
unfolding stream_keeps
returns-then-words_keep c = simp (← c.padding_zero.ensures, c.if-words_keep.true, ← c.words_keep.ensures, ← c.stream_words.ensures)

pub returns-else-words_keep : goal.returns-else-words_keep
unfolding stream_keeps
returns-else-words_keep c = simp (c.if-words_keep.false, ← c.words_keep.ensures, ← c.stream_words.ensures)
