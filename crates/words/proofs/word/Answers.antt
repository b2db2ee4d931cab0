-- `word` meets its contract: a word is read in its order (word-little).
use mathlib.Core.Path.{sym, ◌∙◌}
use Rattle.words.proofs.Words.{word-little}
use Rattle.words.proofs.word.Goals as goal

pub returns : goal.returns
returns c = let a = c.args in c.little_word.ensures ∙ sym (word-little a.order a.bytes.now a.place)
