-- `first_word` meets its contract: std's sum of the eight bytes is the number that they spell (little-sum).
use Rattle.words.proofs.Words.{little-sum}
use Rattle.words.proofs.first_word.Goals as goal

pub returns : goal.returns
returns c = rw (c.from_le_bytes.ensures, little-sum)
