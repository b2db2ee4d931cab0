-- `reader::check_opening` meets its contract: it is the check of an archive and so many lent words. Assumes nothing.
use Rattle.reader.specs.Step.{opening_number}
use Rattle.reader.proofs.check_opening.Goals as goal

pub returns : goal.returns
unfolding opening_number
returns c = rw (c.number-short.ensures, c.table_words.ensures) at c.check_archive.ensures
