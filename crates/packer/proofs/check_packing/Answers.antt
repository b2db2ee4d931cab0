-- `packer::check_packing` meets its contract: it is the check of an archive and so many lent words. Assumes nothing.
use Rattle.packer.specs.Pack.{packing_number}
use Rattle.packer.proofs.check_packing.Goals as goal

pub returns : goal.returns
unfolding packing_number
returns c = rw (c.number-short.ensures, c.table_words.ensures) at c.check_archive.ensures
