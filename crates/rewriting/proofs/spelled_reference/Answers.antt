-- `spelled_reference` meets its contract: the bytes are those that stand in the archive.
use Rattle.rewriting.proofs.spelled_reference.Goals as goal

pub returns : goal.returns
returns c =
    rw (← c.text-bytes.ensures) c.referent_reference.ensures
