-- `put_provider` meets its contract: what is put is the definition's for each case of a provider.
use Rattle.lines.specs.Shown.{provider_shown}
use Rattle.lines.proofs.Cursor.put_provider.Goals as goal

pub returns-in-None : goal.returns-in-None
unfolding provider_shown
returns-in-None c = rw c.in-None.is c.put_bytes.ensures

pub returns-in-Some : goal.returns-in-Some
unfolding provider_shown
returns-in-Some c =
    rw (c.in-Some.is, ← c.from.ensures) c.put_number.ensures
