-- `first_breach` meets its contract. Assumes nothing.
use mathlib.Core.Path.{sym}
use Rattle.sheets.specs.Sheet.{breach_of}
use Rattle.sheets.proofs.Turns.{has_bytes}
use Rattle.sheets.proofs.first_breach.Goals as goal

pub returns-then-not-has_version : goal.returns-then-not-has_version
unfolding breach_of
returns-then-not-has_version c = rw (← c.if-not-has_version.ensures)

pub breach_from-requires : goal.breach_from-requires
breach_from-requires c = has_bytes c.args.sheet.now (sym c.if-not-has_version.ensures)

pub returns : goal.returns
unfolding breach_of
returns c = rw (← c.if-not-has_version.ensures) c.breach_from.ensures
