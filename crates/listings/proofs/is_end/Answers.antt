-- `is_end` meets its contract for an end and for any other answer.
use mathlib.Core.Path.{sym}
use Rattle.listings.specs.Listing.{is_end}
use Rattle.listings.proofs.Turns.{other_end}
use Rattle.listings.proofs.is_end.Goals as goal

pub returns-in-End : goal.returns-in-End
unfolding is_end
returns-in-End c = rw c.in-End.is

pub returns-in_default : goal.returns-in_default
returns-in_default c = sym (other_end c.args.answer c.in_default.not-End)
