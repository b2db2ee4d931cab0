-- `put_answer_arguments` meets its contract: a report's arguments, and nothing for any other answer (no_arguments).
use mathlib.Core.Path.{sym}
use Rattle.format.specs.Limits.{small_format}
use Rattle.listings.specs.Listing.{answer_arguments}
use Rattle.lines.proofs.Puts.{adds_none, adds_same}
use Rattle.listings.proofs.Turns.{no_arguments}
use Rattle.listings.proofs.put_answer_arguments.Goals as goal

pub returns-in-Report : goal.returns-in-Report
unfolding answer_arguments
returns-in-Report c = rw c.in-Report.is c.put_arguments.ensures

pub returns-in_default : goal.returns-in_default
returns-in_default c =
    let none = no_arguments small_format c.args.archive.now c.args.tables.now c.args.state c.args.answer c.in_default.not-Report in
    adds_same (adds_none c.args.out.now) (sym none)
