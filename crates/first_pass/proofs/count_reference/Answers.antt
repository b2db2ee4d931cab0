-- `first_pass::count_reference` meets its contract: a slot that is remembered is used again (again_counts); otherwise what was looked up is counted.
-- Assumes nothing.
use mathlib.Core.Path.{sym, ◌∙◌}
use Rattle.first_pass.proofs.Laws.{again_fits, again_counts}
use Rattle.first_pass.proofs.count_reference.Goals as goal

pub use_again-requires : goal.use_again-requires
use_again-requires c =
    again_fits c.args.f c.args.archive.now c.args.room.now c.args.context c.args.until
    (record { table = c.args.table; reference = c.args.reference }) c.table_words-words.result c.in-Some.slot c.requires.0
    c.requires.4 c.requires.1 c.requires.2
    c.table_words-words.ensures (sym c.in-Some.is ∙ c.recall.ensures)

pub returns-in-Some : goal.returns-in-Some
returns-in-Some c =
    let counts = again_counts c.args.f c.args.archive.now c.args.room.now c.args.context c.args.until
    (record { table = c.args.table; reference = c.args.reference }) c.table_words-words.result c.in-Some.slot c.requires.0
    c.requires.4 c.requires.1 c.requires.2
    c.table_words-words.ensures (sym c.in-Some.is ∙ c.recall.ensures) c.use_again.new.slots c.use_again.ensures in
    record { value = counts.0; room_after = counts.1 }
