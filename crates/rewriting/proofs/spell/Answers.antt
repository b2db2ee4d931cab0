-- `spell` meets its contract: the slot that is remembered for a reference has the bytes of what it stands for, so that both are spelled alike
-- (slot_spells). Assumes nothing.
use mathlib.Core.Path.{sym, ◌∙◌}
use Rattle.rewriting.proofs.Remembering.{slot_can, slot_spells}
use Rattle.rewriting.proofs.spell.Goals as goal

pub spell_slot-requires : goal.spell_slot-requires
spell_slot-requires c =
    slot_can c.args.f c.args.archive.now c.args.room.now c.args.context c.args.until c.args.lookup c.table_words-words.result
    c.in-Some.slot c.requires.0 c.requires.1 c.requires.2
    c.table_words-words.ensures (sym c.in-Some.is ∙ c.recall.ensures)

pub returns-in-Some : goal.returns-in-Some
returns-in-Some c =
    slot_spells c.args.f c.args.archive.now c.args.room.now c.args.context c.args.until c.args.lookup c.table_words-words.result
    c.in-Some.slot c.requires.0 c.requires.1 c.requires.2
    c.table_words-words.ensures (sym c.in-Some.is ∙ c.recall.ensures) c.spell_slot.result c.spell_slot.ensures
