-- `passes::renew` meets its contract: the position of the entry is one of the tables' words (at_lt). Assumes nothing.
use mathlib.Core.Path.{subst, sym, ◌∙◌}
use native.Mathlib.Omega.{arith}
use Rattle.tables.proofs.Tables.{at_lt}
use Rattle.passes.specs.Models.Memory.{RenewFits}
use Rattle.passes.proofs.renew.Goals as goal

pub remember-requires : goal.remember-requires
remember-requires c =
    let fit = subst (RenewFits c.args.f) (sym c.effect_of-effect.ensures ∙ c.in-Register.is) c.requires.3 in
    let low = at_lt c.args.f _ c.in-Register.table c.in-Register.index c.position_of-entry.result c.position_of-entry.ensures
    (omega (arith, c.requires.2)) fit.0 in
    (rw c.table_words.ensures c.requires.1, omega (arith, c.table_words.ensures, low), c.registered_slot-slot.ensures.1)
