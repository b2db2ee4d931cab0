-- `tally::cost` meets its contract: what is not registered costs no more than it would registered (inline_least). Assumes nothing.
use mathlib.Core.Path.{sym, ◌∙◌}
use native.Mathlib.Omega.{arith}
use borrow.Author.Tests.{ne_eqb}
use Rattle.registering.proofs.Registers.{inline_least}
use Rattle.tally.specs.Models.Slots.{cost_of}
use Rattle.tally.proofs.cost.Goals as goal

pub returns : goal.returns
unfolding cost_of
returns c = (
  simp (
    ← c.place_in.ensures,
    ne_eqb _ _
        c.if-place_in-eq0.false,
    ← c.label_in.ensures,
    ← c.uses_in-uses.ensures.0,
    ← c.stream_words-words.ensures,
    ← c.is_registered.ensures,
    c.if-is_registered.false,
  ),
  omega
      (arith, inline_least _ _ (sym c.is_registered.ensures ∙ c.if-is_registered.false), c.stream_words-words.ensures),
)
