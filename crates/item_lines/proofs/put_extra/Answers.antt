-- `put_extra` meets its contract: a number where the type has an extra word, else nothing.
use Rattle.item_lines.specs.Line.{extra_shown}
use Rattle.lines.proofs.Puts.{adds_none}
use Rattle.item_lines.proofs.put_extra.Goals as goal

pub returns-then-has_extra : goal.returns-then-has_extra
unfolding extra_shown
returns-then-has_extra c =
    rw (← c.from.ensures, ← c.has_extra.ensures, c.if-has_extra.true) c.put_number.ensures

pub returns-else-has_extra : goal.returns-else-has_extra
unfolding extra_shown
returns-else-has_extra c =
    rw (← c.from.ensures, ← c.has_extra.ensures, c.if-has_extra.false) (adds_none c.args.out.now)
