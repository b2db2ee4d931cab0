-- `reader::show_argument` meets its contract: each answer is what the definition gives under the tests that led there. Assumes nothing.
use Rattle.tables.specs.Table.{resolved}
use Rattle.views.specs.Shown.{none_bad, is_bad, shown_value}
use Rattle.reader.proofs.show_argument.Goals as goal

pub returns-then-is_bad : goal.returns-then-is_bad
unfolding none_bad shown_value is_bad resolved
returns-then-is_bad c = simp (c.at-foreign.ensures, c.if-is_bad.true, ← c.is_bad.ensures, ← c.resolve-named.ensures)

pub returns-then-is_bad-2 : goal.returns-then-is_bad-2
unfolding none_bad shown_value is_bad resolved
returns-then-is_bad-2 c =
    simp (
      c.at-foreign.ensures,
      c.if-is_bad-2.true,
      ← c.is_bad-in-Text.ensures,
      ← c.resolve-held.ensures,
      c.in-Text.is,
      c.if-is_bad.false,
      ← c.is_bad.ensures,
      ← c.resolve-named.ensures,
    )

pub returns-in-Scalar : goal.returns-in-Scalar
unfolding none_bad shown_value is_bad resolved
returns-in-Scalar c =
    simp (← c.shown_text.ensures, c.in-Scalar.is, c.if-is_bad.false, ← c.is_bad.ensures, ← c.resolve-named.ensures)

pub returns-else-is_bad-2 : goal.returns-else-is_bad-2
unfolding none_bad shown_value is_bad resolved
returns-else-is_bad-2 c =
    simp (
      ← c.shown_text-in-Text-2.ensures,
      ← c.shown_text-in-Text.ensures,
      c.if-is_bad-2.false,
      ← c.is_bad-in-Text.ensures,
      ← c.resolve-held.ensures,
      c.in-Text.is,
      c.if-is_bad.false,
      ← c.is_bad.ensures,
      ← c.resolve-named.ensures,
    )
