-- `arguments::value_text` meets its contract: each answer is what the definition gives under the tests that led there. Assumes nothing.
use borrow.Author.Tests.{eq-eqb, ne_eqb, lt-ltb, le-ltb}
use Rattle.std.proofs.lemmas.Result.{err_from_is_err_and}
use Rattle.format.specs.Part.{take_parts, take_part, take_words}
use Rattle.arguments.specs.Models.Reading.{value_text}
use Rattle.arguments.proofs.value_text.Goals as goal

pub returns-in_err-text : goal.returns-in_err-text
unfolding value_text take_parts take_part
returns-in_err-text c =
    let by = err_from_is_err_and c.from_residual.result c.from_residual.ensures.1 in
    rw (by.1, by.2) simp (c.in_err-text.was, ← c.take_text.ensures, ← c.field.ensures, eq-eqb _ _ c.if-variant-eq6.true, ← c.field-variant.ensures)

pub returns-then-variant-eq6 : goal.returns-then-variant-eq6
unfolding value_text take_parts take_part
returns-then-variant-eq6 c =
    simp (c.in_ok-text.was, ← c.take_text.ensures, ← c.field.ensures, eq-eqb _ _ c.if-variant-eq6.true, ← c.field-variant.ensures)

pub returns-then-place-argument : goal.returns-then-place-argument
unfolding value_text take_parts take_part take_words
returns-then-place-argument c = simp (
  lt-ltb _ _ c.if-place-argument.true,
  c.if-holds_word.true,
  ← c.holds_word.ensures,
  ne_eqb _ _ c.if-variant-eq6.false,
  ← c.field-variant.ensures,
)

pub returns-else-place-argument : goal.returns-else-place-argument
unfolding value_text take_parts take_part take_words
returns-else-place-argument c = simp (
  le-ltb _ _ c.if-place-argument.false,
  c.if-holds_word.true,
  ← c.holds_word.ensures,
  ne_eqb _ _ c.if-variant-eq6.false,
  ← c.field-variant.ensures,
)

pub returns-else-holds_word : goal.returns-else-holds_word
unfolding value_text take_parts
returns-else-holds_word c =
    simp (c.if-holds_word.false, ← c.holds_word.ensures, ne_eqb _ _ c.if-variant-eq6.false, ← c.field-variant.ensures)
