-- `format::extent_of` meets its contract: each answer is what the definition gives under the tests that led there. Assumes nothing.
use native.Mathlib.Omega.{arith}
use Rattle.format.proofs.Headers.{words_lt}
use borrow.Author.Tests.{eq-eqb, ne_eqb, lt-ltb, le-ltb}
use Rattle.format.specs.Header.{extent_of}
use Rattle.format.proofs.extent_of.Goals as goal

pub returns-then-rest-lt8 : goal.returns-then-rest-lt8
unfolding extent_of
returns-then-rest-lt8 c = simp (lt-ltb _ _ c.if-rest-lt8.true)

pub returns-then-size-eq0 : goal.returns-then-size-eq0
unfolding extent_of
returns-then-size-eq0 c = simp (eq-eqb _ _ c.if-size-eq0.true, ← c.record_words-size.ensures, ← c.word.ensures, le-ltb _ _ c.if-rest-lt8.false)

pub overflow_mul-size : goal.overflow_mul-size
overflow_mul-size c = omega (arith, c.record_words-size.ensures, words_lt c.word.result)

pub returns-then-rest-size : goal.returns-then-rest-size
unfolding extent_of
returns-then-rest-size c = simp (
  lt-ltb _ _ c.if-rest-size.true,
  ne_eqb _ _ c.if-size-eq0.false,
  ← c.record_words-size.ensures,
  ← c.word.ensures,
  le-ltb _ _ c.if-rest-lt8.false,
)

pub returns : goal.returns
unfolding extent_of
returns c = simp (
  le-ltb _ _ c.if-rest-size.false,
  ne_eqb _ _ c.if-size-eq0.false,
  ← c.record_words-size.ensures,
  ← c.word.ensures,
  le-ltb _ _ c.if-rest-lt8.false,
)
