-- `arguments::argument_of` meets its contract: each answer is what the definition gives under the tests that led there. Assumes nothing.
use native.Mathlib.Omega.{arith}
use mathlib.Core.Path.{sym, ◌∙◌}
use Prim.Native.Nat.{◌+◌, ◌*◌}
use lib.ListN.{length, take}
use lib.Seq.{length-take-le}
use borrow.Author.Tests.{eq-eqb, ne_eqb, lt-ltb, le-ltb}
use Rattle.std.proofs.lemmas.Result.{err_from_is_err_and}
use Rattle.format.proofs.Parts.{text_taken}
use Rattle.arguments.proofs.Arguments.{name_then_value}
use Rattle.arguments.specs.Argument.{argument_of}
use Rattle.arguments.proofs.argument_of.Goals as goal

pub returns-then-rest-lt8 : goal.returns-then-rest-lt8
unfolding argument_of
returns-then-rest-lt8 c = simp (lt-ltb _ _ c.if-rest-lt8.true)

pub returns-then-size-eq0 : goal.returns-then-size-eq0
unfolding argument_of
returns-then-size-eq0 c = simp (eq-eqb _ _ c.if-size-eq0.true, ← c.field.ensures, ← c.word-header.ensures, le-ltb _ _ c.if-rest-lt8.false)

pub returns-then-rest-size : goal.returns-then-rest-size
unfolding argument_of
returns-then-rest-size c = simp (
  lt-ltb (length c.args.rest.now) (8 * c.field.result) (omega (arith, c.if-rest-size.true)),
  ne_eqb _ _ c.if-size-eq0.false,
  ← c.field.ensures,
  ← c.word-header.ensures,
  le-ltb _ _ c.if-rest-lt8.false,
)

pub take_value-requires : goal.take_value-requires
take_value-requires c =
    let own = take (8 * c.field.result) c.args.rest.now in
    let long = length-take-le (8 * c.field.result) c.args.rest.now (omega (arith, c.if-rest-size.false)) in
    let m = text_taken c.args.f c.field-2.result (c.args.place + 8) own c.args.place c.in_ok-name.name.reference c.in_ok-name.name.next
    (omega (arith, long)) (sym c.take_text.ensures ∙ c.in_ok-name.was) in omega (arith, long, m.0, m.1)

pub returns-in_err-name : goal.returns-in_err-name
unfolding argument_of
returns-in_err-name c =
    let by = err_from_is_err_and c.from_residual.result c.from_residual.ensures.1 in
    rw (by.1, by.2) simp (
      c.in_err-name.was,
      ← c.take_text.ensures,
      ← c.field-2.ensures,
      le-ltb (length c.args.rest.now) (8 * c.field.result) (omega (arith, c.if-rest-size.false)),
      ne_eqb _ _ c.if-size-eq0.false,
      ← c.field.ensures,
      ← c.word-header.ensures,
      le-ltb _ _ c.if-rest-lt8.false,
      name_then_value,
    )

pub returns-in_err-value : goal.returns-in_err-value
unfolding argument_of
returns-in_err-value c =
    let by = err_from_is_err_and c.from_residual-in_err-value.result c.from_residual-in_err-value.ensures.1 in
    rw (by.1, by.2) simp (
      c.in_err-value.was,
      ← c.take_value.ensures,
      c.in_ok-name.was,
      ← c.take_text.ensures,
      ← c.field-2.ensures,
      le-ltb (length c.args.rest.now) (8 * c.field.result) (omega (arith, c.if-rest-size.false)),
      ne_eqb _ _ c.if-size-eq0.false,
      ← c.field.ensures,
      ← c.word-header.ensures,
      le-ltb _ _ c.if-rest-lt8.false,
      name_then_value,
    )

pub returns : goal.returns
unfolding argument_of
returns c =
    simp (
      c.in_ok-value.was,
      ← c.take_value.ensures,
      c.in_ok-name.was,
      ← c.take_text.ensures,
      ← c.field-2.ensures,
      le-ltb (length c.args.rest.now) (8 * c.field.result) (omega (arith, c.if-rest-size.false)),
      ne_eqb _ _ c.if-size-eq0.false,
      ← c.field.ensures,
      ← c.word-header.ensures,
      le-ltb _ _ c.if-rest-lt8.false,
      name_then_value,
    )
