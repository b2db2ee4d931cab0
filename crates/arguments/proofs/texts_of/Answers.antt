-- `arguments::texts_of` meets its contract: each answer is what the definition gives under the tests that led there. Assumes nothing.
use native.Mathlib.Omega.{arith}
use mathlib.Core.Path.{sym, ◌∙◌}
use Prim.Native.Nat.{◌+◌, ◌*◌}
use lib.ListN.{take}
use lib.Seq.{length-take-le}
use borrow.Author.Tests.{eq-eqb, ne_eqb, lt-ltb, le-ltb}
use Rattle.std.proofs.lemmas.Result.{err_from_is_err_and}
use Rattle.format.proofs.Parts.{text_taken}
use Rattle.arguments.proofs.Arguments.{name_then_text}
use Rattle.arguments.proofs.texts_of.Goals as goal

pub returns-then-room-lt8 : goal.returns-then-room-lt8
returns-then-room-lt8 c = simp (lt-ltb _ _ c.if-room-lt8.true, name_then_text)

pub returns-then-size-eq0 : goal.returns-then-size-eq0
returns-then-size-eq0 c = simp (
  eq-eqb _ _ c.if-size-eq0.true,
  ← c.field.ensures,
  ← c.word-header.ensures,
  le-ltb _ _ c.if-room-lt8.false,
  name_then_text,
)

pub returns-then-room-size : goal.returns-then-room-size
returns-then-room-size c = simp (
  lt-ltb _ _ c.if-room-size.true,
  ne_eqb _ _ c.if-size-eq0.false,
  ← c.field.ensures,
  ← c.word-header.ensures,
  le-ltb _ _ c.if-room-lt8.false,
  name_then_text,
)

pub value_text-requires : goal.value_text-requires
value_text-requires c =
    let own = take (8 * c.field.result) c.args.rest.now in
    let long = length-take-le (8 * c.field.result) c.args.rest.now c.if-room-size.false in
    let m = text_taken c.args.f c.field-2.result (c.args.place + 8) own c.args.place c.in_ok-name.name.reference c.in_ok-name.name.next
    (omega (arith, long)) (sym c.take_text.ensures ∙ c.in_ok-name.was) in omega (arith, long, m.0, m.1)

pub returns-in_err-name : goal.returns-in_err-name
returns-in_err-name c =
    let by = err_from_is_err_and c.from_residual.result c.from_residual.ensures.1 in
    rw (by.1, by.2) simp (
      c.in_err-name.was,
      ← c.take_text.ensures,
      ← c.field-2.ensures,
      le-ltb _ _ c.if-room-size.false,
      ne_eqb _ _ c.if-size-eq0.false,
      ← c.field.ensures,
      ← c.word-header.ensures,
      le-ltb _ _ c.if-room-lt8.false,
      name_then_text,
    )

pub returns-in_err-value : goal.returns-in_err-value
returns-in_err-value c =
    let by = err_from_is_err_and c.from_residual-in_err-value.result c.from_residual-in_err-value.ensures.1 in
    rw (by.1, by.2) simp (
      c.in_err-value.was,
      ← c.value_text.ensures,
      c.in_ok-name.was,
      ← c.take_text.ensures,
      ← c.field-2.ensures,
      le-ltb _ _ c.if-room-size.false,
      ne_eqb _ _ c.if-size-eq0.false,
      ← c.field.ensures,
      ← c.word-header.ensures,
      le-ltb _ _ c.if-room-lt8.false,
      name_then_text,
    )

pub returns : goal.returns
returns c =
    simp (
      c.in_ok-value.was,
      ← c.value_text.ensures,
      c.in_ok-name.was,
      ← c.take_text.ensures,
      ← c.field-2.ensures,
      le-ltb _ _ c.if-room-size.false,
      ne_eqb _ _ c.if-size-eq0.false,
      ← c.field.ensures,
      ← c.word-header.ensures,
      le-ltb _ _ c.if-room-lt8.false,
      name_then_text,
    )
