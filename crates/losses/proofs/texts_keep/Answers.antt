-- `losses::texts_keep` meets its contract: each answer is what the definition gives under the tests that led there,
-- and what is read stands inside what is left (texts_stand). Assumes nothing.
use native.Mathlib.Omega.{arith}
use borrow.Author.Tests.{eq-eqb, ne_eqb, lt-ltb, le-ltb}
use Rattle.losses.specs.Models.Checking.{texts_keep}
use Rattle.losses.proofs.Checking.{texts_stand}
use Rattle.losses.proofs.texts_keep.Goals as goal

pub word-header-requires : goal.word-header-requires
word-header-requires c =
    let s = texts_stand c.args.f c.args.rest.now c.args.place c.args.texts.name c.args.texts.value c.args.texts.size c.requires.1 in
    omega (arith, s.some)

pub returns-then-variant-ge10 : goal.returns-then-variant-ge10
unfolding texts_keep
returns-then-variant-ge10 c = simp (le-ltb _ _ c.if-variant-ge10.true, ← c.field-variant.ensures, ← c.word-header.ensures)

pub returns-then-reserved_bits-ne0 : goal.returns-then-reserved_bits-ne0
unfolding texts_keep
returns-then-reserved_bits-ne0 c =
    simp (
      ne_eqb _ _ c.if-reserved_bits-ne0.true,
      ← c.reserved_bits.ensures,
      lt-ltb _ _
          c.if-variant-ge10.false,
      ← c.field-variant.ensures,
      ← c.word-header.ensures,
    )

pub inline_bytes-requires : goal.inline_bytes-requires
inline_bytes-requires c =
    let s = texts_stand c.args.f c.args.rest.now c.args.place c.args.texts.name c.args.texts.value c.args.texts.size c.requires.1 in
    omega (arith, s.enough, c.requires.0)

pub inline_bytes-requires-2 : goal.inline_bytes-requires-2
inline_bytes-requires-2 c =
    let s = texts_stand c.args.f c.args.rest.now c.args.place c.args.texts.name c.args.texts.value c.args.texts.size c.requires.1 in
    omega (arith, s.enough, c.requires.0)

pub overflow_add-inline : goal.overflow_add-inline
overflow_add-inline c =
    let s = texts_stand c.args.f c.args.rest.now c.args.place c.args.texts.name c.args.texts.value c.args.texts.size c.requires.1 in
    omega (arith, s.enough, c.requires.0, c.inline_bytes.ensures, c.inline_bytes-2.ensures)

pub overflow_add-inline-2 : goal.overflow_add-inline-2
overflow_add-inline-2 c =
    let s = texts_stand c.args.f c.args.rest.now c.args.place c.args.texts.name c.args.texts.value c.args.texts.size c.requires.1 in
    omega (arith, s.enough, c.requires.0, c.inline_bytes.ensures, c.inline_bytes-2.ensures)

pub overflow_add-inline-3 : goal.overflow_add-inline-3
overflow_add-inline-3 c =
    let s = texts_stand c.args.f c.args.rest.now c.args.place c.args.texts.name c.args.texts.value c.args.texts.size c.requires.1 in
    let held = rw (c.field-variant.ensures, c.word-header.ensures) at c.held_bytes.ensures in
    omega (arith, s.enough, c.requires.0, c.inline_bytes.ensures, c.inline_bytes-2.ensures, held)

pub returns-then-texts-inline : goal.returns-then-texts-inline
unfolding texts_keep
returns-then-texts-inline c =
    simp (
      ne_eqb _ _ c.if-texts-inline.true,
      ← c.held_bytes.ensures,
      ← c.inline_bytes.ensures,
      ← c.inline_bytes-2.ensures,
      eq-eqb _ _ c.if-reserved_bits-ne0.false,
      ← c.reserved_bits.ensures,
      lt-ltb _ _ c.if-variant-ge10.false,
      ← c.field-variant.ensures,
      ← c.word-header.ensures,
    )

pub texts_padding_zero-requires : goal.texts_padding_zero-requires
texts_padding_zero-requires c =
    let s = texts_stand c.args.f c.args.rest.now c.args.place c.args.texts.name c.args.texts.value c.args.texts.size c.requires.1 in
    (c.requires.0, s.name-inside, rw (← c.word-header.ensures, ← c.field-variant.ensures) at s.value-inside)

pub returns : goal.returns
unfolding texts_keep
returns c =
    simp (
      ← c.texts_padding_zero.ensures,
      eq-eqb _ _ c.if-texts-inline.false,
      ← c.held_bytes.ensures,
      ← c.inline_bytes.ensures,
      ← c.inline_bytes-2.ensures,
      eq-eqb _ _ c.if-reserved_bits-ne0.false,
      ← c.reserved_bits.ensures,
      lt-ltb _ _ c.if-variant-ge10.false,
      ← c.field-variant.ensures,
      ← c.word-header.ensures,
    )
