-- `records::metadata_of` meets its contract: each answer is what the definition gives under the tests that led there. Assumes nothing.
use borrow.Author.Tests.{eq-eqb, ne_eqb}
use Rattle.records.specs.Record.{metadata_of}
use Rattle.records.proofs.metadata_of.Goals as goal

pub returns-then-metadata_type-eq1 : goal.returns-then-metadata_type-eq1
unfolding metadata_of
returns-then-metadata_type-eq1 c = simp (
  ← c.provider_info_of.ensures,
  eq-eqb _ _ c.if-metadata_type-eq1.true,
  ← c.field-metadata_type.ensures,
  ← c.word-header.ensures,
)

pub returns-then-metadata_type-eq2 : goal.returns-then-metadata_type-eq2
unfolding metadata_of
returns-then-metadata_type-eq2 c =
    simp (
      ← c.field.ensures,
      eq-eqb _ _ c.if-metadata_type-eq2.true,
      ne_eqb _ _ c.if-metadata_type-eq1.false,
      ← c.field-metadata_type.ensures,
      ← c.word-header.ensures,
    )

pub returns-then-metadata_type-eq3 : goal.returns-then-metadata_type-eq3
unfolding metadata_of
returns-then-metadata_type-eq3 c =
    simp (
      ← c.field-then-metadata_type-eq3-2.ensures,
      ← c.field-then-metadata_type-eq3.ensures,
      eq-eqb _ _ c.if-metadata_type-eq3.true,
      ne_eqb _ _ c.if-metadata_type-eq2.false,
      ne_eqb _ _ c.if-metadata_type-eq1.false,
      ← c.field-metadata_type.ensures,
      ← c.word-header.ensures,
    )

pub returns-then-starts_with_magic : goal.returns-then-starts_with_magic
unfolding metadata_of
returns-then-starts_with_magic c =
    simp (
      c.if-starts_with_magic.true,
      ← c.starts_with_magic.ensures,
      eq-eqb _ _ c.if-field-eq4.true,
      ← c.field-2.ensures,
      ne_eqb _ _ c.if-metadata_type-eq3.false,
      ne_eqb _ _ c.if-metadata_type-eq2.false,
      ne_eqb _ _ c.if-metadata_type-eq1.false,
      ← c.field-metadata_type.ensures,
      ← c.word-header.ensures,
    )

pub returns-then-field-eq4 : goal.returns-then-field-eq4
unfolding metadata_of
returns-then-field-eq4 c =
    simp (
      c.number.ensures,
      c.if-starts_with_magic.false,
      ← c.starts_with_magic.ensures,
      eq-eqb _ _ c.if-field-eq4.true,
      ← c.field-2.ensures,
      ne_eqb _ _ c.if-metadata_type-eq3.false,
      ne_eqb _ _ c.if-metadata_type-eq2.false,
      ne_eqb _ _ c.if-metadata_type-eq1.false,
      ← c.field-metadata_type.ensures,
      ← c.word-header.ensures,
    )

pub returns : goal.returns
unfolding metadata_of
returns c =
    simp (
      ← c.record_words.ensures,
      ne_eqb _ _ c.if-field-eq4.false,
      ← c.field-2.ensures,
      ne_eqb _ _ c.if-metadata_type-eq3.false,
      ne_eqb _ _ c.if-metadata_type-eq2.false,
      ne_eqb _ _ c.if-metadata_type-eq1.false,
      ← c.field-metadata_type.ensures,
      ← c.word-header.ensures,
    )
