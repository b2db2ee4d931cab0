-- `format::archive_number` meets its contract: each answer is what the definition gives under the tests that led there. Assumes nothing.
use borrow.Author.Tests.{lt-ltb, lt-leb, le-ltb, le-leb}
use Rattle.format.specs.Header.{archive_number}
use Rattle.format.proofs.archive_number.Goals as goal

pub returns-then-archive-gt-LONGEST_ARCHIVE : goal.returns-then-archive-gt-LONGEST_ARCHIVE
unfolding archive_number
returns-then-archive-gt-LONGEST_ARCHIVE c = simp (lt-ltb _ _ c.if-archive-gt-LONGEST_ARCHIVE.true, lt-leb _ _ c.if-archive-gt-LONGEST_ARCHIVE.true)

pub returns-then-lent-wanted : goal.returns-then-lent-wanted
unfolding archive_number
returns-then-lent-wanted c =
    simp (
      lt-ltb _ _ c.if-lent-wanted.true,
      lt-leb _ _ c.if-lent-wanted.true,
      c.if-starts_with_magic.true,
      ← c.starts_with_magic.ensures,
      le-leb _ _ c.if-archive-gt-LONGEST_ARCHIVE.false,
      le-ltb _ _ c.if-archive-gt-LONGEST_ARCHIVE.false,
    )

pub returns-then-starts_with_magic : goal.returns-then-starts_with_magic
unfolding archive_number
returns-then-starts_with_magic c =
    simp (
      le-leb _ _ c.if-lent-wanted.false,
      le-ltb _ _ c.if-lent-wanted.false,
      c.if-starts_with_magic.true,
      ← c.starts_with_magic.ensures,
      le-leb _ _ c.if-archive-gt-LONGEST_ARCHIVE.false,
      le-ltb _ _ c.if-archive-gt-LONGEST_ARCHIVE.false,
    )

pub returns : goal.returns
unfolding archive_number
returns c = simp (
  c.if-starts_with_magic.false,
  ← c.starts_with_magic.ensures,
  le-leb _ _ c.if-archive-gt-LONGEST_ARCHIVE.false,
  le-ltb _ _ c.if-archive-gt-LONGEST_ARCHIVE.false,
)
