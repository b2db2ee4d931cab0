-- `views::see_referents` meets its contract: each answer is what the definition gives under the tests that led there; a thread that is
-- shown stands inside the archive (referents_inside). Assumes nothing.
use Rattle.views.specs.Models.Seen.{seen_found}
use Rattle.views.specs.Shown.{none_bad}
use Rattle.views.proofs.Lookups.{referents_inside}
use Rattle.views.proofs.see_referents.Goals as goal

pub returns-then-is_bad : goal.returns-then-is_bad
unfolding seen_found none_bad
returns-then-is_bad c =
    simp (c.number.ensures, c.if-is_bad.true, ← c.is_bad.ensures, ← c.resolve-c.ensures, ← c.resolve-b.ensures, ← c.resolve-a.ensures)

pub returns-then-is_bad-2 : goal.returns-then-is_bad-2
unfolding seen_found none_bad
returns-then-is_bad-2 c =
    simp (
      c.number-then-is_bad-2.ensures,
      c.if-is_bad-2.true,
      ← c.is_bad-2.ensures,
      c.if-is_bad.false,
      ← c.is_bad.ensures,
      ← c.resolve-c.ensures,
      ← c.resolve-b.ensures,
      ← c.resolve-a.ensures,
    )

pub returns-then-is_bad-3 : goal.returns-then-is_bad-3
unfolding seen_found none_bad
returns-then-is_bad-3 c =
    simp (
      c.number-then-is_bad-3.ensures,
      c.if-is_bad-3.true,
      ← c.is_bad-3.ensures,
      c.if-is_bad-2.false,
      ← c.is_bad-2.ensures,
      c.if-is_bad.false,
      ← c.is_bad.ensures,
      ← c.resolve-c.ensures,
      ← c.resolve-b.ensures,
      ← c.resolve-a.ensures,
    )

pub shown_report-requires : goal.shown_report-requires
shown_report-requires c =
    let i = referents_inside c.args.registrations.now.format c.args.registrations.now.archive.now c.args.registrations.now.words.now c.args.registrations.now.context c.args.registrations.now.until c.args.registrations.now.until c.args.report
    c.requires.0 c.requires.0 c.requires.1 in
    rw (c.resolve-a.ensures, c.resolve-b.ensures, c.resolve-c.ensures) (i.0, i.1, i.2)

pub returns-then-found : goal.returns-then-found
unfolding seen_found none_bad
returns-then-found c =
    simp (
      ← c.shown_report.ensures,
      c.if-found.true,
      c.if-is_bad-3.false,
      ← c.is_bad-3.ensures,
      c.if-is_bad-2.false,
      ← c.is_bad-2.ensures,
      c.if-is_bad.false,
      ← c.is_bad.ensures,
      ← c.resolve-c.ensures,
      ← c.resolve-b.ensures,
      ← c.resolve-a.ensures,
    )

pub returns : goal.returns
unfolding seen_found none_bad
returns c =
    simp (
      c.number-2.ensures,
      c.if-found.false,
      c.if-is_bad-3.false,
      ← c.is_bad-3.ensures,
      c.if-is_bad-2.false,
      ← c.is_bad-2.ensures,
      c.if-is_bad.false,
      ← c.is_bad.ensures,
      ← c.resolve-c.ensures,
      ← c.resolve-b.ensures,
      ← c.resolve-a.ensures,
    )
