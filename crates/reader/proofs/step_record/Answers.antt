-- `reader::step_record` meets its contract: a record that refers to texts and threads is replied to as it is seen (read_replies), any other
-- by its effect (plain_decides). Assumes nothing.
use native.Mathlib.Omega.{arith}
use mathlib.Core.Path.{◌≡◌, refl}
use Prim.Native.Nat.{◌+◌}
use mathlib.Core.Bool.{true, false}
use lib.ListN.{length}
use Rattle.words.specs.Word.{word_at}
use Rattle.records.specs.Layout.{layout_of}
use Rattle.effects.specs.Follow.{changed}
use Rattle.views.proofs.Lookups.{report_content}
use Rattle.reader.proofs.Steps.{read_replies, plain_decides, index_stands}
use Rattle.reader.proofs.step_record.Goals as goal

-- the clauses, of their product
by_clause : {A B : Type 0} → A × B → record { value : A; tables_after : B }
by_clause w = record { value = w.0; tables_after = w.1 }

pub see_report-seen-requires : goal.see_report-seen-requires
see_report-seen-requires c =
    let k : (layout_of (word_at c.args.f.order c.args.source.now 0)).read ≡ true =
    rw (← c.word.ensures, ← c.layout_of-layout.ensures) c.if-layout.true in
    let read = report_content c.args.f c.args.source.now c.args.s.place k in (
      c.requires.5.0,
      c.requires.5.1,
      omega (
        arith,
        c.requires.1,
        c.requires.5.2,
      ),
      (rw read at c.requires.5.3.0, c.requires.5.3.1),
    )

pub returns-then-layout : goal.returns-then-layout
unfolding changed
returns-then-layout c = by_clause (let k : (layout_of (word_at c.args.f.order c.args.source.now 0)).read ≡ true = rw (
  ← c.word.ensures,
  ← c.layout_of-layout.ensures,
) c.if-layout.true in
    let r = read_replies c.args.f c.args.archive.now c.args.tables.now c.args.s c.args.source.now (c.args.s.place + length
    c.args.source.now) c.requires.5.1 k in
    rw (r.0, r.1, ← c.provider_of-provider.ensures, ← c.rate_of.ensures, ← c.see_report-seen.ensures) (c.show_seen.ensures, refl))

pub content_of-requires : goal.content_of-requires
content_of-requires c =
    (c.requires.5.1, omega (arith, c.requires.1, c.requires.5.2), rw (← c.word.ensures, ← c.layout_of-layout.ensures) c.if-layout.false)

pub step_plain-requires : goal.step_plain-requires
step_plain-requires c = (
  c.requires.0,
  c.requires.3,
  c.requires.4,
  omega (arith, c.requires.1, c.requires.5.0),
  rw c.content_of.ensures (index_stands c.args.f c.args.archive.now
      c.args.s.place _ (c.args.s.place + length c.args.source.now) c.requires.5.0 c.requires.5.3.0),
)

pub returns : goal.returns
returns c = by_clause (let k : (layout_of (word_at c.args.f.order c.args.source.now 0)).read ≡ false = rw (
  ← c.word.ensures,
  ← c.layout_of-layout.ensures,
) c.if-layout.false in
    rw (
      plain_decides c.args.f c.args.archive.now c.args.tables.now c.args.s c.args.source.now (c.args.s.place + length
          c.args.source.now) c.requires.5.1 k,
      ← c.content_of.ensures,
    ) (c.step_plain.ensures.value, c.step_plain.ensures.tables_after))
