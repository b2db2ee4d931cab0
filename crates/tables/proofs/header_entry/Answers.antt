-- `tables::header_entry` meets its contract: what the header has for its table is held (HeaderHeld), and each answer is what the definition gives
-- under the tests that led there. Assumes nothing.
use native.Mathlib.Omega.{arith}
use borrow.Author.Tests.{eq-eqb, ne_eqb, lt-ltb, le-ltb, le-leb, lt-leb}
use Rattle.tables.specs.Models.Entries.{header_entry}
use Rattle.tables.proofs.Entries.{HeaderHeld, thread_held, string_held}
use Rattle.tables.proofs.header_entry.Goals as goal
use Rattle.tables.proofs.header_entry.Goals.{then-table-eq3, else-table-eq3}

pub returns-then-own-index : goal.returns-then-own-index
unfolding header_entry
returns-then-own-index c =
    let held : HeaderHeld c.args.f c.args.table c.args.header c.if-table-eq3.own c.if-table-eq3.length c.if-table-eq3.longest =
    elim c.if-table-eq3.branch [
      | then-table-eq3 w ↦ rw (w.own-is, w.length-is, w.longest-is) (thread_held _ _ _ _ w.if-table-eq3.true w.field-own-then-table-eq3.ensures)
      | else-table-eq3 w ↦ rw (w.own-is, w.length-is, w.longest-is) (string_held _ _ _ _ _ w.if-table-eq3.false c.field-own.ensures
          c.field-length.ensures)
    ] in
    simp (← held.0, ne_eqb c.if-table-eq3.own c.args.index (λ e. c.if-own-index.true (omega (arith, e))))

pub returns-then-longest-length : goal.returns-then-longest-length
unfolding header_entry
returns-then-longest-length c =
    let held : HeaderHeld c.args.f c.args.table c.args.header c.if-table-eq3.own c.if-table-eq3.length c.if-table-eq3.longest =
    elim c.if-table-eq3.branch [
      | then-table-eq3 w ↦ rw (w.own-is, w.length-is, w.longest-is) (thread_held _ _ _ _ w.if-table-eq3.true w.field-own-then-table-eq3.ensures)
      | else-table-eq3 w ↦ rw (w.own-is, w.length-is, w.longest-is) (string_held _ _ _ _ _ w.if-table-eq3.false c.field-own.ensures
          c.field-length.ensures)
    ] in
    simp (← held.0, ← held.1, ← held.2, eq-eqb c.if-table-eq3.own c.args.index (omega (arith, c.if-own-index.false)), lt-ltb _ _ c.if-longest-length.true)

pub returns-then-field-stream_words : goal.returns-then-field-stream_words
unfolding header_entry
returns-then-field-stream_words c =
    let held : HeaderHeld c.args.f c.args.table c.args.header c.if-table-eq3.own c.if-table-eq3.length c.if-table-eq3.longest =
    elim c.if-table-eq3.branch [
      | then-table-eq3 w ↦ rw (w.own-is, w.length-is, w.longest-is) (thread_held _ _ _ _ w.if-table-eq3.true w.field-own-then-table-eq3.ensures)
      | else-table-eq3 w ↦ rw (w.own-is, w.length-is, w.longest-is) (string_held _ _ _ _ _ w.if-table-eq3.false c.field-own.ensures
          c.field-length.ensures)
    ] in
    simp (
      ← held.0,
      ← held.1,
      ← held.2,
      eq-eqb c.if-table-eq3.own c.args.index (omega (arith, c.if-own-index.false)),
      le-ltb _ _ c.if-longest-length.false,
      ← c.field.ensures,
      ← c.stream_words.ensures,
      le-leb _ _ c.if-field-stream_words.true,
    )

pub returns : goal.returns
unfolding header_entry
returns c =
    let held : HeaderHeld c.args.f c.args.table c.args.header c.if-table-eq3.own c.if-table-eq3.length c.if-table-eq3.longest =
    elim c.if-table-eq3.branch [
      | then-table-eq3 w ↦ rw (w.own-is, w.length-is, w.longest-is) (thread_held _ _ _ _ w.if-table-eq3.true w.field-own-then-table-eq3.ensures)
      | else-table-eq3 w ↦ rw (w.own-is, w.length-is, w.longest-is) (string_held _ _ _ _ _ w.if-table-eq3.false c.field-own.ensures
          c.field-length.ensures)
    ] in
    simp (
      ← held.0,
      ← held.1,
      ← held.2,
      eq-eqb c.if-table-eq3.own c.args.index (omega (arith, c.if-own-index.false)),
      le-ltb _ _ c.if-longest-length.false,
      ← c.field.ensures,
      ← c.stream_words.ensures,
      lt-leb _ _ c.if-field-stream_words.false,
    )
