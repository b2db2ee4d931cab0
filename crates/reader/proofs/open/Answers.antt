-- `reader::open` meets its contract: each answer is what the definition gives under the tests that led there. Assumes nothing.
use Rattle.format.specs.Limits.{small_format}
use Rattle.tables.specs.Table.{table_words}
use Rattle.reader.specs.Step.{opening_number}
use borrow.Author.Tests.{ne_eqb}
use native.Mathlib.Omega.{arith}
use mathlib.Core.Path.{ap, subst, ◌∙◌, ◌≡◌, refl}
use lib.ListN.{length}
use Rattle.tables.proofs.Tables.{small_fits}
use Rattle.reader.proofs.Steps.{admitted}
use Rattle.reader.proofs.open.Goals as goal

-- the clauses, of their product
by_clause : {A B : Type 0} → A × B → record { value : A; tables_after : B }
by_clause w = record { value = w.0; tables_after = w.1 }

pub check_opening-requires : goal.check_opening-requires
check_opening-requires c = rw c.small_format-f.ensures small_fits

pub returns-in-Err : goal.returns-in-Err
returns-in-Err c =
    let number = opening_number c.small_format-f.result c.args.archive.now (length c.args.tables.now) in
    by_clause (simp (
      c.in-Err.ensures.1,
      ← c.small_format-f.ensures,
      ne_eqb number 0 (λ z. omega (arith, z, c.in-Err.ensures.0)),
      ← c.opening_state-state.ensures,
    ) (refl, refl))

pub table_words-requires : goal.table_words-requires
table_words-requires c = rw c.small_format-f.ensures small_fits

pub clear-requires : goal.clear-requires
clear-requires c =
    let a = admitted c.small_format-f.result c.args.archive.now (length c.args.tables.now) c.in_default.ensures in omega (arith, c.table_words.ensures, a.enough)

pub returns : goal.returns
returns c = by_clause (let d : opening_number small_format c.args.archive.now (length c.args.tables.now) ≡ 0 = subst (λ f. opening_number
    f c.args.archive.now
    (length c.args.tables.now) ≡ 0) c.small_format-f.ensures c.in_default.ensures in
    let w : c.table_words.result ≡ 6912 = c.table_words.ensures
    ∙ ap table_words c.small_format-f.ensures in (simp (d, c.opening_state-state.ensures), c.clear.ensures ∙ simp (d, w)))
