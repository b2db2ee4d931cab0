-- The reading tables as a pass over an archive leaves them.
use Rattle.std.specs.Prelude.{ℕ, zero, suc, ◌+◌, ◌/◌, List, length, replicate}
use Rattle.format.specs.declared.Format.{Format}
use Rattle.contexts.specs.declared.State.{State}
use Rattle.contexts.specs.Context.{opening}
use Rattle.tables.specs.Table.{table_words}
use Rattle.reader.specs.Step.{step_reply, step_tables}

-- the tables after so many steps; "A step that is refused, or at the end, changes nothing."
unfoldable pub tables_from : Format → List ℕ → ℕ → State → List ℕ → List ℕ
tables_from f archive zero s tables = tables
tables_from f archive (suc steps) s tables =
    tables_from f archive steps (step_reply f archive tables s).state (step_tables f archive tables s)

-- the tables at the archive's end, or at the record that stops a pass, from opening with tables that are clear: each step that goes on takes a
-- word at least, so that one more than the archive has words are enough
unfoldable pub tables_of : Format → List ℕ → List ℕ
tables_of f archive = tables_from f archive (length archive / 8 + 1) opening (replicate (table_words f) 0)
