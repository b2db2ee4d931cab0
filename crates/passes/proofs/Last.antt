-- The reading tables along a pass over an archive: where the pass goes on, ends or stops, those it has lead to the tables at its end.
-- Assumes nothing.
use Prim.Native.Nat.{ℕ, zero, suc, ◌/◌, ◌<◌}
use mathlib.Core.Path.{◌≡◌, refl, ◌∙◌, sym}
use mathlib.Core.List.{List}
use native.Mathlib.Numerals.{add-one}
use borrow.Author.Tests.{eq-eqb}
use lib.ListN.{length, replicate}
use Rattle.effects.specs.Follow.{changed}
use Rattle.format.specs.declared.Format.{Format}
use Rattle.records.specs.Record.{record_at}
use Rattle.contexts.specs.declared.State.{State}
use Rattle.contexts.specs.Context.{opening}
use Rattle.tables.specs.Table.{table_words}
use Rattle.reader.specs.Step.{opening_number, stopping, step_reply, step_tables}
use Rattle.reader.proofs.Runs.{Sound}
use Rattle.rule.proofs.Items.{end_is}
use Rattle.passes.specs.Models.Follow.{stop_after, state_after, tables_after}
use Rattle.passes.specs.Models.Last.{tables_from, tables_of}
use Rattle.passes.proofs.Turns.{turn_state, turn_tables_step, turn_stops}

-- tables of zeros, from opening, lead to the tables at the end
pub tables_open : (f : Format) (archive tables : List ℕ) → tables ≡ replicate (table_words f) 0
    → tables_from f archive (suc (length archive / 8)) opening tables ≡ tables_of f archive
unfolding tables_of
tables_open f archive tables e = rw (e, add-one)

-- where a step changes nothing, no number of steps does
steps_stay : (f : Format) (archive : List ℕ) (steps : ℕ) (s : State) (tables : List ℕ) → (step_reply f archive tables s).state ≡ s
    → step_tables f archive tables s ≡ tables → tables_from f archive steps s tables ≡ tables
unfolding tables_from
steps_stay f archive zero s tables same keeps = refl
steps_stay f archive (suc steps) s tables same keeps = rw (same, keeps) (steps_stay f archive steps s tables same keeps)

module _ (f : Format) (archive tables : List ℕ) (s : State) (steps : ℕ) (sound : Sound f archive s tables)
    (opens : opening_number f archive (length tables) ≡ 0) where
  -- at the archive's end the tables are those at the end
  pub tables_end : s.place ≡ length archive → tables_from f archive steps s tables ≡ tables
  unfolding stopping changed
  tables_end e =
      let ends = end_is f archive tables s opens sound (eq-eqb s.place (length archive) e) in
      steps_stay f archive steps s tables (rw ends) (rw ends)

  module _ (more : s.place < length archive) where
    -- where the record at the state's place goes on, so do the tables
    pub tables_turn : (stop_after s (record_at f archive s.place).content (record_at f archive s.place).next) ≡ 0
        → tables_from f archive (suc steps) s tables
        ≡ tables_from f archive steps (state_after s (record_at f archive s.place).content (record_at f archive s.place).next)
        (tables_after f tables s (record_at f archive s.place).content)
    unfolding tables_from
    tables_turn goes = rw (turn_state f archive tables s sound opens more goes, turn_tables_step f archive tables s sound opens more goes)

    -- where it stops the pass, the tables that it is followed in are those at the end
    pub tables_stop : ((stop_after s (record_at f archive s.place).content (record_at f archive s.place).next) ≡ 0 → ⊥)
        → tables_from f archive steps s tables ≡ tables_after f tables s (record_at f archive s.place).content
    tables_stop stop =
        let k = turn_stops f archive tables s sound opens more stop in
        steps_stay f archive steps s tables k.0 k.1 ∙ sym k.2
