-- What the first pass counts is exactly what is written: the words of an accepted archive's items and the measure of their uses are the written length,
-- which is low enough for every number that is made of it. Assumes nothing.
use Prim.Native.Nat.{ℕ, ◌+◌, ◌*◌, ◌/◌, ◌≤◌}
use mathlib.Core.Path.{◌≡◌, ◌∙◌}
use mathlib.Core.List.{List, []}
use mathlib.Core.Option.{none}
use native.Mathlib.Omega.{arith}
use lib.ListN.{length, replicate}
use Rattle.words.proofs.Words.{AllBytes}
use Rattle.registering.specs.Counting.{sum_by}
use Rattle.format.specs.declared.Format.{Format}
use Rattle.format.specs.Limits.{small_format, longest_archive}
use Rattle.records.specs.Models.Fixed.{fixed_words}
use Rattle.contexts.specs.Context.{opening}
use Rattle.tables.specs.Table.{table_words}
use Rattle.reader.specs.Step.{opening_number}
use Rattle.reader.proofs.Runs.{fresh_sound}
use Rattle.reader.proofs.Steps.{admitted}
use Rattle.rule.specs.Rule.{uses_all, chosen_in}
use Rattle.rule.specs.Refusal.{run_of, refusal_of, items_of, Accepted, written_length}
use Rattle.rule.proofs.Theorems.{accepted_reads, shortest}
use Rattle.tally.specs.Models.Slots.{measure_of}
use Rattle.tally.specs.Models.Tally.{Tallies}
use Rattle.tally.proofs.Tallied.{measure_best}
use Rattle.passes.specs.Models.Codes.{codes, last_of}
use Rattle.passes.proofs.Codes.{UsesPlain, best_codes, last_sound}
use Rattle.rule.proofs.Length.{rule-length}
use Rattle.rewriting.proofs.Ready.{items_plain, accepted_fit}

-- ---- accepted archives

-- what is written of an accepted archive is no longer than an archive may be
pub written_low : (f : Format) (archive : List ℕ) → Accepted f archive → written_length f archive ≤ longest_archive
written_low f archive accepted =
    let reads = accepted_reads f archive accepted in
    omega (
      arith,
      shortest f archive archive (items_of (run_of f archive)) accepted reads reads,
      (admitted f archive (table_words f) accepted.opened).short,
    )

-- the uses of an accepted archive of bytes are plain
accepted_plain : (f : Format) (archive : List ℕ) → f ≡ small_format → AllBytes archive → Accepted f archive
    → UsesPlain (uses_all (items_of (run_of f archive)))
accepted_plain f archive small bytes accepted =
    let items = items_of (run_of f archive) in
    items_plain f (chosen_in (uses_all items)) [] items (accepted_fit f archive small accepted bytes)

-- The words of the items and of their uses, as the tally measures them, are those that are written.
pub measured : (f : Format) (archive slots : List ℕ) (fixed : ℕ) → f ≡ small_format → AllBytes archive → opening_number f archive (table_words f) ≡ 0
    → refusal_of f (run_of f archive) ≡ none
    → Tallies archive (table_words f) slots (codes f (last_of f archive) (uses_all (items_of (run_of f archive))))
    → fixed ≡ sum_by fixed_words (items_of (run_of f archive))
    → 8 * (fixed + measure_of (table_words f) slots) ≡ written_length f archive
unfolding last_of
measured f archive slots fixed small bytes opens unrefused tallies counted =
    let items = items_of (run_of f archive) in
    let plain = accepted_plain f archive small bytes (record { opened = opens; not_refused = unrefused }) in
    let last = last_sound f archive (length archive / 8 + 1) opening (replicate (table_words f) 0) (fresh_sound f archive) in
    let best = measure_best tallies ∙ best_codes f (last_of f archive) last.1.count (uses_all items) plain in
    omega (arith, best, rule-length f items)

-- so they are low: nothing overflows
pub measured_low : (f : Format) (archive slots : List ℕ) (fixed : ℕ) → f ≡ small_format → AllBytes archive
    → opening_number f archive (table_words f) ≡ 0 → refusal_of f (run_of f archive) ≡ none
    → Tallies archive (table_words f) slots (codes f (last_of f archive) (uses_all (items_of (run_of f archive))))
    → fixed ≡ sum_by fixed_words (items_of (run_of f archive))
    → 8 * (fixed + measure_of (table_words f) slots) ≤ longest_archive
measured_low f archive slots fixed small bytes opens unrefused tallies counted =
    omega (
      arith,
      measured f archive slots fixed small bytes opens unrefused tallies counted,
      written_low f archive (record { opened = opens; not_refused = unrefused }),
    )
