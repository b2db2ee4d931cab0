-- Uses as keys of the tally. A context is named by its number in the state at the archive's end, so that a use is one key along the whole run.
use Rattle.std.specs.Prelude.{ℕ, zero, suc, ◌+◌, ◌/◌, [], List, ◌∷◌, ◌++◌, length, replicate}
use Rattle.std.specs.Prelude.{Some, None}
use Rattle.std.specs.Prelude as code
use Rattle.std.proofs.Math.Option.{Option, none, some}
use Rattle.words.specs.Word.{word_bytes}
use Rattle.indexing.specs.Models.Indexes.{Indexes, chosen_key}
use Rattle.format.specs.declared.Format.{Format}
use Rattle.records.specs.Item.{thread, Key, text_key, thread_key, Use}
use Rattle.contexts.specs.declared.State.{State}
use Rattle.contexts.specs.Context.{find_id, opening}
use Rattle.tables.specs.Table.{table_words}
use Rattle.reader.specs.Step.{step_reply, step_tables}
use Rattle.rule.specs.Rule.{uses_all}
use Rattle.rule.specs.Refusal.{run_of, items_of}
use Rattle.tally.specs.Models.Slots.{label_of}

-- the number of a provider's context in a state; an id that has none gets a number that no context has
-- (`code.Option` is the Option that code answers)
abbrev pub slot_or : code.Option ℕ → ℕ → ℕ
slot_or (Some i) id = i + 1
slot_or None id = 9 + id

unfoldable pub context_in : State → Option ℕ → ℕ
context_in s none = 0
context_in s (some id) = slot_or (find_id s.ids s.count id) id

-- a use as a key of the tally
abbrev pub code_of : Format → ℕ → Key → List ℕ
code_of f context (text_key bytes) = label_of context 2 (length bytes) ∷ bytes
code_of f context (thread_key (thread p t)) = label_of context 3 16 ∷ (word_bytes f.order p ++ word_bytes f.order t)

abbrev pub code_in : Format → State → Use → List ℕ
code_in f s u = code_of f (context_in s u.provider) u.key

abbrev pub codes : Format → State → List Use → List (List ℕ)
codes f s [] = []
codes f s (u ∷ us) = code_in f s u ∷ codes f s us

-- the state after so many steps; a step at the end changes nothing
unfoldable pub last_from : Format → List ℕ → ℕ → State → List ℕ → State
last_from f archive zero s tables = s
last_from f archive (suc steps) s tables =
    last_from f archive steps (step_reply f archive tables s).state (step_tables f archive tables s)

-- the state at the archive's end
unfoldable pub last_of : Format → List ℕ → State
last_of f archive = last_from f archive (length archive / 8 + 1) opening (replicate (table_words f) 0)

-- the slots once the uses of an archive's items are counted and choices stand for them: no key has an index yet
abbrev pub Chosen : Format → List ℕ → List ℕ → Type 0
Chosen f archive slots =
    let us = codes f (last_of f archive) (uses_all (items_of (run_of f archive))) in
    Indexes archive (table_words f) slots us (chosen_key us) (λ key. 0) (λ mark. 0)
