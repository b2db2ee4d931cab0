-- What the second pass leaves in the words of the tally: the keys of an archive's uses with the indexes that the rule gives them.
use Rattle.std.specs.Prelude.{ℕ, ◌+◌, ◌-◌, ◌<◌, ◌≡◌, List, [], ◌∷◌, cond, eqb, take}
use Rattle.passes.specs.Models.Codes.{code_in, codes, last_of}
use Rattle.tally.specs.Models.Slots.{key_mark, label_at, uses_at}
use Rattle.indexing.specs.Models.Indexes.{Indexes, chosen_key}
use Rattle.words.specs.Stream.{same_bytes}
use Rattle.registering.specs.Counting.{count}
use Rattle.format.specs.declared.Format.{Format}
use Rattle.contexts.specs.declared.State.{State}
use Rattle.tables.specs.Table.{table_words}
use Rattle.rule.specs.Rule.{uses_all, Entry, entries_after, chosen_in}
use Rattle.rule.specs.Refusal.{run_of, items_of}

-- the index of the first registration whose use has this code, 0 where none has
abbrev pub index_code : Format → State → List Entry → List ℕ → ℕ
index_code f last [] key = 0
index_code f last (e ∷ entries) key = let rest = index_code f last entries key in cond (same_bytes key (code_in f last e.use_of)) e.index rest

-- how many registrations have a code of this mark
abbrev pub given_code : Format → State → List Entry → ℕ → ℕ
given_code f last [] mark = 0
given_code f last (e ∷ entries) mark = cond (eqb mark (key_mark (code_in f last e.use_of))) 1 0 + given_code f last entries mark

-- the uses of an archive's items as keys of the tally
abbrev pub keys_of : Format → List ℕ → List (List ℕ)
keys_of f archive = codes f (last_of f archive) (uses_all (items_of (run_of f archive)))

-- the registrations that the rule makes for an archive's items
abbrev pub registered_of : Format → List ℕ → List Entry
registered_of f archive = let uses = uses_all (items_of (run_of f archive)) in entries_after (chosen_in uses) [] uses

-- the words of the tally before and after the pass: first words and labels stay; for the uses of each key that was used stands its index where the
-- rule registers it, and each counter has the number of its mark's registrations; in a slot that is no such key's what stood for the uses stays
pub record SlotsIndexed (f : Format) (archive before after : List ℕ) : Type 0 where
  pub keys : take (table_words f) after ≡ take (table_words f) before
  pub labels : (s : ℕ) → s < table_words f - 18 → label_at (table_words f) after s ≡ label_at (table_words f) before s
  pub indexes : Indexes archive (table_words f) after (keys_of f archive) (chosen_key (keys_of f archive))
      (index_code f (last_of f archive) (registered_of f archive)) (given_code f (last_of f archive) (registered_of f archive))
  pub others : (s : ℕ) → s < table_words f - 18
      → ((key : List ℕ) (used : 0 < count same_bytes key (keys_of f archive)) → (indexes.found key used).0 ≡ s → ⊥)
      → uses_at (table_words f) after s ≡ uses_at (table_words f) before s
