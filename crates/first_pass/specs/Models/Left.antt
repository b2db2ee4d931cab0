-- What the first pass leaves in the words of the tally, whatever it answers: which uses it counted, and that a slot without a key is clear.
use Rattle.std.specs.Prelude.{ℕ, ◌+◌, ◌-◌, ◌<◌, get_or, ◌≡◌, List, [], ◌∷◌, ◌++◌, ◌||◌}
use Rattle.passes.specs.Models.Codes.{codes, last_of}
use Rattle.tally.specs.Models.Tally.{Tallies}
use Rattle.tally.specs.Models.Slots.{place_at}
use Rattle.words.specs.Word.{pick}
use Rattle.format.specs.declared.Format.{Format}
use Rattle.records.specs.Item.{Use}
use Rattle.tables.specs.Table.{table_words}
use Rattle.rule.specs.Refusal.{Run, ended, passed, run_of, item_unresolved, passes_limit, item_uses}

-- one use more, unless a limit is passed with it
abbrev pub within_limit : Format → List Use → Use → List Use
within_limit f uses u = let all = uses ++ (u ∷ []) in pick (passes_limit f all all) uses all

-- uses one after the other
abbrev pub counted_uses : Format → List Use → List Use → List Use
counted_uses f uses [] = uses
counted_uses f uses (u ∷ us) = counted_uses f (within_limit f uses u) us

-- the uses counted along a run, behind those before it: none of a record that loses something, and none behind the first record at which 10, 11 or
-- 12 is found
unfoldable pub counted_from : Format → List Use → Run → List Use
counted_from f uses (ended number place) = uses
counted_from f uses (passed place keeps item run) =
    let all = uses ++ item_uses item in
    pick keeps (pick (item_unresolved item || passes_limit f all all) (counted_uses f uses (item_uses item)) (counted_from f all run)) uses

abbrev pub counted_of : Format → List ℕ → List Use
counted_of f archive = counted_from f [] (run_of f archive)

-- the words of a slot with no place are 0, and so are those of the first stretch that are no slots
abbrev pub FreeClear : ℕ → List ℕ → Type 0
FreeClear stretch slots =
    (s : ℕ) → s < stretch → place_at slots s ≡ 0 → (get_or slots s 0 ≡ 0) × (s < stretch - 18 → get_or slots (stretch + s) 0 ≡ 0)

-- the slots after the pass
pub record SlotsLeft (f : Format) (archive slots : List ℕ) : Type 0 where
  pub tally : Tallies archive (table_words f) slots (codes f (last_of f archive) (counted_of f archive))
  pub free : FreeClear (table_words f) slots
