-- The reading tables, after "Contexts" and "Numbers and replies" of document 01.
use Rattle.std.specs.Prelude.{ℕ, ◌+◌, ◌*◌, ◌%◌, List, ◌++◌, drop, get_or, replicate, eqb, ltb}
use Rattle.words.specs.Word.{pick}
use Rattle.format.specs.declared.Format.{Format}
use Rattle.format.specs.declared.Reference.{Reference}
use Rattle.format.specs.declared.Reference.TheVariants.{Inline, Index}
use Rattle.records.specs.declared.Content.{Content}
use Rattle.records.specs.declared.Lookup.{Lookup}
use Rattle.records.specs.declared.Effect.{Effect}
use Rattle.records.specs.declared.Effect.TheVariants.{Stop, Pass, Enter, SetRate, Register}
use Rattle.records.specs.Effect.{effect_of}
use Rattle.records.specs.Record.{record_at}
use Rattle.tables.specs.declared.Resolved.{Resolved}
use Rattle.tables.specs.declared.Resolved.TheVariants.{Bad, Known, Unresolved}

-- "9 contexts of 512 + 256: the one with no provider, then the ids as opened; strings, then threads"
abbrev pub context_words : Format → ℕ
context_words f = f.highest + 257

abbrev pub table_words : Format → ℕ
table_words f = 9 * context_words f

-- the highest index of a table, which is named by the type of its records: 2 for strings, 3 for threads
unfoldable pub highest_of : Format → ℕ → ℕ
highest_of f table = pick (eqb table 3) 255 f.highest

-- where the entry of an index stands in a table of a context
unfoldable pub position : Format → ℕ → ℕ → ℕ → ℕ
position f context table index =
    pick (eqb table 3) (context * context_words f + (f.highest + 1) + index) (context * context_words f + index)

-- the first n words 0, the others as they were
abbrev pub cleared : ℕ → List ℕ → List ℕ
cleared n tables = replicate n 0 ++ drop n tables

-- what a record registers: the table, the index, and the place and length of its bytes
pub data Registration : Type 0 where
  Nothing : Registration
  Entry : (table index place length : ℕ) → Registration

abbrev pub registering : Effect → Registration
registering (Stop number) = Nothing
registering Pass = Nothing
registering (Enter id) = Nothing
registering (SetRate rate) = Nothing
registering (Register table index place length) = Entry table index place length

unfoldable pub registration_of : Content → Registration
registration_of content = registering (effect_of content)

abbrev pub on_registration : {A : Type 0} → Registration → A → (ℕ → ℕ → ℕ → ℕ → A) → A
on_registration Nothing none some = none
on_registration (Entry table index place length) none some = some table index place length

-- number 4 for an entry: "set but is not the place, a multiple of 8, of a record of that kind and index that passes 7 and 6
-- and ends at or before the state's place"
unfoldable pub entry_at : Format → List ℕ → ℕ → ℕ → ℕ → ℕ → Resolved
entry_at f archive table index entry until =
    pick (eqb (entry % 8) 0)
    (pick (ltb until (record_at f archive entry).next) Bad
    (on_registration (registration_of (record_at f archive entry).content) Bad
    (λ k i place length. pick (eqb k table) (pick (eqb i index) (Known place length) Bad) Bad)))
    Bad

-- "A reference whose entry is not set, or whose index is above 511, is shown as unresolved with its index."
unfoldable pub resolved : Format → List ℕ → List ℕ → ℕ → ℕ → ℕ → Reference → Resolved
resolved f archive tables context table until (Inline place length) = Known place length
resolved f archive tables context table until (Index index) =
    pick (ltb (highest_of f table) index) (Unresolved index)
    (pick (eqb (get_or tables (position f context table index) 0) 0) (Unresolved index)
    (entry_at f archive table index (get_or tables (position f context table index) 0) until))

-- what a reference of a record stands for in a context
abbrev pub looked_up : Format → List ℕ → List ℕ → ℕ → ℕ → Lookup → Resolved
looked_up f archive tables context until l = resolved f archive tables context l.table until l.reference
