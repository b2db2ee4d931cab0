-- What a pass remembers: for an entry of the reading tables, by its position, the slot of the key that the entry stands for.
use Rattle.std.specs.Prelude.{ℕ, ◌<◌, ◌≤◌, ◌≡◌, List, eqb, ltb, Option, Some, None}
use Rattle.words.specs.Word.{pick}
use Rattle.format.specs.declared.Format.{Format}
use Rattle.format.specs.declared.Reference.{Reference}
use Rattle.format.specs.declared.Reference.TheVariants.{Inline, Index}
use Rattle.records.specs.declared.Content.{Content}
use Rattle.records.specs.declared.Effect.{Effect}
use Rattle.records.specs.declared.Effect.TheVariants.{Stop, Pass, Enter, SetRate, Register}
use Rattle.records.specs.Effect.{effect_of}
use Rattle.contexts.specs.declared.State.{State}
use Rattle.tables.specs.declared.Resolved.TheVariants.{Known}
use Rattle.tables.specs.Table.{table_words, highest_of, position, resolved}
use Rattle.tally.specs.declared.Slot.TheVariants.{Here}
use Rattle.tally.specs.Models.Slots.{label_of, key_of, find_of, here_slot, remembered_at, remembering}

-- the slot of the bytes that a record registers, where they have one
unfoldable pub registered_slot : Format → List ℕ → List ℕ → ℕ → ℕ → ℕ → ℕ → Option ℕ
registered_slot f archive slots context table place long =
    pick (eqb long 0) None (here_slot (find_of archive (table_words f) slots (key_of archive place (label_of context table long))))

-- the slots after an entry was set: what is remembered for it is the slot of its new bytes
unfoldable pub renewed_by : Format → List ℕ → List ℕ → State → Effect → List ℕ
renewed_by f archive slots s (Stop number) = slots
renewed_by f archive slots s Pass = slots
renewed_by f archive slots s (Enter id) = slots
renewed_by f archive slots s (SetRate rate) = slots
renewed_by f archive slots s (Register table index place long) =
    remembering (table_words f) slots (position f s.current table index) (registered_slot f archive slots s.current table place long)

abbrev pub renewed : Format → List ℕ → List ℕ → State → Content → List ℕ
renewed f archive slots s content = renewed_by f archive slots s (effect_of content)

-- what a record registers can be remembered: its index is one of its table, which is one of the two, and its length fits a label
abbrev pub RenewFits : Format → Effect → Type 0
RenewFits f (Stop number) = Unit {0}
RenewFits f Pass = Unit {0}
RenewFits f (Enter id) = Unit {0}
RenewFits f (SetRate rate) = Unit {0}
RenewFits f (Register table index place long) = (index ≤ highest_of f table) × (2 ≤ table) × (table ≤ 3) × (long < 65536)

-- the slot that is remembered for what a reference names; nothing is remembered for what stands inline
unfoldable pub recalled : Format → List ℕ → ℕ → ℕ → Reference → Option ℕ
recalled f slots context table (Inline place long) = None
recalled f slots context table (Index index) =
    pick (ltb (highest_of f table) index) None (remembered_at (table_words f) slots (position f context table index))

-- the slots that remember a slot, or none, for it
unfoldable pub noted : Format → List ℕ → ℕ → ℕ → Reference → Option ℕ → List ℕ
noted f slots context table (Inline place long) slot = slots
noted f slots context table (Index index) slot =
    pick (ltb (highest_of f table) index) slots (remembering (table_words f) slots (position f context table index) slot)

-- the slot remembered for a reference: it stands for bytes, and the slot is that of their key
pub record Recalled (f : Format) (archive tables slots : List ℕ) (context table until : ℕ) (reference : Reference) (s : ℕ) : Type 0 where
  pub place : ℕ
  pub long : ℕ
  pub known : resolved f archive tables context table until reference ≡ Known place long
  pub some : 0 < long
  pub found : find_of archive (table_words f) slots (key_of archive place (label_of context table long)) ≡ Here s

-- every slot that is remembered is so
abbrev pub Remembers : Format → List ℕ → List ℕ → List ℕ → ℕ → Type 0
Remembers f archive tables slots until =
    (context table index s : ℕ) → context ≤ 8 → 2 ≤ table → table ≤ 3 → index ≤ highest_of f table
    → remembered_at (table_words f) slots (position f context table index) ≡ Some s
    → Recalled f archive tables slots context table until (Index index) s
