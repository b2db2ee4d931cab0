-- Keys that wait for an index: a table in which none waits gives no index and stays as it is. Assumes nothing.
use Rattle.std.specs.Prelude.{Option, Some, None, is_some, MatchOption}
use Prim.Native.Nat.{ℕ, ◌-◌, ◌<◌}
use mathlib.Core.Path.{◌≡◌, refl}
use mathlib.Core.List.{List}
use mathlib.Core.Bool.{false, true≢false}
use borrow.Author.Tests.{ne_eqb}
use Rattle.tally.specs.declared.Slot.{Slot}
use Rattle.tally.specs.declared.Slot.TheVariants.{Here, Free, Full}
use Rattle.tally.specs.Models.Slots.{uses_at, find_of}
use Rattle.tally.specs.Models.Tally.{Wide}
use Rattle.tally.proofs.Laws.{here_below}
use Rattle.indexing.specs.Models.Indexes.{new_index, indexed, Settled, Waiting}

module _ {stretch : ℕ} {slots : List ℕ} (archive key : List ℕ) (label : ℕ) (wide : Wide stretch slots) (settled : Settled stretch slots) where
  -- where none waits, no key gets an index
  pub settled-index : new_index stretch slots label (find_of archive stretch slots key) ≡ 0
  settled-index = index (find_of archive stretch slots key) refl
    where
      index : (slot : Slot) → slot ≡ find_of archive stretch slots key → new_index stretch slots label slot ≡ 0
      index (Here s) e = rw (ne_eqb (uses_at stretch slots s) 1 (settled s (here_below archive key wide e refl)))
      index (Free s) e = refl
      index Full e = refl

  -- and the table stays as it is
  pub settled_table : indexed stretch slots label (find_of archive stretch slots key) ≡ slots
  settled_table = after (find_of archive stretch slots key) refl
    where
      after : (slot : Slot) → slot ≡ find_of archive stretch slots key → indexed stretch slots label slot ≡ slots
      after (Here s) e = rw (ne_eqb (uses_at stretch slots s) 1 (settled s (here_below archive key wide e refl)))
      after (Free s) e = refl
      after Full e = refl

-- ---- the slot whose key waits

-- where none is known, no key waits
pub waiting_none : (stretch : ℕ) (slots : List ℕ) (slot : Option ℕ) → Waiting stretch slots slot → is_some slot ≡ false → Settled stretch slots
waiting_none stretch slots None w e = w
waiting_none stretch slots (Some s) w e = absurd (true≢false e)

-- in a table where none waits if none did, it can be asked for again: it is one of the slots, or none waits still
pub waiting_on : (stretch : ℕ) (slots after : List ℕ) (slot : Option ℕ) → Waiting stretch slots slot → (Settled stretch slots → Settled stretch after)
    → MatchOption slot (Settled stretch after) (λ s. s < stretch - 18)
waiting_on stretch slots after None w still = still w
waiting_on stretch slots after (Some s) w still = w.0
