-- The table of a tally once the uses are counted: choices and indexes stand in it for uses. The indexes that are given are counted for each mark.
use Rattle.std.specs.Prelude.{ℕ, zero, suc, ◌+◌, ◌-◌, ◌/◌, ◌%◌, ◌<◌, ◌≡◌, List, Bool, cond, get_or, set, eqb, Option, Some, None}
use Rattle.words.specs.Word.{pick}
use Rattle.words.specs.Stream.{stream_words, same_bytes}
use Rattle.registering.specs.Counting.{count}
use Rattle.registering.specs.Registers.{registers}
use Rattle.tally.specs.declared.Slot.{Slot}
use Rattle.tally.specs.declared.Slot.TheVariants.{Here, Free, Full}
use Rattle.tally.specs.Models.Slots.{key_words, place_in, uses_in, with_uses, uses_at, counter_at, find_of, raised, count_at}
use Rattle.tally.specs.Models.Tally.{Wide}

-- a slot's second word once the uses are counted: for its uses stands 0 where its key is spelled inline, 1 where it is registered and has no index
-- yet; later it is one more than the index. Where the slot has no key the word is 0
unfoldable pub chosen_word : ℕ → ℕ → ℕ
chosen_word first second =
    pick (eqb (place_in first) 0) 0 (with_uses (pick (registers (stream_words (second % 65536)) (uses_in second)) 1 0) second)

-- the table once the first so many words of the second stretch have choices
unfoldable pub chosen_to : ℕ → ℕ → List ℕ → List ℕ
chosen_to stretch zero slots = slots
chosen_to stretch (suc s) slots =
    set (chosen_to stretch s slots) (stretch + s) (chosen_word (get_or slots s 0) (get_or slots (stretch + s) 0))

-- the index of the key whose slot is given, or 0
abbrev pub index_at : ℕ → List ℕ → Slot → ℕ
index_at stretch slots (Here s) = uses_at stretch slots s - 1
index_at stretch slots (Free s) = 0
index_at stretch slots Full = 0

unfoldable pub index_of : List ℕ → ℕ → List ℕ → List ℕ → ℕ
index_of archive stretch slots key = index_at stretch slots (find_of archive stretch slots key)

-- the index that the key whose slot is given gets now, or 0
abbrev pub new_index : ℕ → List ℕ → ℕ → Slot → ℕ
new_index stretch slots label (Here s) = pick (eqb (uses_at stretch slots s) 1) (raised (count_at stretch slots label)) 0
new_index stretch slots label (Free s) = 0
new_index stretch slots label Full = 0

-- the table after the next index of a label's mark was given to the key of a slot: the counter of the mark, and one more for the slot
abbrev pub with_index : ℕ → List ℕ → ℕ → ℕ → List ℕ
with_index stretch slots label s =
    let index = raised (count_at stretch slots label) in
    set (set slots (counter_at stretch (label / 65536)) index) (stretch + s) (with_uses (raised index) (get_or slots (stretch + s) 0))

-- the table after the index that the key whose slot is given gets now
abbrev pub indexed : ℕ → List ℕ → ℕ → Slot → List ℕ
indexed stretch slots label (Here s) = pick (eqb (uses_at stretch slots s) 1) (with_index stretch slots label s) slots
indexed stretch slots label (Free s) = slots
indexed stretch slots label Full = slots

-- once the uses are counted: each key that was used is found, at a slot of its own with the choice and index given; no other key is found;
-- and each mark's counter has the number given
pub record Indexes (archive : List ℕ) (stretch : ℕ) (slots : List ℕ) (us : List (List ℕ)) (chosen : List ℕ → Bool) (index : List ℕ → ℕ) (given : ℕ → ℕ)
    : Type 0 where
  pub wide : Wide stretch slots
  pub found : (key : List ℕ) → 0 < count same_bytes key us
      → (s : ℕ) × (s < stretch - 18) × (find_of archive stretch slots key ≡ Here s) × (uses_at stretch slots s ≡ cond (chosen key) (1 + index key) 0)
  pub missing : (key : List ℕ) → count same_bytes key us ≡ 0 → (s : ℕ) → find_of archive stretch slots key ≡ Here s → ⊥
  pub apart : (a b : List ℕ) (s : ℕ) → find_of archive stretch slots a ≡ Here s → find_of archive stretch slots b ≡ Here s → a ≡ b
  pub counters : (mark : ℕ) → mark < 18 → get_or slots (counter_at stretch mark) 0 ≡ given mark

-- a key that was used as often as this is registered or not
abbrev pub chosen_key : List (List ℕ) → List ℕ → Bool
chosen_key us key = registers (key_words key) (count same_bytes key us)

-- no key waits: none that is to be registered has no index yet
abbrev pub Settled : ℕ → List ℕ → Type 0
Settled stretch slots = (s : ℕ) → s < stretch - 18 → uses_at stretch slots s ≡ 1 → ⊥

-- a slot whose key waits, or none, where none does
abbrev pub Waiting : ℕ → List ℕ → Option ℕ → Type 0
Waiting stretch slots None = Settled stretch slots
Waiting stretch slots (Some s) = (s < stretch - 18) × (uses_at stretch slots s ≡ 1)
