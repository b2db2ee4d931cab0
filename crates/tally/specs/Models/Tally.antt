-- What a table says of a list of keys that were used, in any order: how often each was, and how many are distinct.
use Rattle.std.specs.Prelude.{ℕ, ◌-◌, ◌*◌, ◌^◌, ◌<◌, ◌≤◌, min, ◌≡◌, [], List, false, cond, length, get_or, eqb}
use Rattle.words.specs.Stream.{same_bytes}
use Rattle.registering.specs.Counting.{sum_by, count, keys}
use Rattle.tally.specs.declared.Slot.TheVariants.{Here}
use Rattle.tally.specs.Models.Slots.{key_mark, place_at, uses_at, counter_at, is_free, key_at, find_of}

-- how many distinct keys of a mark were used
abbrev pub distinct : ℕ → List (List ℕ) → ℕ
distinct mark us = sum_by (λ key. cond (eqb (key_mark key) mark) 1 0) (keys same_bytes [] us)

-- the table is long enough, and has slots
pub record Wide (stretch : ℕ) (slots : List ℕ) : Type 0 where
  pub some : 18 < stretch
  pub low : stretch < 2 ^ 31
  pub long : 3 * stretch ≤ length slots

-- each slot that is not free has the number of uses of its key, up to the highest that half a word holds, and is the one that a search for its key
-- finds; each key that was used is found; and each mark's counter has the number of its distinct keys
pub record Tallies (archive : List ℕ) (stretch : ℕ) (slots : List ℕ) (us : List (List ℕ)) : Type 0 where
  pub wide : Wide stretch slots
  pub counted : (s : ℕ) → s < stretch - 18 → is_free slots s ≡ false → uses_at stretch slots s ≡ min 65535 (count same_bytes (key_at archive stretch slots s) us)
  pub used : (s : ℕ) → s < stretch - 18 → is_free slots s ≡ false → 0 < uses_at stretch slots s
  pub own : (s : ℕ) → s < stretch - 18 → is_free slots s ≡ false → find_of archive stretch slots (key_at archive stretch slots s) ≡ Here s
  pub kept : (key : List ℕ) → 0 < count same_bytes key us → (s : ℕ) × (find_of archive stretch slots key ≡ Here s)
  pub spare : (s : ℕ) → stretch - 18 ≤ s → s < stretch → place_at slots s ≡ 0
  pub marks : (mark : ℕ) → mark < 18 → get_or slots (counter_at stretch mark) 0 ≡ distinct mark us
