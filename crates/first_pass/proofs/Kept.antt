-- Counting a use changes only the words of the tally: the slots keep their number, free ones all their words, and so does what stands
-- behind the three stretches.
-- Assumes nothing.
use Rattle.std.specs.Prelude.{Option}
use Prim.Native.Nat.{ℕ, ◌+◌, ◌-◌, ◌*◌, ◌/◌, ◌<◌}
use mathlib.Core.Path.{◌≡◌, refl, sym, ap, ◌∙◌}
use mathlib.Core.List.{List}
use mathlib.Core.Bool.{true≢false}
use native.Mathlib.Omega.{arith}
use borrow.Author.Tests.{eq-eqb}
use lib.Dec.{ltb}
use lib.ListN.{length, drop, get_or, length-set}
use lib.Seq.{drop-drop, drop-set-lt}
use Rattle.words.proofs.Tests.{cases}
use Rattle.tally.specs.declared.Slot.{Slot}
use Rattle.tally.specs.declared.Slot.TheVariants.{Here, Free, Full}
use Rattle.tally.specs.Models.Tally.{Wide}
use Rattle.tally.specs.Models.Slots.{key_of, place_in, place_at, counter_at, find_of, added, filled, slot_word, remembering}
use Rattle.tally.proofs.Frames.{filled_other, filled-place, added-length, added-behind}
use Rattle.tally.proofs.Probing.{found-low, here_key}
use Rattle.tally.proofs.Stays.{used_other, remembering_other}
use Rattle.format.specs.declared.Format.{Format}
use Rattle.tables.specs.Table.{table_words}
use Rattle.first_pass.specs.Models.Left.{FreeClear}

-- a slot that has no place had none before, and its words are as they were
abbrev FreeSame : ℕ → List ℕ → List ℕ → ℕ → Type 0
FreeSame stretch before after s =
    (place_at before s ≡ 0)
    × (get_or after s 0 ≡ get_or before s 0)
    × (s < stretch - 18 → get_or after (stretch + s) 0 ≡ get_or before (stretch + s) 0)

-- as many slots, the same words behind the tally, and free slots as they were
pub record SlotsKept (f : Format) (before after : List ℕ) : Type 0 where
  pub long : length after ≡ length before
  pub behind : drop (3 * table_words f) after ≡ drop (3 * table_words f) before
  pub free : Wide (table_words f) before → (s : ℕ) → s < table_words f → place_at after s ≡ 0 → FreeSame (table_words f) before after s

-- slots that are not changed are kept
pub kept_same : (f : Format) (slots : List ℕ) → SlotsKept f slots slots
kept_same f slots = record { long = refl; behind = refl; free = λ wide s low e. (e, refl, λ l. refl) }

-- a tally that keeps its length stays wide
pub kept-wide : {stretch : ℕ} {before after : List ℕ} → length after ≡ length before → Wide stretch before → Wide stretch after
kept-wide long wide = record { some = wide.some; low = wide.low; long = rw long wide.long }

-- and so they are by two changes that keep them
pub kept_then : (f : Format) (a b c : List ℕ) → SlotsKept f a b → SlotsKept f b c → SlotsKept f a c
kept_then f a b c h k = record {
  long = k.long ∙ h.long;
  behind = k.behind ∙ h.behind;
  free = λ wide s low e.
      let second = k.free (kept-wide h.long wide) s low e in
      let first = h.free wide s low second.0 in
      (first.0, second.1 ∙ first.1, λ l. second.2 l ∙ first.2 l);
}

-- slots that were clear where they were free are so still
pub kept_clear : {f : Format} {before after : List ℕ} → SlotsKept f before after → Wide (table_words f) before → FreeClear (table_words f) before
    → FreeClear (table_words f) after
kept_clear h wide clear s low e =
    let same = h.free wide s low e in
    let first = clear s low same.0 in
    (same.1 ∙ first.0, λ l. same.2 l ∙ first.1 l)

module _ (archive : List ℕ) (stretch : ℕ) (slots key : List ℕ) (place label most : ℕ) (some-place : 0 < place) (small : place < 16777216)
    (mark : label / 65536 < 18) (wide : Wide stretch slots) where
  -- taking a slot writes no word of one that stays free
  filled-free : (x : ℕ) → x < stretch - 18 → (s : ℕ) → s < stretch → place_at (filled stretch slots place label x) s ≡ 0
      → FreeSame stretch slots (filled stretch slots place label x) s
  filled-free x x-low s low e =
      let other : s ≡ x → ⊥ = λ same.
      let none : place_at (filled stretch slots place label x) x ≡ 0 = ap (place_at (filled stretch slots place label x)) (sym same) ∙ e in
      omega (arith, none, filled-place stretch slots place label x x-low mark wide small) in
      let keep = filled_other stretch slots place label x x-low mark in
      let first = keep s other (λ z. omega arith) (λ z. omega (arith, wide.some)) in (
        ap place_in (sym first) ∙ e,
        first,
        λ l. keep (stretch + s) (λ z. omega arith) (λ z. other (omega arith)) (λ z. omega (arith, wide.some)),
      )

  -- neither does counting a use
  added-free : (slot : Slot) → find_of archive stretch slots key ≡ slot → (s : ℕ) → s < stretch
      → place_at (added stretch slots place label most slot) s ≡ 0 → FreeSame stretch slots (added stretch slots place label most slot) s
  added-free (Here x) is s low e =
      let x-low = found-low archive stretch slots key wide.some (Here x) is in
      let first = used_other archive stretch slots wide x x-low s (λ q. omega arith) in
      let was : place_at slots s ≡ 0 = ap place_in (sym first) ∙ e in
      let taken = (here_key archive stretch slots key wide.some x is).0 in
      let other : s ≡ x → ⊥ = λ q. true≢false (sym (eq-eqb (place_at slots x) 0 (ap (place_at slots) (sym q) ∙ was)) ∙ taken) in
      (was, first, λ l. used_other archive stretch slots wide x x-low (stretch + s) (λ q. other (omega arith)))
  added-free (Free x) is s low e =
      cases (ltb (get_or slots (counter_at stretch (label / 65536)) 0) most)
      (λ q. rw q (filled-free x (found-low archive stretch slots key wide.some (Free x) is) s low (rw q at e)))
      (λ q. rw q (rw q at e, refl, λ l. refl))
  added-free Full is s low e = (e, refl, λ l. refl)

-- words that are the same behind two stretches are so behind three
behind_three : (stretch : ℕ) (a b : List ℕ) → drop (2 * stretch) a ≡ drop (2 * stretch) b → drop (3 * stretch) a ≡ drop (3 * stretch) b
behind_three stretch a b e =
    let n : 2 * stretch + stretch ≡ 3 * stretch = omega arith in
    sym (drop-drop stretch (2 * stretch) a ∙ ap (λ (n : ℕ). drop n a) n)
    ∙ (ap (drop stretch) e ∙ (drop-drop stretch (2 * stretch) b ∙ ap (λ (n : ℕ). drop n b) n))

-- one use more keeps them
pub added-kept : (f : Format) (archive slots : List ℕ) (place label most : ℕ) → 0 < place → place < 16777216 → label / 65536 < 18
    → SlotsKept f slots (added (table_words f) slots place label most (find_of archive (table_words f) slots (key_of archive place label)))
added-kept f archive slots place label most behind small mark =
    let stretch = table_words f in
    let key = key_of archive place label in
    let slot = find_of archive stretch slots key in
    record {
      long = added-length stretch slots place label most slot;
      behind = behind_three stretch (added stretch slots place label most slot) slots
          (added-behind stretch slots place label most slot mark (found-low archive stretch slots key (omega arith) slot refl));
      free = λ wide. added-free archive stretch slots key place label most behind small mark wide slot refl;
    }

-- and so does a slot that is remembered, or none
pub remembering-kept : (f : Format) (slots : List ℕ) (entry : ℕ) (slot : Option ℕ) → entry < table_words f
    → SlotsKept f slots (remembering (table_words f) slots entry slot)
remembering-kept f slots entry slot low =
    let stretch = table_words f in
    record {
      long = length-set slots (2 * stretch + entry) (slot_word slot);
      behind = drop-set-lt (3 * stretch) slots (2 * stretch + entry) (slot_word slot) (omega arith);
      free = λ wide s below e.
          let first = remembering_other stretch slots entry slot s (omega arith) in
          (ap place_in (sym first) ∙ e, first, λ l. remembering_other stretch slots entry slot (stretch + s) (omega arith));
    }
