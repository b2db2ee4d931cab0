-- Giving an index writes only the counter of its mark and what stands for the uses in its key's slot: what that leaves of the words of the tally,
-- one index after the other. Assumes nothing.
use Prim.Native.Nat.{ℕ, ◌+◌, ◌-◌, ◌*◌, ◌/◌, ◌<◌}
use mathlib.Core.Path.{◌≡◌, refl, sym, ap, ◌∙◌}
use mathlib.Core.List.{List}
use native.Mathlib.Omega.{arith}
use lib.Dec.{eqb}
use lib.ListN.{length, take, drop, get_or}
use lib.Seq.{get_or-take, take-set-le, drop-drop}
use Rattle.indexing.specs.Models.Indexes.{indexed}
use Rattle.tally.specs.Models.Tally.{Wide}
use Rattle.tally.specs.Models.Slots.{place_in, label_at, uses_in, uses_at, find_of}
use Rattle.words.specs.Stream.{same_bytes}
use Rattle.words.proofs.Tests.{cases}
use Rattle.registering.specs.Counting.{count}
use Rattle.tally.specs.declared.Slot.{Slot}
use Rattle.tally.specs.declared.Slot.TheVariants.{Here, Free, Full}
use Rattle.tally.proofs.Probing.{found-low, find_alike}
use Rattle.indexing.proofs.Frames.{indexed-length, indexed-behind, index_other, index_key}

-- every slot has its first word and its label
pub record SameKeys (stretch : ℕ) (before after : List ℕ) : Type 0 where
  pub firsts : take stretch after ≡ take stretch before
  pub labels : (s : ℕ) → s < stretch - 18 → label_at stretch after s ≡ label_at stretch before s

-- as many slots with the same places and labels, the same uses of each slot that is no used key's, and the same words behind the tally
pub record KeysKept (archive : List ℕ) (stretch : ℕ) (us : List (List ℕ)) (before after : List ℕ) : Type 0 where
  pub long : length after ≡ length before
  pub keys : SameKeys stretch before after
  pub others : (s : ℕ) → s < stretch - 18 → ((key : List ℕ) → 0 < count same_bytes key us → find_of archive stretch before key ≡ Here s → ⊥)
      → uses_at stretch after s ≡ uses_at stretch before s
  pub behind : drop (3 * stretch) after ≡ drop (3 * stretch) before

-- a word among the first n that are the same
word_same : (n : ℕ) (a b : List ℕ) → take n a ≡ take n b → (i : ℕ) → i < n → get_or a i 0 ≡ get_or b i 0
word_same n a b e i low = sym (get_or-take n a i 0 low) ∙ ap (λ (l : List ℕ). get_or l i 0) e ∙ get_or-take n b i 0 low

-- words that are the same behind two stretches are so behind three
pub behind_both : (stretch : ℕ) (a b : List ℕ) → drop (2 * stretch) a ≡ drop (2 * stretch) b → drop (3 * stretch) a ≡ drop (3 * stretch) b
behind_both stretch a b e =
    let n : 2 * stretch + stretch ≡ 3 * stretch = omega arith in
    rw (← n) (sym (drop-drop stretch (2 * stretch) a) ∙ ap (drop stretch) e ∙ drop-drop stretch (2 * stretch) b)

module _ (archive : List ℕ) (stretch : ℕ) (us : List (List ℕ)) where
  -- slots that are not changed are kept
  pub kept_same : (slots : List ℕ) → KeysKept archive stretch us slots slots
  kept_same slots = record { long = refl; keys = record { firsts = refl; labels = λ s low. refl }; others = λ s low none. refl; behind = refl }

  module _ (some : 18 < stretch) where
    -- with the same places and labels each key is found where it was
    pub kept-found : (a b : List ℕ) → SameKeys stretch a b → (key : List ℕ) → find_of archive stretch b key ≡ find_of archive stretch a key
    kept-found a b h =
        find_alike archive stretch a b some
        (λ s low. (ap place_in (word_same stretch b a h.firsts s (omega arith)), λ taken. h.labels s low))

    -- two changes that keep them
    pub kept_then : (a b c : List ℕ) → KeysKept archive stretch us a b → KeysKept archive stretch us b c → KeysKept archive stretch us a c
    kept_then a b c h k = record {
      long = k.long ∙ h.long;
      keys = record { firsts = k.keys.firsts ∙ h.keys.firsts; labels = λ s low. k.keys.labels s low ∙ h.keys.labels s low };
      others = λ s low none. k.others s low (λ key used e. none key used (sym (kept-found a b h.keys key) ∙ e)) ∙ h.others s low none;
      behind = k.behind ∙ h.behind;
    }

    module _ (slots key : List ℕ) (label : ℕ) (wide : Wide stretch slots) (used : 0 < count same_bytes key us) (mark : label / 65536 < 18) where
      -- a given index keeps places and labels
      indexed-keys : (slot : Slot) → find_of archive stretch slots key ≡ slot → SameKeys stretch slots (indexed stretch slots label slot)
      indexed-keys (Here s) is =
          cases (eqb (uses_at stretch slots s) 1)
          (λ e. rw e (record {
            firsts = take-set-le stretch _ (stretch + s) _ (omega arith) ∙ take-set-le stretch slots _ _ (omega (arith, wide.some));
            labels = λ x low. (index_key stretch slots label s (found-low archive stretch slots key some (Here s) is) mark wide x low).1;
          }))
          (λ e. rw e (record { firsts = refl; labels = λ x low. refl }))
      indexed-keys (Free s) is = record { firsts = refl; labels = λ x low. refl }
      indexed-keys Full is = record { firsts = refl; labels = λ x low. refl }

      -- and what stands for the uses in all slots but its key's
      indexed-others : (slot : Slot) → find_of archive stretch slots key ≡ slot → (s : ℕ) → s < stretch - 18
          → ((k : List ℕ) → 0 < count same_bytes k us → find_of archive stretch slots k ≡ Here s → ⊥)
          → uses_at stretch (indexed stretch slots label slot) s ≡ uses_at stretch slots s
      indexed-others (Here x) is s low none =
          let other : s ≡ x → ⊥ = λ e. none key used (is ∙ ap Here (sym e)) in
          cases (eqb (uses_at stretch slots x) 1)
          (λ e. rw e
          (ap uses_in
          (index_other stretch slots label x (found-low archive stretch slots key some (Here x) is) mark (stretch + s) (λ z. other (omega arith))
          (λ z. omega arith))))
          (λ e. rw e)
      indexed-others (Free x) is s low none = refl
      indexed-others Full is s low none = refl

      -- so an index given to a key that was used keeps them
      pub kept-indexed : KeysKept archive stretch us slots (indexed stretch slots label (find_of archive stretch slots key))
      kept-indexed =
          let slot = find_of archive stretch slots key in
          record {
            long = indexed-length stretch slots label slot;
            keys = indexed-keys slot refl;
            others = indexed-others slot refl;
            behind = behind_both stretch _ slots (indexed-behind stretch slots label slot mark (found-low archive stretch slots key some slot refl));
          }
