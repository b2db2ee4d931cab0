-- A table that tells of some uses: an empty one, one use more, what is found, the most keys of each mark, and the words that all keys take.
-- Assumes nothing.
use Rattle.std.specs.Prelude.{Option}
use Prim.Native.Nat.{ℕ, ◌+◌, ◌-◌, ◌*◌, ◌/◌, ◌<◌, ◌≤◌, min}
use mathlib.Core.Path.{◌≡◌, refl, sym, ap, ◌∙◌}
use mathlib.Core.List.{[], List, ◌∷◌}
use mathlib.Core.Bool.{true, false, true≢false}
use mathlib.Core.Logic.{◌⊎◌, inl, inr, ⊎_elim}
use native.Mathlib.Omega.{arith}
use lib.Dec.{eqb, ltb}
use lib.ListN.{length, get_or, length-set}
use borrow.Author.Tests.{eqb-true, eqb-false, ltb-true, ltb-false}
use Rattle.words.specs.Word.{pick}
use Rattle.words.specs.Stream.{same_bytes}
use Rattle.words.proofs.Same.{same_true, same_refl}
use Rattle.words.proofs.Tests.{cases}
use Rattle.registering.specs.Counting.{sum_by, count, keys}
use Rattle.registering.specs.Registers.{registers}
use Rattle.registering.proofs.Registers.{registers_empty, registers_often}
use Rattle.tally.specs.declared.Slot.{Slot}
use Rattle.tally.specs.declared.Slot.TheVariants.{Here, Free, Full}
use Rattle.tally.specs.Models.Slots.{key_of, key_mark, key_words, place_in, uses_in, place_at, uses_at, counter_at, is_free, key_at, find_of, raised, count_at, used_again, filled, slot_word, remembering, is_added, added, cost_of, sum_to, measure_of}
use Rattle.tally.specs.Models.Tally.{distinct, Wide, Tallies}
use Rattle.tally.proofs.Probing.{found-low, here_key, free_slot, full_slots, find_still, find_taken, find_alike}
use Rattle.tally.proofs.Frames.{raised_more, raised-least, word_uses, filled_other, filled_uses, filled_counter}
use Rattle.tally.proofs.Stays.{Stay, used-word, used_other, used-place, used_stay, filled_taken, filled-key, filled-words, filled_stay, remembering_other}
use Rattle.tally.proofs.Sums.{sum_alike, sum_ones, at_bounds, held, held_none, held_once, held_keys, distinct_old, distinct-own, distinct_other, distinct-alike, distinct-sum}

-- a key used more often than half a word holds is registered, as one used as often as that is; or it has no words
often_registered : (words uses : ℕ) → 65535 < uses → (words ≡ 0) ⊎ ((registers words 65535 ≡ true) × (registers words uses ≡ true))
often_registered words uses often =
    cases (eqb words 0) (λ e. inl (eqb-true words 0 e))
    (λ e. let some = eqb-false words 0 e in
    inr (registers_often words 65535 (omega arith) (omega arith), registers_often words uses (omega arith) (omega arith)))

-- so whether a key is registered can be told from as many of its uses as half a word holds
pub registers_capped : (words uses : ℕ) → registers words (min 65535 uses) ≡ registers words uses
registers_capped words uses =
    cases (ltb uses 65536)
    (λ e. let same : min 65535 uses ≡ uses = omega (arith, ltb-true uses 65536 e) in rw same)
    (λ e. let often = ltb-false uses 65536 e in
    let most : min 65535 uses ≡ 65535 = omega arith in
    rw most (⊎_elim (λ z. no_words 65535 z ∙ sym (no_words uses z)) (λ r. r.0 ∙ sym r.1) (often_registered words uses (omega arith))))
  where
    no_words : (n : ℕ) → words ≡ 0 → registers words n ≡ false
    no_words n z = ap (λ (w : ℕ). registers w n) z ∙ registers_empty n

-- and so can the words that it takes
cost_capped : (words uses : ℕ)
    → pick (registers words (min 65535 uses)) (1 + words) (min 65535 uses * words) ≡ pick (registers words uses) (1 + words) (uses * words)
cost_capped words uses =
    cases (ltb uses 65536)
    (λ e. let same : min 65535 uses ≡ uses = omega (arith, ltb-true uses 65536 e) in rw same)
    (λ e. rw (registers_capped words uses) (go (often_registered words uses (omega (arith, ltb-false uses 65536 e)))))
  where
    go : (words ≡ 0) ⊎ ((registers words 65535 ≡ true) × (registers words uses ≡ true))
        → pick (registers words uses) (1 + words) (min 65535 uses * words) ≡ pick (registers words uses) (1 + words) (uses * words)
    go (inl z) = rw z (cases (registers 0 uses) (λ e. rw e) (λ e. rw e (omega arith)))
    go (inr r) = rw r.1

-- a table of zeros tells of no uses
pub empty_tally : (archive : List ℕ) (stretch : ℕ) (slots : List ℕ) → Wide stretch slots → ((i : ℕ) → i < 3 * stretch → get_or slots i 0 ≡ 0)
    → Tallies archive stretch slots []
empty_tally archive stretch slots wide zeros = record {
  wide = wide;
  counted = λ s l f. absurd (eqb-false (place_at slots s) 0 f (ap place_in (zeros s (omega arith))));
  used = λ s l f. absurd (eqb-false (place_at slots s) 0 f (ap place_in (zeros s (omega arith))));
  own = λ s l f. absurd (eqb-false (place_at slots s) 0 f (ap place_in (zeros s (omega arith))));
  kept = λ key h. absurd (omega arith);
  spare = λ s g l. ap place_in (zeros s (omega arith));
  marks = λ mark l. zeros (counter_at stretch mark) (omega arith);
}

-- a table tells the same of uses in another order
pub tally-alike : {archive : List ℕ} {stretch : ℕ} {slots : List ℕ} (us vs : List (List ℕ)) → Tallies archive stretch slots us
    → ((key : List ℕ) → count same_bytes key us ≡ count same_bytes key vs) → Tallies archive stretch slots vs
tally-alike {archive} {stretch} {slots} us vs T h = record {
  wide = T.wide;
  counted = λ s l f. T.counted s l f ∙ ap (min 65535) (h (key_at archive stretch slots s));
  used = T.used;
  own = T.own;
  kept = λ key p. T.kept key (omega (arith, h key));
  spare = T.spare;
  marks = λ mark l. T.marks mark l ∙ distinct-alike mark us vs h;
}

module _ {archive : List ℕ} {stretch : ℕ} {slots : List ℕ} {us : List (List ℕ)} (T : Tallies archive stretch slots us) where
  -- ---- what a search finds

  -- a key that is found was used as often as its slot says, up to the highest that this holds
  pub here_used : (key : List ℕ) (s : ℕ) → find_of archive stretch slots key ≡ Here s
      → (uses_at stretch slots s ≡ min 65535 (count same_bytes key us)) × (0 < count same_bytes key us)
  here_used key s e =
      let l = found-low archive stretch slots key T.wide.some (Here s) e in
      let h = here_key archive stretch slots key T.wide.some s e in
      let same : uses_at stretch slots s ≡ min 65535 (count same_bytes key us) =
      T.counted s l h.0 ∙ ap (λ (k : List ℕ). min 65535 (count same_bytes k us)) h.1 in
      (same, omega (arith, T.used s l h.0))

  -- a key that is not found was not used
  not_here : (key : List ℕ) → ((s : ℕ) → find_of archive stretch slots key ≡ Here s → ⊥) → count same_bytes key us ≡ 0
  not_here key h =
      cases (eqb (count same_bytes key us) 0)
      (λ e. eqb-true (count same_bytes key us) 0 e)
      (λ e. let n = eqb-false (count same_bytes key us) 0 e in
      let p : 0 < count same_bytes key us = omega arith in
      absurd (h (T.kept key p).0 (T.kept key p).1))

  -- a key for which a free slot is found was not used
  free_new : (key : List ℕ) (s : ℕ) → find_of archive stretch slots key ≡ Free s → count same_bytes key us ≡ 0
  free_new key s e = not_here key (λ x p. let z : ◌≡◌ {A = ℕ} 0 1 = cc in omega arith)

  -- nor was one for which no slot is left
  full_new : (key : List ℕ) → find_of archive stretch slots key ≡ Full → count same_bytes key us ≡ 0
  full_new key e = not_here key (λ x p. let z : ◌≡◌ {A = ℕ} 0 1 = cc in omega arith)

  -- a slot that holds a key is the one found for it
  own_slot : (key : List ℕ) (s : ℕ) → s < stretch - 18 → is_free slots s ≡ false → same_bytes (key_at archive stretch slots s) key ≡ true
      → find_of archive stretch slots key ≡ Here s
  own_slot key s l f q = rw (← same_true (key_at archive stretch slots s) key q) (T.own s l f)

  -- ---- sums over the slots

  -- each key that was used is held once
  held_count : (key : List ℕ)
      → count same_bytes key (held (is_free slots) (key_at archive stretch slots) (stretch - 18)) ≡ min 1 (count same_bytes key us)
  held_count key =
      cases (eqb (count same_bytes key us) 0)
      (λ e. let z = eqb-true (count same_bytes key us) 0 e in
      omega (
        arith,
        held_none (is_free slots) (key_at archive stretch slots) key (stretch - 18)
            (λ s l f. cases (same_bytes (key_at archive stretch slots s) key) (λ q. absurd (omega (arith, here_used key s (own_slot key s l f q)))) (λ q. q)),
      ))
      (λ e. let n = eqb-false (count same_bytes key us) 0 e in
      let p : 0 < count same_bytes key us = omega arith in
      let s = (T.kept key p).0 in
      let found = (T.kept key p).1 in
      let h = here_key archive stretch slots key T.wide.some s found in
      omega (
        arith,
        held_once (is_free slots) (key_at archive stretch slots) key s (stretch - 18) (found-low archive stretch slots key T.wide.some (Here s) found)
            h.0 (ap (λ (k : List ℕ). same_bytes k key) h.1 ∙ same_refl key)
            (λ x l i f. cases (same_bytes (key_at archive stretch slots x) key)
            (λ q. let same = own_slot key x l f q in let j : x ≡ s = cc in absurd (i j)) (λ q. q)),
      ))

  -- a sum over the slots is a sum over the distinct keys
  slots_sum : (f : List ℕ → ℕ) → sum_to (stretch - 18) (λ s. pick (is_free slots s) 0 (f (key_at archive stretch slots s))) ≡ sum_by f (keys same_bytes [] us)
  slots_sum f = held_keys (is_free slots) (key_at archive stretch slots) (stretch - 18) us held_count f

  -- the words that the table measures are those of the distinct keys, each registered where that is shorter
  pub measure_best : measure_of stretch slots
      ≡ sum_by (λ key. pick (registers (key_words key) (count same_bytes key us)) (1 + key_words key) (count same_bytes key us * key_words key)) (keys same_bytes [] us)
  unfolding measure_of cost_of
  measure_best =
      sum_alike (stretch - 18) _
      (λ s. pick (is_free slots s) 0
      (pick (registers (key_words (key_at archive stretch slots s)) (count same_bytes (key_at archive stretch slots s) us))
      (1 + key_words (key_at archive stretch slots s)) (count same_bytes (key_at archive stretch slots s) us * key_words (key_at archive stretch slots s))))
      (λ s l. cases (is_free slots s) (λ e. rw e)
      (λ e. rw (e, T.counted s l e)
      (cost_capped (key_words (key_at archive stretch slots s)) (count same_bytes (key_at archive stretch slots s) us))))
      ∙ slots_sum (λ key. pick (registers (key_words key) (count same_bytes key us)) (1 + key_words key) (count same_bytes key us * key_words key))

  -- where no slot is left, there are as many distinct keys as slots
  full_keys : (key : List ℕ) → find_of archive stretch slots key ≡ Full → sum_by (λ k. 1) (keys same_bytes [] us) ≡ stretch - 18
  full_keys key e =
      sym (slots_sum (λ k. 1))
      ∙ sum_alike (stretch - 18) _ (λ s. 1) (λ s l. rw (full_slots archive stretch slots key T.wide.some e s l)) ∙ sum_ones (stretch - 18)

  -- ---- one use more

  -- a table in which each slot but one says what it said, and that one says one use more of its key
  module _ (table' : List ℕ) (key : List ℕ) (s : ℕ)
      (stay : (x : ℕ) → x < stretch - 18 → is_free slots x ≡ false
      → (is_free table' x ≡ false) × (key_at archive stretch table' x ≡ key_at archive stretch slots x))
      (other : (x : ℕ) → x < stretch - 18 → (x ≡ s → ⊥) → (is_free table' x ≡ is_free slots x) × (uses_at stretch table' x ≡ uses_at stretch slots x))
      (holds : key_at archive stretch table' s ≡ key) (more : uses_at stretch table' s ≡ min 65535 (1 + count same_bytes key us))
      (found : find_of archive stretch table' key ≡ Here s) where
    -- any other slot that is taken was taken
    was_taken : (x : ℕ) → x < stretch - 18 → (x ≡ s → ⊥) → is_free table' x ≡ false → is_free slots x ≡ false
    was_taken x l n f = sym (other x l n).0 ∙ f

    -- each slot that is taken is found by its key
    own_more : (x : ℕ) → x < stretch - 18 → is_free table' x ≡ false → find_of archive stretch table' (key_at archive stretch table' x) ≡ Here x
    own_more x l f =
        cases (eqb x s)
        (λ e. let i = eqb-true x s e in
        ap (find_of archive stretch table') (ap (key_at archive stretch table') i ∙ holds) ∙ found ∙ ap Here (sym i))
        (λ e. let g = was_taken x l (eqb-false x s e) f in
        ap (find_of archive stretch table') (stay x l g).1
        ∙ find_still archive stretch slots table' T.wide.some stay (key_at archive stretch slots x) x (T.own x l g))

    -- each slot that is taken has the number of uses of its key
    counted_more : (x : ℕ) → x < stretch - 18 → is_free table' x ≡ false
        → uses_at stretch table' x ≡ min 65535 (count same_bytes (key_at archive stretch table' x) (key ∷ us))
    counted_more x l f =
        cases (eqb x s)
        (λ e. let i = eqb-true x s e in
        let same : key_at archive stretch table' x ≡ key = ap (key_at archive stretch table') i ∙ holds in
        let one : count same_bytes key (key ∷ us) ≡ 1 + count same_bytes key us = rw (same_refl key) in
        ap (uses_at stretch table') i ∙ more ∙ ap (min 65535) (sym (ap (λ (k : List ℕ). count same_bytes k (key ∷ us)) same ∙ one)))
        (λ e. let n = eqb-false x s e in
        let g = was_taken x l n f in
        cases (same_bytes key (key_at archive stretch table' x))
        (λ q. let same = same_true key (key_at archive stretch table' x) q in
        let own = own_more x l f in
        let i : x ≡ s = cc in absurd (n i))
        (λ q. rw q (omega (arith, (other x l n).1, T.counted x l g, ap (λ (k : List ℕ). count same_bytes k us) (stay x l g).1))))

    -- which is not 0
    used_more : (x : ℕ) → x < stretch - 18 → is_free table' x ≡ false → 0 < uses_at stretch table' x
    used_more x l f =
        cases (eqb x s)
        (λ e. rw (eqb-true x s e) (omega arith))
        (λ e. let n = eqb-false x s e in omega (arith, (other x l n).1, T.used x l (was_taken x l n f)))

    -- each key that was used is found
    kept_more : (k : List ℕ) → 0 < count same_bytes k (key ∷ us) → (x : ℕ) × (find_of archive stretch table' k ≡ Here x)
    kept_more k h =
        cases (same_bytes key k)
        (λ q. (s, rw (same_true key k q) at found))
        (λ q. let g = rw q at h in
        let r = T.kept k (omega arith) in
        (r.0, find_still archive stretch slots table' T.wide.some stay k r.0 r.1))

    -- so the table tells of one use more
    tally_more : Wide stretch table' → ((x : ℕ) → stretch - 18 ≤ x → x < stretch → place_at table' x ≡ 0)
        → ((mark : ℕ) → mark < 18 → get_or table' (counter_at stretch mark) 0 ≡ distinct mark (key ∷ us)) → Tallies archive stretch table' (key ∷ us)
    tally_more wide spare marks = record {
      wide = wide;
      counted = counted_more;
      used = used_more;
      own = own_more;
      kept = kept_more;
      spare = spare;
      marks = marks;
    }

  -- a table of the same length is long enough
  wide_more : (table' : List ℕ) → length table' ≡ length slots → Wide stretch table'
  wide_more table' e = record { some = T.wide.some; low = T.wide.low; long = rw e T.wide.long }

  -- one use more of a key that has a slot
  pub raised-tally : (key : List ℕ) (s : ℕ) → find_of archive stretch slots key ≡ Here s
      → Tallies archive stretch (used_again stretch slots s) (key ∷ us)
  raised-tally key s e =
      tally_more table' key s stay other
      ((stay s l h.0).1 ∙ h.1)
      (ap uses_in (used-word archive stretch slots T.wide s l) ∙ word_uses (raised (uses_at stretch slots s)) (get_or slots (stretch + s) 0)
      ∙ ap raised u.0 ∙ raised-least (count same_bytes key us))
      (find_still archive stretch slots table' T.wide.some stay key s e)
      (wide_more table' (simp length-set))
      (λ x g k. used-place archive stretch slots T.wide s l x k ∙ T.spare x g k)
      (λ m g. used_other archive stretch slots T.wide s l (counter_at stretch m) (λ q. omega (arith, l)) ∙ T.marks m g ∙ sym (distinct_old m key us u.1))
    where
      table' : List ℕ
      table' = used_again stretch slots s

      l : s < stretch - 18
      l = found-low archive stretch slots key T.wide.some (Here s) e

      h : (is_free slots s ≡ false) × (key_at archive stretch slots s ≡ key)
      h = here_key archive stretch slots key T.wide.some s e

      u : (uses_at stretch slots s ≡ min 65535 (count same_bytes key us)) × (0 < count same_bytes key us)
      u = here_used key s e

      stay : Stay archive stretch slots table'
      stay = used_stay archive stretch slots T.wide s l

      other : (x : ℕ) → x < stretch - 18 → (x ≡ s → ⊥) → (is_free table' x ≡ is_free slots x) × (uses_at stretch table' x ≡ uses_at stretch slots x)
      other x g n = (
        ap (λ (p : ℕ). eqb p 0) (used-place archive stretch slots T.wide s l x (omega arith)),
        ap uses_in (used_other archive stretch slots T.wide s l (stretch + x) (λ q. n (omega arith))),
      )

  -- the first use of a key, in a free slot
  filled-tally : (place label s : ℕ) → 0 < place → place < 16777216 → label / 65536 < 18 → count_at stretch slots label < 65535
      → find_of archive stretch slots (key_of archive place label) ≡ Free s
      → Tallies archive stretch (filled stretch slots place label s) (key_of archive place label ∷ us)
  filled-tally place label s some small mark few e =
      tally_more table' (key_of archive place label) s stay other
      (filled-key archive stretch slots T.wide place label s some small mark l free)
      (filled_uses stretch slots place label s l mark T.wide ∙ omega (arith, new))
      (find_taken archive stretch slots table' T.wide.some stay (key_of archive place label) s
      (filled_taken archive stretch slots T.wide place label s some small mark l free)
      (filled-key archive stretch slots T.wide place label s some small mark l free) e)
      (wide_more table' (simp length-set))
      (λ x g k. ap place_in (left x (λ q. omega (arith, l)) (λ q. omega arith) (λ q. omega (arith, T.wide.some))) ∙ T.spare x g k)
      marks
    where
      table' : List ℕ
      table' = filled stretch slots place label s

      l : s < stretch - 18
      l = found-low archive stretch slots (key_of archive place label) T.wide.some (Free s) e

      free : is_free slots s ≡ true
      free = free_slot archive stretch slots (key_of archive place label) T.wide.some s e

      new : count same_bytes (key_of archive place label) us ≡ 0
      new = free_new (key_of archive place label) s e

      left : (i : ℕ) → (i ≡ s → ⊥) → (i ≡ stretch + s → ⊥) → (i ≡ counter_at stretch (label / 65536) → ⊥)
          → get_or table' i 0 ≡ get_or slots i 0
      left = filled_other stretch slots place label s l mark

      stay : Stay archive stretch slots table'
      stay = filled_stay archive stretch slots T.wide place label s some small mark l free

      other : (x : ℕ) → x < stretch - 18 → (x ≡ s → ⊥) → (is_free table' x ≡ is_free slots x) × (uses_at stretch table' x ≡ uses_at stretch slots x)
      other x g n =
          let w = filled-words archive stretch slots T.wide place label s some small mark l free x g n in
          (rw w.0, ap uses_in w.1)

      marks : (m : ℕ) → m < 18 → get_or table' (counter_at stretch m) 0 ≡ distinct m (key_of archive place label ∷ us)
      marks m g =
          cases (eqb (label / 65536) m)
          (λ q. let i = eqb-true (label / 65536) m q in
          let same = ap (λ (x : ℕ). get_or slots (counter_at stretch x) 0) i in
          let before = T.marks m g in
          let more = distinct-own m (key_of archive place label) us new i in
          ap (λ (x : ℕ). get_or table' (counter_at stretch x) 0) (sym i)
          ∙ filled_counter stretch slots place label s l mark T.wide
          ∙ raised_more (count_at stretch slots label) few
          ∙ omega arith)
          (λ q. let i = eqb-false (label / 65536) m q in
          left (counter_at stretch m) (λ z. omega (arith, l)) (λ z. omega (arith, l)) (λ z. i (omega arith))
          ∙ T.marks m g ∙ sym (distinct_other m (key_of archive place label) us new i))

  -- a use that is counted keeps the tally
  pub add-tally : (place label most : ℕ) → 0 < place → place < 16777216 → label / 65536 < 18 → most < 65536
      → is_added stretch slots label most (find_of archive stretch slots (key_of archive place label)) ≡ true
      → Tallies archive stretch (added stretch slots place label most (find_of archive stretch slots (key_of archive place label)))
      (key_of archive place label ∷ us)
  add-tally place label most some small mark few = go (find_of archive stretch slots (key_of archive place label)) refl
    where
      go : (slot : Slot) → find_of archive stretch slots (key_of archive place label) ≡ slot → is_added stretch slots label most slot ≡ true
          → Tallies archive stretch (added stretch slots place label most slot) (key_of archive place label ∷ us)
      go (Here s) e a = raised-tally (key_of archive place label) s e
      go (Free s) e a =
          rw a (filled-tally place label s some small mark (omega (arith, ltb-true (count_at stretch slots label) most a)) e)
      go Full e a = absurd (true≢false (sym a))

  -- slots with the same words in the first two stretches tell the same
  pub words-tally : (after : List ℕ) → length after ≡ length slots → ((i : ℕ) → i < 2 * stretch → get_or after i 0 ≡ get_or slots i 0)
      → Tallies archive stretch after us
  words-tally after long same =
      record {
        wide = wide_more after long;
        counted = λ s l f. rw (second s l, first s (omega arith)) (T.counted s l (free s l f));
        used = λ s l f. rw (second s l) (T.used s l (free s l f));
        own = λ s l f. rw (searched (key_at archive stretch after s), second s l, first s (omega arith)) (T.own s l (free s l f));
        kept = λ key h. let r = T.kept key h in (r.0, searched key ∙ r.1);
        spare = λ s g l. ap place_in (first s l) ∙ T.spare s g l;
        marks = λ mark l. same (counter_at stretch mark) (omega (arith, T.wide.some)) ∙ T.marks mark l;
      }
    where
      first : (s : ℕ) → s < stretch → get_or after s 0 ≡ get_or slots s 0
      first s l = same s (omega arith)

      second : (s : ℕ) → s < stretch - 18 → get_or after (stretch + s) 0 ≡ get_or slots (stretch + s) 0
      second s l = same (stretch + s) (omega arith)

      free : (s : ℕ) → s < stretch - 18 → is_free after s ≡ false → is_free slots s ≡ false
      free s l f = rw (first s (omega arith)) at f

      searched : (key : List ℕ) → find_of archive stretch after key ≡ find_of archive stretch slots key
      searched =
          find_alike archive stretch slots after T.wide.some
          (λ s l. (ap place_in (first s (omega arith)), λ f. rw (first s (omega arith), second s l)))

  -- so a slot that is remembered keeps the tally
  pub remembering-tally : (entry : ℕ) (slot : Option ℕ) → Tallies archive stretch (remembering stretch slots entry slot) us
  remembering-tally entry slot =
      words-tally (remembering stretch slots entry slot) (length-set slots (2 * stretch + entry) (slot_word slot)) (remembering_other stretch slots entry slot)

  -- ---- the most keys of each mark

  -- a use that is counted leaves no mark with more keys than it may have
  pub added-within : (most : ℕ → ℕ) (place label : ℕ) → ((mark : ℕ) → mark < 18 → distinct mark us ≤ most mark) → label / 65536 < 18
      → is_added stretch slots label (most (label / 65536)) (find_of archive stretch slots (key_of archive place label)) ≡ true
      → (mark : ℕ) → mark < 18 → distinct mark (key_of archive place label ∷ us) ≤ most mark
  added-within most place label within low = go (find_of archive stretch slots (key_of archive place label)) refl
    where
      go : (slot : Slot) → find_of archive stretch slots (key_of archive place label) ≡ slot
          → is_added stretch slots label (most (label / 65536)) slot ≡ true
          → (mark : ℕ) → mark < 18 → distinct mark (key_of archive place label ∷ us) ≤ most mark
      go (Here s) e a mark l =
          rw (distinct_old mark (key_of archive place label) us (here_used (key_of archive place label) s e).1) (within mark l)
      go (Free s) e a mark l =
          let new = free_new (key_of archive place label) s e in
          cases (eqb (label / 65536) mark)
          (λ q. let i = eqb-true (label / 65536) mark q in
          let below = ltb-true (count_at stretch slots label) (most (label / 65536)) a in
          let here = rw i at below in
          omega (arith, distinct-own mark (key_of archive place label) us new i, T.marks mark l))
          (λ q. rw (distinct_other mark (key_of archive place label) us new (eqb-false (label / 65536) mark q)) (within mark l))
      go Full e a mark l = absurd (true≢false (sym a))

  -- a use is not counted only where its mark would then have more keys than it may have
  pub not_added : (most : ℕ → ℕ) (place label : ℕ) → ((mark : ℕ) → mark < 18 → distinct mark us ≤ most mark)
      → sum_to 18 most ≤ stretch - 18 → ((key : List ℕ) → 0 < count same_bytes key us → key_mark key < 18) → label / 65536 < 18
      → is_added stretch slots label (most (label / 65536)) (find_of archive stretch slots (key_of archive place label)) ≡ false
      → most (label / 65536) < distinct (label / 65536) (key_of archive place label ∷ us)
  not_added most place label within room marked low = go (find_of archive stretch slots (key_of archive place label)) refl
    where
      go : (slot : Slot) → find_of archive stretch slots (key_of archive place label) ≡ slot
          → is_added stretch slots label (most (label / 65536)) slot ≡ false
          → most (label / 65536) < distinct (label / 65536) (key_of archive place label ∷ us)
      go (Here s) e a = absurd (true≢false a)
      go (Free s) e a =
          omega (
            arith,
            ltb-false (count_at stretch slots label) (most (label / 65536)) a,
            T.marks (label / 65536) low,
            distinct-own (label / 65536) (key_of archive place label) us (free_new (key_of archive place label) s e) refl,
          )
      go Full e a =
          let all : sum_to 18 most ≤ sum_to 18 (λ mark. distinct mark us) =
          rw (distinct-sum 18 us marked, full_keys (key_of archive place label) e) room in
          omega (
            arith,
            at_bounds 18 (λ mark. distinct mark us) most within all (label / 65536) low,
            distinct-own (label / 65536) (key_of archive place label) us (full_new (key_of archive place label) e) refl,
          )
