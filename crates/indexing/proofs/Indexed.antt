-- A table once the uses are counted: the choices that it holds, the index that is found of a key, and one index more. Assumes nothing.
use Prim.Native.Nat.{ℕ, ◌+◌, ◌-◌, ◌/◌, ◌%◌, ◌<◌, min}
use mathlib.Core.Path.{◌≡◌, refl, sym, ap, ◌∙◌}
use mathlib.Core.List.{List}
use mathlib.Core.Bool.{Bool, true, false, cond, ◌&&◌, true≢false}
use native.Mathlib.Omega.{arith}
use lib.Dec.{eqb}
use lib.ListN.{length, get_or, length-set}
use borrow.Author.Tests.{eqb-true, eqb-false, eq-eqb, ne_eqb}
use Rattle.words.specs.Word.{pick}
use Rattle.words.specs.Stream.{same_bytes, stream_words}
use Rattle.words.proofs.Same.{same_true, same_refl}
use Rattle.words.proofs.Tests.{cases, both_true}
use Rattle.registering.specs.Counting.{count}
use Rattle.registering.specs.Registers.{registers}
use Rattle.tally.specs.declared.Slot.{Slot}
use Rattle.tally.specs.declared.Slot.TheVariants.{Here, Free, Full}
use Rattle.tally.specs.Models.Slots.{key_words, place_in, label_in, uses_in, uses_at, counter_at, is_free, key_at, find_of, raised, count_at}
use Rattle.tally.specs.Models.Tally.{Tallies}
use Rattle.tally.proofs.Probing.{found-low, here_key, find_alike}
use Rattle.tally.proofs.Frames.{raised_more, label-length, word_uses, same_label}
use Rattle.tally.proofs.Tallied.{here_used, registers_capped}
use Rattle.indexing.specs.Models.Indexes.{chosen_word, chosen_to, index_at, index_of, new_index, indexed, Indexes, chosen_key, with_index}
use Rattle.indexing.proofs.Frames.{chosen_length, chosen_other, chosen_own, index_other, index_uses, index_key, index_counter}

-- ---- the choices

-- the word of a slot without a key is 0
choice_free : (first second : ℕ) → place_in first ≡ 0 → chosen_word first second ≡ 0
unfolding chosen_word
choice_free first second e = rw (eq-eqb (place_in first) 0 e)

-- the word of a slot with a key keeps its label
choice_label : (first second : ℕ) → eqb (place_in first) 0 ≡ false → label_in first (chosen_word first second) ≡ label_in first second
unfolding chosen_word
choice_label first second e = rw e (same_label first (pick (registers (stream_words (second % 65536)) (uses_in second)) 1 0) second)

-- the choice of a slot that holds a key is whether the key is registered, by its uses up to the highest that half a word holds
choice_taken : (archive : List ℕ) (stretch : ℕ) (slots : List ℕ) (s : ℕ) (key : List ℕ) (n : ℕ) → is_free slots s ≡ false
    → key_at archive stretch slots s ≡ key → uses_at stretch slots s ≡ min 65535 n
    → uses_in (chosen_word (get_or slots s 0) (get_or slots (stretch + s) 0)) ≡ cond (registers (key_words key) n) (1 + 0) 0
unfolding chosen_word
choice_taken archive stretch slots s key n f k u =
    let second = get_or slots (stretch + s) 0 in
    let words : stream_words (second % 65536) ≡ key_words key =
    ap stream_words (sym (label-length (get_or slots s 0) second)) ∙ ap key_words k in
    rw (f, word_uses (pick (registers (stream_words (second % 65536)) (uses_in second)) 1 0) second, words, u, registers_capped (key_words key) n)
    (cases (registers (key_words key) n) (λ e. rw e) (λ e. rw e))

-- after the choices, a key is chosen by the rule, and no index is given yet
pub choose_indexes : {archive : List ℕ} {stretch : ℕ} {slots : List ℕ} {us : List (List ℕ)} → Tallies archive stretch slots us
    → Indexes archive stretch (chosen_to stretch stretch slots) us (chosen_key us) (λ key. 0) (λ mark. 0)
choose_indexes {archive} {stretch} {slots} {us} T = record {
  wide = record { some = T.wide.some; low = T.wide.low; long = rw (chosen_length stretch stretch slots) T.wide.long };
  found = λ key h.
      let s = (T.kept key h).0 in
      let e = (T.kept key h).1 in
      let low = found-low archive stretch slots key T.wide.some (Here s) e in
      let holds = here_key archive stretch slots key T.wide.some s e in (
        s,
        low,
        searched key ∙ e,
        ap uses_in (chosen_own stretch stretch slots T.wide (omega arith) s (omega arith))
            ∙ choice_taken archive stretch slots s key (count same_bytes key us) holds.0 holds.1 (here_used T key s e).0,
      );
  missing = λ key none s e. let used = here_used T key s (sym (searched key) ∙ e) in omega (arith, used.1);
  apart = λ a b s e g.
      sym (here_key archive stretch slots a T.wide.some s (sym (searched a) ∙ e)).1
      ∙ (here_key archive stretch slots b T.wide.some s (sym (searched b) ∙ g)).1;
  counters = λ mark l.
      let x = stretch - 18 + mark in
      let i : counter_at stretch mark ≡ stretch + x = omega (arith, T.wide.some) in
      ap (λ (i : ℕ). get_or (chosen_to stretch stretch slots) i 0) i
      ∙ chosen_own stretch stretch slots T.wide (omega arith) x (omega (arith, T.wide.some))
      ∙ choice_free (get_or slots x 0) (get_or slots (stretch + x) 0) (T.spare x (omega arith) (omega (arith, T.wide.some)));
}
  where
    searched : (key : List ℕ) → find_of archive stretch (chosen_to stretch stretch slots) key ≡ find_of archive stretch slots key
    searched =
        find_alike archive stretch slots (chosen_to stretch stretch slots) T.wide.some
        (λ s l. let first = chosen_other stretch stretch slots s (λ x g q. omega arith) in (
          ap place_in first,
          λ f.
              rw (first, chosen_own stretch stretch slots T.wide (omega arith) s (omega arith))
              (choice_label (get_or slots s 0) (get_or slots (stretch + s) 0) f),
        ))

-- ---- what is found

-- what stands for the uses of a slot is 1 exactly where its key is chosen and has no index
first-index : (b : Bool) (i n : ℕ) → n ≡ cond b (1 + i) 0 → eqb n 1 ≡ (b && eqb i 0)
first-index true i n h =
    cases (eqb i 0)
    (λ e. let z = eqb-true i 0 e in rw e (eq-eqb n 1 (omega arith)))
    (λ e. let z = eqb-false i 0 e in rw e (ne_eqb n 1 (λ q. z (omega arith))))
first-index false i n h = rw h

module _ {archive : List ℕ} {stretch : ℕ} {slots : List ℕ} {us : List (List ℕ)} {chosen : List ℕ → Bool} {index : List ℕ → ℕ} {given : ℕ → ℕ}
    (I : Indexes archive stretch slots us chosen index given) where
  -- the index found of a key that was used is its own where it is chosen, else 0
  pub index-found : (key : List ℕ) → 0 < count same_bytes key us → index_of archive stretch slots key ≡ cond (chosen key) (index key) 0
  unfolding index_of
  index-found key h =
      let r = I.found key h in
      rw (r.2, r.3) (cases (chosen key) (λ e. rw e (omega arith)) (λ e. rw e))

  -- the index found of any other key is 0
  pub index-missing : (key : List ℕ) → count same_bytes key us ≡ 0 → index_of archive stretch slots key ≡ 0
  unfolding index_of
  index-missing key none = go (find_of archive stretch slots key) refl
    where
      go : (slot : Slot) → find_of archive stretch slots key ≡ slot → index_at stretch slots slot ≡ 0
      go (Here s) e = absurd (I.missing key none s e)
      go (Free s) e = refl
      go Full e = refl

  -- ---- one index more

  -- the counter of a mark, raised, is the next number of that mark
  next_number : (label : ℕ) → label / 65536 < 18 → given (label / 65536) < 65535
      → raised (count_at stretch slots label) ≡ given (label / 65536) + 1
  next_number label mark few = rw (I.counters (label / 65536) mark) (raised_more (given (label / 65536)) few)

  -- an index written at the slot of a key that is chosen
  index_written : (key : List ℕ) (label s : ℕ) → label / 65536 < 18 → given (label / 65536) < 65534 → s < stretch - 18
      → find_of archive stretch slots key ≡ Here s → chosen key ≡ true
      → Indexes archive stretch (with_index stretch slots label s) us chosen
      (λ k. cond (same_bytes k key) (given (label / 65536) + 1) (index k))
      (λ m. cond (eqb m (label / 65536)) (given m + 1) (given m))
  index_written key label s mark few low e is-chosen = record {
    wide = record { some = I.wide.some; low = I.wide.low; long = rw long I.wide.long };
    found = λ k h.
        let r = I.found k h in
        cases (same_bytes k key)
        (λ q. let same = same_true k key q in
        let now : cond (chosen k) (1 + cond (same_bytes k key) (given (label / 65536) + 1) (index k)) 0 ≡ 1 + (given (label / 65536) + 1) =
        rw (ap chosen same ∙ is-chosen, q) in
        (s, low, searched k ∙ ap (find_of archive stretch slots) same ∙ e, index_uses stretch slots label s low mark I.wide ∙ twice ∙ sym now))
        (λ q. let n : r.0 ≡ s → ⊥ = λ i. true≢false (
        sym (same_refl key) ∙ ap (λ (x : List ℕ). same_bytes x key) (I.apart key k s e (r.2 ∙ ap Here i)) ∙ q
        ) in (
          r.0,
          r.1,
          searched k ∙ r.2,
          ap uses_in (index_other stretch slots label s low mark (stretch + r.0) (λ z. n (omega arith)) (λ z. omega (arith, r.1))) ∙ rw q r.3,
        ));
    missing = λ k none x p. I.missing k none x (sym (searched k) ∙ p);
    apart = λ a b x p q. I.apart a b x (sym (searched a) ∙ p) (sym (searched b) ∙ q);
    counters = λ m l.
        cases (eqb m (label / 65536))
        (λ q. let i = eqb-true m (label / 65536) q in
        rw q
        (ap (λ (x : ℕ). get_or (with_index stretch slots label s) (counter_at stretch x) 0) i
        ∙ index_counter stretch slots label s low mark I.wide ∙ next_number label mark (omega arith) ∙ ap (λ (x : ℕ). given x + 1) (sym i)))
        (λ q. let n = eqb-false m (label / 65536) q in
        rw q
        (index_other stretch slots label s low mark (counter_at stretch m) (λ z. omega arith) (λ z. n (omega arith)) ∙ I.counters m l));
  }
    where
      long : length (with_index stretch slots label s) ≡ length slots
      long = simp length-set

      searched : (k : List ℕ) → find_of archive stretch (with_index stretch slots label s) k ≡ find_of archive stretch slots k
      searched =
          find_alike archive stretch slots (with_index stretch slots label s) I.wide.some
          (λ x l. let k = index_key stretch slots label s low mark I.wide x l in (k.0, λ f. k.1))

      twice : raised (raised (count_at stretch slots label)) ≡ 1 + (given (label / 65536) + 1)
      twice = ap raised (next_number label mark (omega arith)) ∙ raised_more (given (label / 65536) + 1) (omega arith) ∙ omega arith

  -- a key that was used and is chosen gets the next index of its mark where it has none; nothing else changes
  pub give_index : (key : List ℕ) (label : ℕ) → 0 < count same_bytes key us → label / 65536 < 18 → given (label / 65536) < 65534
      → (new_index stretch slots label (find_of archive stretch slots key) ≡ cond (chosen key && eqb (index key) 0) (given (label / 65536) + 1) 0)
      × Indexes archive stretch (indexed stretch slots label (find_of archive stretch slots key)) us chosen
      (λ k. cond ((chosen key && eqb (index key) 0) && same_bytes k key) (given (label / 65536) + 1) (index k))
      (λ m. cond ((chosen key && eqb (index key) 0) && eqb m (label / 65536)) (given m + 1) (given m))
  give_index key label used mark few =
      let r = I.found key used in
      let first = first-index (chosen key) (index key) (uses_at stretch slots r.0) r.3 in
      rw (r.2, first)
      (cases (chosen key && eqb (index key) 0)
      (λ n. rw n (
        next_number label mark (omega arith),
        index_written key label r.0 mark few r.1 r.2 (both_true (chosen key) (eqb (index key) 0) n).0,
      ))
      (λ n. rw n (refl, I)))
