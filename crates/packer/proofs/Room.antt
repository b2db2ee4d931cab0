-- The room of a repack: what clearing leaves of it, and how its slots are lent to the tally and come back between the two passes. Assumes nothing.
use Prim.Native.Nat.{ℕ, ◌+◌, ◌-◌, ◌*◌, ◌<◌, ◌≤◌}
use mathlib.Core.Path.{◌≡◌, sym, ap, ◌∙◌}
use mathlib.Core.List.{List, [], ◌++◌, append-nil}
use mathlib.Core.Option.{none}
use native.Mathlib.Omega.{arith}
use lib.ListN.{length, take, drop, get_or, replicate, length-append, length-drop, length-replicate, drop_of_length-le}
use lib.Seq.{length-take-le, take_at, drop_at, drop-drop, get_or-take, get_or-drop}
use Rattle.words.proofs.Words.{AllBytes}
use Rattle.registering.specs.Counting.{sum_by}
use Rattle.indexing.specs.Models.Indexes.{chosen_to, Indexes, chosen_key}
use Rattle.indexing.proofs.Frames.{chosen_length, chosen_behind, chosen_other}
use Rattle.tally.proofs.Tallied.{words-tally}
use Rattle.indexing.proofs.Indexed.{choose_indexes}
use Rattle.format.specs.declared.Format.{Format}
use Rattle.format.specs.Limits.{small_format, longest_archive}
use Rattle.format.proofs.Headers.{part_from}
use Rattle.records.specs.Models.Fixed.{fixed_words}
use Rattle.tables.specs.Table.{table_words, cleared}
use Rattle.tables.proofs.Tables.{cleared-zero, length-cleared}
use Rattle.reader.specs.Step.{opening_number}
use Rattle.rule.specs.Rule.{uses_all}
use Rattle.rule.specs.Refusal.{run_of, refusal_of, items_of, written_length}
use Rattle.tally.specs.Models.Slots.{measure_of}
use Rattle.tally.specs.Models.Tally.{Wide, Tallies}
use Rattle.passes.specs.Models.Codes.{codes, last_of, Chosen}
use Rattle.packer.specs.Pack.{room_words}
use Rattle.packer.proofs.Measured.{measured, measured_low}

-- ---- clearing

-- behind the cleared words a room is as it was
pub cleared-behind : (n : ℕ) (room : List ℕ) → drop n (cleared n room) ≡ drop n room
cleared-behind n room = drop_at (replicate n 0) (drop n room) n (length-replicate {A = ℕ} n 0)

-- a room that is cleared for a repack is as long as it was, and the words that a repack uses are 0
pub cleared-first : (f : Format) (room first : List ℕ) (stretch : ℕ) → stretch ≡ table_words f → room_words f ≤ length room
    → first ≡ cleared (4 * stretch) room → (length first ≡ length room) × ((i : ℕ) → i < room_words f → get_or first i 0 ≡ 0)
cleared-first f room first stretch is long clear =
    let clear' : first ≡ cleared (room_words f) room = rw is at clear in
    rw clear' (length-cleared (room_words f) room long, cleared-zero (room_words f) room)

-- a room that is cleared again, after anything that left the words behind, is the first room, cleared
pub cleared_again : (n : ℕ) (room after : List ℕ) → drop n after ≡ drop n (cleared n room) → cleared n after ≡ cleared n room
cleared_again n room after behind = ap (λ (rest : List ℕ). replicate n 0 ++ rest) (behind ∙ cleared-behind n room)

-- so a room that is cleared, used up to its words behind, and cleared again is the first room, cleared
pub cleared-last : (f : Format) (room first used last : List ℕ) (stretch : ℕ) → stretch ≡ table_words f → first ≡ cleared (4 * stretch) room
    → drop (room_words f) used ≡ drop (room_words f) first → last ≡ cleared (4 * stretch) used → last ≡ cleared (room_words f) room
cleared-last f room first used last stretch is clear behind again =
    let clear' : first ≡ cleared (room_words f) room = rw is at clear in
    let again' : last ≡ cleared (room_words f) used = rw is at again in
    again' ∙ cleared_again (room_words f) room used (behind ∙ ap (drop (room_words f)) clear')

-- ---- a part is lent

-- a room whose words from n on were lent and came back as these
abbrev pub handed_back : ℕ → List ℕ → List ℕ → List ℕ
handed_back n room back = take n room ++ (back ++ drop (length room - n) (drop n room))

-- behind the first n words stands what came back
pub handed_behind : (n : ℕ) (room back : List ℕ) → n ≤ length room → drop n (handed_back n room back) ≡ back
handed_behind n room back low =
    let none_left : drop (length room - n) (drop n room) ≡ [] = drop_of_length-le (drop n room) {i = length room - n} (omega (arith, length-drop n room)) in
    drop_at (take n room) (back ++ drop (length room - n) (drop n room)) n (length-take-le n room low)
    ∙ ap (λ (rest : List ℕ). back ++ rest) none_left ∙ append-nil back

-- ---- what was remembered is forgotten

-- the last stretch of a room was lent and came back cleared
module _ (room back : List ℕ) (stretch : ℕ) (long : 4 * stretch ≤ length room)
    (clear : back ≡ cleared stretch (take (length room - 3 * stretch) (drop (3 * stretch) room))) where
  -- the room then
  abbrev forgotten : List ℕ
  forgotten = handed_back (3 * stretch) room back

  -- behind three stretches stands what came back, which is cleared
  back_is : drop (3 * stretch) forgotten ≡ cleared stretch (drop (3 * stretch) room)
  back_is = handed_behind (3 * stretch) room back (omega arith) ∙ clear ∙ ap (cleared stretch) (part_from (3 * stretch) room)

  -- the room is as long as it was
  pub forgotten_long : length forgotten ≡ length room
  forgotten_long =
      let short = drop_of_length-le (drop (3 * stretch) room) {i = length room - 3 * stretch} (omega (arith, length-drop (3 * stretch) room)) in
      let cut = length-cleared stretch (drop (3 * stretch) room) (omega (arith, length-drop (3 * stretch) room)) in
      let same : length back ≡ length room - 3 * stretch =
      omega (arith, ap length (clear ∙ ap (cleared stretch) (part_from (3 * stretch) room)), cut, length-drop (3 * stretch) room) in
      rw short
      (omega (
        arith,
        length-append (take (3 * stretch) room) (back ++ []),
        length-append back [],
        length-take-le (3 * stretch) room (omega arith),
        same,
      ))

  -- the words before are as they were
  pub forgotten_before : (i : ℕ) → i < 3 * stretch → get_or forgotten i 0 ≡ get_or room i 0
  forgotten_before i low =
      let first = take_at (take (3 * stretch) room) (back ++ drop (length room - 3 * stretch) (drop (3 * stretch) room)) (3 * stretch)
      (length-take-le (3 * stretch) room (omega arith)) in
      sym (get_or-take (3 * stretch) forgotten i 0 low) ∙ (ap (λ (l : List ℕ). get_or l i 0) first ∙ get_or-take (3 * stretch) room i 0 low)

  -- nothing is remembered
  pub forgotten_zeros : (i : ℕ) → i < stretch → get_or forgotten (3 * stretch + i) 0 ≡ 0
  forgotten_zeros i low =
      sym (get_or-drop (3 * stretch) forgotten i 0)
      ∙ (ap (λ (l : List ℕ). get_or l i 0) back_is ∙ cleared-zero stretch (drop (3 * stretch) room) i low)

  -- and the words behind are as they were
  pub forgotten_behind : drop (4 * stretch) forgotten ≡ drop (4 * stretch) room
  forgotten_behind =
      let on : 3 * stretch + stretch ≡ 4 * stretch = omega arith in
      rw on at
      (sym (drop-drop stretch (3 * stretch) forgotten) ∙ ap (drop stretch) back_is ∙ cleared-behind stretch (drop (3 * stretch) room)
      ∙ drop-drop stretch (3 * stretch) room)

  -- so the slots tell of what they told of
  pub forgotten_tallies : (archive : List ℕ) (us : List (List ℕ)) → Tallies archive stretch (drop stretch room) us
      → Tallies archive stretch (drop stretch forgotten) us
  forgotten_tallies archive us tallies =
      words-tally tallies (drop stretch forgotten) (omega (arith, length-drop stretch forgotten, length-drop stretch room, forgotten_long))
      (λ i low. get_or-drop stretch forgotten i 0 ∙ (forgotten_before (stretch + i) (omega arith) ∙ sym (get_or-drop stretch room i 0)))

-- ---- the slots are lent

-- slots that tell of uses can be lent: they are wide enough
pub lent_wide : (f : Format) (archive room : List ℕ) (us : List (List ℕ)) (stretch : ℕ) → stretch ≡ table_words f
    → Tallies archive (table_words f) (drop (table_words f) room) us → Wide stretch (take (length room - stretch) (drop stretch room))
lent_wide f archive room us stretch is tallies = rw (part_from stretch room, is) tallies.wide

-- what is measured of lent slots, with the words of the items, is the written length, and low
pub lent_measured : (f : Format) (archive room : List ℕ) (fixed keys stretch : ℕ) → f ≡ small_format → AllBytes archive
    → opening_number f archive (table_words f) ≡ 0 → refusal_of f (run_of f archive) ≡ none
    → Tallies archive (table_words f) (drop (table_words f) room) (codes f (last_of f archive) (uses_all (items_of (run_of f archive))))
    → fixed ≡ sum_by fixed_words (items_of (run_of f archive)) → stretch ≡ table_words f
    → keys ≡ measure_of stretch (take (length room - stretch) (drop stretch room))
    → (8 * (fixed + keys) ≡ written_length f archive) × (8 * (fixed + keys) ≤ longest_archive)
lent_measured f archive room fixed keys stretch small bytes opens unrefused tallies counted is measure =
    let same : keys ≡ measure_of (table_words f) (drop (table_words f) room) = rw (part_from stretch room, is) at measure in
    let slots = drop (table_words f) room in (
      omega (arith, same, measured f archive slots fixed small bytes opens unrefused tallies counted),
      omega (arith, same, measured_low f archive slots fixed small bytes opens unrefused tallies counted),
    )

-- ---- the choices

-- slots that were lent and came back with choices for uses, the words before them cleared
module _ (archive room back after : List ℕ) (us : List (List ℕ)) (stretch : ℕ) (long : 4 * stretch ≤ length room)
    (tallies : Tallies archive stretch (drop stretch room) us)
    (chosen : back ≡ chosen_to stretch stretch (take (length room - stretch) (drop stretch room)))
    (clear : after ≡ cleared stretch (handed_back stretch room back)) where
  -- the slots are those of the room with choices in them
  slots_after : drop stretch after ≡ chosen_to stretch stretch (drop stretch room)
  slots_after =
      rw clear
      (cleared-behind stretch (handed_back stretch room back) ∙ handed_behind stretch room back (omega arith)
      ∙ chosen ∙ ap (chosen_to stretch stretch) (part_from stretch room))

  -- the room is as long as it was
  length_after : length after ≡ length room
  length_after =
      rw clear
      (omega (
        arith,
        length-append (replicate stretch 0) (drop stretch (handed_back stretch room back)),
        length-replicate {A = ℕ} stretch 0,
        ap length (handed_behind stretch room back (omega arith) ∙ chosen ∙ ap (chosen_to stretch stretch) (part_from stretch room)),
        chosen_length stretch stretch (drop stretch room),
        length-drop stretch room,
      ))

  -- behind the slots it is as it was
  behind_after : drop (4 * stretch) after ≡ drop (4 * stretch) room
  behind_after =
      let on : stretch + 3 * stretch ≡ 4 * stretch = omega arith in
      let two : 2 * stretch + stretch ≡ 3 * stretch = omega arith in
      let behind = rw two at
      (sym (drop-drop stretch (2 * stretch) (chosen_to stretch stretch (drop stretch room)))
      ∙ ap (drop stretch) (chosen_behind stretch stretch (drop stretch room) (omega arith)) ∙ drop-drop stretch (2 * stretch) (drop stretch room)) in
      rw on at
      (sym (drop-drop (3 * stretch) stretch after) ∙ ap (drop (3 * stretch)) slots_after ∙ behind ∙ drop-drop (3 * stretch) stretch room)

  -- the words before them are 0
  zeros_after : (i : ℕ) → i < stretch → get_or after i 0 ≡ 0
  zeros_after i low = rw clear (cleared-zero stretch (handed_back stretch room back) i low)

  -- and where nothing was remembered nothing is
  memory_after : ((i : ℕ) → i < stretch → get_or room (3 * stretch + i) 0 ≡ 0) → (i : ℕ) → i < stretch → get_or after (3 * stretch + i) 0 ≡ 0
  memory_after clean i low =
      let on : stretch + (2 * stretch + i) ≡ 3 * stretch + i = omega arith in
      let there = get_or-drop stretch after (2 * stretch + i) 0 in
      let here = get_or-drop stretch room (2 * stretch + i) 0 in
      let kept = ap (λ (l : List ℕ). get_or l (2 * stretch + i) 0) slots_after
      ∙ chosen_other stretch stretch (drop stretch room) (2 * stretch + i) (λ s l q. omega arith) in
      rw on at (sym there ∙ kept ∙ here) ∙ clean i low

  -- no key has an index yet
  indexes_after : Indexes archive stretch (drop stretch after) us (chosen_key us) (λ key. 0) (λ mark. 0)
  indexes_after = rw slots_after (choose_indexes tallies)

-- a room that the second pass can write from: its first words are 0, its slots have choices, and all else is as in the room before
pub record Ready (f : Format) (archive room after : List ℕ) : Type 0 where
  pub same_length : length after ≡ length room
  pub behind : drop (room_words f) after ≡ drop (room_words f) room
  pub zeros : (i : ℕ) → i < table_words f → get_or after i 0 ≡ 0
  pub forgets : (i : ℕ) → i < table_words f → get_or after (3 * table_words f + i) 0 ≡ 0
  pub chosen : Chosen f archive (drop (table_words f) after)

-- a room whose slots tell of an archive's uses is ready once what was remembered is forgotten, choices stand for uses, and the first words are
-- cleared
pub choices_ready : (f : Format) (archive room last back after : List ℕ) (stretch : ℕ) → stretch ≡ table_words f → room_words f ≤ length room
    → Tallies archive (table_words f) (drop (table_words f) room) (codes f (last_of f archive) (uses_all (items_of (run_of f archive))))
    → last ≡ cleared stretch (take (length room - 3 * stretch) (drop (3 * stretch) room))
    → back ≡ chosen_to stretch stretch
    (take (length (handed_back (3 * stretch) room last) - stretch) (drop stretch (handed_back (3 * stretch) room last)))
    → after ≡ cleared stretch (handed_back stretch (handed_back (3 * stretch) room last) back) → Ready f archive room after
choices_ready f archive room last back after stretch is long tallies forgets chosen clear =
    let us = codes f (last_of f archive) (uses_all (items_of (run_of f archive))) in
    let room' = handed_back (3 * stretch) room last in
    let long₀ : 4 * stretch ≤ length room = omega (arith, is) in
    let same = forgotten_long room last stretch long₀ forgets in
    let long' : 4 * stretch ≤ length room' = omega (arith, same) in
    let tallies₀ : Tallies archive stretch (drop stretch room) us = rw is tallies in
    let tallies' = forgotten_tallies room last stretch long₀ forgets archive us tallies₀ in
    record {
      same_length = length_after archive room' back after us stretch long' tallies' chosen clear ∙ same;
      behind =
          rw is at (behind_after archive room' back after us stretch long' tallies' chosen clear ∙ forgotten_behind room last stretch long₀ forgets);
      zeros = rw is at (zeros_after archive room' back after us stretch long' tallies' chosen clear);
      forgets = rw is at
          (memory_after archive room' back after us stretch long' tallies' chosen clear (forgotten_zeros room last stretch long₀ forgets));
      chosen = rw is at (indexes_after archive room' back after us stretch long' tallies' chosen clear);
    }
