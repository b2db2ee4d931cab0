-- The first pass in its room, the reading tables and behind them the slots of the tally: what holds before each record, that it holds at first and
-- behind each record, what its calls ask for, and what follows where it stops or ends.
-- Assumes nothing.
use Prim.Native.Nat.{ℕ, ◌+◌, ◌-◌, ◌*◌, ◌^◌, ◌≤◌, ◌<◌}
use mathlib.Core.Path.{◌≡◌, refl, sym, ap, ◌∙◌}
use mathlib.Core.List.{List, ◌++◌}
use mathlib.Core.Bool.{true}
use native.Mathlib.Omega.{arith}
use lib.ListN.{length, take, drop, get_or, length-append, length-drop}
use lib.Seq.{length-take-le, take_at, drop_at, drop-drop, get_or-take, get_or-drop}
use Rattle.passes.specs.Models.Last.{tables_of}
use Rattle.passes.specs.Models.Follow.{after_record, stop_after, state_after, tables_after}
use Rattle.tables.specs.Models.Entries.{FormatFits}
use Rattle.words.proofs.Words.{AllBytes}
use Rattle.format.specs.declared.Format.{Format}
use Rattle.records.specs.declared.Record.{Record}
use Rattle.records.specs.Record.{record_at}
use Rattle.contexts.specs.declared.State.{State}
use Rattle.contexts.specs.Context.{opening}
use Rattle.tables.specs.Table.{table_words}
use Rattle.reader.specs.Step.{opening_number}
use Rattle.std.specs.Prelude.{Result, Ok, Err}
use Rattle.passes.proofs.Rooms.{slots_back}
use Rattle.records.specs.Effect.{effect_of}
use Rattle.effects.proofs.Stops.{stop_above}
use Rattle.passes.proofs.Turns.{turn_tables, turn_place}
use Rattle.std.specs.Prelude.{Bool, not, None, is_some, is_none}
use Rattle.std.specs.Result.{result_unwrap_or}
use Rattle.format.specs.declared.Refused.{Refused}
use Rattle.format.specs.Limits.{refused_at}
use Rattle.first_pass.specs.Models.Count.{Counted, Recalls, record_checked, checked_slots}
use Rattle.first_pass.specs.Models.Found.{Finding, lowest_of, concluded, CountIs}
use Rattle.first_pass.specs.Models.Left.{SlotsLeft}
use Rattle.first_pass.proofs.Counting.{Counting, counting_noted, counting_start, counting_short, counting_words, counting_turn, counting_stop, stop_slots, stop_tables, end_tables, end_slots, counting_end}
use Rattle.first_pass.proofs.Findings.{clean_is}
use Rattle.first_pass.proofs.Laws.{RoomAfter, room_after}
use Rattle.first_pass.proofs.References.{Noted}
use Rattle.first_pass.proofs.Counts.{kept-noted}
use Rattle.first_pass.proofs.Memory.{renewed-noted, report_remembers, checked_remembers}
use Rattle.tally.specs.Models.Slots.{slot_of_word}
use Rattle.passes.specs.Models.Memory.{renewed, Remembers}
use Rattle.passes.proofs.Memory.{remembers_none, record_renews}
use Rattle.format.specs.Limits.{longest_archive}
use Rattle.records.specs.declared.Report.{Report}
use Rattle.records.specs.declared.Content.TheVariants.{Report as ReportRead}

-- what holds of the room before each record; `start` is the room at first
pub record RoomCounting (f : Format) (archive start room : List ℕ) (s : State) (found : Finding) (words : ℕ) : Type 0 where
  pub counting : Counting f archive s (take (table_words f) room) (drop (table_words f) start) (drop (table_words f) room) found words
  pub remembers : Remembers f archive (take (table_words f) room) (drop (table_words f) room) s.place
  pub long : length room ≡ length start
  pub wide : 4 * table_words f ≤ length start

-- the room keeps its length and the words behind tables and tally
abbrev pub RoomKept : Format → List ℕ → List ℕ → Type 0
RoomKept f start room = (length room ≡ length start) × (drop (4 * table_words f) room ≡ drop (4 * table_words f) start)

-- what the pass says of the room where it stops or ends: what it found, the tables, the slots, and that the rest is kept
abbrev RoomLeft : Format → List ℕ → List ℕ → List ℕ → Result ℕ Refused → Type 0
RoomLeft f archive start room count =
    CountIs f archive count
    × ((take (table_words f) room ≡ tables_of f archive) × (SlotsLeft f archive (drop (table_words f) room) × RoomKept f start room))

-- it holds at first in a room of zeros
pub room_starts : (f : Format) (archive room : List ℕ) → FormatFits f → AllBytes archive → opening_number f archive (table_words f) ≡ 0
    → 4 * table_words f ≤ length room → ((i : ℕ) → i < 4 * table_words f → get_or room i 0 ≡ 0)
    → RoomCounting f archive room room opening None 0
room_starts f archive room fits bytes opens wide zeros =
    record {
      counting = counting_start f archive (take (table_words f) room) (drop (table_words f) room) fits bytes opens
          (length-take-le (table_words f) room (omega arith))
          (λ i l. get_or-take (table_words f) room i 0 l ∙ zeros i (omega arith))
          (record { some = omega arith; low = omega (arith, fits.indexes); long = omega (arith, length-drop (table_words f) room) })
          (λ i l. get_or-drop (table_words f) room i 0 ∙ zeros (table_words f + i) (omega arith));
      remembers = remembers_none f archive (take (table_words f) room) (drop (table_words f) room) 0
          (λ entry l. ap slot_of_word
          (get_or-drop (table_words f) room (2 * table_words f + entry) 0 ∙ zeros (table_words f + (2 * table_words f + entry)) (omega arith)));
      long = refl;
      wide = wide;
    }

-- words behind the slots are words behind the room's four stretches
behind_slots : (f : Format) (room : List ℕ) → drop (3 * table_words f) (drop (table_words f) room) ≡ drop (4 * table_words f) room
behind_slots f room =
    let e : table_words f + 3 * table_words f ≡ 4 * table_words f = omega arith in
    drop-drop (3 * table_words f) (table_words f) room ∙ ap (λ (n : ℕ). drop n room) e

module _ (f : Format) (archive start room : List ℕ) (s : State) (found : Finding) (words : ℕ) (h : RoomCounting f archive start room s found words) where
  -- the archive is short, and the state is one that the calls take
  pub room_state : (length archive ≤ longest_archive) × (s.count ≤ 8) × (s.current ≤ 8) × (s.place ≤ length archive) × (s.place < 2 ^ 32)
  room_state =
      let short = counting_short f archive s (take (table_words f) room) (drop (table_words f) start) (drop (table_words f) room) found words h.counting in
      let sound = h.counting.sound in
      omega (arith, short, sound.count, sound.current, sound.before)

  -- the tables stand in the room
  pub room_wide : table_words f ≤ length room
  room_wide = omega (arith, h.long, h.wide)

  -- slots that are kept keep the room
  room_kept : RoomKept f start room
  room_kept = (h.long, sym (behind_slots f room) ∙ (h.counting.kept.behind ∙ behind_slots f start))

  -- where the pass ends, what was found is what it says
  pub room_ends : length archive ≤ s.place → RoomLeft f archive start room (concluded found words)
  room_ends end =
      let tables = take (table_words f) room in
      let slots = drop (table_words f) room in
      let at_end : s.place ≡ length archive = omega (arith, end, h.counting.sound.before) in (
        counting_end f archive s tables (drop (table_words f) start) slots found words h.counting at_end,
        (
          end_tables f archive s tables (drop (table_words f) start) slots found words h.counting at_end,
          (end_slots f archive s tables (drop (table_words f) start) slots found words h.counting at_end, room_kept),
        ),
      )

  -- a record that was read at the state's place and followed in the tables, so that these tables stand in the room before the slots
  module _ (more : s.place < length archive) (r : Record) (reads : r ≡ record_at f archive s.place) (step : Result State ℕ)
      (steps : step ≡ after_record s r.content r.next) (stretch : ℕ) (words_are : stretch ≡ table_words f) (tables : List ℕ)
      (follows : tables ≡ tables_after f (take stretch room) s r.content) where
    -- the tables are those of the archive's record
    tables_are : tables ≡ tables_after f (take (table_words f) room) s (record_at f archive s.place).content
    tables_are = follows ∙ rw (words_are, reads)

    -- they are as long as before
    tables_long : length tables ≡ table_words f
    tables_long =
        rw (tables_are, turn_tables f (take (table_words f) room) s (record_at f archive s.place).content)
        (length-take-le (table_words f) room room_wide)

    -- they stand first
    tables_first : take (table_words f) (tables ++ drop stretch room) ≡ tables_after f (take (table_words f) room) s (record_at f archive s.place).content
    tables_first = take_at tables (drop stretch room) (table_words f) tables_long ∙ tables_are

    -- and the slots behind them stayed
    slots_stay : drop (table_words f) (tables ++ drop stretch room) ≡ drop (table_words f) room
    slots_stay = drop_at tables (drop stretch room) (table_words f) tables_long ∙ ap (λ (n : ℕ). drop n room) words_are

    -- so the room is as long as at first
    pub followed-long : length (tables ++ drop stretch room) ≡ length start
    followed-long =
        rw (length-append tables (drop stretch room), tables_long, length-drop stretch room) (omega (arith, words_are, room_wide, h.long))

    -- a record that stops the pass is what the archive is refused by
    pub room_stops : (number : ℕ) → step ≡ Err number
        → RoomLeft f archive start (tables ++ drop stretch room) (refused_at number s.place)
    room_stops number stop =
        let before = take (table_words f) room in
        let slots = drop (table_words f) room in
        let content = (record_at f archive s.place).content in
        let next = (record_at f archive s.place).next in
        let after : after_record s content next ≡ Err number = rw (← reads, ← steps) stop in
        let by : number ≡ stop_after s content next = rw after in
        let stop' : stop_after s content next ≡ 0 → ⊥ = λ z. absurd (omega (arith, by, z, stop_above s (effect_of content) next number after)) in (
          rw by (counting_stop f archive s before (drop (table_words f) start) slots found words h.counting more stop'),
          (
            tables_first ∙ stop_tables f archive s before (drop (table_words f) start) slots found words h.counting more stop',
            (
              rw slots_stay (stop_slots f archive s before (drop (table_words f) start) slots found words h.counting more stop'),
              (
                followed-long,
                sym (behind_slots f (tables ++ drop stretch room)) ∙ (ap (drop (3 * table_words f)) slots_stay ∙ (behind_slots f room ∙ room_kept.1)),
              ),
            ),
          ),
        )

    module _ (t : State) (goes : step ≡ Ok t) where
      -- a record that goes on does so by the archive's record
      goes_on : (stop_after s (record_at f archive s.place).content (record_at f archive s.place).next) ≡ 0
      goes_on = rw (← reads, ← steps, goes)

      -- to the state that follows it
      goes_to : t ≡ (state_after s (record_at f archive s.place).content (record_at f archive s.place).next)
      goes_to = rw (← reads, ← steps, goes)

      -- it takes a word at least, and ends inside the archive, where the state then stands
      pub record_ends : (t.place ≡ r.next) × (s.place + 8 ≤ r.next) × (r.next ≤ length archive)
      record_ends =
          rw (goes_to, reads) (turn_place f archive (take (table_words f) room) s h.counting.sound h.counting.opens more goes_on)

      -- the room when the entry that the record sets is renewed in the slots
      module _ (left : List ℕ) (renews : left ≡ renewed f archive (drop stretch (tables ++ drop stretch room)) s r.content) where
        -- the room as it was followed
        abbrev followed_room : List ℕ
        followed_room = tables ++ drop stretch room

        -- and with the slots that renewing left
        abbrev pub room' : List ℕ
        room' = take stretch followed_room ++ (left ++ drop (length followed_room - stretch) (drop stretch followed_room))

        -- these slots, by the archive's record
        abbrev slots' : List ℕ
        slots' = renewed f archive (drop (table_words f) room) s (record_at f archive s.place).content

        -- the tables stay as they were followed, and the slots stand behind them
        room_renewed : RoomAfter (table_words f) (tables ++ drop stretch room) slots' room'
        room_renewed =
            room_after (table_words f) (tables ++ drop stretch room) slots' room' (omega (arith, followed-long, h.wide))
            (slots_back stretch followed_room left
            ∙ (ap (λ (l : List ℕ). take stretch followed_room ++ l) renews
            ∙ (ap (λ (n : ℕ). take n followed_room ++ renewed f archive (drop n followed_room) s r.content) words_are
            ∙ (ap (λ (l : List ℕ). take (table_words f) followed_room ++ renewed f archive l s r.content) slots_stay
            ∙ ap (λ x. take (table_words f) followed_room ++ renewed f archive (drop (table_words f) room) s x.content) reads))))

        renewed-first : take (table_words f) room' ≡ tables_after f (take (table_words f) room) s (record_at f archive s.place).content
        renewed-first = room_renewed.tables ∙ tables_first

        -- what was renewed is a word that is remembered
        slots_noted : Noted f (drop (table_words f) room) slots'
        slots_noted =
            renewed-noted f archive (drop (table_words f) room) s (record_at f archive s.place).content room_state.2 (record_renews f archive s.place)

        -- so the room is as long as it was
        renewed-long : length room' ≡ length start
        renewed-long =
            let kept = (kept-noted f (drop (table_words f) room) slots' slots_noted).long in
            let all = ap length room_renewed.stand in
            omega (arith, kept, all, length-drop (table_words f) room', length-drop (table_words f) room, room_renewed.wide, room_wide, h.long)

        -- it holds of them what held of the slots before
        counting' : Counting f archive s (take (table_words f) room) (drop (table_words f) start) slots' found words
        counting' =
            counting_noted f archive s (take (table_words f) room) (drop (table_words f) start) (drop (table_words f) room) found words h.counting slots'
            slots_noted

        -- at a record that refers to texts and threads, what is remembered may be used
        pub room_recalls : (q : Report) → r.content ≡ ReportRead q → Recalls f archive room' s.place × (0 < s.place)
        room_recalls q e =
            rw (renewed-first, room_renewed.stand)
            (report_remembers f archive (take (table_words f) room) (drop (table_words f) room) s h.counting.sound h.counting.opens h.counting.wide
            h.remembers true (record_at f archive s.place).content q refl (ap (λ x. x.content) (sym reads) ∙ e))

      module _ (left : List ℕ) (renews : left ≡ renewed f archive (drop stretch (tables ++ drop stretch room)) s r.content) (counted : Counted)
          (clean : Bool) (cleans : is_some found ≡ not clean)
          (checks : counted
          ≡ record_checked f archive (take (table_words f) (room' left renews)) (drop (table_words f) (room' left renews)) s r.content r.next
          clean) where
        -- what is found at it is by the archive's record
        checked_so : counted
            ≡ record_checked f archive (tables_after f (take (table_words f) room) s (record_at f archive s.place).content) (slots' left renews) s
            (record_at f archive s.place).content (record_at f archive s.place).next (is_none found)
        checked_so = checks ∙ rw (clean_is found clean cleans, renewed-first left renews, (room_renewed left renews).stand, reads)

        -- all words counted up to it stand in the archive
        pub room_words_lem : 8 * (words + result_unwrap_or counted 0) ≤ length archive
        room_words_lem =
            let all = counting_words f archive s (take (table_words f) room) (drop (table_words f) start) (slots' left renews) found words
            (counting' left renews) more goes_on in
            let ends = turn_place f archive (take (table_words f) room) s h.counting.sound h.counting.opens more goes_on in
            rw checked_so (omega (arith, all, ends))

        -- and behind it, it holds again
        pub room_turns : (last : List ℕ) (worst : Finding) → length last ≡ length (room' left renews)
            → last
            ≡ take (table_words f) (room' left renews)
            ++ checked_slots f archive (take (table_words f) (room' left renews)) (drop (table_words f) (room' left renews)) s r.content r.next clean
            → worst ≡ lowest_of found counted s.place
            → RoomCounting f archive start last t worst (words + result_unwrap_or counted 0)
        room_turns last worst long leaves lowers =
            let wide : table_words f ≤ length (room' left renews) = omega (arith, renewed-long left renews, h.wide) in
            let q = room_after (table_words f) (room' left renews) _ last wide (rw (clean_is found clean cleans) at leaves) in
            record {
              counting = rw (q.tables, q.stand, lowers, checked_so, renewed-first left renews, (room_renewed left renews).stand, goes_to, reads)
                  (counting_turn f archive s (take (table_words f) room) (drop (table_words f) start) (slots' left renews) found words
                  (counting' left renews) more goes_on);
              remembers = rw (q.tables, q.stand, renewed-first left renews, (room_renewed left renews).stand, record_ends.0, reads)
                  (checked_remembers f archive (take (table_words f) room) (drop (table_words f) room) s h.counting.sound h.counting.opens
                  h.counting.wide h.remembers (is_none found) (record_at f archive s.place).content refl);
              long = long ∙ renewed-long left renews;
              wide = h.wide;
            }
