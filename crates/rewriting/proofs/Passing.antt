-- The second pass in the room and the output that it is given: what holds there at each turn, from its start to its end. Assumes nothing.
use Prim.Native.Nat.{ℕ, ◌+◌, ◌-◌, ◌*◌, ◌^◌, ◌<◌, ◌≤◌}
use mathlib.Core.Path.{◌≡◌, refl, sym, ap, subst, ◌∙◌}
use mathlib.Core.List.{List, [], ◌++◌}
use mathlib.Core.Bool.{true}
use native.Mathlib.Omega.{arith}
use lib.ListN.{length, take, drop, get_or, length-append, length-drop}
use lib.Seq.{length-take-le, take_at, drop_at, drop-drop, get_or-take, get_or-drop}
use Rattle.passes.specs.Models.Codes.{Chosen}
use Rattle.passes.specs.Models.Last.{tables_of}
use Rattle.passes.specs.Models.Follow.{stop_after, state_after, tables_after}
use Rattle.tally.specs.Models.Slots.{slot_of_word}
use Rattle.passes.specs.Models.Memory.{renewed, RenewFits, Remembers}
use Rattle.tables.specs.Models.Entries.{FormatFits}
use Rattle.tally.specs.Models.Tally.{Wide}
use Rattle.indexing.specs.Models.Indexes.{Settled}
use Rattle.effects.specs.Models.Bounds.{EffectFits}
use Rattle.records.specs.Effect.{effect_of}
use Rattle.words.proofs.Words.{AllBytes}
use Rattle.words.specs.Stream.{overwritten}
use Rattle.encoding.specs.declared.Output.{Output}
use Rattle.encoding.specs.Models.Output.{Holds}
use Rattle.words.proofs.Streams.{length-overwritten, overwritten_twice, none-overwritten}
use Rattle.format.specs.declared.Format.{Format}
use Rattle.format.specs.Limits.{small_format, longest_archive}
use Rattle.records.specs.declared.Content.{Content}
use Rattle.records.specs.declared.Record.{Record}
use Rattle.records.specs.Record.{record_at}
use Rattle.contexts.specs.declared.State.{State}
use Rattle.contexts.specs.Context.{opening}
use Rattle.tables.specs.Table.{table_words}
use Rattle.tables.proofs.Tables.{small_fits}
use Rattle.reader.proofs.Steps.{admitted}
use Rattle.rule.specs.Rule.{rule}
use Rattle.rule.specs.Refusal.{keeps_at, run_of, items_of}
use Rattle.passes.proofs.Turns.{turn_tables, turn_place, record_index}
use Rattle.passes.proofs.Rooms.{slots_back}
use Rattle.passes.proofs.Memory.{remembers_none, remembers_turn, record_renews}
use Rattle.format.proofs.Headers.{part_from}
use Rattle.records.specs.declared.Report.{Report}
use Rattle.records.specs.declared.Content.TheVariants.{Report as ReportRead}
use Rattle.rewriting.specs.Models.Write.{content_bytes, content_slots, content_in, content_room}
use Rattle.rewriting.specs.Models.Fits.{RoomFits, RemembersFor, ContentFitsIn, Asks}
use Rattle.rewriting.specs.Models.Indexed.{SlotsIndexed}
use Rattle.rewriting.proofs.Remembering.{content_unmoved, unmoved_remembers, renewed-long, renewed-wide, renewed-settled, report_renews}
use Rattle.passes.proofs.Places.{opening-magic}
use Rattle.rewriting.proofs.Pass.{Writing, Turned, writing_start, writing_renewed, writing_keeps, writing_turn, writing_end, writing_tables, writing_indexed}

-- ---- what is asked

-- the limits of the small format fit the tables
small_format_lem : (f : Format) → f ≡ small_format → FormatFits f
small_format_lem f small = subst FormatFits (sym small) small_fits

-- the tables can be sized, and the archive is short
pub asked_limits : (f : Format) (archive room out : List ℕ) → Asks f archive room out → FormatFits f × (length archive ≤ longest_archive)
asked_limits f archive room out asks = (small_format_lem f asks.0, (admitted f archive (table_words f) asks.1).short)

-- ---- what holds at each turn

-- the room holds the tables and the slots of the pass, and the output the bytes that it wrote so far, which end at this place
pub record Passing (f : Format) (archive room₀ out₀ room out : List ℕ) (s : State) (at : ℕ) : Type 0 where
  pub sofar : List ℕ
  pub writing : Writing f archive s (take (table_words f) room) (drop (table_words f) room₀) (drop (table_words f) room) sofar
  pub remembers : Remembers f archive (take (table_words f) room) (drop (table_words f) room) s.place
  pub long : length room ≡ length room₀
  pub out_is : out ≡ overwritten out₀ 0 sofar
  pub at_is : at ≡ length sofar

-- a room whose tables are 0 and whose slots have choices is that of a pass that wrote nothing yet
pub passing_start : {f : Format} {archive room out : List ℕ} → Asks f archive room out → AllBytes archive → Chosen f archive (drop (table_words f) room)
    → Passing f archive room out room out opening 0
passing_start {f} {archive} {room} {out} asks bytes chosen =
    let wide = asks.3 in
    let on : (entry : ℕ) → table_words f + (2 * table_words f + entry) ≡ 3 * table_words f + entry = λ entry. omega arith in
    record {
      sofar = [];
      writing = writing_start f archive (take (table_words f) room) (drop (table_words f) room) asks.0 bytes asks.1 asks.2
          (length-take-le (table_words f) room (omega arith)) (λ i low. get_or-take (table_words f) room i 0 low ∙ asks.4 i low) chosen;
      remembers = remembers_none f archive (take (table_words f) room) (drop (table_words f) room) opening.place
          (λ entry low. ap slot_of_word
          (get_or-drop (table_words f) room (2 * table_words f + entry) 0 ∙ ap (λ (i : ℕ). get_or room i 0) (on entry) ∙ asks.6 entry low));
      long = refl;
      out_is = none-overwritten out 0 [];
      at_is = refl;
    }

-- what was written so far is no longer than the rule's bytes
sofar_short : (sofar rest all : List ℕ) → all ≡ sofar ++ rest → length sofar ≤ length all
sofar_short sofar rest all e = rw e (omega (arith, length-append sofar rest))

-- so an output that can hold those keeps its length
pub output_long : {f : Format} {archive room₀ out₀ room out : List ℕ} {s : State} {at : ℕ} → Asks f archive room₀ out₀
    → Passing f archive room₀ out₀ room out s at → length out ≡ length out₀
output_long {out₀ = out₀} asks p =
    rw p.out_is (length-overwritten out₀ 0 p.sofar (omega (arith, asks.5, sofar_short p.sofar _ _ p.writing.rule-is)))

-- at the archive's end the bytes of the rule are written, the tables are those at the end, the slots hold the indexes, and the room behind them is as
-- it was
pub passing_end : {f : Format} {archive room₀ out₀ room out : List ℕ} {s : State} {at : ℕ} → Passing f archive room₀ out₀ room out s at
    → length archive ≤ s.place
    → (out ≡ overwritten out₀ 0 (rule f (items_of (run_of f archive))))
    × ((take (table_words f) room ≡ tables_of f archive)
    × (SlotsIndexed f archive (drop (table_words f) room₀) (drop (table_words f) room)
    × ((length room ≡ length room₀) × (drop (4 * table_words f) room ≡ drop (4 * table_words f) room₀))))
passing_end {f} {archive} {room₀} {out₀} {room} {out} {s} p ends =
    let tables = take (table_words f) room in
    let slots₀ = drop (table_words f) room₀ in
    let slots = drop (table_words f) room in
    let w = p.writing in
    let at_end : s.place ≡ length archive = omega (arith, w.sound.before) in
    let all = writing_end f archive s tables slots₀ slots p.sofar w at_end in
    let on : table_words f + 3 * table_words f ≡ 4 * table_words f = omega arith in (
      p.out_is ∙ ap (overwritten out₀ 0) (sym all),
      (
        writing_tables f archive s tables slots₀ slots p.sofar w at_end,
        (
          writing_indexed f archive s tables slots₀ slots p.sofar w at_end,
          (
            p.long,
            rw on at
                (sym (drop-drop (3 * table_words f) (table_words f) room) ∙ w.kept.behind ∙ drop-drop (3 * table_words f) (table_words f) room₀),
          ),
        ),
      ),
    )

-- ---- one turn

-- what a turn does with a record, from the room `first` that has its entry in the tables and remembers its slot: no number stops it, it comes nearer to the end,
-- the record can be written and has space, and the same holds behind it
pub record Turn (f : Format) (archive room₀ out₀ first out : List ℕ) (s : State) (at : ℕ) (c : Content) (next : ℕ) : Type 0 where
  pub number : (stop_after s c next) ≡ 0
  pub nearer : s.place < (state_after s c next).place
  pub long : length first ≡ length room₀
  pub can : RoomFits f archive first s.current
      × (s.place ≤ length archive)
      × (record_at f archive s.place ≡ record { content = c; next = next })
  pub fits : ContentFitsIn f archive first s c next
  pub remembers : RemembersFor f archive first s c
  pub space : at + length (content_in f archive first s c next) ≤ length out
  pub on : (after last : List ℕ) (end : ℕ)
      → after ≡ content_room f archive first s c next
      → last ≡ overwritten out at (content_in f archive first s c next)
      → end ≡ at + length (content_in f archive first s c next)
      → Passing f archive room₀ out₀ after last (state_after s c next) end

-- an output of the format has space for it
pub turn_holds : {f : Format} {archive room₀ out₀ first : List ℕ} (output : Output) {s : State} {c : Content} {next : ℕ}
    → Turn f archive room₀ out₀ first output.buffer.now s output.place c next → output.format ≡ f → Holds output (λ g. content_in g archive first s c next)
turn_holds {archive = archive} {first = first} output {s} {c} {next} t same =
    subst (λ (g : Format). output.place + length (content_in g archive first s c next) ≤ length output.buffer.now) (sym same) t.space

-- the record of a turn loses nothing
pub passing_keeps : {f : Format} {archive room₀ out₀ room out : List ℕ} {s : State} {at : ℕ} → Passing f archive room₀ out₀ room out s at
    → s.place < length archive → keeps_at f archive s.place ≡ true
passing_keeps {f} {archive} {room₀} {out₀} {room} {out} {s} p more =
    writing_keeps f archive s (take (table_words f) room) (drop (table_words f) room₀) (drop (table_words f) room) p.sofar p.writing more

module _ {f : Format} {archive room₀ out₀ room out : List ℕ} {s : State} {at : ℕ} (asks : Asks f archive room₀ out₀)
    (p : Passing f archive room₀ out₀ room out s at) (more : s.place < length archive) {r : Record} (is : r ≡ record_at f archive s.place) where
  -- what stands in the record
  abbrev content : Content
  content = r.content

  -- where it ends
  abbrev next : ℕ
  next = r.next

  -- the context is one of nine
  current_low : s.current ≤ 8
  current_low = omega (arith, p.writing.sound.count, p.writing.sound.current)

  -- the record can be followed
  pub can_follow : FormatFits f × (s.count ≤ 8) × (s.current ≤ 8) × (s.place < 2 ^ 32) × EffectFits f (effect_of content)
  can_follow =
      let limits = asked_limits f archive room₀ out₀ asks in
      (limits.0, p.writing.sound.count, current_low, omega (arith, limits.1), rw is (record_index f archive s.place))

  -- the tables
  abbrev tables : List ℕ
  tables = take (table_words f) room

  -- those behind the record
  abbrev tables' : List ℕ
  tables' = tables_after f tables s content

  -- the slots
  abbrev slots : List ℕ
  slots = drop (table_words f) room

  -- those that remember what the record registers
  abbrev fresh : List ℕ
  fresh = renewed f archive slots s content

  -- the bytes that are written of the record
  abbrev bytes : List ℕ
  bytes = content_bytes f archive tables' fresh s content next

  -- the slots behind it
  abbrev slots' : List ℕ
  slots' = content_slots f archive tables' fresh s content next

  -- what the turn does to tables and slots
  turned : Turned f archive s tables (drop (table_words f) room₀) fresh p.sofar content next
  turned =
      rw is
      (writing_turn f archive s tables (drop (table_words f) room₀) (renewed f archive slots s (record_at f archive s.place).content) p.sofar
      (writing_renewed p.writing (record_at f archive s.place).content (record_renews f archive s.place)) more)

  -- what is remembered behind the record
  remembers_on : Remembers f archive tables' slots' (state_after s content next).place
  remembers_on =
      let w = p.writing in
      let wide = w.indexing.indexes.wide in
      let behind = (turn_place f archive tables s w.sound w.opens more (rw is at turned.number)).0 in
      let now = remembers_turn f archive tables slots s w.sound (opening-magic f archive (length tables) w.opens) wide p.remembers in
      let unmoved = content_unmoved f archive tables' fresh s content next current_low (asked_limits f archive room₀ out₀ asks).1
      (renewed-wide f archive slots s content wide) turned.fits in
      unmoved_remembers unmoved (rw (is, behind) now)

  -- a record that refers to texts and threads finds what was remembered
  remembers_for : (x : Report) → content ≡ ReportRead x → Remembers f archive tables' fresh s.place
  remembers_for x e = let same = report_renews f archive tables slots s content x e in rw (same.0, same.1) p.remembers

  -- it comes nearer to the end
  comes_nearer : s.place < (state_after s content next).place
  comes_nearer =
      let w = p.writing in
      let t = turn_place f archive tables s w.sound w.opens more (rw is at turned.number) in
      rw is (omega (arith, t.0, t.1))

  -- the tables keep their length
  tables_long : length tables' ≡ table_words f
  tables_long = turn_tables f tables s content ∙ length-take-le (table_words f) room (omega (arith, asks.3, p.long))

  -- there is space for the record's bytes
  bytes_space : at + length bytes ≤ length out
  bytes_space = omega (arith, asks.5, p.at_is, turned.room, length-append p.sofar bytes, output_long asks p)

  -- with them the pass goes on
  goes_on : (after last : List ℕ) (end : ℕ) → after ≡ tables' ++ slots' → last ≡ overwritten out at bytes → end ≡ at + length bytes
      → Passing f archive room₀ out₀ after last (state_after s content next) end
  goes_on after last end a l e =
      let from : at ≡ 0 + length p.sofar = omega (arith, p.at_is) in
      let w = turned.writing in
      record {
        sofar = p.sofar ++ bytes;
        writing = rw (a, take_at tables' slots' (table_words f) tables_long, drop_at tables' slots' (table_words f) tables_long) w;
        remembers = rw (a, take_at tables' slots' (table_words f) tables_long, drop_at tables' slots' (table_words f) tables_long) remembers_on;
        long = rw a (omega (arith, asks.3, length-append tables' slots', tables_long, w.kept.long, length-drop (table_words f) room₀));
        out_is = l
            ∙ ap (λ (o : List ℕ). overwritten o at bytes) p.out_is
            ∙ ap (λ (n : ℕ). overwritten (overwritten out₀ 0 p.sofar) n bytes) from
            ∙ overwritten_twice out₀ 0 p.sofar bytes (omega arith);
        at_is = omega (arith, e, p.at_is, length-append p.sofar bytes);
      }

  -- tables that were lent, and came back as they are behind the record, leave the slots
  slots_kept : {stretch : ℕ} {back : List ℕ} → stretch ≡ table_words f → back ≡ tables_after f (take stretch room) s content
      → (take (table_words f) (back ++ drop stretch room) ≡ tables') × (drop (table_words f) (back ++ drop stretch room) ≡ slots)
  slots_kept {stretch} {back} same came =
      rw (came, same) (take_at tables' slots (table_words f) tables_long, drop_at tables' slots (table_words f) tables_long)

  -- so the room is as long as it was
  pub followed-long : {stretch : ℕ} {back : List ℕ} → stretch ≡ table_words f → back ≡ tables_after f (take stretch room) s content
      → length (back ++ drop stretch room) ≡ length room₀
  followed-long {stretch} {back} same came =
      rw (came, same) (omega (arith, asks.3, length-append tables' slots, tables_long, length-drop (table_words f) room, p.long))

  -- and the slots can be renewed
  pub can_renew : {stretch : ℕ} {back : List ℕ} → stretch ≡ table_words f → back ≡ tables_after f (take stretch room) s content
      → (let first = back ++ drop stretch room in
      FormatFits f × Wide (table_words f) (take (length first - stretch) (drop stretch first)) × (s.current ≤ 8) × RenewFits f (effect_of content))
  can_renew {stretch} {back} same came =
      let first = back ++ drop stretch room in
      let stay = rw same at (slots_kept same came) in (
        (asked_limits f archive room₀ out₀ asks).0,
        rw (part_from stretch first, same, stay.1) p.writing.indexing.indexes.wide,
        current_low,
        rw is (record_renews f archive s.place),
      )

  -- slots that were lent then, and came back renewed, stand behind those tables
  pub room_renewed : {stretch : ℕ} {back lent : List ℕ} → stretch ≡ table_words f → back ≡ tables_after f (take stretch room) s content
      → (let first = back ++ drop stretch room in
      lent ≡ renewed f archive (take (length first - stretch) (drop stretch first)) s content
      → take stretch first ++ (lent ++ drop (length first - stretch) (drop stretch first)) ≡ tables' ++ fresh)
  room_renewed {stretch} {back} {lent} same came gone =
      let first = back ++ drop stretch room in
      let stay = rw same at (slots_kept same came) in
      let lent_is : lent ≡ fresh = gone ∙ rw (part_from stretch first, same, stay.1) in
      slots_back stretch first lent ∙ rw (lent_is, same, stay.0)

  -- where no key waits, none does once the slots are renewed
  pub settled-renewed : {first : List ℕ} → first ≡ tables' ++ fresh → Settled (table_words f) slots → Settled (table_words f) (drop (table_words f) first)
  settled-renewed first-is settled =
      rw (first-is, drop_at tables' fresh (table_words f) tables_long) (renewed-settled f archive slots s content settled)

  -- no number stops the turn
  pub passing_goes : (stop_after s content next) ≡ 0
  passing_goes = turned.number

  -- and the room makes the turn
  pub passing_turn : {first : List ℕ} → first ≡ tables' ++ fresh → Turn f archive room₀ out₀ first out s at content next
  passing_turn {first} first-is =
      let limits = asked_limits f archive room₀ out₀ asks in
      let tables_are : take (table_words f) first ≡ tables' = rw first-is (take_at tables' fresh (table_words f) tables_long) in
      let slots_are : drop (table_words f) first ≡ fresh = rw first-is (drop_at tables' fresh (table_words f) tables_long) in
      let keeps : length first ≡ length room₀ =
      rw first-is
      (omega (arith, asks.3, length-append tables' fresh, tables_long, renewed-long f archive slots s content, length-drop (table_words f) room, p.long)) in
      let bytes_are : content_in f archive first s content next ≡ bytes =
      ap (λ t. content_bytes f archive t (drop (table_words f) first) s content next) tables_are
      ∙ ap (λ d. content_bytes f archive tables' d s content next) slots_are in
      let room_is : content_room f archive first s content next ≡ tables' ++ slots' =
      ap (λ t. t ++ content_slots f archive t (drop (table_words f) first) s content next) tables_are
      ∙ ap (λ d. tables' ++ content_slots f archive tables' d s content next) slots_are in
      record {
        number = turned.number;
        nearer = comes_nearer;
        long = keeps;
        can = (
          record { limits = limits.0; short = limits.1; wide = omega (arith, keeps, asks.3); low = current_low },
          p.writing.sound.before,
          sym is,
        );
        fits = rw (tables_are, slots_are) turned.fits;
        remembers = rw (tables_are, slots_are) remembers_for;
        space = subst (λ (b : List ℕ). at + length b ≤ length out) (sym bytes_are) bytes_space;
        on = λ after last end a l e. goes_on after last end (a ∙ room_is) (l ∙ ap (overwritten out at) bytes_are) (e ∙ ap (λ (b : List ℕ). at + length b) bytes_are);
      }
