-- Registrations as the second pass writes them before a record: that of one key, of what a reference stands for, and those of the references of a
-- record one behind the other. Assumes nothing.
use Prim.Native.Nat.{ℕ, ◌+◌, ◌*◌, ◌≤◌}
use mathlib.Core.Path.{◌≡◌, refl, sym, ap, subst, ◌∙◌}
use mathlib.Core.List.{List, [], ◌∷◌, ◌++◌, append-nil}
use native.Mathlib.Omega.{arith}
use borrow.Author.Tests.{eq-eqb, ne_eqb}
use lib.ListN.{length, drop, get_or, take-append-drop}
use lib.Seq.{get_or-drop}
use Rattle.tally.specs.declared.Slot.TheVariants.{Here}
use Rattle.tally.specs.Models.Slots.{label_of, key_of, place_in, label_in, place_at, label_at, find_of}
use Rattle.indexing.specs.Models.Indexes.{new_index, indexed}
use Rattle.encoding.specs.Encoded.{string_record, thread_record}
use Rattle.words.specs.Word.{word_at}
use Rattle.words.specs.Stream.{part_of}
use Rattle.format.specs.declared.Format.{Format}
use Rattle.records.specs.declared.Lookup.{Lookup}
use Rattle.records.specs.declared.Report.{Report}
use Rattle.records.specs.Item.{thread}
use Rattle.records.specs.Lookups.{report_lookups}
use Rattle.contexts.specs.declared.State.{State}
use Rattle.tables.specs.declared.Resolved.{Resolved}
use Rattle.tables.specs.declared.Resolved.TheVariants.{Bad, Known, Unresolved}
use Rattle.tables.specs.Table.{table_words, looked_up}
use Rattle.encoding.specs.declared.Output.{Output}
use Rattle.encoding.specs.Models.Output.{Holds, Writes}
use Rattle.encoding.proofs.Writing.{writes_none, writes_same, ◌then◌, Writing, writing_starts, writing_as, writing_fits, writing_goes_on, writing_ends}
use Rattle.passes.proofs.Rooms.{tables_stay, slots_stand}
use Rattle.rewriting.specs.Models.Write.{tables_in, slots_in, registration_bytes, given_index, given_slots, known_bytes, given_bytes, slot_bytes, slot_index}
use Rattle.rewriting.specs.Models.Write.{slot_given_bytes, slot_given_slots, lookups_given_slots, lookups_given_bytes, registered_room, registered_bytes, report_given_slots, report_given_bytes, report_bytes, report_in}
use Rattle.rewriting.specs.Models.Fits.{RoomFits, RemembersIn, RegistrationFits, SlotFits, GivenFits, CanLookUp, LookupsFitIn, ReportFits, ReportFitsIn}
use Rattle.rewriting.proofs.Remembering.{label_mark, lookups_unmoved, unmoved_remembers, SlotOf}
use Rattle.rewriting.proofs.Spelling.{room_wide}

-- ---- the registration of a key

-- without an index there is none
pub registration_none : (f : Format) (table index : ℕ) (bytes : List ℕ) → index ≡ 0 → registration_bytes f table index bytes ≡ []
unfolding registration_bytes
registration_none f table index bytes z = rw (eq-eqb index 0 z)

-- that of a thread, from its two words
pub registration_thread : (f : Format) (table index : ℕ) (bytes : List ℕ) (first second : ℕ) → (index ≡ 0 → ⊥) → table ≡ 3 → first ≡ word_at f.order bytes 0
    → second ≡ word_at f.order bytes 8 → registration_bytes f table index bytes ≡ thread_record f index (thread first second)
unfolding registration_bytes
registration_thread f table index bytes first second some k a b = rw (ne_eqb index 0 some, eq-eqb table 3 k, a, b)

-- that of a text
pub registration_text : (f : Format) (table index : ℕ) (bytes : List ℕ) → (index ≡ 0 → ⊥) → (table ≡ 3 → ⊥)
    → registration_bytes f table index bytes ≡ string_record f index bytes
unfolding registration_bytes
registration_text f table index bytes some k = rw (ne_eqb index 0 some, ne_eqb table 3 k)

-- ---- what a reference stands for

-- the room and the output behind it, where what a reference stands for is registered if it is to be
abbrev pub Given : (archive room : List ℕ) → Output → (context table : ℕ) → Resolved → (after : List ℕ) → Output → Type 0
Given archive room out context table r after behind =
    (after ≡ tables_in out.format room ++ given_slots out.format archive (slots_in out.format room) context table r)
    × Writes out (λ f. given_bytes f archive (slots_in f room) context table r) behind

module _ (archive room : List ℕ) (out : Output) (context table : ℕ) (r : Resolved) where
  -- nothing is registered without an index
  given_none : given_slots out.format archive (slots_in out.format room) context table r ≡ slots_in out.format room
      → given_index out.format archive (slots_in out.format room) context table r ≡ 0 → Given archive room out context table r room out
  given_none same z =
      let f = out.format in
      let index = given_index f archive (slots_in f room) context table r in
      let none : given_bytes f archive (slots_in f room) context table r ≡ [] = registration_none f table index (known_bytes archive r) z in
      (rw same (sym (take-append-drop (table_words f) room)), writes_same (writes_none out) (sym none))

  -- nothing is registered for a bad reference
  pub given_bad : r ≡ Bad → Given archive room out context table r room out
  unfolding given_slots given_index
  given_bad e = given_none (rw e) (rw e)

  -- nor for one that is not resolved
  pub given_unresolved : (index : ℕ) → r ≡ Unresolved index → Given archive room out context table r room out
  unfolding given_slots given_index
  given_unresolved index e = given_none (rw e) (rw e)

  -- nor for an empty text
  pub given_empty : (place long : ℕ) → r ≡ Known place long → long ≡ 0 → Given archive room out context table r room out
  unfolding given_slots given_index
  given_empty place long e z = given_none (rw (e, eq-eqb long 0 z)) (rw (e, eq-eqb long 0 z))

-- what is known, with its label, the index that it gets now and its bytes
pub record Indexed (f : Format) (archive slots : List ℕ) (context table : ℕ) (r : Resolved) (place long label index : ℕ) (bytes : List ℕ) : Type 0 where
  pub known : r ≡ Known place long
  pub some : long ≡ 0 → ⊥
  pub labelled : label ≡ label_of context table long
  pub given : index ≡ new_index (table_words f) slots label (find_of archive (table_words f) slots (key_of archive place label))
  pub is : bytes ≡ part_of archive place long

module _ (f : Format) (archive slots : List ℕ) (context table : ℕ) (r : Resolved) (place long label index : ℕ) (bytes : List ℕ)
    (i : Indexed f archive slots context table r place long label index bytes)
  where
    -- it is registered under that index
    index_is : given_index f archive slots context table r ≡ index
    unfolding given_index
    index_is = rw (i.known, ne_eqb long 0 i.some, ← i.labelled) (sym i.given)

    -- with these bytes
    bytes_are : known_bytes archive r ≡ bytes
    bytes_are = rw i.known (sym i.is)

    -- and the slots are changed
    slots_are : (after : List ℕ) → after ≡ indexed (table_words f) slots label (find_of archive (table_words f) slots (key_of archive place label))
        → given_slots f archive slots context table r ≡ after
    unfolding given_slots
    slots_are after e = rw (i.known, ne_eqb long 0 i.some, ← i.labelled) (sym e)

    -- its registration fits where what is given fits
    pub registration_fits : (at size : ℕ) → GivenFits f archive slots context table r → at + length (given_bytes f archive slots context table r) ≤ size
        → RegistrationFits table index bytes × (at + length (registration_bytes f table index bytes) ≤ size)
    registration_fits at size g h = rw (← index_is, ← bytes_are) (g, h)

-- where it is written under its index, it is registered
pub given_known : (archive room : List ℕ) (out : Output) (context table : ℕ) (r : Resolved) (place long label index : ℕ) (bytes slots after : List ℕ)
    (behind : Output)
    → Indexed out.format archive (slots_in out.format room) context table r place long label index bytes
    → slots
    ≡ indexed (table_words out.format) (slots_in out.format room) label
    (find_of archive (table_words out.format) (slots_in out.format room) (key_of archive place label))
    → after ≡ tables_in out.format room ++ slots → Writes out (λ f. registration_bytes f table index bytes) behind
    → Given archive room out context table r after behind
given_known archive room out context table r place long label index bytes slots after behind i s a w =
    let f = out.format in
    let old = slots_in f room in (
      rw (slots_are f archive old context table r place long label index bytes i slots s) a,
      writes_same w (rw (
        index_is f archive old context table r place long label index bytes i,
        bytes_are f archive old context table r place long label index bytes i,
      )),
    )

-- ---- the slot that is remembered

-- the place and the label of a slot, from its words in the room
pub slot_words : (n : ℕ) (room : List ℕ) (s : ℕ)
    → (place_in (get_or room (n + s) 0) ≡ place_at (drop n room) s)
    × (label_in (get_or room (n + s) 0) (get_or room (2 * n + s) 0) ≡ label_at n (drop n room) s)
slot_words n room s =
    let on : n + (n + s) ≡ 2 * n + s = omega arith in
    let first = get_or-drop n room s 0 in
    let second = get_or-drop n room (n + s) 0 ∙ ap (λ (i : ℕ). get_or room i 0) on in
    (ap place_in (sym first), rw (first, second))

module _ (archive room : List ℕ) (out : Output) (context until : ℕ) (l : Lookup) (s : ℕ) (low : context ≤ 8) (can : CanLookUp l)
    (k : SlotOf out.format archive (tables_in out.format room) (slots_in out.format room) context l.table until l.reference s) where
  -- the format of what is written
  abbrev f : Format
  f = out.format

  -- what the reference stands for
  abbrev stands_for : Resolved
  stands_for = looked_up f archive (tables_in f room) context until l

  -- the label of the slot
  abbrev slot_label : ℕ
  slot_label = label_at (table_words f) (slots_in f room) s

  -- its key is found at the slot
  slot_found : find_of archive (table_words f) (slots_in f room) (key_of archive k.is.place slot_label) ≡ Here s
  slot_found = ap (λ (n : ℕ). find_of archive (table_words f) (slots_in f room) (key_of archive k.is.place n)) k.label ∙ k.is.found

  -- so it gets the index of the slot
  slot_indexed : Indexed f archive (slots_in f room) context l.table stands_for k.is.place k.is.long slot_label
      (slot_index (table_words f) (slots_in f room) s) (slot_bytes archive (table_words f) (slots_in f room) s)
  slot_indexed = record {
    known = k.is.known;
    some = λ z. omega (arith, k.is.some);
    labelled = k.label;
    given = ap (new_index (table_words f) (slots_in f room) slot_label) (sym slot_found);
    is = k.bytes;
  }

  -- the registration of the slot's key fits where what is given fits
  pub slot_fits : GivenFits f archive (slots_in f room) context l.table stands_for
      → out.place + length (given_bytes f archive (slots_in f room) context l.table stands_for) ≤ length out.buffer.now
      → SlotFits f archive (slots_in f room) l.table s × Holds out (λ f. slot_given_bytes f archive (slots_in f room) l.table s)
  unfolding slot_given_bytes
  slot_fits g h =
      let x =
      registration_fits f archive (slots_in f room) context l.table stands_for k.is.place k.is.long slot_label _ _ slot_indexed out.place
      (length out.buffer.now) g h in (
        record {
          low = k.low;
          label = rw k.label (label_mark context l.table k.is.long low can.low can.high k.short).1;
          fits = x.0;
        },
        x.1,
      )

  -- and where it is written, what the reference stands for is registered
  pub given_slot : (after : List ℕ) (behind : Output) → after ≡ tables_in f room ++ slot_given_slots f (slots_in f room) s
      → Writes out (λ f. slot_given_bytes f archive (slots_in f room) l.table s) behind → Given archive room out context l.table stands_for after behind
  unfolding slot_given_bytes slot_given_slots
  given_slot after behind a w =
      given_known archive room out context l.table stands_for k.is.place k.is.long slot_label _ _
      (indexed (table_words f) (slots_in f room) slot_label (Here s)) after behind slot_indexed
      (ap (indexed (table_words f) (slots_in f room) slot_label) (sym slot_found)) a (writes_same w refl)

-- ---- references one behind the other

-- the room and the output behind them, where what references stand for is registered; which these are may depend on the format
abbrev pub Registered : List ℕ → (context until : ℕ) → (Format → List Lookup) → (room : List ℕ) → Output → (after : List ℕ) → Output → Type 0
Registered archive context until ls room out after behind =
    (after ≡ registered_room out.format archive room context until (ls out.format))
    × Writes out (λ f. registered_bytes f archive room context until (ls f)) behind

-- one reference
pub one_registered : (archive room : List ℕ) (out : Output) (context until : ℕ) (l : Lookup) (after : List ℕ) (behind : Output)
    → Given archive room out context l.table (looked_up out.format archive (tables_in out.format room) context until l) after behind
    → Registered archive context until (λ f. l ∷ []) room out after behind
one_registered archive room out context until l after behind g =
    let f = out.format in
    let bytes = given_bytes f archive (slots_in f room) context l.table (looked_up f archive (tables_in f room) context until l) in
    (g.0, writes_same g.1 (sym (append-nil bytes)))

module _ (archive : List ℕ) (context until : ℕ) (whole : Format → List Lookup) (room₀ : List ℕ) (out₀ : Output) where
  -- the format of what is written, and the bytes of all
  abbrev form : Format
  form = out₀.format

  abbrev whole_bytes : List ℕ
  whole_bytes = registered_bytes form archive room₀ context until (whole form)

  -- where references are registered one behind the other: with those that are left registered too, from here, all are
  pub record Registering (left : List Lookup) (room : List ℕ) (out : Output) : Type 0 where
    pub tables : tables_in form room ≡ tables_in form room₀
    pub long : length room ≡ length room₀
    pub slots : lookups_given_slots form archive (tables_in form room₀) context until (slots_in form room₀) (whole form)
        ≡ lookups_given_slots form archive (tables_in form room) context until (slots_in form room) left
    pub writing : Writing out₀ whole_bytes out (registered_bytes form archive room context until left)
    pub fits : LookupsFitIn form archive room context until left
    pub remembers : RemembersIn form archive room until
    pub space : out₀.place + length whole_bytes ≤ length out₀.buffer.now

  -- at the start all are left
  pub registering-starts : LookupsFitIn form archive room₀ context until (whole form)
      → out₀.place + length whole_bytes ≤ length out₀.buffer.now
      → RemembersIn form archive room₀ until → Registering (whole form) room₀ out₀
  registering-starts fits space remembers =
      record {
        tables = refl;
        long = refl;
        slots = refl;
        writing = writing_starts out₀ whole_bytes;
        fits = fits;
        remembers = remembers;
        space = space;
      }

  -- the same list of those that are left
  pub registering_as : {left left' : List Lookup} {room : List ℕ} {out : Output} → left ≡ left' → Registering left room out → Registering left' room out
  registering_as {room = room} {out} e g = subst (λ (ls : List Lookup). Registering ls room out) e g

  -- once those that are left are registered, all are
  pub registering-ends : (left : Format → List Lookup) {room : List ℕ} {out : Output} {after : List ℕ} {behind : Output}
      → Registering (left form) room out → Registered archive context until left room out after behind
      → Registered archive context until whole room₀ out₀ after behind
  registering-ends left {room} {out} {after} g r =
      let room_is : after ≡ registered_room form archive room context until (left form) = rw g.writing.written.same.format at r.0 in
      let all = writing_goes_on r.1 (writing_as g.writing (sym (append-nil (registered_bytes form archive room context until (left form))))) in
      (room_is ∙ rw (g.slots, g.tables), writes_same (writing_ends all) refl)

  -- where none is left, all are
  pub registering_done : {room : List ℕ} {out : Output} → Registering [] room out → Registered archive context until whole room₀ out₀ room out
  registering_done {room} {out} g = registering-ends (λ f. []) g (sym (take-append-drop (table_words out.format) room), writes_none out)

  module _ {left : List Lookup} {room : List ℕ} {out : Output} (can : RoomFits form archive room₀ context) (g : Registering left room out) where
    -- the room fits as it did
    pub still_fits : RoomFits out.format archive room context
    still_fits =
        rw g.writing.written.same.format
        (record { limits = can.limits; short = can.short; wide = omega (arith, can.wide, g.long); low = can.low })

    -- what is remembered is right
    pub still_remembers : RemembersIn out.format archive room until
    still_remembers = rw g.writing.written.same.format g.remembers

    -- and there is space for those that are left
    pub left_space : out.place + length (registered_bytes form archive room context until left) ≤ length out.buffer.now
    left_space =
        let bytes = registered_bytes form archive room context until left in
        writing_fits bytes [] (writing_as g.writing (sym (append-nil bytes))) g.space

  module _ {l : Lookup} {more : List Lookup} {room : List ℕ} {out : Output} (can : RoomFits form archive room₀ context)
      (g : Registering (l ∷ more) room out) where
    -- the bytes of the next
    abbrev next_bytes : Format → List ℕ
    next_bytes f = given_bytes f archive (slots_in f room) context l.table (looked_up f archive (tables_in f room) context until l)

    -- the slots after it
    abbrev next_slots : List ℕ
    next_slots = given_slots form archive (slots_in form room) context l.table (looked_up form archive (tables_in form room) context until l)

    -- and the bytes of the others
    abbrev others : List ℕ
    others = lookups_given_bytes form archive (tables_in form room) context until next_slots more

    -- the next fits
    pub next_fits : LookupsFitIn out.format archive room context until (l ∷ [])
    next_fits = rw g.writing.written.same.format (g.fits.0, tt)

    -- and there is space
    pub next_space : Holds out (λ f. registered_bytes f archive room context until (l ∷ []))
    next_space =
        rw (g.writing.written.same.format, append-nil (next_bytes form)) (writing_fits (next_bytes form) others g.writing g.space)

    -- once it is registered the others are left
    pub registering_next : {after : List ℕ} {behind : Output} → Registered archive context until (λ f. l ∷ []) room out after behind
        → length after ≡ length room → Registering more after behind
    registering_next {after} {behind} r same =
        let wide = can.wide in
        let room_is : after ≡ registered_room form archive room context until (l ∷ []) = rw g.writing.written.same.format at r.0 in
        let slots-low = room_wide form room can.limits (omega (arith, g.long)) in
        let unmoved = lookups_unmoved form archive context can.low (tables_in form room) until (slots_in form room) (l ∷ []) can.short slots-low (g.fits.0, tt) in
        let tables_are : tables_in form after ≡ tables_in form room = tables_stay (table_words form) room next_slots after (omega (arith, g.long)) room_is in
        let slots_are : slots_in form after ≡ next_slots = slots_stand (table_words form) room next_slots after (omega (arith, g.long)) room_is in
        record {
          tables = tables_are ∙ g.tables;
          long = same ∙ g.long;
          slots = g.slots ∙ rw (tables_are, slots_are);
          writing = rw (tables_are, slots_are) (writing_goes_on {part = next_bytes} (writes_same r.1 (append-nil (next_bytes out.format))) g.writing);
          fits = rw (tables_are, slots_are) g.fits.1;
          remembers = rw (tables_are, slots_are) (unmoved_remembers unmoved g.remembers);
          space = g.space;
        }

-- ---- a record behind its registrations

module _ (archive room : List ℕ) (out : Output) (s : State) (r : Report) (next : ℕ) (after : List ℕ) (behind : Output)
    (wide : table_words out.format ≤ length room)
    (g : Registered archive s.current s.place (λ f. report_lookups f archive r next) room out after behind)
  where
    -- the tables and slots as they were, and the slots after the registrations
    abbrev tables : List ℕ
    tables = tables_in out.format room

    abbrev old : List ℕ
    old = slots_in out.format room

    abbrev slots : List ℕ
    slots = report_given_slots out.format archive tables old s r next

    -- the tables are as they were
    kept : tables_in out.format after ≡ tables
    kept = tables_stay (table_words out.format) room slots after wide g.0

    -- and the slots are those after the registrations
    changed : slots_in out.format after ≡ slots
    changed = slots_stand (table_words out.format) room slots after wide g.0

    -- it fits
    pub record_fits : ReportFits out.format archive tables slots s r next → ReportFitsIn behind.format archive after s r next
    record_fits fit = rw (g.1.same.format, kept, changed) fit

    -- what is remembered is right for it
    pub record_remembers : RoomFits out.format archive room s.current
        → LookupsFitIn out.format archive room s.current s.place (report_lookups out.format archive r next) → RemembersIn out.format archive room s.place
        → RemembersIn behind.format archive after s.place
    record_remembers can fit h =
        let unmoved = lookups_unmoved out.format archive s.current can.low tables s.place old (report_lookups out.format archive r next)
        can.short (room_wide out.format room can.limits can.wide) fit in
        rw (g.1.same.format, kept, changed) (unmoved_remembers unmoved h)

    -- and once it is written, both are
    pub record_written : {last : Output} → Writes behind (λ f. report_in f archive after s r next) last
        → Writes out
        (λ f. report_given_bytes f archive (tables_in f room) (slots_in f room) s r next
        ++ report_bytes f archive (tables_in f room) (report_given_slots f archive (tables_in f room) (slots_in f room) s r next) s r next) last
    record_written w = writes_same (g.1 then w) (rw (kept, changed))
