-- Where no key waits for its index, a record has no registrations and leaves the slots as they are; what follows for the room. Assumes nothing.
use Rattle.std.specs.Prelude.{Option, MatchOption}
use Prim.Native.Nat.{ℕ, ◌-◌, ◌*◌, ◌<◌, ◌≤◌}
use mathlib.Core.Path.{◌≡◌, refl, sym}
use mathlib.Core.List.{List, [], ◌∷◌}
use mathlib.Core.Logic.{◌⊎◌, inl, inr}
use native.Mathlib.Omega.{arith}
use lib.Dec.{eqb}
use lib.ListN.{length, take, drop, take-append-drop}
use Rattle.tally.specs.Models.Tally.{Wide}
use Rattle.tally.specs.Models.Slots.{label_of, key_of}
use Rattle.tables.specs.Models.Entries.{FormatFits}
use Rattle.indexing.specs.Models.Indexes.{Settled, Waiting}
use Rattle.words.proofs.Tests.{on-pick}
use Rattle.indexing.proofs.Settled.{settled-index, settled_table}
use Rattle.format.specs.declared.Format.{Format}
use Rattle.format.proofs.Headers.{part_from}
use Rattle.records.specs.declared.Report.{Report}
use Rattle.records.specs.declared.Lookup.{Lookup}
use Rattle.records.specs.Lookups.{report_lookups}
use Rattle.records.specs.declared.Content.{Content}
use Rattle.records.specs.declared.Content.TheVariants.{Report as ReportRead}
use Rattle.contexts.specs.declared.State.{State}
use Rattle.tables.specs.declared.Resolved.{Resolved}
use Rattle.tables.specs.declared.Resolved.TheVariants.{Bad, Known, Unresolved}
use Rattle.tables.specs.Table.{table_words, looked_up}
use Rattle.encoding.specs.declared.Output.{Output}
use Rattle.encoding.proofs.Writing.{writes_none, writes_same}
use Rattle.passes.proofs.Rooms.{slots_stand}
use Rattle.rewriting.specs.Models.Write.{tables_in, slots_in, given_index, given_slots, known_bytes, given_bytes, lookups_given_slots, lookups_given_bytes, content_slots, content_room}
use Rattle.rewriting.proofs.Others.{Other, report_or}
use Rattle.rewriting.proofs.Spelling.{slots_wide, room_wide}
use Rattle.rewriting.proofs.Registering.{registration_none, Registered}

module _ (f : Format) (archive slots : List ℕ) (wide : Wide (table_words f) slots) (settled : Settled (table_words f) slots) where
  -- what a reference stands for gets no index
  settled-none : (context table : ℕ) (r : Resolved) → given_index f archive slots context table r ≡ 0
  unfolding given_index
  settled-none context table Bad = refl
  settled-none context table (Known place long) =
      on-pick (λ x. x ≡ 0) (eqb long 0) 0 _ (λ e. refl)
      (λ e. settled-index archive (key_of archive place (label_of context table long)) (label_of context table long) wide settled)
  settled-none context table (Unresolved index) = refl

  -- so it is not registered
  settled_bytes : (context table : ℕ) (r : Resolved) → given_bytes f archive slots context table r ≡ []
  settled_bytes context table r =
      registration_none f table (given_index f archive slots context table r) (known_bytes archive r) (settled-none context table r)

  -- and the slots stay
  settled_slots : (context table : ℕ) (r : Resolved) → given_slots f archive slots context table r ≡ slots
  unfolding given_slots
  settled_slots context table Bad = refl
  settled_slots context table (Known place long) =
      on-pick (λ x. x ≡ slots) (eqb long 0) slots _ (λ e. refl)
      (λ e. settled_table archive (key_of archive place (label_of context table long)) (label_of context table long) wide settled)
  settled_slots context table (Unresolved index) = refl

  -- the slots stay behind references, one after the other
  pub settled_lookups_slots : (tables : List ℕ) (context until : ℕ) (ls : List Lookup) → lookups_given_slots f archive tables context until slots ls ≡ slots
  settled_lookups_slots tables context until [] = refl
  settled_lookups_slots tables context until (l ∷ more) =
      rw (settled_slots context l.table (looked_up f archive tables context until l)) (settled_lookups_slots tables context until more)

  -- which have no registrations
  pub settled_lookups_bytes : (tables : List ℕ) (context until : ℕ) (ls : List Lookup) → lookups_given_bytes f archive tables context until slots ls ≡ []
  settled_lookups_bytes tables context until [] = refl
  settled_lookups_bytes tables context until (l ∷ more) =
      let r = looked_up f archive tables context until l in
      rw (settled_bytes context l.table r, settled_slots context l.table r) (settled_lookups_bytes tables context until more)

  -- the slots stay behind a record
  settled_content : (tables : List ℕ) (s : State) (c : Content) (next : ℕ) → content_slots f archive tables slots s c next ≡ slots
  settled_content tables s c next = go (report_or c)
    where
      go : ((r : Report) × (c ≡ ReportRead r)) ⊎ Other c → content_slots f archive tables slots s c next ≡ slots
      go (inl (r, e)) = rw e (settled_lookups_slots tables s.current s.place (report_lookups f archive r next))
      go (inr o) = o.bytes _ _

-- ---- in a room

-- where none waits, references are registered where nothing is done
pub settled_registered : (archive room : List ℕ) (out : Output) (context until : ℕ) (ls : Format → List Lookup) → FormatFits out.format
    → 4 * table_words out.format ≤ length room → Settled (table_words out.format) (slots_in out.format room)
    → Registered archive context until ls room out room out
settled_registered archive room out context until ls fit long settled =
    let f = out.format in
    let wide = room_wide f room fit long in (
      rw (settled_lookups_slots f archive (slots_in f room) wide settled (tables_in f room) context until (ls f))
          (sym (take-append-drop (table_words f) room)),
      writes_same (writes_none out) (sym (settled_lookups_bytes f archive (slots_in f room) wide settled (tables_in f room) context until (ls f))),
    )

-- where none waits, none waits behind a record
pub settled-behind : (f : Format) (archive room after : List ℕ) (s : State) (c : Content) (next : ℕ) → FormatFits f → 4 * table_words f ≤ length room
    → after ≡ content_room f archive room s c next → Settled (table_words f) (slots_in f room) → Settled (table_words f) (slots_in f after)
settled-behind f archive room after s c next fit long e settled =
    let tables = tables_in f room in
    let slots = slots_in f room in
    let same = settled_content f archive slots (room_wide f room fit long) settled tables s c next in
    let stand = slots_stand (table_words f) room (content_slots f archive tables slots s c next) after (omega arith) e in
    rw (stand, same) settled

-- what is asked of a room to find a slot whose key waits
pub can_wait : (f : Format) (words : ℕ) (room : List ℕ) (slot : Option ℕ) → FormatFits f → words ≡ table_words f → 4 * table_words f ≤ length room
    → MatchOption slot (Settled (table_words f) (drop (table_words f) room)) (λ s. s < table_words f - 18)
    → Wide words (take (length room - words) (drop words room))
    × MatchOption slot (Settled words (take (length room - words) (drop words room))) (λ s. s < words - 18)
can_wait f words room slot fit same long asked = (slots_wide f words room fit same long, rw (part_from words room, same) asked)

-- the slot that is found, in the room
pub waiting_in : (f : Format) (words : ℕ) (room : List ℕ) (slot : Option ℕ) → words ≡ table_words f
    → Waiting words (take (length room - words) (drop words room)) slot → Waiting (table_words f) (drop (table_words f) room) slot
waiting_in f words room slot same w = rw (part_from words room, same) at w
