-- Slots that a pass remembers for entries of the reading tables: at first none; each stays that of its entry's bytes when a slot is noted, when a
-- search goes on to find what it found, and when a record is passed and its entry renewed. Assumes nothing.
use Rattle.std.specs.Prelude.{Option, Some, None}
use Rattle.std.proofs.lemmas.Option.{none-some, same_Some}
use Prim.Native.Nat.{ℕ, ◌%◌, ◌≤◌, ◌<◌}
use mathlib.Core.Path.{◌≡◌, refl, sym, ap, ◌∙◌}
use mathlib.Core.List.{List}
use mathlib.Core.Bool.{true, false}
use mathlib.Core.Logic.{inl, inr}
use native.Mathlib.Omega.{arith}
use borrow.Author.Tests.{eqb-true, eqb-false, eq-eqb, ne_eqb, le-ltb, ltb-false}
use lib.Dec.{eqb, ltb}
use lib.ListN.{length, set}
use lib.Seq.{get_or-set_same, get_or-set_other}
use Rattle.words.specs.Stream.{starts_with_magic}
use Rattle.words.proofs.Tests.{cases}
use Rattle.format.specs.declared.Format.{Format}
use Rattle.format.specs.declared.Reference.{Reference}
use Rattle.format.specs.declared.Reference.TheVariants.{Inline, Index}
use Rattle.records.specs.declared.Content.{Content}
use Rattle.records.specs.declared.Content.TheVariants.{Refused, Magic, ProviderInfo, Section, ProviderEvent, Initialization, String, Thread, Report, Ignored, Skipped}
use Rattle.records.specs.declared.Effect.{Effect}
use Rattle.records.specs.declared.Effect.TheVariants.{Stop, Pass, Enter, SetRate, Register}
use Rattle.records.specs.Effect.{effect_of}
use Rattle.records.specs.Record.{record_at}
use Rattle.contexts.specs.declared.State.{State}
use Rattle.tables.specs.declared.Resolved.TheVariants.{Known}
use Rattle.tables.specs.Table.{table_words, highest_of, position, registration_of, registering, entry_at, resolved, Nothing, Entry}
use Rattle.tables.proofs.Tables.{position_lt, position-apart}
use Rattle.effects.specs.Models.Bounds.{EffectFits}
use Rattle.effects.specs.Follow.{change_of, changed}
use Rattle.views.specs.Shown.{is_bad}
use Rattle.reader.proofs.Changes.{IsTable}
use Rattle.reader.proofs.Runs.{Sound}
use Rattle.views.proofs.Lookups.{record_whole}
use Rattle.tally.specs.declared.Slot.{Slot}
use Rattle.tally.specs.declared.Slot.TheVariants.{Here, Free, Full}
use Rattle.tally.specs.Models.Slots.{label_of, key_of, find_of, here_slot, remembered_at, remembering}
use Rattle.tally.specs.Models.Tally.{Wide}
use Rattle.tally.proofs.Stays.{remembering-at, remembering-else, remembering_find}
use Rattle.passes.specs.Models.Follow.{tables_after}
use Rattle.passes.specs.Models.Memory.{registered_slot, renewed_by, renewed, RenewFits, recalled, noted, Recalled, Remembers}
use Rattle.passes.proofs.Known.{registered}
use Rattle.passes.proofs.Places.{first-magic}
use Rattle.passes.proofs.Turns.{resolved_later, record_index}

-- ---- what is remembered

-- a table of 2 or 3 is one of the two
is_table : (table : ℕ) → 2 ≤ table → table ≤ 3 → IsTable table
is_table table least most = cases (eqb table 2) (λ e. inl (eqb-true table 2 e)) (λ e. let n = eqb-false table 2 e in inr (omega arith))

-- where no slot is remembered, each is the slot of its entry's bytes
pub remembers_none : (f : Format) (archive tables slots : List ℕ) (until : ℕ)
    → ((entry : ℕ) → entry < table_words f → remembered_at (table_words f) slots entry ≡ None) → Remembers f archive tables slots until
remembers_none f archive tables slots until none context table index s low least most fits e =
    absurd (none-some s (sym (none (position f context table index) (position_lt f context table index low fits)) ∙ e))

-- a slot that is remembered for a reference is that of the bytes which the reference stands for
pub recalled-is : (f : Format) (archive tables slots : List ℕ) (context table until : ℕ) (r : Reference) (s : ℕ)
    → Remembers f archive tables slots until → context ≤ 8 → 2 ≤ table → table ≤ 3 → recalled f slots context table r ≡ Some s
    → Recalled f archive tables slots context table until r s
unfolding recalled
recalled-is f archive tables slots context table until (Inline place long) s h low least most = λ e. absurd (none-some s e)
recalled-is f archive tables slots context table until (Index index) s h low least most =
    cases (ltb (highest_of f table) index)
    (λ q e. absurd (none-some s (rw q at e)))
    (λ q e. h context table index s low least most (ltb-false (highest_of f table) index q) (rw q at e))

module _ (f : Format) (archive tables slots : List ℕ) (until : ℕ) (h : Remembers f archive tables slots until) where
  -- slots in which every key is found where it was, and every word of the memory is as it was, remember the same
  pub remembers_still : (after : List ℕ)
      → ((key : List ℕ) (s : ℕ) → find_of archive (table_words f) slots key ≡ Here s → find_of archive (table_words f) after key ≡ Here s)
      → ((entry : ℕ) → entry < table_words f → remembered_at (table_words f) after entry ≡ remembered_at (table_words f) slots entry)
      → Remembers f archive tables after until
  remembers_still after still same context table index s low least most fits e =
      let r = h context table index s low least most fits (sym (same (position f context table index) (position_lt f context table index low fits)) ∙ e) in
      record { place = r.place; long = r.long; known = r.known; some = r.some; found = still _ s r.found }

  -- what is remembered stays so at a later place
  pub remembers_later : (later : ℕ) → until ≤ later → Remembers f archive tables slots later
  unfolding is_bad
  remembers_later later behind context table index s low least most fits e =
      let r = h context table index s low least most fits e in
      let good : is_bad (resolved f archive tables context table until (Index index)) ≡ false = ap is_bad r.known in
      record {
        place = r.place;
        long = r.long;
        known = resolved_later f archive tables context table until later (Index index) behind good ∙ r.known;
        some = r.some;
        found = r.found;
      }

  -- a slot that is noted for a reference is remembered, where it is that of what the reference stands for
  pub remembers_noted : (context table : ℕ) (r : Reference) (slot : Option ℕ) → Wide (table_words f) slots → context ≤ 8 → 2 ≤ table → table ≤ 3
      → ((s : ℕ) → slot ≡ Some s → Recalled f archive tables slots context table until r s)
      → Remembers f archive tables (noted f slots context table r slot) until
  unfolding noted
  remembers_noted context table (Inline place long) slot wide low least most own = h
  remembers_noted context table (Index index) slot wide low least most own =
      cases (ltb (highest_of f table) index) (λ q. rw q h)
      (λ q. rw q (λ context' table' index' s low' least' most' fits' e.
      let here = position f context table index in
      let there = position f context' table' index' in
      let fits = ltb-false (highest_of f table) index q in
      let below = position_lt f context table index low fits in
      let found : (key : List ℕ) → find_of archive (table_words f) (remembering (table_words f) slots here slot) key ≡ find_of archive (table_words f) slots key =
      remembering_find (table_words f) slots here slot archive wide.some in
      cases (eqb there here)
      (λ same. let i = eqb-true there here same in
      let a = position-apart f context' table' index' context table index (is_table table' least' most') (is_table table least most) fits' fits i in
      let now : slot ≡ Some s =
      sym (remembering-at (table_words f) slots here slot wide below) ∙ (ap (remembered_at (table_words f) (remembering (table_words f) slots here slot)) (sym i) ∙ e) in
      let r = own s now in
      rw (a.0, a.1, a.2)
      (record { place = r.place; long = r.long; known = r.known; some = r.some; found = found _ ∙ r.found }))
      (λ other. let n = eqb-false there here other in
      let was = sym (remembering-else (table_words f) slots here slot there n) ∙ e in
      let r = h context' table' index' s low' least' most' fits' was in
      record { place = r.place; long = r.long; known = r.known; some = r.some; found = found _ ∙ r.found })))

-- ---- a record is passed

-- what every record registers can be remembered
pub record_renews : (f : Format) (archive : List ℕ) (place : ℕ) → RenewFits f (effect_of (record_at f archive place).content)
unfolding effect_of registration_of
record_renews f archive place =
    go (record_at f archive place).content (record_index f archive place) (λ table index at long e. (registered f archive place table index at long e).short)
  where
    go : (c : Content) → EffectFits f (effect_of c)
        → ((table index at long : ℕ) → registration_of c ≡ Entry table index at long → long < 65536) → RenewFits f (effect_of c)
    go (Refused number) fits short = tt
    go Magic fits short = tt
    go (ProviderInfo id at long) fits short = tt
    go (Section id) fits short = tt
    go (ProviderEvent id event) fits short = tt
    go (Initialization rate) fits short = tt
    go (String index at long) fits short = (fits, omega arith, omega arith, short 2 index at long refl)
    go (Thread index at) fits short = (fits, omega arith, omega arith, omega arith)
    go (Report r) fits short = tt
    go Ignored fits short = tt
    go (Skipped type size) fits short = tt

-- a record that registers something does not begin an archive that begins with the magic
registers_later : (f : Format) (archive : List ℕ) (place table index at long : ℕ) → starts_with_magic archive ≡ true
    → registration_of (record_at f archive place).content ≡ Entry table index at long → place ≡ 0 → ⊥
unfolding registration_of effect_of
registers_later f archive place table index at long magic e z =
    let k : Nothing ≡ Entry table index at long = rw (z, first-magic f archive magic) at e in
    let q : ◌≡◌ {A = ℕ} 0 1 = cc in
    omega arith

-- the slot that a search for a key answers is where the key was found
here_found : (slot : Slot) (s : ℕ) → here_slot slot ≡ Some s → slot ≡ Here s
here_found (Here x) s e = ap Here (same_Some x s e)
here_found (Free x) s e = absurd (none-some s e)
here_found Full s e = absurd (none-some s e)

-- the slot of bytes that are registered is that of a key which was found there, and there are some
slot_found : (f : Format) (archive slots : List ℕ) (context table place long s : ℕ) → registered_slot f archive slots context table place long ≡ Some s
    → (0 < long) × (find_of archive (table_words f) slots (key_of archive place (label_of context table long)) ≡ Here s)
unfolding registered_slot
slot_found f archive slots context table place long s =
    cases (eqb long 0)
    (λ q e. absurd (none-some s (rw q at e)))
    (λ q e. let n = eqb-false long 0 q in (omega arith, here_found _ s (rw q at e)))

module _ (f : Format) (archive tables : List ℕ) (context table index entry until : ℕ) (low : context ≤ 8) (fits : index ≤ highest_of f table)
    (room : table_words f ≤ length tables) where
  -- an entry that is set to the place of a record which registers its index stands for the record's bytes
  set_known : (place long : ℕ) → (entry ≡ 0 → ⊥) → entry % 8 ≡ 0 → (record_at f archive entry).next ≤ until
      → registration_of (record_at f archive entry).content ≡ Entry table index place long
      → resolved f archive (set tables (position f context table index) entry) context table until (Index index) ≡ Known place long
  unfolding resolved entry_at
  set_known place long some whole ends is =
      rw (
        le-ltb (highest_of f table) index fits,
        get_or-set_same tables (position f context table index) entry 0 (omega (arith, position_lt f context table index low fits)),
        ne_eqb entry 0 some,
        eq-eqb (entry % 8) 0 whole,
        le-ltb until (record_at f archive entry).next ends,
        is,
        eq-eqb table table refl,
        eq-eqb index index refl,
      )

  -- any other entry stands for what it stood for
  set_other : (context' table' index' : ℕ) → (position f context' table' index' ≡ position f context table index → ⊥)
      → resolved f archive (set tables (position f context table index) entry) context' table' until (Index index')
      ≡ resolved f archive tables context' table' until (Index index')
  unfolding resolved
  set_other context' table' index' other =
      rw (get_or-set_other tables (position f context table index) (position f context' table' index') entry 0 other)

module _ (f : Format) (archive tables slots : List ℕ) (s : State) (sound : Sound f archive s tables) (magic : starts_with_magic archive ≡ true)
    (wide : Wide (table_words f) slots) (h : Remembers f archive tables slots s.place) where
  -- the record at the state's place, and the place behind it
  abbrev content : Content
  content = (record_at f archive s.place).content

  abbrev next : ℕ
  next = (record_at f archive s.place).next

  -- behind the record the same is remembered where it sets no entry
  later : Remembers f archive tables slots next
  later = remembers_later f archive tables slots s.place h next (record_whole f archive s.place).behind

  -- what is remembered when an entry is set
  set_remembers : (table index place long : ℕ) → effect_of content ≡ Register table index place long → RenewFits f (Register table index place long)
      → Remembers f archive (set tables (position f s.current table index) s.place)
      (remembering (table_words f) slots (position f s.current table index) (registered_slot f archive slots s.current table place long)) next
  unfolding registration_of
  set_remembers table index place long is fit context' table' index' x low' least' most' fits' e =
      cases (eqb there here)
      (λ same. let i = eqb-true there here same in
      let a = position-apart f context' table' index' s.current table index (is_table table' least' most') (is_table table fit.1 fit.2) fits' fit.0 i in
      let now : slot ≡ Some x =
      sym (remembering-at (table_words f) slots here slot wide below) ∙ (ap (remembered_at (table_words f) (remembering (table_words f) slots here slot)) (sym i) ∙ e) in
      let k = slot_found f archive slots s.current table place long x now in
      rw (a.0, a.1, a.2) (record {
        place = place;
        long = long;
        known = set_known f archive tables s.current table index s.place next current fit.0 sound.room place long
            (registers_later f archive s.place table index place long magic registers) sound.whole (omega arith) registers;
        some = k.0;
        found = found _ ∙ k.1;
      }))
      (λ other. let n = eqb-false there here other in
      let was = sym (remembering-else (table_words f) slots here slot there n) ∙ e in
      let r = later context' table' index' x low' least' most' fits' was in
      record {
        place = r.place;
        long = r.long;
        known = set_other f archive tables s.current table index s.place next current fit.0 sound.room context' table' index' n ∙ r.known;
        some = r.some;
        found = found _ ∙ r.found;
      })
    where
      here : ℕ
      here = position f s.current table index

      there : ℕ
      there = position f context' table' index'

      slot : Option ℕ
      slot = registered_slot f archive slots s.current table place long

      current : s.current ≤ 8
      current = omega (arith, sound.current, sound.count)

      below : here < table_words f
      below = position_lt f s.current table index current fit.0

      registers : registration_of content ≡ Entry table index place long
      registers = ap registering is

      found : (key : List ℕ) → find_of archive (table_words f) (remembering (table_words f) slots here slot) key ≡ find_of archive (table_words f) slots key
      found = remembering_find (table_words f) slots here slot archive wide.some

  -- where a record is passed and its entry renewed, every slot that is remembered is that of its entry's bytes
  pub remembers_turn : Remembers f archive (tables_after f tables s content) (renewed f archive slots s content) next
  unfolding changed change_of renewed_by
  remembers_turn = go (effect_of content) refl (record_renews f archive s.place)
    where
      go : (e : Effect) → effect_of content ≡ e → RenewFits f e → Remembers f archive (changed tables (change_of f s e)) (renewed_by f archive slots s e) next
      go (Stop number) is fit = later
      go Pass is fit = later
      go (Enter id) is fit = later
      go (SetRate rate) is fit = later
      go (Register table index place long) is fit = set_remembers table index place long is fit
