-- What counting leaves of the slots that are remembered: each is still that of its entry's bytes, and where one is remembered for a reference, a use
-- of it is a use of that slot's key. Assumes nothing.
use Rattle.std.specs.Prelude.{Option, Some, is_some}
use Prim.Native.Nat.{ℕ, ◌+◌, ◌-◌, ◌*◌, ◌/◌, ◌≤◌, ◌<◌}
use mathlib.Core.Path.{◌≡◌, refl, sym, ap, ◌∙◌}
use mathlib.Core.List.{List, [], ◌∷◌}
use mathlib.Core.Bool.{Bool, true, false}
use mathlib.Core.Logic.{inl, inr}
use native.Mathlib.Omega.{arith}
use borrow.Author.Tests.{eqb-false, ne_eqb}
use lib.Dec.{eqb, ltb}
use lib.ListN.{length, get_or, length-set}
use lib.Seq.{get_or-drop, get_or-set_other}
use Rattle.words.specs.Word.{pick}
use Rattle.words.proofs.Tests.{cases}
use Rattle.format.specs.declared.Format.{Format}
use Rattle.format.specs.declared.Reference.{Reference}
use Rattle.format.specs.declared.Reference.TheVariants.{Inline, Index}
use Rattle.format.specs.Limits.{longest_archive}
use Rattle.records.specs.declared.Lookup.{Lookup}
use Rattle.records.specs.declared.Content.{Content}
use Rattle.records.specs.declared.Content.TheVariants.{Refused, Magic, ProviderInfo, Section, ProviderEvent, Initialization, String, Thread, Report as ReportRead, Ignored, Skipped}
use Rattle.records.specs.declared.Effect.{Effect}
use Rattle.records.specs.declared.Effect.TheVariants.{Stop, Pass, Enter, SetRate, Register}
use Rattle.records.specs.Effect.{effect_of}
use Rattle.records.specs.Record.{record_at}
use Rattle.records.specs.Lookups.{report_lookups}
use Rattle.contexts.specs.declared.State.{State}
use Rattle.tables.specs.declared.Resolved.{Resolved}
use Rattle.tables.specs.declared.Resolved.TheVariants.{Bad, Known, Unresolved}
use Rattle.tables.specs.Table.{table_words, highest_of, position, looked_up}
use Rattle.tables.proofs.Tables.{position_lt}
use Rattle.reader.proofs.Changes.{IsTable}
use Rattle.tally.specs.declared.Slot.{Slot}
use Rattle.tally.specs.declared.Slot.TheVariants.{Here, Free, Full}
use Rattle.tally.specs.Models.Slots.{label_of, key_of, find_of, count_at, used_again, slot_word, slot_of_word, is_added, added_slot, added}
use Rattle.tally.specs.Models.Tally.{Wide}
use Rattle.tally.proofs.Laws.{label_mark}
use Rattle.tally.proofs.Frames.{added-length, added-behind}
use Rattle.tally.proofs.Probing.{found-low}
use Rattle.tally.proofs.Stays.{added_still, added-found, remembering_same}
use Rattle.passes.specs.Models.Follow.{tables_after}
use Rattle.effects.specs.Follow.{change_of, changed}
use Rattle.reader.specs.Step.{opening_number}
use Rattle.reader.proofs.Steps.{admitted}
use Rattle.views.proofs.Lookups.{record_whole}
use Rattle.reader.proofs.Runs.{Sound}
use Rattle.records.specs.declared.Report.{Report}
use Rattle.passes.specs.Models.Memory.{recalled, noted, renewed_by, renewed, RenewFits, Recalled, Remembers}
use Rattle.passes.proofs.Memory.{remembers_still, remembers_noted, remembers_later, remembers_turn, recalled-is}
use Rattle.passes.proofs.Places.{ReferenceStands, known_stands, LookupsStand, report_stands, opening-report, opening-magic}
use Rattle.first_pass.specs.Models.Count.{CanStand, count_good, count_slots, lookup_good, lookup_slots, lookups_slots, report_slots, keeps_to, checked_slots}
use Rattle.first_pass.proofs.Kept.{kept-wide}
use Rattle.first_pass.proofs.References.{Noted}

-- ---- a slot that is noted

-- it keeps the number of slots
noted-length : (f : Format) (slots : List ℕ) (context table : ℕ) (r : Reference) (slot : Option ℕ) → length (noted f slots context table r slot) ≡ length slots
unfolding noted
noted-length f slots context table (Inline place long) slot = refl
noted-length f slots context table (Index index) slot =
    cases (ltb (highest_of f table) index) (λ q. rw q)
    (λ q. rw q (length-set slots (2 * table_words f + position f context table index) (slot_word slot)))

-- where it is what was remembered, nothing changes
noted_same : (f : Format) (slots : List ℕ) (context table : ℕ) (r : Reference) (slot : Option ℕ) → recalled f slots context table r ≡ slot
    → noted f slots context table r slot ≡ slots
unfolding recalled noted
noted_same f slots context table (Inline place long) slot = λ e. refl
noted_same f slots context table (Index index) slot =
    cases (ltb (highest_of f table) index) (λ q e. rw q)
    (λ q e. let is = rw q at e in rw (q, ← is) (remembering_same (table_words f) slots (position f context table index)))

-- one use more of a slot's key changes nothing that is remembered
used-recalled : (f : Format) (slots : List ℕ) (context table : ℕ) (r : Reference) (s : ℕ) → s < table_words f - 18
    → recalled f (used_again (table_words f) slots s) context table r ≡ recalled f slots context table r
unfolding recalled
used-recalled f slots context table (Inline place long) s low = refl
used-recalled f slots context table (Index index) s low =
    cases (ltb (highest_of f table) index) (λ q. rw q)
    (λ q. rw q (ap slot_of_word (get_or-set_other slots (table_words f + s) (2 * table_words f + position f context table index) _ 0 (λ z. omega arith))))

-- an entry that is renewed is a slot that is remembered, or none
pub renewed-noted : (f : Format) (archive slots : List ℕ) (s : State) (c : Content) → s.current ≤ 8 → RenewFits f (effect_of c)
    → Noted f slots (renewed f archive slots s c)
unfolding renewed_by
renewed-noted f archive slots s c low fit = go (effect_of c) fit
  where
    go : (e : Effect) → RenewFits f e → Noted f slots (renewed_by f archive slots s e)
    go (Stop number) k = inl refl
    go Pass k = inl refl
    go (Enter id) k = inl refl
    go (SetRate rate) k = inl refl
    go (Register table index place long) k =
        inr (position f s.current table index, _, position_lt f s.current table index low k.0, refl)

-- ---- a reference that is counted

-- a reference that can stand in the archive stands in it
pub can_stand : (archive : List ℕ) (r : Reference) → CanStand archive r → ReferenceStands archive r
can_stand archive (Inline place long) h = record { inside = h.0; behind = h.2; short = h.1 }
can_stand archive (Index index) h = tt

-- and one that stands in it can
pub stands_can : (archive : List ℕ) (r : Reference) → ReferenceStands archive r → CanStand archive r
stands_can archive (Inline place long) h = (h.inside, h.short, h.behind)
stands_can archive (Index index) h = tt

-- the mark of a label of one of the nine contexts and one of the two tables
pub mark_low : (context table long : ℕ) → context ≤ 8 → table ≤ 3 → long < 65536 → label_of context table long / 65536 < 18
mark_low context table long low most short = omega (arith, label_mark context table long short)

-- a key has a slot after its use exactly where it was counted
pub slot_added : (stretch : ℕ) (slots : List ℕ) (label most : ℕ) (slot : Slot)
    → is_some (added_slot stretch slots label most slot) ≡ is_added stretch slots label most slot
slot_added stretch slots label most (Here s) = refl
slot_added stretch slots label most (Free s) =
    cases (ltb (count_at stretch slots label) most) (λ q. rw q) (λ q. rw q)
slot_added stretch slots label most Full = refl

-- a slot that is remembered for a reference is one of the slots
pub recalled-low : (f : Format) (archive tables slots : List ℕ) (context table until : ℕ) (r : Reference) (s : ℕ) → Wide (table_words f) slots
    → Remembers f archive tables slots until → context ≤ 8 → 2 ≤ table → table ≤ 3 → recalled f slots context table r ≡ Some s
    → s < table_words f - 18
recalled-low f archive tables slots context table until r s wide h low least most e =
    let k = recalled-is f archive tables slots context table until r s h low least most e in
    found-low archive (table_words f) slots _ wide.some (Here s) k.found

module _ (f : Format) (archive tables : List ℕ) (context until : ℕ) where
  -- a slot that is remembered for a reference: a use of the reference is one more of the slot's key, and nothing else changes
  pub recalled-counts : (slots : List ℕ) (l : Lookup) (s : ℕ) → Wide (table_words f) slots
      → Recalled f archive tables slots context l.table until l.reference s → recalled f slots context l.table l.reference ≡ Some s
      → (lookup_good f archive tables slots context until l ≡ true)
      × (lookup_slots f archive tables slots context until l ≡ used_again (table_words f) slots s)
  unfolding count_good count_slots
  recalled-counts slots l s wide r e =
      let low = found-low archive (table_words f) slots _ wide.some (Here s) r.found in
      rw (r.known, ne_eqb r.long 0 (λ z. omega (arith, r.some)), r.found) (
        refl,
        noted_same f (used_again (table_words f) slots s) context l.table l.reference (Some s)
            (used-recalled f slots context l.table l.reference s low ∙ e),
      )

  -- counting keeps the number of slots
  pub lookup_length : (slots : List ℕ) (l : Lookup) → length (lookup_slots f archive tables slots context until l) ≡ length slots
  unfolding count_slots
  lookup_length slots l = go (looked_up f archive tables context until l)
    where
      go : (r : Resolved) → length (count_slots f archive slots context l.table l.reference r) ≡ length slots
      go Bad = refl
      go (Known place long) =
          cases (eqb long 0) (λ q. rw q)
          (λ q. let label = label_of context l.table long in
          let slot = find_of archive (table_words f) slots (key_of archive place label) in
          rw q
          (noted-length f (added (table_words f) slots place label (highest_of f l.table) slot) context l.table l.reference
          (added_slot (table_words f) slots label (highest_of f l.table) slot)
          ∙ added-length (table_words f) slots place label (highest_of f l.table) slot))
      go (Unresolved index) = refl

  -- and every slot that is remembered is still that of its entry's bytes
  pub remembers_lookup : length archive ≤ longest_archive → context ≤ 8 → (slots : List ℕ) (l : Lookup) → Wide (table_words f) slots → 2 ≤ l.table
      → l.table ≤ 3 → ReferenceStands archive l.reference → Remembers f archive tables slots until
      → Remembers f archive tables (lookup_slots f archive tables slots context until l) until
  unfolding count_slots
  remembers_lookup short low slots l wide least most stands h = go (looked_up f archive tables context until l) refl
    where
      stretch : ℕ
      stretch = table_words f

      go : (r : Resolved) → looked_up f archive tables context until l ≡ r
          → Remembers f archive tables (count_slots f archive slots context l.table l.reference r) until
      go Bad e = h
      go (Known place long) e =
          let k = known_stands f archive tables context l.table until l.reference place long stands e in
          let label = label_of context l.table long in
          let limit = highest_of f l.table in
          let key = key_of archive place label in
          let slot = find_of archive stretch slots key in
          let after = added stretch slots place label limit slot in
          let mark = mark_low context l.table long low most k.short in
          cases (eqb long 0) (λ q. rw q h)
          (λ q. let n = eqb-false long 0 q in
          let some : 0 < place = k.behind (omega arith) in
          let small : place < 16777216 = omega (arith, k.inside) in
          let behind = added-behind stretch slots place label limit slot mark (found-low archive stretch slots key wide.some slot refl) in
          let still = remembers_still f archive tables slots until h after (added_still archive stretch slots wide place label limit some small mark)
          (λ entry below. ap slot_of_word
          (sym (get_or-drop (2 * stretch) after entry 0) ∙ (ap (λ (x : List ℕ). get_or x entry 0) behind ∙ get_or-drop (2 * stretch) slots entry 0))) in
          rw q (remembers_noted f archive tables after until still context l.table l.reference (added_slot stretch slots label limit slot)
          (kept-wide (added-length stretch slots place label limit slot) wide) low least most
          (λ s a. record {
            place = place;
            long = long;
            known = e;
            some = omega arith;
            found = added-found archive stretch slots wide place label limit some small mark s a;
          })))
      go (Unresolved index) e = h

  -- and so they are behind references that are counted one after the other
  pub remembers_lookups : length archive ≤ longest_archive → context ≤ 8 → (ls : List Lookup) → LookupsStand archive ls → (slots : List ℕ)
      → Wide (table_words f) slots → Remembers f archive tables slots until
      → Remembers f archive tables (lookups_slots f archive tables slots context until ls) until
  unfolding lookups_slots
  remembers_lookups short low [] stands slots wide h = h
  remembers_lookups short low (l ∷ more) stands slots wide h =
      let bounds = table_bounds stands.0.table in
      remembers_lookups short low more stands.1 (lookup_slots f archive tables slots context until l)
      (kept-wide (lookup_length slots l) wide)
      (remembers_lookup short low slots l wide bounds.0 bounds.1 stands.0.stands h)
    where
      table_bounds : IsTable l.table → (2 ≤ l.table) × (l.table ≤ 3)
      table_bounds (inl k) = omega (arith, k)
      table_bounds (inr k) = omega (arith, k)

-- ---- a record that is checked

module _ (f : Format) (archive tables slots : List ℕ) (s : State) (sound : Sound f archive s tables) (opens : opening_number f archive (length tables) ≡ 0)
    (wide : Wide (table_words f) slots) (h : Remembers f archive tables slots s.place) (clean : Bool) where
  abbrev next : ℕ
  next = (record_at f archive s.place).next

  -- behind a record that is followed, renewed and checked, every slot that is remembered is that of its entry's bytes
  pub checked_remembers : (c : Content) → (record_at f archive s.place).content ≡ c
      → Remembers f archive (tables_after f tables s c)
      (checked_slots f archive (tables_after f tables s c) (renewed f archive slots s c) s c next clean) next
  unfolding checked_slots effect_of change_of changed renewed_by
  checked_remembers c k = go c k (rw k at turned)
    where
      turned : Remembers f archive (tables_after f tables s (record_at f archive s.place).content)
          (renewed f archive slots s (record_at f archive s.place).content) next
      turned = remembers_turn f archive tables slots s sound (opening-magic f archive (length tables) opens) wide h

      -- where nothing is counted, it is what following and renewing left
      plain : (keeps : Bool) (tables' slots' : List ℕ) → Remembers f archive tables' slots' next → Remembers f archive tables' (pick keeps slots' slots') next
      plain true tables' slots' q = q
      plain false tables' slots' q = q

      -- the references of a record are counted at its place
      of_report : (r : Report) → (record_at f archive s.place).content ≡ ReportRead r
          → Remembers f archive tables (report_slots f archive tables slots s r next) next
      of_report r k =
          let ls = report_lookups f archive r next in
          let stands = report_stands f archive s.place r (opening-report f archive (length tables) s.place r opens k) k in
          remembers_later f archive tables (lookups_slots f archive tables slots s.current s.place ls) s.place
          (remembers_lookups f archive tables s.current s.place (admitted f archive (length tables) opens).short
          (omega (arith, sound.current, sound.count)) ls stands slots wide h)
          next (record_whole f archive s.place).behind

      report : (keeps : Bool) (r : Report) → (record_at f archive s.place).content ≡ ReportRead r → Remembers f archive tables slots next
          → Remembers f archive tables (pick keeps (pick clean (report_slots f archive tables slots s r next) slots) slots) next
      report false r k q = q
      report true r k q = cases clean (λ e. rw e (of_report r k)) (λ e. rw e q)

      go : (c : Content) → (record_at f archive s.place).content ≡ c
          → Remembers f archive (tables_after f tables s c) (renewed f archive slots s c) next
          → Remembers f archive (tables_after f tables s c)
          (checked_slots f archive (tables_after f tables s c) (renewed f archive slots s c) s c next clean) next
      go (Refused number) k q = plain (keeps_to f archive s (Refused number) next) _ _ q
      go Magic k q = plain (keeps_to f archive s Magic next) _ _ q
      go (ProviderInfo id at long) k q = plain (keeps_to f archive s (ProviderInfo id at long) next) _ _ q
      go (Section id) k q = plain (keeps_to f archive s (Section id) next) _ _ q
      go (ProviderEvent id e) k q = plain (keeps_to f archive s (ProviderEvent id e) next) _ _ q
      go (Initialization rate) k q = plain (keeps_to f archive s (Initialization rate) next) _ _ q
      go (String index at long) k q = plain (keeps_to f archive s (String index at long) next) _ _ q
      go (Thread index at) k q = plain (keeps_to f archive s (Thread index at) next) _ _ q
      go (ReportRead r) k q = report (keeps_to f archive s (ReportRead r) next) r k q
      go Ignored k q = plain (keeps_to f archive s Ignored next) _ _ q
      go (Skipped type size) k q = plain (keeps_to f archive s (Skipped type size) next) _ _ q

  -- and at a record that refers to texts and threads they are so before its references are counted
  pub report_remembers : (c : Content) (r : Report) → (record_at f archive s.place).content ≡ c → c ≡ ReportRead r
      → Remembers f archive (tables_after f tables s c) (renewed f archive slots s c) s.place × (0 < s.place)
  unfolding effect_of change_of changed renewed_by
  report_remembers c r k e = rw e (h, opening-report f archive (length tables) s.place r opens (k ∙ e))
