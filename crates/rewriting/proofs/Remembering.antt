-- What the second pass remembers stays: an index that is given changes no search and no word of the memory. And a record that is passed changes only
-- the memory: places, labels, choices, indexes and counters stay. Assumes nothing.
use Rattle.std.specs.Prelude.{Some}
use Prim.Native.Nat.{ℕ, ◌+◌, ◌-◌, ◌*◌, ◌/◌, ◌%◌, ◌<◌, ◌≤◌}
use mathlib.Core.Path.{◌≡◌, refl, sym, ap, ◌∙◌}
use mathlib.Core.List.{List, [], ◌∷◌}
use mathlib.Core.Bool.{Bool}
use mathlib.Core.Logic.{◌⊎◌, inl, inr}
use native.Mathlib.Omega.{arith}
use lib.Dec.{eqb}
use lib.ListN.{length, take, drop, get_or, length-set}
use lib.Seq.{take-set-le, drop-set-lt}
use Rattle.words.specs.Stream.{part_of}
use Rattle.words.proofs.Tests.{cases, on-pick}
use Rattle.format.specs.declared.Format.{Format}
use Rattle.format.specs.declared.Reference.{Reference}
use Rattle.format.proofs.Headers.{part_from}
use Rattle.format.specs.Limits.{longest_archive}
use Rattle.records.specs.declared.Content.{Content}
use Rattle.records.specs.declared.Content.TheVariants.{Report as ReportRead}
use Rattle.records.specs.declared.Effect.{Effect}
use Rattle.records.specs.declared.Effect.TheVariants.{Stop, Pass, Enter, SetRate, Register}
use Rattle.records.specs.declared.Lookup.{Lookup}
use Rattle.records.specs.declared.Report.{Report}
use Rattle.records.specs.Effect.{effect_of}
use Rattle.records.specs.Lookups.{report_lookups}
use Rattle.contexts.specs.declared.State.{State}
use Rattle.tables.specs.declared.Resolved.{Resolved}
use Rattle.tables.specs.declared.Resolved.TheVariants.{Bad, Known, Unresolved}
use Rattle.tables.specs.Table.{table_words, position, looked_up}
use Rattle.tables.proofs.Tables.{position_lt}
use Rattle.effects.specs.Follow.{change_of, changed}
use Rattle.tally.specs.declared.Slot.{Slot}
use Rattle.tally.specs.declared.Slot.TheVariants.{Here, Free, Full}
use Rattle.tally.specs.Models.Slots.{label_of, key_of, label_at, uses_in, uses_at, find_of, slot_of_word, remembered_at}
use Rattle.tally.specs.Models.Tally.{Wide}
use Rattle.tally.proofs.Probing.{found-low, here_key, find_alike}
use Rattle.tally.proofs.Stays.{remembering_other}
use Rattle.indexing.specs.Models.Indexes.{index_of, indexed, Indexes, Settled}
use Rattle.indexing.proofs.Frames.{index_other, index_key}
use Rattle.passes.specs.Models.Follow.{tables_after}
use Rattle.passes.specs.Models.Known.{KnownFits}
use Rattle.passes.specs.Models.Memory.{registered_slot, renewed_by, renewed, RenewFits, recalled, Recalled, Remembers}
use Rattle.passes.proofs.Known.{reference-fits}
use Rattle.passes.proofs.Memory.{recalled-is, remembers_still}
use Rattle.rewriting.specs.Models.Write.{tables_in, slots_in, slot_bytes, given_slots, lookups_given_slots, content_slots, spelled_of, slot_spelled, spelled_in, SpelledAs}
use Rattle.rewriting.specs.declared.Spelled.{Spelled}
use Rattle.rewriting.specs.Models.Fits.{RoomFits, RemembersIn, CanLookUp, LookupsGivenFit, ContentFits}
use Rattle.rewriting.proofs.Spelling.{slots_wide, room_wide}
use Rattle.rewriting.proofs.Others.{Other, report_or}
use Rattle.rewriting.proofs.Kept.{SameKeys, KeysKept}

-- ---- indexes are given

-- as many words, in which every key is found where it was and the same is remembered
pub record Unmoved (archive : List ℕ) (stretch : ℕ) (before after : List ℕ) : Type 0 where
  pub long : length after ≡ length before
  pub found : (key : List ℕ) → find_of archive stretch after key ≡ find_of archive stretch before key
  pub memory : (entry : ℕ) → remembered_at stretch after entry ≡ remembered_at stretch before entry

-- words that stay are so
unmoved_same : (archive : List ℕ) (stretch : ℕ) (slots : List ℕ) → Unmoved archive stretch slots slots
unmoved_same archive stretch slots = record { long = refl; found = λ key. refl; memory = λ entry. refl }

-- two changes that move nothing
unmoved_then : {archive : List ℕ} {stretch : ℕ} {a b c : List ℕ} → Unmoved archive stretch a b → Unmoved archive stretch b c → Unmoved archive stretch a c
unmoved_then h k = record {
  long = k.long ∙ h.long;
  found = λ key. k.found key ∙ h.found key;
  memory = λ entry. k.memory entry ∙ h.memory entry;
}

-- where nothing is moved, slots that are wide enough are still
unmoved_wide : {archive : List ℕ} {stretch : ℕ} {a b : List ℕ} → Unmoved archive stretch a b → Wide stretch a → Wide stretch b
unmoved_wide h wide = record { some = wide.some; low = wide.low; long = omega (arith, h.long, wide.long) }

-- an index that is given to the key of a slot moves nothing
indexed_unmoved : (archive : List ℕ) (stretch : ℕ) (slots : List ℕ) (label : ℕ) (key : List ℕ) → Wide stretch slots → label / 65536 < 18
    → (slot : Slot) → find_of archive stretch slots key ≡ slot → Unmoved archive stretch slots (indexed stretch slots label slot)
indexed_unmoved archive stretch slots label key wide mark (Here s) is =
    let low = found-low archive stretch slots key wide.some (Here s) is in
    cases (eqb (uses_at stretch slots s) 1)
    (λ e. rw e (record {
      long = simp length-set;
      found = find_alike archive stretch slots _ wide.some
          (λ x l. let k = index_key stretch slots label s low mark wide x l in (k.0, λ taken. k.1));
      memory = λ entry. ap slot_of_word
          (index_other stretch slots label s low mark (2 * stretch + entry) (λ q. omega arith) (λ q. omega (arith, wide.some)));
    }))
    (λ e. rw e (unmoved_same archive stretch slots))
indexed_unmoved archive stretch slots label key wide mark (Free s) is = unmoved_same archive stretch slots
indexed_unmoved archive stretch slots label key wide mark Full is = unmoved_same archive stretch slots

-- the mark of a label is one of eighteen, and below it stands the length
pub label_mark : (context table long : ℕ) → context ≤ 8 → 2 ≤ table → table ≤ 3 → long < 65536
    → (label_of context table long / 65536 < 18) × (label_of context table long < 18 * 65536) × (label_of context table long % 65536 ≡ long)
unfolding label_of
label_mark context table long low least most short = (omega arith, omega arith, omega arith)

module _ (f : Format) (archive : List ℕ) (context : ℕ) (low : context ≤ 8) where
  -- neither does one that is given to what a reference stands for
  given_unmoved : (slots : List ℕ) (table : ℕ) (r : Resolved) → Wide (table_words f) slots → 2 ≤ table → table ≤ 3 → KnownFits r
      → Unmoved archive (table_words f) slots (given_slots f archive slots context table r)
  unfolding given_slots
  given_unmoved slots table Bad wide least most fits = unmoved_same archive (table_words f) slots
  given_unmoved slots table (Known place long) wide least most fits =
      on-pick (λ x. Unmoved archive (table_words f) slots x) (eqb long 0) slots _ (λ e. unmoved_same archive (table_words f) slots)
      (λ e. indexed_unmoved archive (table_words f) slots (label_of context table long) (key_of archive place (label_of context table long)) wide
      (label_mark context table long low least most fits.1).0 _ refl)
  given_unmoved slots table (Unresolved index) wide least most fits = unmoved_same archive (table_words f) slots

  -- nor those that are given to what references stand for, one after the other
  pub lookups_unmoved : (tables : List ℕ) (until : ℕ) (slots : List ℕ) (ls : List Lookup) → length archive ≤ longest_archive → Wide (table_words f) slots
      → LookupsGivenFit f archive tables context until slots ls
      → Unmoved archive (table_words f) slots (lookups_given_slots f archive tables context until slots ls)
  lookups_unmoved tables until slots [] short wide fits = unmoved_same archive (table_words f) slots
  lookups_unmoved tables until slots (l ∷ more) short wide fits =
      let can = fits.0.0 in
      let r = looked_up f archive tables context until l in
      let first = given_unmoved slots l.table r wide can.low can.high
      (reference-fits f archive tables context l.table until l.reference can.reference short) in
      unmoved_then first
      (lookups_unmoved tables until (given_slots f archive slots context l.table r) more short (unmoved_wide first wide) fits.1)

-- nor those that are given before a record
pub content_unmoved : (f : Format) (archive tables slots : List ℕ) (s : State) (c : Content) (next : ℕ) → s.current ≤ 8 → length archive ≤ longest_archive
    → Wide (table_words f) slots → ContentFits f archive tables slots s c next
    → Unmoved archive (table_words f) slots (content_slots f archive tables slots s c next)
content_unmoved f archive tables slots s c next low short wide fits = go (report_or c)
  where
    go : ((r : Report) × (c ≡ ReportRead r)) ⊎ Other c → Unmoved archive (table_words f) slots (content_slots f archive tables slots s c next)
    go (inl (r, e)) =
        rw e (lookups_unmoved f archive s.current low tables s.place slots (report_lookups f archive r next) short wide (fits.report r e).0)
    go (inr o) = let stay : content_slots f archive tables slots s c next ≡ slots = o.bytes _ _ in rw stay (unmoved_same archive (table_words f) slots)

-- where nothing is moved, what is remembered is right still
pub unmoved_remembers : {f : Format} {archive : List ℕ} {tables before after : List ℕ} {until : ℕ} → Unmoved archive (table_words f) before after
    → Remembers f archive tables before until → Remembers f archive tables after until
unmoved_remembers {f} {archive} {tables} {before} {after} {until} h r =
    remembers_still f archive tables before until r after (λ key s e. h.found key ∙ e) (λ entry l. h.memory entry)

-- ---- the slot that is remembered

-- the slot that is remembered for a reference has the label and the bytes of what the reference stands for
pub record SlotOf (f : Format) (archive tables slots : List ℕ) (context table until : ℕ) (reference : Reference) (s : ℕ) : Type 0 where
  pub is : Recalled f archive tables slots context table until reference s
  pub low : s < table_words f - 18
  pub short : is.long < 65536
  pub label : label_at (table_words f) slots s ≡ label_of context table is.long
  pub bytes : slot_bytes archive (table_words f) slots s ≡ part_of archive is.place is.long

-- two keys that are the same have the same label
key-label : (a b : ℕ) (x y : List ℕ) → a ∷ x ≡ b ∷ y → a ≡ b
key-label a b x y e = cc

-- and the same bytes
key_bytes : (a b : ℕ) (x y : List ℕ) → a ∷ x ≡ b ∷ y → x ≡ y
key_bytes a b x y e = cc

-- every slot that is recalled for a reference is such a slot
pub slot_of : (f : Format) (archive tables slots : List ℕ) (context until : ℕ) (l : Lookup) (s : ℕ) → Remembers f archive tables slots until
    → Wide (table_words f) slots → context ≤ 8 → length archive ≤ longest_archive → CanLookUp l
    → Some s ≡ recalled f slots context l.table l.reference → SlotOf f archive tables slots context l.table until l.reference s
slot_of f archive tables slots context until l s h wide low short can e =
    let r = recalled-is f archive tables slots context l.table until l.reference s h low can.low can.high (sym e) in
    let label = label_of context l.table r.long in
    let fits = rw r.known at (reference-fits f archive tables context l.table until l.reference can.reference short) in
    let key = (here_key archive (table_words f) slots (key_of archive r.place label) wide.some s r.found).1 in
    let length-is = (label_mark context l.table r.long low can.low can.high fits.1).2 in
    record {
      is = r;
      low = found-low archive (table_words f) slots (key_of archive r.place label) wide.some (Here s) r.found;
      short = fits.1;
      label = key-label _ _ _ _ key;
      bytes = key_bytes _ _ _ _ key ∙ ap (part_of archive r.place) length-is;
    }

-- what is spelled by it is spelled as what the reference stands for
slot_spelled_lem : {f : Format} {archive tables slots : List ℕ} {context until : ℕ} {l : Lookup} {s : ℕ}
    → SlotOf f archive tables slots context l.table until l.reference s
    → SpelledAs archive (slot_spelled (table_words f) slots s) (spelled_of f archive slots context l.table (looked_up f archive tables context until l))
unfolding slot_spelled spelled_of index_of
slot_spelled_lem k = rw (k.is.known, k.is.found) (refl, k.bytes)

-- the slot that is recalled, in a room whose slots are lent from its n-th word on
module _ (f : Format) (archive room : List ℕ) (context until : ℕ) (l : Lookup) (n s : ℕ) (fits : RoomFits f archive room context) (can : CanLookUp l)
    (remembers : RemembersIn f archive room until) (words : n ≡ table_words f)
    (told : Some s ≡ recalled f (take (length room - n) (drop n room)) context l.table l.reference) where
  -- it has the label and the bytes of what the reference stands for
  slot_in : SlotOf f archive (tables_in f room) (slots_in f room) context l.table until l.reference s
  slot_in =
      slot_of f archive (tables_in f room) (slots_in f room) context until l s remembers (room_wide f room fits.limits fits.wide) fits.low
      fits.short can (rw (part_from n room, words) at told)

  -- it can be spelled by
  pub slot_can : Wide n (take (length room - n) (drop n room)) × (s < n - 18)
  slot_can = (slots_wide f n room fits.limits words fits.wide, omega (arith, slot_in.low, words))

  -- and what is spelled by it is spelled as what the reference stands for
  pub slot_spells : (p : Spelled) → p ≡ slot_spelled n (take (length room - n) (drop n room)) s
      → SpelledAs archive p (spelled_in f archive room context until l)
  slot_spells p e = let is = rw (part_from n room, words) at e in rw is (slot_spelled_lem slot_in)

-- ---- a record is passed

module _ (f : Format) (archive slots : List ℕ) (s : State) (c : Content) where
  -- no word of the first two stretches is changed
  pub renewed_other : (i : ℕ) → i < 2 * table_words f → get_or (renewed f archive slots s c) i 0 ≡ get_or slots i 0
  unfolding renewed_by
  renewed_other i low = go (effect_of c)
    where
      go : (e : Effect) → get_or (renewed_by f archive slots s e) i 0 ≡ get_or slots i 0
      go (Stop number) = refl
      go Pass = refl
      go (Enter id) = refl
      go (SetRate rate) = refl
      go (Register table index place long) =
          remembering_other (table_words f) slots (position f s.current table index)
          (registered_slot f archive slots s.current table place long) i low

  -- there are as many words
  pub renewed-long : length (renewed f archive slots s c) ≡ length slots
  unfolding renewed_by
  renewed-long = go (effect_of c)
    where
      go : (e : Effect) → length (renewed_by f archive slots s e) ≡ length slots
      go (Stop number) = refl
      go Pass = refl
      go (Enter id) = refl
      go (SetRate rate) = refl
      go (Register table index place long) = length-set slots _ _

  -- so slots that are wide enough are
  pub renewed-wide : Wide (table_words f) slots → Wide (table_words f) (renewed f archive slots s c)
  renewed-wide wide = record { some = wide.some; low = wide.low; long = omega (arith, renewed-long, wide.long) }

  -- the first words are the same
  renewed_firsts : take (table_words f) (renewed f archive slots s c) ≡ take (table_words f) slots
  unfolding renewed_by
  renewed_firsts = go (effect_of c)
    where
      go : (e : Effect) → take (table_words f) (renewed_by f archive slots s e) ≡ take (table_words f) slots
      go (Stop number) = refl
      go Pass = refl
      go (Enter id) = refl
      go (SetRate rate) = refl
      go (Register table index place long) = take-set-le (table_words f) slots _ _ (omega arith)

  -- so are those behind the memory
  renewed-behind : s.current ≤ 8 → RenewFits f (effect_of c) → drop (3 * table_words f) (renewed f archive slots s c) ≡ drop (3 * table_words f) slots
  unfolding renewed_by
  renewed-behind low = go (effect_of c)
    where
      go : (e : Effect) → RenewFits f e → drop (3 * table_words f) (renewed_by f archive slots s e) ≡ drop (3 * table_words f) slots
      go (Stop number) fits = refl
      go Pass fits = refl
      go (Enter id) fits = refl
      go (SetRate rate) fits = refl
      go (Register table index place long) fits =
          drop-set-lt (3 * table_words f) slots _ _ (omega (arith, position_lt f s.current table index low fits.0))

  -- every slot has its key
  renewed-keys : SameKeys (table_words f) slots (renewed f archive slots s c)
  renewed-keys = record {
    firsts = renewed_firsts;
    labels = λ x low. rw (renewed_other x (omega arith), renewed_other (table_words f + x) (omega arith));
  }

  -- and what stands for its uses
  renewed_uses : (x : ℕ) → x < table_words f - 18 → uses_at (table_words f) (renewed f archive slots s c) x ≡ uses_at (table_words f) slots x
  renewed_uses x low = ap uses_in (renewed_other (table_words f + x) (omega arith))

  -- so all of it is kept
  pub renewed-kept : (us : List (List ℕ)) → s.current ≤ 8 → RenewFits f (effect_of c)
      → KeysKept archive (table_words f) us slots (renewed f archive slots s c)
  renewed-kept us low fits =
      record { long = renewed-long; keys = renewed-keys; others = λ x under none. renewed_uses x under; behind = renewed-behind low fits }

  -- where no key waits, none does
  pub renewed-settled : Settled (table_words f) slots → Settled (table_words f) (renewed f archive slots s c)
  renewed-settled settled x low e = settled x low (sym (renewed_uses x low) ∙ e)

  -- choices, indexes and counters are the same
  pub renewed-indexes : {us : List (List ℕ)} {chosen : List ℕ → Bool} {index : List ℕ → ℕ} {given : ℕ → ℕ}
      → Indexes archive (table_words f) slots us chosen index given → Indexes archive (table_words f) (renewed f archive slots s c) us chosen index given
  renewed-indexes I = record {
    wide = renewed-wide I.wide;
    found = λ key used. let r = I.found key used in (r.0, r.1, searched key ∙ r.2, renewed_uses r.0 r.1 ∙ r.3);
    missing = λ key none x e. I.missing key none x (sym (searched key) ∙ e);
    apart = λ a b x p q. I.apart a b x (sym (searched a) ∙ p) (sym (searched b) ∙ q);
    counters = λ mark low. renewed_other _ (omega (arith, I.wide.some)) ∙ I.counters mark low;
  }
    where
      searched : (key : List ℕ) → find_of archive (table_words f) (renewed f archive slots s c) key ≡ find_of archive (table_words f) slots key
      searched =
          find_alike archive (table_words f) slots (renewed f archive slots s c) I.wide.some
          (λ x low. let first = renewed_other x (omega arith) in
          (rw first, λ taken. rw (first, renewed_other (table_words f + x) (omega arith))))

-- a record that refers to texts and threads renews nothing, and leaves the tables
pub report_renews : (f : Format) (archive tables slots : List ℕ) (s : State) (c : Content) (r : Report) → c ≡ ReportRead r
    → (renewed f archive slots s c ≡ slots) × (tables_after f tables s c ≡ tables)
unfolding effect_of renewed_by change_of changed
report_renews f archive tables slots s c r e = (rw e, rw e)
