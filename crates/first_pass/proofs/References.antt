-- What the references of a record come to where they stand in the archive: no use, or one use of a plain key whose bytes stand at a place.
-- A record's uses, its unresolved references and its words, by the list of its references. Assumes nothing.
use Prim.Native.Nat.{ℕ, ◌+◌, ◌/◌, ◌≤◌, ◌<◌}
use mathlib.Core.Path.{◌≡◌, refl, sym}
use mathlib.Core.List.{List, [], ◌∷◌, ◌++◌}
use mathlib.Core.Bool.{Bool, true, false}
use mathlib.Core.Option.{Option, some}
use Rattle.std.specs.Prelude.{Option as RustOption}
use mathlib.Core.Logic.{◌⊎◌, inl, inr}
use native.Mathlib.Omega.{arith}
use borrow.Author.Tests.{eqb-true, eqb-false, ltb-false}
use lib.Dec.{eqb, ltb}
use lib.ListN.{length}
use Rattle.passes.specs.Models.Codes.{code_of}
use Rattle.passes.specs.Models.Item.{referent_at, text_at, arguments_at, report_at}
use Rattle.tally.specs.Models.Slots.{label_of, key_of, find_of, is_added, added, remembering}
use Rattle.records.specs.Models.Fixed.{value_words, arguments_words}
use Rattle.format.specs.Models.Bounds.{Inside}
use Rattle.words.specs.Word.{word_at}
use Rattle.words.specs.Stream.{stream_words, part_of}
use Rattle.words.proofs.Words.{word_at_lt, AllBytes}
use Rattle.words.proofs.Tests.{cases}
use Rattle.format.specs.declared.Format.{Format}
use Rattle.format.specs.declared.Reference.{Reference}
use Rattle.format.specs.declared.Reference.TheVariants.{Inline, Index}
use Rattle.format.specs.Part.{inline_bytes}
use Rattle.arguments.specs.declared.Value.{Value as ReadValue}
use Rattle.arguments.specs.declared.Value.TheVariants.{Scalar as ScalarValue, Text as TextValue}
use Rattle.arguments.specs.declared.Argument.{Argument as ReadArgument}
use Rattle.arguments.specs.Argument.{text_in}
use Rattle.records.specs.declared.Lookup.{Lookup}
use Rattle.records.specs.declared.Report.{Report as ReadReport}
use Rattle.records.specs.Lookups.{argument_lookups, arguments_to, report_lookups}
use Rattle.records.specs.Item.{known, thread, Key, text_key, thread_key, Use, text_uses, referent_uses, value_uses, arguments_uses, report, uses_of, is_unresolved, referent_unresolved, value_unresolved, arguments_unresolved, own_layout}
use Rattle.records.proofs.Bounds.{behind-few}
use Rattle.encoding.proofs.EncodedReports.{length_last}
use Rattle.contexts.specs.declared.State.{State}
use Rattle.contexts.specs.Context.{provider_of}
use Rattle.tables.specs.declared.Resolved.{Resolved}
use Rattle.tables.specs.declared.Resolved.TheVariants.{Bad, Known, Unresolved}
use Rattle.tables.specs.Table.{table_words, highest_of, position, resolved, looked_up}
use Rattle.tables.specs.Models.Entries.{FormatFits}
use Rattle.tables.proofs.Tables.{position_lt}
use Rattle.format.specs.Limits.{longest_archive}
use Rattle.passes.specs.Models.Memory.{noted}
use Rattle.views.specs.Shown.{shown_text, shown_thread, shown_referent, shown_stream, shown_value}
use Rattle.reader.specs.Reads.{text_item, referent_item, stream_item, provider_item, value_item}
use Rattle.reader.proofs.Changes.{IsTable}
use Rattle.rule.specs.Refusal.{item_unresolved, limit_of}
use Rattle.passes.proofs.Places.{KnownStands, LookupStands, lookup_known, part-inside}
use Rattle.passes.proofs.Codes.{KeyPlain, text_code, thread_code}
use Rattle.first_pass.specs.Models.Count.{unresolved_in, count_good, count_slots, lookup_good, lookup_slots, any_unresolved, words_in, words_read, report_unresolved, report_words}

-- ---- the uses of references

-- the uses of what a reference stands for
abbrev pub lookup_uses : Format → List ℕ → List ℕ → Option ℕ → ℕ → ℕ → Lookup → List Use
lookup_uses f archive tables provider context until l = referent_uses provider (referent_at f archive tables context until l)

-- and of references one after the other
abbrev pub lookups_uses : Format → List ℕ → List ℕ → Option ℕ → ℕ → ℕ → List Lookup → List Use
lookups_uses f archive tables provider context until [] = []
lookups_uses f archive tables provider context until (l ∷ more) =
    lookup_uses f archive tables provider context until l ++ lookups_uses f archive tables provider context until more

-- a text that is not empty is one use
text_use : (provider : Option ℕ) (bytes : List ℕ) → 0 < length bytes
    → text_uses provider (known bytes) ≡ record { provider = provider; key = text_key bytes } ∷ []
text_use provider [] h = absurd (omega arith)
text_use provider (b ∷ bs) h = refl

-- an empty text is none
no_use : (provider : Option ℕ) (bytes : List ℕ) → length bytes ≡ 0 → text_uses provider (known bytes) ≡ []
no_use provider [] h = refl
no_use provider (b ∷ bs) h = absurd (omega arith)

-- slots in which a slot is remembered under a number, or none, or the same slots
abbrev pub Noted : Format → List ℕ → List ℕ → Type 0
Noted f slots after = (after ≡ slots) ⊎ ((entry : ℕ) × (slot : RustOption ℕ) × (entry < table_words f) × (after ≡ remembering (table_words f) slots entry slot))

-- what is noted for a reference in one of the nine contexts is so
noted-is : (f : Format) (slots : List ℕ) (context table : ℕ) (r : Reference) (slot : RustOption ℕ) → context ≤ 8 → Noted f slots (noted f slots context table r slot)
unfolding noted
noted-is f slots context table (Inline place long) slot low = inl refl
noted-is f slots context table (Index index) slot low =
    cases (ltb (highest_of f table) index) (λ q. rw q (inl refl))
    (λ q. rw q (inr (position f context table index, slot, position_lt f context table index low (ltb-false (highest_of f table) index q), refl)))

-- a key whose bytes stand at a place under this label of a context: it is plain, `most` is its limit, and both fit a slot
pub record KeyStands (f : Format) (archive : List ℕ) (context : ℕ) (key : Key) (place label most : ℕ) : Type 0 where
  pub plain : KeyPlain key
  pub own : key_of archive place label ≡ code_of f context key
  pub limited : most ≡ limit_of f key
  pub behind : 0 < place
  pub small : place < 16777216
  pub few : most < 65536

-- what holds of a reference that comes to nothing, unresolved or empty, and of one that is one use of such a key, by uses, whether it is
-- unresolved, whether it is counted, and the slots after it
pub record OfLookup (f : Format) (archive slots : List ℕ) (provider : Option ℕ) (context : ℕ) (P : List Use → Bool → Bool → List ℕ → Type 0)
    : Type 0 where
  pub missing : P [] true false slots
  pub empty : P [] false true slots
  pub used : (key : Key) (place label most : ℕ) → KeyStands f archive context key place label most → (after : List ℕ)
      → Noted f (added (table_words f) slots place label most (find_of archive (table_words f) slots (key_of archive place label))) after
      → P (record { provider = provider; key = key } ∷ []) false
      (is_added (table_words f) slots label most (find_of archive (table_words f) slots (key_of archive place label))) after

-- what holds of what a reference was looked up as
abbrev Holds : Format → List ℕ → List ℕ → Option ℕ → ℕ → ℕ → Reference → Resolved → (List Use → Bool → Bool → List ℕ → Type 0) → Type 0
Holds f archive slots provider context table reference r P =
    P (referent_uses provider (referent_item archive (shown_referent f archive table r))) (unresolved_in r) (count_good f archive slots context table r)
    (count_slots f archive slots context table reference r)

module _ (f : Format) (archive : List ℕ) (fits : FormatFits f) (bytes : AllBytes archive) (small : length archive ≤ longest_archive) (provider : Option ℕ)
    (context : ℕ) (low : context ≤ 8) where
  -- a text
  on-text : (slots : List ℕ) (P : List Use → Bool → Bool → List ℕ → Type 0) → OfLookup f archive slots provider context P → (reference : Reference)
      (r : Resolved) → ((place long : ℕ) → r ≡ Known place long → KnownStands archive place long)
      → Holds f archive slots provider context 2 reference r P
  unfolding shown_referent shown_text unresolved_in count_good count_slots highest_of
  on-text slots P of reference Bad stands = of.missing
  on-text slots P of reference (Unresolved index) stands = of.missing
  on-text slots P of reference (Known place long) stands =
      let k = stands place long refl in
      let part = part_of archive place long in
      let whole = (part-inside archive place long k.inside).1 in
      cases (eqb long 0)
      (λ e. let none = eqb-true long 0 e in rw (e, no_use provider part (omega arith)) of.empty)
      (λ e. let n = eqb-false long 0 e in
      rw (e, text_use provider part (omega arith))
      (of.used (text_key part) place (label_of context 2 long) f.highest (record {
        plain = omega (arith, k.short);
        own = text_code f archive place long context k.short whole;
        limited = refl;
        behind = k.behind (omega arith);
        small = omega (arith, k.inside);
        few = omega (arith, fits.indexes);
      }) _ (noted-is f _ context 2 reference _ low)))

  -- a thread
  on-thread : (slots : List ℕ) (P : List Use → Bool → Bool → List ℕ → Type 0) → OfLookup f archive slots provider context P → (reference : Reference)
      (r : Resolved) → ((place long : ℕ) → r ≡ Known place long → KnownStands archive place long × (long ≡ 16))
      → Holds f archive slots provider context 3 reference r P
  unfolding shown_referent shown_thread unresolved_in count_good count_slots highest_of
  on-thread slots P of reference Bad stands = of.missing
  on-thread slots P of reference (Unresolved index) stands = of.missing
  on-thread slots P of reference (Known place long) stands =
      let k = stands place long refl in
      let t = thread (word_at f.order archive place) (word_at f.order archive (place + 8)) in
      let sixteen = k.1 in
      let inside = k.0.inside in
      rw sixteen
      (of.used (thread_key t) place (label_of context 3 16) 255 (record {
        plain = (word_at_lt f.order archive place bytes, word_at_lt f.order archive (place + 8) bytes);
        own = thread_code f archive place context bytes (omega arith);
        limited = refl;
        behind = k.0.behind (omega arith);
        small = omega (arith, inside);
        few = omega arith;
      }) _ (noted-is f _ context 3 reference _ low))

  module _ (tables : List ℕ) (until : ℕ) where
    -- any reference
    pub on_lookup : (slots : List ℕ) (P : List Use → Bool → Bool → List ℕ → Type 0) → OfLookup f archive slots provider context P → (l : Lookup)
        → LookupStands archive l
        → P (lookup_uses f archive tables provider context until l) (unresolved_in (looked_up f archive tables context until l))
        (lookup_good f archive tables slots context until l) (lookup_slots f archive tables slots context until l)
    on_lookup slots P of l stands = go stands.table
      where
        go : IsTable l.table → Holds f archive slots provider context l.table l.reference (looked_up f archive tables context until l) P
        go (inl k) =
            rw k (on-text slots P of l.reference (resolved f archive tables context 2 until l.reference)
            (λ place long e. (lookup_known f archive tables context until l place long stands (rw k e)).0))
        go (inr k) =
            rw k (on-thread slots P of l.reference (resolved f archive tables context 3 until l.reference)
            (λ place long e. let q = lookup_known f archive tables context until l place long stands (rw k e) in (q.0, q.1 k)))

-- ---- arguments as they are read

module _ (f : Format) (archive tables : List ℕ) (context until : ℕ) where
  -- a value's text is what its text reference stands for; a scalar has none
  value_uses_lem : (provider : Option ℕ) (v : ReadValue)
      → value_uses provider (value_item archive (shown_value f archive tables context until v))
      ≡ text_uses provider (text_at f archive tables context until (text_in v))
  unfolding shown_value shown_text resolved
  value_uses_lem provider (ScalarValue s) = sym (no_use provider (part_of archive 0 0) (part-inside archive 0 0 (omega arith)).1)
  value_uses_lem provider (TextValue r) = refl

  -- arguments use what their references do
  arguments_uses_lem : (provider : Option ℕ) (l : List ReadArgument)
      → arguments_uses provider (arguments_at f archive tables context until l)
      ≡ lookups_uses f archive tables provider context until (argument_lookups l)
  unfolding shown_referent
  arguments_uses_lem provider [] = refl
  arguments_uses_lem provider (a ∷ l) = rw (value_uses_lem provider a.value, arguments_uses_lem provider l)

  -- a text is shown as unresolved where what was looked up for it is not known
  text-unresolved : (r : Resolved) → is_unresolved (text_item archive (shown_text r)) ≡ unresolved_in r
  unfolding shown_text unresolved_in
  text-unresolved Bad = refl
  text-unresolved (Known place long) = refl
  text-unresolved (Unresolved index) = refl

  -- and so is whatever a record refers to
  referent_unresolved_lem : (l : Lookup) → referent_unresolved (referent_at f archive tables context until l) ≡ unresolved_in (looked_up f archive tables context until l)
  unfolding shown_referent shown_thread shown_text unresolved_in
  referent_unresolved_lem l = cases (eqb l.table 3) (λ e. rw e (of_thread (looked_up f archive tables context until l)))
      (λ e. rw e (of_text (looked_up f archive tables context until l)))
    where
      of_thread : (r : Resolved) → referent_unresolved (referent_item archive (shown_referent f archive 3 r)) ≡ unresolved_in r
      of_thread Bad = refl
      of_thread (Known place long) = refl
      of_thread (Unresolved index) = refl

      of_text : (r : Resolved) → referent_unresolved (referent_item archive (shown_referent f archive 2 r)) ≡ unresolved_in r
      of_text Bad = refl
      of_text (Known place long) = refl
      of_text (Unresolved index) = refl

  -- a value is unresolved where its text is; the empty text that stands for none is known
  value-unresolved : (v : ReadValue)
      → value_unresolved (value_item archive (shown_value f archive tables context until v))
      ≡ unresolved_in (resolved f archive tables context 2 until (text_in v))
  unfolding shown_value resolved unresolved_in
  value-unresolved (ScalarValue s) = refl
  value-unresolved (TextValue reference) = text-unresolved (resolved f archive tables context 2 until reference)

  -- arguments are unresolved where one of their references is
  arguments-unresolved : (l : List ReadArgument)
      → arguments_unresolved (arguments_at f archive tables context until l) ≡ any_unresolved f archive tables context until (argument_lookups l)
  unfolding any_unresolved
  arguments-unresolved [] = refl
  arguments-unresolved (a ∷ l) =
      rw (
        text-unresolved (resolved f archive tables context 2 until a.name),
        value-unresolved a.value,
        arguments-unresolved l,
      )

  -- the words of a value are those of what was read
  value-words_at : (v : ReadValue) → value_words (value_item archive (shown_value f archive tables context until v)) ≡ words_in v
  unfolding shown_value words_in
  value-words_at (ScalarValue s) = refl
  value-words_at (TextValue reference) = refl

  -- and so are those of arguments
  words_at : (l : List ReadArgument) → arguments_words (arguments_at f archive tables context until l) ≡ words_read l
  unfolding words_read
  words_at [] = refl
  words_at (a ∷ l) = rw (value-words_at a.value, words_at l)

-- ---- a record by the list of its references

-- it uses what they do
pub report_uses : (f : Format) (archive tables : List ℕ) (s : State) (r : ReadReport) (next : ℕ)
    → uses_of (report (report_at f archive tables s r next))
    ≡ lookups_uses f archive tables (provider_item (provider_of s)) s.current s.place (report_lookups f archive r next)
unfolding report_at
report_uses f archive tables s r next =
    rw (arguments_uses_lem f archive tables s.current s.place (provider_item (provider_of s)) (arguments_to f archive r next))

-- it is unresolved where one of them is
pub report-unresolved : (f : Format) (archive tables : List ℕ) (s : State) (r : ReadReport) (next : ℕ)
    → item_unresolved (some (report (report_at f archive tables s r next))) ≡ report_unresolved f archive tables s r next
unfolding report_at any_unresolved
report-unresolved f archive tables s r next =
    let one = referent_unresolved_lem f archive tables s.current s.place in
    rw (
      one r.first,
      one r.second,
      one r.third,
      arguments-unresolved f archive tables s.current s.place (arguments_to f archive r next),
    )

-- the words of a stream that stands in the archive
stream-words : (archive : List ℕ) (from to : ℕ) (r : Reference) → Inside from to r → to ≤ length archive
    → inline_bytes r / 8 ≡ stream_words (length (stream_item archive (shown_stream r)))
unfolding shown_stream
stream-words archive from to (Inline place long) i h = rw (part-inside archive place long (omega (arith, i.1))).1 (omega arith)
stream-words archive from to (Index index) i h = rw (part-inside archive 0 0 (omega arith)).1

-- its words are those of its kind, of its stream and of its arguments
pub report-words : (f : Format) (archive tables : List ℕ) (s : State) (r : ReadReport) (next from to : ℕ) → Inside from to r.stream
    → to ≤ length archive
    → 1 + length (own_layout r.own).words + inline_bytes r.stream / 8 + words_read (arguments_to f archive r next) + (own_layout r.own).behind
    ≡ report_words f archive tables s r next
unfolding report_at
report-words f archive tables s r next from to i h =
    omega (
      arith,
      stream-words archive from to r.stream i h,
      words_at f archive tables s.current s.place (arguments_to f archive r next),
      length_last (own_layout r.own).behind r.last (behind-few r.own),
    )
