-- The record that the second pass writes for what refers to texts and threads, where the slots hold the rule's table: it is the record that the rule
-- gives, and it fits.
-- Assumes nothing.
use Prim.Native.Nat.{ℕ, ◌+◌, ◌^◌, ◌≤◌, ◌<◌}
use mathlib.Core.Path.{◌≡◌, refl, sym, ap, ◌∙◌, subst}
use mathlib.Core.List.{List, [], ◌∷◌}
use mathlib.Core.Option.{Option}
use mathlib.Core.Logic.{inl, inr}
use native.Mathlib.Omega.{arith}
use lib.ListN.{length}
use Rattle.tally.specs.Models.Slots.{label_of, key_of}
use Rattle.passes.specs.Models.Codes.{context_in}
use Rattle.passes.specs.Models.Item.{referent_at, text_at, argument_at, arguments_at, report_at}
use Rattle.indexing.specs.Models.Indexes.{index_of}
use Rattle.encoding.proofs.EncodedArguments.{TextFits, ValueFits, ArgumentFits as ArgumentItemFits, AllFit, argument_words, AllSized, all_sized, length_argument}
use Rattle.encoding.proofs.EncodedLayouts.{ThreadFits, ReferentFits, ItemFits, length-body}
use Rattle.encoding.proofs.EncodedReports.{header_same, own_encoded}
use Rattle.encoding.specs.Encoded.{Encoded, layout_body, value_record, argument_record, arguments_records, encoded_text, encoded_referent, item_record, layout_header, reference_of, record_bytes}
use Rattle.encoding.specs.Models.Part.{text_argument, FieldsFit}
use Rattle.words.specs.Word.{word_at, Field}
use Rattle.words.specs.Stream.{part_of}
use Rattle.words.proofs.Words.{word_at_lt, AllBytes}
use Rattle.format.specs.declared.Format.{Format}
use Rattle.format.specs.Limits.{longest_archive}
use Rattle.arguments.specs.declared.Scalar.{Scalar}
use Rattle.arguments.specs.declared.Scalar.TheVariants.{Null, Signed32, Unsigned32, Signed64, Unsigned64, Double, Pointer, KernelObject, Boolean, Unknown}
use Rattle.arguments.specs.declared.Value.{Value as ReadValue}
use Rattle.arguments.specs.declared.Value.TheVariants.{Scalar as ScalarValue, Text as TextValue}
use Rattle.arguments.specs.declared.Argument.{Argument as ReadArgument}
use Rattle.arguments.specs.Argument.{text_in, scalar_type}
use Rattle.arguments.proofs.Bounds.{ScalarFits}
use Rattle.records.specs.declared.Lookup.{Lookup}
use Rattle.records.specs.declared.Report.{Report as ReadReport}
use Rattle.records.specs.Lookups.{text_lookup, argument_lookups, arguments_to, report_lookups}
use Rattle.records.specs.Item.{thread, Report, report, report_layout, Key, text_key, thread_key, Use, own_layout}
use Rattle.contexts.specs.declared.State.{State}
use Rattle.contexts.specs.Context.{provider_of}
use Rattle.tables.specs.declared.Resolved.{Resolved}
use Rattle.tables.specs.declared.Resolved.TheVariants.{Bad, Known, Unresolved}
use Rattle.tables.specs.Table.{table_words, resolved, looked_up}
use Rattle.views.specs.Shown.{shown_text, shown_thread, shown_referent, shown_value}
use Rattle.reader.specs.Reads.{text_item, thread_item, referent_item, provider_item, value_item}
use Rattle.reader.proofs.Changes.{IsTable}
use Rattle.rule.specs.Rule.{Entry, index_in}
use Rattle.passes.proofs.Places.{LookupStands, LookupsStand, part-inside}
use Rattle.passes.proofs.Codes.{UsesPlain}
use Rattle.rewriting.specs.Models.Write.{spelled_of, spelled_part, value_bytes, argument_bytes, arguments_bytes, report_fields, report_body, report_bytes}
use Rattle.rewriting.specs.Models.Fits.{SpelledThread, SpelledFits, ValueLow, ArgumentFits, ArgumentsFit, ReportFits, TextShort}
use Rattle.rewriting.proofs.IndexCodes.{Indexing, empty_index, index-spelled}
use Rattle.rewriting.proofs.ReferenceCodes.{ResolvedStands, words_inside, text_use_code, thread_use_code, resolved_stands}
use Rattle.rewriting.proofs.Registrations.{can_look_up}

-- what is looked up in a table is spelled as it is encoded, and fits
pub record Spells (f : Format) (archive slots : List ℕ) (context table : ℕ) (index : Key → ℕ) (r : Resolved) : Type 0 where
  pub part-is : spelled_part f archive table (spelled_of f archive slots context table r)
      ≡ encoded_referent index (referent_item archive (shown_referent f archive table r))
  pub text : table ≡ 2 → TextShort archive (spelled_of f archive slots context table r)
  pub thread : SpelledThread table archive (spelled_of f archive slots context table r)

-- the type of a scalar that fits has four bits
scalar-low : (s : Scalar) → ScalarFits s → scalar_type s < 2 ^ 4
scalar-low Null fit = omega arith
scalar-low (Signed32 n) fit = omega arith
scalar-low (Unsigned32 n) fit = omega arith
scalar-low (Signed64 n) fit = omega arith
scalar-low (Unsigned64 n) fit = omega arith
scalar-low (Double n) fit = omega arith
scalar-low (Pointer n) fit = omega arith
scalar-low (KernelObject n) fit = omega arith
scalar-low (Boolean b) fit = omega arith
scalar-low (Unknown type) fit = absurd fit

module _ (f : Format) (archive : List ℕ) (last : State) (uses : List Use) (few : last.count ≤ 8) (plain : UsesPlain uses) (bytes : AllBytes archive)
    (slots : List ℕ) (entries : List Entry) (I : Indexing f archive last uses slots entries) (provider : Option ℕ) (context : ℕ)
    (here : context_in last provider ≡ context) where
  -- the index of a key in the provider's context
  abbrev index : Key → ℕ
  index = index_in entries provider

  -- ---- references

  -- a text that is known
  text-known : (place long : ℕ) → place + long ≤ length archive → long < 0x8000 → index (text_key (part_of archive place long)) < 0x8000
      → Spells f archive slots context 2 index (Known place long)
  unfolding spelled_of shown_text shown_referent
  text-known place long inside short low =
      let size = (part-inside archive place long inside).1 in
      let u : Use = record { provider = provider; key = text_key (part_of archive place long) } in
      let is : index_of archive (table_words f) slots (key_of archive place (label_of context 2 long)) ≡ index (text_key (part_of archive place long)) =
      ap (index_of archive (table_words f) slots) (text_use_code f archive last provider context here place long inside (omega arith))
      ∙ index-spelled f archive last uses few plain slots entries I u (omega (arith, size)) in
      record { part-is = rw is; text = λ k. (omega (arith, is), omega (arith, size)); thread = λ k. absurd (omega (arith, k)) }

  -- a text as it is shown
  text-spelled : (r : Resolved) → ResolvedStands archive 2 r → TextFits f index (text_item archive (shown_text r)) → Spells f archive slots context 2 index r
  unfolding shown_text
  text-spelled Bad stands fit = absurd fit
  text-spelled (Known place long) stands fit =
      text-known place long stands.0 (omega (arith, fit.1, (part-inside archive place long stands.0).1)) fit.2
  text-spelled (Unresolved i) stands fit = absurd fit

  -- a thread as it is shown
  thread-spelled : (r : Resolved) → ResolvedStands archive 3 r → ThreadFits index (thread_item (shown_thread f archive r))
      → Spells f archive slots context 3 index r
  unfolding spelled_of shown_thread shown_referent
  thread-spelled Bad stands fit = absurd fit
  thread-spelled (Known place long) stands fit =
      let sixteen = stands.1 refl in
      let size = (part-inside archive place long stands.0).1 in
      let k = thread_key (thread (word_at f.order archive place) (word_at f.order archive (place + 8))) in
      let words = words_inside f archive place (omega (arith, sixteen, stands.0)) in
      let u : Use = record { provider = provider; key = k } in
      let code = thread_use_code f archive last provider context here place bytes (omega (arith, sixteen, stands.0)) in
      let is : index_of archive (table_words f) slots (key_of archive place (label_of context 3 long)) ≡ index k =
      ap (index_of archive (table_words f) slots) (rw sixteen code)
      ∙ index-spelled f archive last uses few plain slots entries I u (word_at_lt f.order archive place bytes, word_at_lt f.order archive (place + 8) bytes) in
      record { part-is = rw (is, sixteen, words.0, words.1); text = λ k. absurd (omega (arith, k)); thread = λ k none. omega (arith, size, sixteen) }
  thread-spelled (Unresolved i) stands fit = absurd fit

  -- what is looked up in one of the two tables, as it is shown
  referent_spelled : (table : ℕ) (r : Resolved) → IsTable table → ResolvedStands archive table r
      → ReferentFits f index (referent_item archive (shown_referent f archive table r)) → Spells f archive slots context table index r
  unfolding shown_referent
  referent_spelled table r (inl k) stands fit = rw k (text-spelled r (rw k at stands) (rw k at fit))
  referent_spelled table r (inr k) stands fit = rw k (thread-spelled r (rw k at stands) (rw k at fit))

  module _ (short : length archive ≤ longest_archive) (tables : List ℕ) (until : ℕ) where
    -- a reference of a record
    pub lookup_spelled : (l : Lookup) → LookupStands archive l → ReferentFits f index (referent_at f archive tables context until l)
        → Spells f archive slots context l.table index (looked_up f archive tables context until l)
    lookup_spelled l stands fit =
        referent_spelled l.table (looked_up f archive tables context until l) stands.table (resolved_stands f archive tables context until l stands) fit

    spelled-fits : (l : Lookup) → LookupStands archive l
        → Spells f archive slots context l.table index (looked_up f archive tables context until l)
        → SpelledFits f archive tables slots context until l
    spelled-fits l stands s = record { can = can_look_up archive l short stands; text = s.text; thread = s.thread }

    pub lookup_fits : (l : Lookup) → LookupStands archive l → ReferentFits f index (referent_at f archive tables context until l)
        → SpelledFits f archive tables slots context until l
    lookup_fits l stands fit = spelled-fits l stands (lookup_spelled l stands fit)

    -- ---- arguments

    -- the text of a value; a scalar has an empty one, which nothing is written of
    value-fits : (v : ReadValue) → LookupStands archive (text_lookup (text_in v))
        → ValueFits f index (value_item archive (shown_value f archive tables context until v))
        → SpelledFits f archive tables slots context until (text_lookup (text_in v)) × ValueLow v
    unfolding shown_value resolved shown_referent
    value-fits (ScalarValue s) stands fit =
        let empty : part_of archive 0 0 ≡ [] = (part-inside archive 0 0 (omega arith)).0 in (
          spelled-fits (text_lookup (text_in (ScalarValue s))) stands
              (text-known 0 0 (omega arith) (omega arith) (rw empty (omega (arith, empty_index f archive last uses few plain slots entries I provider)))),
          scalar-low s fit,
        )
    value-fits (TextValue r) stands fit = (lookup_fits (text_lookup r) stands fit, tt)

    -- a value is written as the rule writes it
    value-spelled : (name : Encoded) (v : ReadValue) → LookupStands archive (text_lookup (text_in v))
        → ValueFits f index (value_item archive (shown_value f archive tables context until v))
        → value_bytes f archive tables slots context until name v ≡ value_record f index name (value_item archive (shown_value f archive tables context until v))
    unfolding shown_value shown_referent
    value-spelled name (ScalarValue s) stands fit = refl
    value-spelled name (TextValue r) stands fit =
        ap (λ (w : Encoded). text_argument f name w) (lookup_spelled (text_lookup r) stands fit).part-is

    module _ (a : ReadArgument) (name : LookupStands archive (text_lookup a.name)) (value : LookupStands archive (text_lookup (text_in a.value)))
        (fit : ArgumentItemFits f index (argument_at f archive tables context until a)) where
      -- an argument is written as the rule writes it
      argument_spelled : argument_bytes f archive tables slots context until a ≡ argument_record f index (argument_at f archive tables context until a)
      unfolding argument_bytes shown_referent
      argument_spelled =
          rw (lookup_spelled (text_lookup a.name) name fit.name).part-is
          (value-spelled (encoded_text index (text_at f archive tables context until a.name)) a.value value fit.value)

      -- and fits
      argument_fits : argument_words index (argument_at f archive tables context until a) < 2 ^ 12 → ArgumentFits f archive tables slots context until a
      unfolding shown_referent
      argument_fits sized =
          let v = value-fits a.value value fit.value in
          record {
            name = lookup_fits (text_lookup a.name) name fit.name;
            text = v.0;
            type = v.1;
            size = rw argument_spelled (omega (arith, length_argument f index (argument_at f archive tables context until a)));
          }

    -- arguments are written as the rule writes them, and fit
    pub record ArgumentsSpelled (l : List ReadArgument) : Type 0 where
      pub bytes_are : arguments_bytes f archive tables slots context until l ≡ arguments_records f index (arguments_at f archive tables context until l)
      pub fits : ArgumentsFit f archive tables slots context until l

    -- so are those that stand in the archive and fit
    pub arguments-spelled : (l : List ReadArgument) → LookupsStand archive (argument_lookups l) → AllFit f index (arguments_at f archive tables context until l)
        → AllSized index (arguments_at f archive tables context until l) → ArgumentsSpelled l
    arguments-spelled [] stands fit sized = record { bytes_are = refl; fits = tt }
    arguments-spelled (a ∷ l) stands fit sized =
        let rest = arguments-spelled l stands.1.1 fit.1 sized.1 in
        record {
          bytes_are = rw (argument_spelled a stands.0 stands.1.0 fit.0, rest.bytes_are);
          fits = (argument_fits a stands.0 stands.1.0 fit.0 sized.0, rest.fits);
        }

-- ---- records

module _ (f : Format) (archive : List ℕ) (last : State) (uses : List Use) (few : last.count ≤ 8) (plain : UsesPlain uses) (bytes : AllBytes archive)
    (slots : List ℕ) (entries : List Entry) (I : Indexing f archive last uses slots entries) (short : length archive ≤ longest_archive) (tables : List ℕ) (s : State)
    (r : ReadReport) (next : ℕ) (here : context_in last (provider_item (provider_of s)) ≡ s.current)
    (stands : LookupsStand archive (report_lookups f archive r next)) where
  -- the item of the record
  abbrev item : Report
  item = report_at f archive tables s r next

  -- the index of a key in its context
  abbrev key_index : Key → ℕ
  key_index = index_in entries (provider_item (provider_of s))

  module _ (all : length item.arguments ≡ r.count) (fit : ItemFits f key_index (report item)) where
    -- a reference of it
    one : (l : Lookup) → LookupStands archive l → ReferentFits f key_index (referent_at f archive tables s.current s.place l)
        → Spells f archive slots s.current l.table key_index (looked_up f archive tables s.current s.place l)
    one = lookup_spelled f archive last uses few plain bytes slots entries I (provider_item (provider_of s)) s.current here short tables s.place

    one_fits : (l : Lookup) → LookupStands archive l → ReferentFits f key_index (referent_at f archive tables s.current s.place l)
        → SpelledFits f archive tables slots s.current s.place l
    one_fits = lookup_fits f archive last uses few plain bytes slots entries I (provider_item (provider_of s)) s.current here short tables s.place

    -- its first reference, its second and its third
    first : Spells f archive slots s.current r.first.table key_index (looked_up f archive tables s.current s.place r.first)
    unfolding report_at
    first = one r.first stands.0 fit.layout.pieces.1.0

    second : Spells f archive slots s.current r.second.table key_index (looked_up f archive tables s.current s.place r.second)
    unfolding report_at
    second = one r.second stands.1.0 fit.layout.pieces.1.1.0

    third : Spells f archive slots s.current r.third.table key_index (looked_up f archive tables s.current s.place r.third)
    unfolding report_at
    third = one r.third stands.1.1.0 fit.layout.pieces.1.1.1.0

    -- its arguments
    arguments : ArgumentsSpelled f archive last uses few plain bytes slots entries I (provider_item (provider_of s)) s.current here short tables s.place
        (arguments_to f archive r next)
    unfolding report_at
    arguments =
        arguments-spelled f archive last uses few plain bytes slots entries I (provider_item (provider_of s)) s.current here short tables s.place
        (arguments_to f archive r next) stands.1.1.1 fit.layout.arguments
        (all_sized key_index item.arguments (omega (arith, fit.layout.size)))

    -- behind its header it is written as the rule writes it
    body_spelled : report_body f archive tables slots s r next ≡ layout_body f key_index (report_layout item)
    unfolding report_body report_at
    body_spelled = rw (first.part-is, second.part-is, third.part-is, arguments.bytes_are)

    -- and so is the header
    header-spelled : report_fields f archive tables slots s r ≡ layout_header key_index (report_layout item)
    unfolding report_at
    header-spelled =
        header_same r.own r.count _ _ _ _ _ _ _ (length item.stream) _ (sym all) (ap reference_of first.part-is) (ap reference_of second.part-is)
        (ap reference_of third.part-is) refl

    -- it is written as the rule writes it
    pub report-spelled : report_bytes f archive tables slots s r next ≡ item_record f key_index (report item)
    unfolding report_bytes report_at
    report-spelled =
        ap (λ (h : List Field). record_bytes f (own_layout r.own).type h (report_body f archive tables slots s r next)) header-spelled
        ∙ ap (λ (b : List ℕ). record_bytes f (own_layout r.own).type (layout_header key_index (report_layout item)) b) body_spelled

    -- and fits
    pub report-fits : ReportFits f archive tables slots s r next
    unfolding report_at
    report-fits = record {
      first = one_fits r.first stands.0 fit.layout.pieces.1.0;
      second = one_fits r.second stands.1.0 fit.layout.pieces.1.1.0;
      third = one_fits r.third stands.1.1.0 fit.layout.pieces.1.1.1.0;
      header = subst FieldsFit (sym header-spelled) (own_encoded f key_index item fit).fits.fits.1.1;
      arguments = arguments.fits;
      size = omega (arith, ap length body_spelled, length-body f key_index (report_layout item), fit.layout.size);
    }
