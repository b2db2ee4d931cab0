-- The registrations of the references of a record, reference after reference: they are those that the rule gives for the record's uses, and they fit.
-- Assumes nothing.
use Prim.Native.Nat.{ℕ, ◌+◌, ◌^◌, ◌≤◌, ◌<◌}
use mathlib.Core.Path.{◌≡◌, refl, sym, ap, ◌∙◌}
use mathlib.Core.List.{List, [], ◌∷◌, ◌++◌, append-nil}
use mathlib.Core.Bool.{Bool, true, cond}
use mathlib.Core.Option.{Option}
use mathlib.Core.Logic.{inl, inr}
use native.Mathlib.Omega.{arith}
use borrow.Author.Tests.{eq-eqb, ne_eqb}
use lib.ListN.{length}
use Rattle.tally.specs.Models.Slots.{label_of, key_of, find_of}
use Rattle.passes.specs.Models.Codes.{context_in, code_in}
use Rattle.passes.specs.Models.Item.{referent_at, arguments_at, report_at}
use Rattle.indexing.specs.Models.Indexes.{new_index, indexed}
use Rattle.words.specs.Word.{word_at}
use Rattle.words.specs.Stream.{part_of}
use Rattle.words.proofs.Words.{word_at_lt, AllBytes}
use Rattle.words.proofs.Tests.{cases}
use Rattle.tally.proofs.Laws.{label_mark}
use Rattle.format.specs.declared.Format.{Format}
use Rattle.format.specs.Limits.{longest_archive}
use Rattle.arguments.specs.declared.Value.{Value as ReadValue}
use Rattle.arguments.specs.declared.Value.TheVariants.{Scalar as ScalarValue, Text as TextValue}
use Rattle.arguments.specs.declared.Argument.{Argument as ReadArgument}
use Rattle.arguments.specs.Argument.{text_in}
use Rattle.encoding.proofs.EncodedArguments.{TextFits, ValueFits, AllFit}
use Rattle.encoding.proofs.EncodedLayouts.{ThreadFits, ReferentFits, ItemFits}
use Rattle.records.specs.declared.Lookup.{Lookup}
use Rattle.records.specs.declared.Report.{Report as ReadReport}
use Rattle.records.specs.Lookups.{text_lookup, argument_lookups, arguments_to, report_lookups}
use Rattle.records.specs.Item.{Shown, known, unresolved, Thread, thread, Text, Referent, text_referent, thread_referent, report, Key, text_key, thread_key, Use, text_uses, thread_uses, referent_uses, value_uses, arguments_uses, uses_of}
use Rattle.contexts.specs.declared.State.{State}
use Rattle.contexts.specs.Context.{provider_of}
use Rattle.tables.specs.declared.Resolved.{Resolved}
use Rattle.tables.specs.declared.Resolved.TheVariants.{Bad, Known, Unresolved}
use Rattle.tables.specs.Table.{table_words, resolved, looked_up}
use Rattle.views.specs.Shown.{shown_text, shown_thread, shown_referent, shown_value}
use Rattle.reader.specs.Reads.{text_item, thread_item, referent_item, provider_item, value_item}
use Rattle.reader.proofs.Changes.{IsTable}
use Rattle.rule.specs.Rule.{Entry, next_index, is_new, use_bytes, chosen_in}
use Rattle.rule.proofs.Length.{next_index_pos}
use Rattle.rule.proofs.Plain.{TextPlain, ThreadPlain, ReferentPlain}
use Rattle.passes.proofs.Places.{LookupStands, LookupsStand, lookup_fits, part-inside}
use Rattle.passes.proofs.Codes.{UsesPlain}
use Rattle.rewriting.specs.Models.Write.{registration_bytes, given_index, given_slots, given_bytes, lookups_given_slots, lookups_given_bytes, report_given_slots, report_given_bytes}
use Rattle.rewriting.specs.Models.Fits.{GivenFits, CanLookUp, LookupsGivenFit}
use Rattle.rewriting.proofs.ReferenceCodes.{ResolvedStands, words_inside, text_use_code, thread_use_code, resolved_stands}
use Rattle.rewriting.proofs.Given.{Small, use_given, Gives, gives_none, gives_both, gives_fits}

-- ---- what fits is plain

text-plain : (f : Format) (index : Key → ℕ) (t : Text) → TextFits f index t → TextPlain f t
text-plain f index (known b) fit = fit.0
text-plain f index (unresolved i) fit = fit

thread-plain : (f : Format) (index : Key → ℕ) (t : Shown Thread) → ThreadFits index t → ThreadPlain t
thread-plain f index (known (thread p t)) fit = (fit.0, fit.1)
thread-plain f index (unresolved i) fit = fit

referent_plain : (f : Format) (index : Key → ℕ) (x : Referent) → ReferentFits f index x → ReferentPlain f x
referent_plain f index (text_referent t) fit = text-plain f index t fit
referent_plain f index (thread_referent t) fit = thread-plain f index t fit

-- a reference that stands in a short archive can be looked up
pub can_look_up : (archive : List ℕ) (l : Lookup) → length archive ≤ longest_archive → LookupStands archive l → CanLookUp l
can_look_up archive l short h = record { low = low h.table; high = high h.table; reference = lookup_fits archive l short h }
  where
    low : IsTable l.table → 2 ≤ l.table
    low (inl k) = omega arith
    low (inr k) = omega arith

    high : IsTable l.table → l.table ≤ 3
    high (inl k) = omega arith
    high (inr k) = omega arith

-- ---- what is asked for a reference

-- nothing for an empty text
given_empty : (f : Format) (archive slots : List ℕ) (context table place long : ℕ) → long ≡ 0
    → (given_index f archive slots context table (Known place long) ≡ 0) × (given_slots f archive slots context table (Known place long) ≡ slots)
unfolding given_index given_slots
given_empty f archive slots context table place long e = rw (eq-eqb long 0 e) (refl, refl)

-- for any other the index of its key
given_key : (f : Format) (archive slots : List ℕ) (context table place long : ℕ) → (long ≡ 0 → ⊥)
    → (given_index f archive slots context table (Known place long)
    ≡ new_index (table_words f) slots (label_of context table long)
    (find_of archive (table_words f) slots (key_of archive place (label_of context table long))))
    × (given_slots f archive slots context table (Known place long)
    ≡ indexed (table_words f) slots (label_of context table long)
    (find_of archive (table_words f) slots (key_of archive place (label_of context table long))))
unfolding given_index given_slots
given_key f archive slots context table place long n = rw (ne_eqb long 0 n) (refl, refl)

-- no registration where the index is 0
none_registered : (f : Format) (table index : ℕ) (bytes : List ℕ) → index ≡ 0 → registration_bytes f table index bytes ≡ []
unfolding registration_bytes
none_registered f table index bytes e = rw (eq-eqb index 0 e)

-- the registration of a text and of a thread where they are new
text_registered : (f : Format) (chosen : Use → Bool) (entries : List Entry) (provider : Option ℕ) (b : List ℕ) (index : ℕ)
    → index ≡ cond (is_new chosen entries (record { provider = provider; key = text_key b })) (next_index entries (record { provider = provider; key = text_key b })) 0
    → registration_bytes f 2 index b ≡ use_bytes f chosen entries (record { provider = provider; key = text_key b })
unfolding registration_bytes
text_registered f chosen entries provider b index is =
    let u : Use = record { provider = provider; key = text_key b } in
    cases (is_new chosen entries u)
    (λ e. let next : index ≡ next_index entries u = rw e at is in
    rw (e, next, ne_eqb (next_index entries u) 0 (λ z. omega (arith, next_index_pos entries u))))
    (λ e. let none : index ≡ 0 = rw e at is in rw (e, eq-eqb index 0 none))

thread_registered : (f : Format) (chosen : Use → Bool) (entries : List Entry) (provider : Option ℕ) (bytes : List ℕ) (p t index : ℕ)
    → index
    ≡ cond (is_new chosen entries (record { provider = provider; key = thread_key (thread p t) }))
    (next_index entries (record { provider = provider; key = thread_key (thread p t) })) 0
    → word_at f.order bytes 0 ≡ p → word_at f.order bytes 8 ≡ t
    → registration_bytes f 3 index bytes ≡ use_bytes f chosen entries (record { provider = provider; key = thread_key (thread p t) })
unfolding registration_bytes
thread_registered f chosen entries provider bytes p t index is process own =
    let u : Use = record { provider = provider; key = thread_key (thread p t) } in
    cases (is_new chosen entries u)
    (λ e. let next : index ≡ next_index entries u = rw e at is in
    rw (e, next, ne_eqb (next_index entries u) 0 (λ z. omega (arith, next_index_pos entries u)), process, own))
    (λ e. let none : index ≡ 0 = rw e at is in rw (e, eq-eqb index 0 none))

-- ---- one reference

module _ (f : Format) (archive : List ℕ) (last : State) (uses : List Use) (few : last.count ≤ 8) (plain : UsesPlain uses) (small : Small f)
    (bytes : AllBytes archive) (provider : Option ℕ) (context : ℕ) (here : context_in last provider ≡ context) (low : context ≤ 8) where
  -- which uses are registered
  abbrev chosen : Use → Bool
  chosen = chosen_in uses

  -- the index that a use is given fits, where its key does
  given_low : (entries : List Entry) (u : Use) (index bound : ℕ) → index ≡ cond (is_new chosen entries u) (next_index entries u) 0 → 0 < bound
      → (is_new chosen entries u ≡ true → next_index entries u < bound) → index < bound
  given_low entries u index bound is some fit =
      cases (is_new chosen entries u)
      (λ e. let next : index ≡ next_index entries u = rw e at is in omega (arith, fit e))
      (λ e. let none : index ≡ 0 = rw e at is in omega arith)

  -- a text whose bytes are these
  text-known : (place long : ℕ) (slots : List ℕ) → place + long ≤ length archive → long ≤ f.longest → (b : List ℕ) → part_of archive place long ≡ b
      → Gives f archive last uses (text_uses provider (known b)) slots (registration_bytes f 2 (given_index f archive slots context 2 (Known place long)) b)
      (given_slots f archive slots context 2 (Known place long)) (GivenFits f archive slots context 2 (Known place long))
  text-known place long slots inside short [] is =
      let size = (part-inside archive place long inside).1 in
      let empty : long ≡ 0 = sym size ∙ ap length is in
      let none = given_empty f archive slots context 2 place long empty in
      let fit : GivenFits f archive slots context 2 (Known place long) = record {
        low = rw none.0 (omega arith);
        thread-low = λ e. absurd (omega arith);
        thread-long = λ e. absurd (omega arith);
        short = omega (arith, size);
      } in
      rw (none.1, none_registered f 2 (given_index f archive slots context 2 (Known place long)) [] none.0)
      (gives_none f archive last uses slots fit)
  text-known place long slots inside short (b ∷ bs) is = λ entries I ready.
      let size = (part-inside archive place long inside).1 in
      let l : length (b ∷ bs) ≡ long = sym (ap length is) ∙ size in
      let u : Use = record { provider = provider; key = text_key (b ∷ bs) } in
      let label = label_of context 2 long in
      let code = text_use_code f archive last provider context here place long inside (omega (arith, small.longest)) in
      let g = use_given f archive last uses few plain small.highest slots entries u place label I (omega (arith, small.longest)) ready.0 (rw is at code)
      (omega (arith, label_mark context 2 long (omega (arith, small.longest)))) in
      let k = given_key f archive slots context 2 place long (λ z. omega arith) in
      let index = k.0 ∙ g.index_is in
      record {
        bytes_are = text_registered f chosen entries provider (b ∷ bs) (given_index f archive slots context 2 (Known place long)) index
            ∙ sym (append-nil (use_bytes f chosen entries u));
        indexing = rw k.1 g.indexing;
        kept = rw k.1 g.kept;
        fits = record {
          low = given_low entries u (given_index f archive slots context 2 (Known place long)) (2 ^ 15) index (omega arith) (λ e. (ready.0.fits e).index_bits);
          thread-low = λ e. absurd (omega arith);
          thread-long = λ e. absurd (omega arith);
          short = omega (arith, size, small.longest);
        };
      }

  -- a text as it is shown
  text_gives : (slots : List ℕ) (r : Resolved) → ResolvedStands archive 2 r → TextPlain f (text_item archive (shown_text r))
      → Gives f archive last uses (text_uses provider (text_item archive (shown_text r))) slots (given_bytes f archive slots context 2 r)
      (given_slots f archive slots context 2 r) (GivenFits f archive slots context 2 r)
  unfolding shown_text
  text_gives slots Bad stands fit = absurd fit
  text_gives slots (Known place long) stands fit =
      text-known place long slots stands.0 (omega (arith, fit, (part-inside archive place long stands.0).1)) (part_of archive place long) refl
  text_gives slots (Unresolved i) stands fit = absurd fit

  -- a thread whose words stand at this place
  thread-known : (place long : ℕ) (slots : List ℕ) → place + long ≤ length archive → long ≡ 16
      → Gives f archive last uses (thread_uses provider (known (thread (word_at f.order archive place) (word_at f.order archive (place + 8))))) slots
      (given_bytes f archive slots context 3 (Known place long)) (given_slots f archive slots context 3 (Known place long))
      (GivenFits f archive slots context 3 (Known place long))
  thread-known place long slots inside sixteen entries I ready =
      let p = word_at f.order archive place in
      let t = word_at f.order archive (place + 8) in
      let size = (part-inside archive place long inside).1 in
      let u : Use = record { provider = provider; key = thread_key (thread p t) } in
      let label = label_of context 3 long in
      let code : key_of archive place label ≡ code_in f last u = rw sixteen (thread_use_code f archive last provider context here place bytes (omega arith)) in
      let g = use_given f archive last uses few plain small.highest slots entries u place label I (word_at_lt f.order archive place bytes, word_at_lt f.order archive (place + 8) bytes)
      ready.0 code (omega (arith, label_mark context 3 long (omega arith))) in
      let k = given_key f archive slots context 3 place long (λ z. omega arith) in
      let index = k.0 ∙ g.index_is in
      let words = words_inside f archive place (omega arith) in
      record {
        bytes_are = thread_registered f chosen entries provider (part_of archive place long) p t (given_index f archive slots context 3 (Known place long)) index
            (rw sixteen words.0) (rw sixteen words.1) ∙ sym (append-nil (use_bytes f chosen entries u));
        indexing = rw k.1 g.indexing;
        kept = rw k.1 g.kept;
        fits = record {
          low = given_low entries u (given_index f archive slots context 3 (Known place long)) (2 ^ 15) index (omega arith) (λ e. omega (arith, (ready.0.fits e).1));
          thread-low = λ e. given_low entries u (given_index f archive slots context 3 (Known place long)) (2 ^ 8) index (omega arith) (λ e. (ready.0.fits e).1);
          thread-long = λ e some. omega (arith, size);
          short = omega (arith, size);
        };
      }

  -- a thread as it is shown
  thread_gives : (slots : List ℕ) (r : Resolved) → ResolvedStands archive 3 r → ThreadPlain (thread_item (shown_thread f archive r))
      → Gives f archive last uses (thread_uses provider (thread_item (shown_thread f archive r))) slots (given_bytes f archive slots context 3 r)
      (given_slots f archive slots context 3 r) (GivenFits f archive slots context 3 r)
  unfolding shown_thread
  thread_gives slots Bad stands fit = absurd fit
  thread_gives slots (Known place long) stands fit = thread-known place long slots stands.0 (stands.1 refl)
  thread_gives slots (Unresolved i) stands fit = absurd fit

  -- what is looked up in one of the two tables, as it is shown
  referent_gives : (table : ℕ) (slots : List ℕ) (r : Resolved) → IsTable table → ResolvedStands archive table r
      → ReferentPlain f (referent_item archive (shown_referent f archive table r))
      → Gives f archive last uses (referent_uses provider (referent_item archive (shown_referent f archive table r))) slots
      (given_bytes f archive slots context table r) (given_slots f archive slots context table r) (GivenFits f archive slots context table r)
  unfolding shown_referent
  referent_gives table slots r (inl k) stands fit = rw k (text_gives slots r (rw k at stands) (rw k at fit))
  referent_gives table slots r (inr k) stands fit = rw k (thread_gives slots r (rw k at stands) (rw k at fit))

  -- ---- references one after the other

  module _ (short : length archive ≤ longest_archive) (tables : List ℕ) (until : ℕ) where
    -- the uses of references, and that each is known and fits
    abbrev lookups_uses : List Lookup → List Use
    lookups_uses [] = []
    lookups_uses (l ∷ more) = referent_uses provider (referent_at f archive tables context until l) ++ lookups_uses more

    abbrev LookupsPlain : List Lookup → Type 0
    LookupsPlain [] = Unit {0}
    LookupsPlain (l ∷ more) = ReferentPlain f (referent_at f archive tables context until l) × LookupsPlain more

    -- their registrations are those of their uses
    lookups_give : (ls : List Lookup) (slots : List ℕ) → LookupsStand archive ls → LookupsPlain ls
        → Gives f archive last uses (lookups_uses ls) slots (lookups_given_bytes f archive tables context until slots ls)
        (lookups_given_slots f archive tables context until slots ls) (LookupsGivenFit f archive tables context until slots ls)
    lookups_give [] slots stands fit = gives_none f archive last uses slots tt
    lookups_give (l ∷ more) slots stands fit =
        let r = looked_up f archive tables context until l in
        let slots' = given_slots f archive slots context l.table r in
        gives_fits f archive last uses (λ h. ((can_look_up archive l short stands.0, h.0), h.1))
        (gives_both f archive last uses
        (referent_gives l.table slots r stands.0.table (resolved_stands f archive tables context until l stands.0) fit.0)
        (lookups_give more slots' stands.1 fit.1))

    -- ---- arguments

    -- the text of a value; a scalar has an empty one, which is no use
    value_uses_lem : (v : ReadValue)
        → value_uses provider (value_item archive (shown_value f archive tables context until v))
        ≡ referent_uses provider (referent_at f archive tables context until (text_lookup (text_in v)))
    unfolding shown_value shown_referent shown_text resolved
    value_uses_lem (ScalarValue s) = rw (part-inside archive 0 0 (omega arith)).0
    value_uses_lem (TextValue r) = refl

    value-plain : (index : Key → ℕ) (v : ReadValue) → ValueFits f index (value_item archive (shown_value f archive tables context until v))
        → ReferentPlain f (referent_at f archive tables context until (text_lookup (text_in v)))
    unfolding shown_value shown_referent shown_text resolved
    value-plain index (ScalarValue s) fit = omega (arith, (part-inside archive 0 0 (omega arith)).1)
    value-plain index (TextValue r) fit = text-plain f index (text_item archive (shown_text (resolved f archive tables context 2 until r))) fit

    -- the uses of arguments are those of their names and texts
    arguments_uses_lem : (l : List ReadArgument)
        → arguments_uses provider (arguments_at f archive tables context until l) ≡ lookups_uses (argument_lookups l)
    unfolding shown_referent
    arguments_uses_lem [] = refl
    arguments_uses_lem (a ∷ l) = rw (value_uses_lem a.value, arguments_uses_lem l)

    arguments-plain : (index : Key → ℕ) (l : List ReadArgument) → AllFit f index (arguments_at f archive tables context until l)
        → LookupsPlain (argument_lookups l)
    unfolding shown_referent
    arguments-plain index [] fit = tt
    arguments-plain index (a ∷ l) fit = (
      text-plain f index (text_item archive (shown_text (resolved f archive tables context 2 until a.name))) fit.0.name,
      (value-plain index a.value fit.0.value, arguments-plain index l fit.1),
    )

-- ---- records

module _ (f : Format) (archive : List ℕ) (last : State) (uses : List Use) (few : last.count ≤ 8) (plain : UsesPlain uses) (small : Small f)
    (bytes : AllBytes archive) (short : length archive ≤ longest_archive) where
  -- the registrations that are written before a record are those of its uses in order
  pub report_gives : (tables slots : List ℕ) (s : State) (r : ReadReport) (next : ℕ) (index : Key → ℕ)
      → context_in last (provider_item (provider_of s)) ≡ s.current → s.current ≤ 8 → LookupsStand archive (report_lookups f archive r next)
      → ItemFits f index (report (report_at f archive tables s r next))
      → Gives f archive last uses (uses_of (report (report_at f archive tables s r next))) slots (report_given_bytes f archive tables slots s r next)
      (report_given_slots f archive tables slots s r next)
      (LookupsGivenFit f archive tables s.current s.place slots (report_lookups f archive r next))
  unfolding report_at
  report_gives tables slots s r next index here low stands fit =
      let provider = provider_item (provider_of s) in
      let context = s.current in
      let until = s.place in
      let pieces = fit.layout.pieces in
      let a = arguments_to f archive r next in
      let referent : Lookup → Referent = λ l. referent_at f archive tables context until l in
      rw (arguments_uses_lem f archive last uses few plain small bytes provider context here low short tables until a)
      (lookups_give f archive last uses few plain small bytes provider context here low short tables until (report_lookups f archive r next) slots stands (
        referent_plain f index (referent r.first) pieces.1.0,
        (
          referent_plain f index (referent r.second) pieces.1.1.0,
          (
            referent_plain f index (referent r.third) pieces.1.1.1.0,
            arguments-plain f archive last uses few plain small bytes provider context here low short tables until index a fit.layout.arguments,
          ),
        ),
      ))
