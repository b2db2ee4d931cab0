-- What the first pass makes of one record: the number that it adds, its words, and the slots after it, against the record's item.
-- Assumes nothing.
use Prim.Native.Nat.{ℕ, ◌≤◌}
use mathlib.Core.Path.{◌≡◌, refl, sym, ◌∙◌}
use mathlib.Core.List.{List, [], ◌++◌, append-nil}
use mathlib.Core.Bool.{Bool, true, false, true≢false}
use mathlib.Core.Option.{Option, none, some}
use mathlib.Core.Logic.{inl, inr}
use native.Mathlib.Omega.{arith}
use lib.ListN.{length}
use Rattle.passes.specs.Models.Codes.{context_in}
use Rattle.passes.specs.Models.Item.{report_at, plain_item, item_at}
use Rattle.passes.specs.Models.Follow.{tables_after}
use Rattle.records.specs.Models.Fixed.{fixed_words}
use Rattle.records.specs.Models.Bounds.{ContentInside}
use Rattle.words.proofs.Words.{AllBytes}
use Rattle.words.specs.Word.{pick}
use Rattle.words.proofs.Tests.{cases}
use Rattle.format.specs.declared.Format.{Format}
use Rattle.format.specs.Limits.{longest_archive}
use Rattle.tables.specs.Models.Entries.{FormatFits}
use Rattle.records.specs.declared.Report.{Report}
use Rattle.records.specs.declared.Content.{Content}
use Rattle.records.specs.declared.Content.TheVariants.{Refused, Magic, ProviderInfo, Section, ProviderEvent, Initialization, String, Thread, Report as ReportRead, Ignored, Skipped}
use Rattle.records.specs.Record.{record_at}
use Rattle.records.specs.Loss.{record_keeps}
use Rattle.records.specs.Lookups.{report_lookups}
use Rattle.records.specs.Effect.{effect_of}
use Rattle.records.specs.Item.{Item, report, Use}
use Rattle.records.proofs.Bounds.{ContentShort, record_short}
use Rattle.contexts.specs.declared.State.{State}
use Rattle.contexts.specs.Context.{provider_of}
use Rattle.effects.specs.Follow.{change_of, changed}
use Rattle.reader.specs.Step.{opening_number}
use Rattle.reader.specs.Reads.{provider_item}
use Rattle.views.proofs.Lookups.{record_whole}
use Rattle.rule.specs.Refusal.{keeps_at, item_unresolved, passes_limit, item_uses}
use Rattle.passes.proofs.Places.{report_stands, part-inside, opening-report}
use Rattle.std.specs.Prelude.{Ok, Err, is_none, is_ok}
use Rattle.std.specs.Result.{result_unwrap_or}
use Rattle.format.specs.declared.Reason.TheVariants.{Loss, Unregistered, ManyKeys}
use Rattle.first_pass.specs.Models.Found.{Finding}
use Rattle.first_pass.specs.Models.Count.{Counted, report_good, report_slots, report_words, report_checked, plain_words, keeps_to, record_checked, checked_slots}
use Rattle.first_pass.specs.Models.Left.{counted_uses}
use Rattle.first_pass.proofs.Counts.{lookups_count}
use Rattle.first_pass.proofs.Findings.{record_refusal, Says}
use Rattle.first_pass.proofs.Kept.{SlotsKept, kept_same}
use Rattle.first_pass.proofs.References.{report_uses, report-unresolved}
use Rattle.first_pass.proofs.Told.{Told, Outcome, told_limits}

-- the fixed words of a record's item, where it shows one
abbrev pub item_words : Option Item → ℕ
item_words none = 0
item_words (some i) = fixed_words i

-- what is counted at a record says what the record adds, keeps what is behind the tally, and has no more words than its item; where nothing is found up to it and in it,
-- the slots tell of its uses too, and its words are those of its item. Where something is found in it first, they tell of those that pass no limit,
-- and where something was found before, they stay.
pub record RecordCounted (f : Format) (archive : List ℕ) (last : State) (place : ℕ) (found : Finding) (before : List Use) (keeps : Bool)
    (item : Option Item) (slots slots' : List ℕ) (counted : Counted) : Type 0 where
  pub says : Says found counted place (record_refusal f keeps item (before ++ item_uses item) place)
  pub kept : SlotsKept f slots slots'
  pub few_words : result_unwrap_or counted 0 ≤ item_words item
  pub told : is_none found ≡ true → is_ok counted ≡ true → Told f archive last slots' (before ++ item_uses item)
  pub tells_of : is_none found ≡ true → Told f archive last slots' (pick keeps (counted_uses f before (item_uses item)) before)
  pub rests : is_none found ≡ false → slots' ≡ slots
  pub words : is_none found ≡ true → is_ok counted ≡ true → result_unwrap_or counted 0 ≡ item_words item

module _ (f : Format) (archive : List ℕ) (last : State) (few : last.count ≤ 8) (place : ℕ) (found : Finding) (before : List Use) (slots : List ℕ) where
  -- a record that shows no uses
  plain-counted : (keeps : Bool) (item : Option Item) (words : ℕ) → (is_none found ≡ true → Told f archive last slots before) → item_uses item ≡ []
      → item_unresolved item ≡ false → (keeps ≡ true → words ≡ item_words item)
      → RecordCounted f archive last place found before keeps item slots (pick keeps slots slots) (pick keeps (Ok words) (Err Loss))
  plain-counted false item words told no-uses resolved fixed =
      record {
        says = record { low = omega arith; tells = inl refl };
        kept = kept_same f slots;
        few_words = omega arith;
        told = λ z q. absurd (true≢false (sym q));
        tells_of = told;
        rests = λ n. refl;
        words = λ z q. absurd (true≢false (sym q));
      }
  plain-counted true item words told no-uses resolved fixed =
      record {
        says = record {
          low = omega arith;
          tells = rw (resolved, all)
              (cases (is_none found)
              (λ e. rw (told_limits f archive last few slots before (told e)) (inl refl))
              (λ e. cases (passes_limit f before before) (λ o. rw o (inr (e, refl, refl))) (λ o. rw o (inl refl))));
        };
        kept = kept_same f slots;
        few_words = omega (arith, fixed refl);
        told = λ z q. rw all (told z);
        tells_of = λ z. rw no-uses (told z);
        rests = λ n. refl;
        words = λ z q. fixed refl;
      }
    where
      all : before ++ item_uses item ≡ before
      all = rw no-uses (append-nil before)

  -- a record that refers to texts and threads
  report-counted : (keeps good : Bool) (item : Option Item) (words : ℕ) (slots' : List ℕ)
      → (is_none found ≡ true → Outcome f archive last slots' (before ++ item_uses item) good (item_unresolved item))
      → (is_none found ≡ true → Told f archive last slots before)
      → (is_none found ≡ true → Told f archive last slots' (counted_uses f before (item_uses item)))
      → SlotsKept f slots slots' → words ≡ item_words item
      → RecordCounted f archive last place found before keeps item slots (pick keeps (pick (is_none found) slots' slots) slots)
      (pick keeps
      (pick (is_none found) (pick good (Ok words) (pick (item_unresolved item) (Err Unregistered) (Err ManyKeys)))
      (pick (item_unresolved item) (Err Unregistered) (Ok 0)))
      (Err Loss))
  report-counted false good item words slots' outcome told Counts-of kept fixed =
      record {
        says = record { low = omega arith; tells = inl refl };
        kept = kept_same f slots;
        few_words = omega arith;
        told = λ z q. absurd (true≢false (sym q));
        tells_of = told;
        rests = λ n. refl;
        words = λ z q. absurd (true≢false (sym q));
      }
  report-counted true good item words slots' outcome told Counts-of kept fixed =
      cases (is_none found)
      (λ e. rw e (clean e good (outcome e)))
      (λ e. rw e (found_before (e)))
    where
      all : List Use
      all = before ++ item_uses item

      clean : is_none found ≡ true → (good : Bool) → Outcome f archive last slots' all good (item_unresolved item)
          → RecordCounted f archive last place found before true item slots slots'
          (pick good (Ok words) (pick (item_unresolved item) (Err Unregistered) (Err ManyKeys)))
      clean none_before true o =
          let c = o.clean refl in
          record {
            says = record { low = omega arith; tells = rw (c.0, told_limits f archive last few slots' all c.1) (inl refl) };
            kept = kept;
            few_words = omega (arith, fixed);
            told = λ z q. c.1;
            tells_of = Counts-of;
            rests = λ n. absurd (true≢false (sym none_before ∙ n));
            words = λ z q. fixed;
          }
      clean none_before false o =
          cases (item_unresolved item)
          (λ e. rw e (record {
            says = record { low = omega arith; tells = rw e (inl refl) };
            kept = kept;
            few_words = omega arith;
            told = λ z q. absurd (true≢false (sym q));
            tells_of = Counts-of;
            rests = λ n. absurd (true≢false (sym none_before ∙ n));
            words = λ z q. absurd (true≢false (sym q));
          }))
          (λ e. rw e (record {
            says = record { low = omega arith; tells = rw (e, o.over refl e) (inl refl) };
            kept = kept;
            few_words = omega arith;
            told = λ z q. absurd (true≢false (sym q));
            tells_of = Counts-of;
            rests = λ n. absurd (true≢false (sym none_before ∙ n));
            words = λ z q. absurd (true≢false (sym q));
          }))

      found_before : is_none found ≡ false
          → RecordCounted f archive last place found before true item slots slots (pick (item_unresolved item) (Err Unregistered) (Ok 0))
      found_before n =
          cases (item_unresolved item)
          (λ e. rw e (record {
            says = record { low = omega arith; tells = rw e (inl refl) };
            kept = kept_same f slots;
            few_words = omega arith;
            told = λ z q. absurd (true≢false (sym z ∙ n));
            tells_of = λ z. absurd (true≢false (sym z ∙ n));
            rests = λ q. refl;
            words = λ z q. absurd (true≢false (sym z ∙ n));
          }))
          (λ e. rw e (record {
            says = record {
              low = omega arith;
              tells = rw e (cases (passes_limit f all all) (λ o. rw o (inr (n, refl, refl))) (λ o. rw o (inl refl)));
            };
            kept = kept_same f slots;
            few_words = omega arith;
            told = λ z q. absurd (true≢false (sym z ∙ n));
            tells_of = λ z. absurd (true≢false (sym z ∙ n));
            rests = λ q. refl;
            words = λ z q. absurd (true≢false (sym z ∙ n));
          }))

-- what is found at the record at a state's place, with the tables after it, is counted so
pub record_counted : (f : Format) (archive : List ℕ) → FormatFits f → (last : State) → last.count ≤ 8 → AllBytes archive → (tables : List ℕ) (s : State)
    → opening_number f archive (length tables) ≡ 0 → length archive ≤ longest_archive → s.place ≤ length archive → s.current ≤ 8
    → context_in last (provider_item (provider_of s)) ≡ s.current → (found : Finding) (before : List Use) (slots : List ℕ)
    → (is_none found ≡ true → Told f archive last slots before)
    → RecordCounted f archive last s.place found before (keeps_at f archive s.place)
    (item_at f archive tables s (record_at f archive s.place).content (record_at f archive s.place).next) slots
    (checked_slots f archive (tables_after f tables s (record_at f archive s.place).content) slots s (record_at f archive s.place).content
    (record_at f archive s.place).next (is_none found))
    (record_checked f archive (tables_after f tables s (record_at f archive s.place).content) slots s (record_at f archive s.place).content
    (record_at f archive s.place).next (is_none found))
unfolding record_checked checked_slots plain_item record_keeps report_checked plain_words effect_of change_of changed
record_counted f archive fits last few bytes tables s opens small inside low here found before slots told =
    go (record_at f archive s.place).content refl (record_short f archive s.place) (record_whole f archive s.place).inside
  where
    next : ℕ
    next = (record_at f archive s.place).next

    ends : next ≤ length archive
    ends = (record_whole f archive s.place).before inside

    of_report : (r : Report) → (record_at f archive s.place).content ≡ ReportRead r
        → RecordCounted f archive last s.place found before (keeps_to f archive s (ReportRead r) next)
        (some (report (report_at f archive tables s r next))) slots
        (checked_slots f archive tables slots s (ReportRead r) next (is_none found))
        (record_checked f archive tables slots s (ReportRead r) next (is_none found))
    of_report r k =
        let ls = report_lookups f archive r next in
        let provider = provider_item (provider_of s) in
        let item = report (report_at f archive tables s r next) in
        let uses = report_uses f archive tables s r next in
        let bad = report-unresolved f archive tables s r next in
        let stands = report_stands f archive s.place r (opening-report f archive (length tables) s.place r opens k) k in
        let c = lookups_count f archive fits last few bytes small provider s.current here low tables s.place ls stands slots in
        rw (← bad)
        (report-counted f archive last few s.place found before slots (keeps_to f archive s (ReportRead r) next)
        (report_good f archive tables slots s r next) (some item) (report_words f archive tables s r next) (report_slots f archive tables slots s r next)
        (λ z. rw (uses, bad) (c.outcome before (told z))) told (λ z. rw uses (c.counted before (told z))) c.kept refl)

    plain : (keeps : Bool) (item : Option Item) (words : ℕ) → item_uses item ≡ [] → item_unresolved item ≡ false → (keeps ≡ true → words ≡ item_words item)
        → RecordCounted f archive last s.place found before keeps item slots (pick keeps slots slots) (pick keeps (Ok words) (Err Loss))
    plain keeps item words = λ a b c. plain-counted f archive last few s.place found before slots keeps item words told a b c

    go : (c : Content) → (record_at f archive s.place).content ≡ c → ContentShort c → ContentInside s.place next c
        → RecordCounted f archive last s.place found before (keeps_to f archive s c next) (item_at f archive tables s c next) slots
        (checked_slots f archive (tables_after f tables s c) slots s c next (is_none found))
        (record_checked f archive (tables_after f tables s c) slots s c next (is_none found))
    go (Refused number) k b i = plain false none 0 refl refl (λ e. refl)
    go Magic k b i = plain true (plain_item archive Magic) 1 refl refl (λ e. refl)
    go (ProviderInfo id at long) k b i =
        plain (keeps_to f archive s (ProviderInfo id at long) next) (plain_item archive (ProviderInfo id at long)) (plain_words (ProviderInfo id at long)) refl
        refl (λ e. let whole = (part-inside archive at long (omega (arith, i.1, ends))).1 in rw whole (omega arith))
    go (Section id) k b i = plain (keeps_to f archive s (Section id) next) (plain_item archive (Section id)) 1 refl refl (λ e. refl)
    go (ProviderEvent id e) k b i =
        plain (keeps_to f archive s (ProviderEvent id e) next) (plain_item archive (ProviderEvent id e)) 1 refl refl (λ e. refl)
    go (Initialization rate) k b i =
        plain (keeps_to f archive s (Initialization rate) next) (plain_item archive (Initialization rate)) 2 refl refl (λ e. refl)
    go (String index at long) k b i = plain (keeps_to f archive s (String index at long) next) none 0 refl refl (λ e. refl)
    go (Thread index at) k b i = plain (keeps_to f archive s (Thread index at) next) none 0 refl refl (λ e. refl)
    go (ReportRead r) k b i = of_report r k
    go Ignored k b i = plain true none 0 refl refl (λ e. refl)
    go (Skipped type size) k b i = plain false (plain_item archive (Skipped type size)) 0 refl refl (λ e. absurd (true≢false (sym e)))
