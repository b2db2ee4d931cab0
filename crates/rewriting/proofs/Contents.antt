-- What the second pass writes for a record is what the rule gives for its item: the registrations that are new, and the item's record. It fits, and the
-- slots then hold the rule's table.
-- Assumes nothing.
use Prim.Native.Nat.{ℕ, ◌≤◌, ◌<◌, ◌-◌}
use mathlib.Core.Path.{◌≡◌, refl, sym, ◌∙◌}
use mathlib.Core.List.{List, [], ◌∷◌, append-nil}
use mathlib.Core.Bool.{Bool}
use mathlib.Core.Option.{Option, none, some}
use Rattle.passes.specs.Models.Codes.{context_in, codes}
use Rattle.passes.specs.Models.Item.{item_at, report_at, plain_item, arguments_at}
use Rattle.words.proofs.Words.{AllBytes}
use Rattle.encoding.specs.Encoded.{item_record}
use Rattle.format.specs.declared.Format.{Format}
use Rattle.format.specs.Limits.{longest_archive}
use Rattle.records.specs.declared.Report.{Report as ReadReport}
use Rattle.records.specs.declared.Content.{Content}
use Rattle.records.specs.declared.Content.TheVariants.{Report as ReportRead}
use Rattle.records.specs.Record.{record_at}
use Rattle.records.specs.Item.{Item, magic, provider_info, section, provider_event, initialization, Use, uses_of, Report, report, skipped}
use Rattle.contexts.specs.declared.State.{State}
use Rattle.contexts.specs.Context.{provider_of}
use Rattle.tables.specs.Table.{table_words}
use Rattle.reader.specs.Reads.{provider_item}
use Rattle.rule.specs.Rule.{uses_all, Entry, index_in, entries_after, chosen_in, records_from}
use Rattle.rule.proofs.ReadBack.{AllFit}
use Rattle.encoding.specs.Models.Part.{plain_record}
use Rattle.passes.proofs.Codes.{UsesPlain}
use lib.ListN.{length, take, drop}
use Rattle.passes.proofs.Places.{report_stands}
use mathlib.Core.Logic.{◌⊎◌, inl, inr}
use Rattle.records.specs.Lookups.{arguments_to}
use Rattle.views.proofs.Lookups.{report-arguments}
use Rattle.rewriting.proofs.Records.{report-spelled, report-fits}
use Rattle.rewriting.proofs.Registrations.{report_gives}
use Rattle.rewriting.proofs.Walks.{shown_count, read_count}
use Rattle.rewriting.proofs.Others.{PlainOnly, Other, report_or}
use Rattle.rewriting.specs.Models.Write.{content_bytes, content_slots, plain_bytes, report_given_slots}
use Rattle.rewriting.specs.Models.Fits.{ContentFits, PlainFits}
use Rattle.rewriting.proofs.Kept.{KeysKept, kept_same}
use Rattle.rewriting.proofs.IndexCodes.{Indexing}
use Rattle.rewriting.proofs.Given.{Small, UsesReady}

-- the items of a record: one or none
abbrev pub item_list : Option Item → List Item
item_list none = []
item_list (some i) = i ∷ []

-- what is written for a record, and the slots after it
pub record Wrote (f : Format) (archive : List ℕ) (last : State) (uses : List Use) (tables slots : List ℕ) (s : State) (entries : List Entry) (c : Content) (next : ℕ)
    : Type 0 where
  pub bytes_are : content_bytes f archive tables slots s c next ≡ records_from f (chosen_in uses) entries (item_list (item_at f archive tables s c next))
  pub indexing : Indexing f archive last uses (content_slots f archive tables slots s c next)
      (entries_after (chosen_in uses) entries (uses_all (item_list (item_at f archive tables s c next))))
  pub kept : KeysKept archive (table_words f) (codes f last uses) slots (content_slots f archive tables slots s c next)
  pub fits : ContentFits f archive tables slots s c next

module _ (f : Format) (archive : List ℕ) (last : State) (uses : List Use) (few : last.count ≤ 8) (plain : UsesPlain uses) (small : Small f)
    (bytes : AllBytes archive) (short : length archive ≤ longest_archive) (tables slots : List ℕ) (s : State) (entries : List Entry) (I : Indexing f archive last uses slots entries)
    (here : context_in last (provider_item (provider_of s)) ≡ s.current) (low : s.current ≤ 8) where
  -- which uses are registered
  abbrev chosen : Use → Bool
  chosen = chosen_in uses

  -- where the record ends
  abbrev next : ℕ
  next = (record_at f archive s.place).next

  -- slots that stay are kept
  same : KeysKept archive (table_words f) (codes f last uses) slots slots
  same = kept_same archive (table_words f) (codes f last uses) slots

  -- a record that refers to texts and threads
  report_written : (r : ReadReport) → 0 < s.place → (record_at f archive s.place).content ≡ ReportRead r
      → UsesReady f uses entries (uses_all (item_list (item_at f archive tables s (ReportRead r) next)))
      → AllFit f chosen entries (item_list (item_at f archive tables s (ReportRead r) next)) → Wrote f archive last uses tables slots s entries (ReportRead r) next
  unfolding report_at plain_item
  report_written r later is ready fit =
      let item : Report = report_at f archive tables s r next in
      let us = uses_of (report item) in
      let after = entries_after chosen entries us in
      let index = index_in after (provider_item (provider_of s)) in
      let own = item_record f index (report item) in
      let stands = report_stands f archive s.place r later is in
      let listed = arguments_to f archive r next in
      let part = take (next - r.arguments) (drop r.arguments archive) in
      let all : length (arguments_at f archive tables s.current s.place listed) ≡ r.count =
      shown_count f archive tables s.current s.place listed
      ∙ read_count f r.count part r.arguments (report-arguments f archive s.place r is) in
      let g =
      report_gives f archive last uses few plain small bytes short tables slots s r next index here low stands fit.1 entries I (rw (append-nil us) at ready) in
      let slots' = report_given_slots f archive tables slots s r next in
      record {
        bytes_are = rw (
          g.bytes_are,
          report-spelled f archive last uses few plain bytes slots' after g.indexing short tables s r next here stands all fit.1,
          append-nil own,
        );
        indexing = rw (append-nil us) g.indexing;
        kept = g.kept;
        fits = record {
          plain = tt;
          report = λ q e.
              let e' : q ≡ r = cc in
              rw e' (g.fits, report-fits f archive last uses few plain bytes slots' after g.indexing short tables s r next here stands all fit.1);
        };
      }

  -- an item that refers to nothing: it has no uses, its record is the rule's, and it fits
  plain_written : (o : Option Item) → PlainOnly o → AllFit f chosen entries (item_list o)
      → (plain_bytes f o ≡ records_from f chosen entries (item_list o)) × (entries_after chosen entries (uses_all (item_list o)) ≡ entries) × PlainFits o
  plain_written none only fit = (refl, refl, tt)
  plain_written (some magic) only fit = (sym (append-nil (plain_record f magic)), refl, tt)
  plain_written (some (provider_info id name)) only fit = (sym (append-nil (plain_record f (provider_info id name))), refl, fit.1.suits.1)
  plain_written (some (section id)) only fit = (sym (append-nil (plain_record f (section id))), refl, tt)
  plain_written (some (provider_event id e)) only fit = (sym (append-nil (plain_record f (provider_event id e))), refl, fit.1.suits.1)
  plain_written (some (initialization rate)) only fit = (sym (append-nil (plain_record f (initialization rate))), refl, tt)
  plain_written (some (report r)) only fit = absurd only
  plain_written (some (skipped type size)) only fit = absurd fit.1.suits

  -- every record
  pub content_written : (c : Content) → ((r : ReadReport) → (record_at f archive s.place).content ≡ ReportRead r → 0 < s.place)
      → (record_at f archive s.place).content ≡ c → UsesReady f uses entries (uses_all (item_list (item_at f archive tables s c next)))
      → AllFit f chosen entries (item_list (item_at f archive tables s c next)) → Wrote f archive last uses tables slots s entries c next
  content_written c later is ready fit = go (report_or c)
    where
      go : ((r : ReadReport) × (c ≡ ReportRead r)) ⊎ Other c → Wrote f archive last uses tables slots s entries c next
      go (inl (r, e)) = rw e (report_written r (later r (is ∙ e)) (is ∙ e) (rw e at ready) (rw e at fit))
      go (inr o) =
          let shown : item_at f archive tables s c next ≡ plain_item archive c = o.item _ _ in
          let stay : content_slots f archive tables slots s c next ≡ slots = o.bytes _ _ in
          let w = plain_written (plain_item archive c) (o.plain archive) (rw shown at fit) in
          record {
            bytes_are = o.bytes _ _ ∙ w.0 ∙ rw shown;
            indexing = rw (shown, w.1, stay) I;
            kept = rw stay same;
            fits = record { plain = w.2; report = λ r e. absurd (o.no_report r e) };
          }
