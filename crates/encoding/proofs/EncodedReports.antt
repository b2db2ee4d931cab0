-- A record that refers to texts and threads, as it is written, reads back: its own values, its references, its stream, its arguments and its last word.
-- What a kind has to show is `own_encoded`; all else is the same for all kinds. Assumes nothing.
use Prim.Native.Nat.{ℕ, ◌+◌, ◌-◌, ◌*◌, ◌<◌, ◌≤◌}
use mathlib.Core.Path.{◌≡◌, refl, ap, ◌∙◌}
use mathlib.Core.List.{List, [], ◌∷◌, ◌++◌, append_assoc}
use mathlib.Core.Bool.{true}
use native.Mathlib.Omega.{arith}
use borrow.Author.Tests.{eqb-false, eqb-true, le-ltb, le-leb}
use lib.Dec.{eqb}
use lib.ListN.{length, drop, length-append}
use Rattle.std.proofs.Common.{Ok}
use Rattle.words.proofs.Tests.{cases}
use Rattle.words.specs.Word.{word_at, word_bytes}
use Rattle.words.proofs.Words.{At, at_left, at_right, word-is}
use Rattle.format.specs.declared.Format.{Format}
use Rattle.format.specs.Limits.{small_format}
use Rattle.format.specs.declared.Part.TheVariants.{Text as text_part}
use Rattle.format.specs.Part.{part}
use Rattle.arguments.specs.Argument.{arguments, arguments_of, walked}
use Rattle.records.specs.declared.Event.{Event}
use Rattle.records.specs.declared.Log.{Log}
use Rattle.records.specs.declared.Own.{Own}
use Rattle.records.specs.declared.Own.TheVariants.{Event as EventOwn, Log as LogOwn}
use Rattle.records.specs.declared.Report.{Report as ReadReport}
use Rattle.records.specs.declared.Layout.{Layout}
use Rattle.records.specs.declared.Content.TheVariants.{Report as ReportRead}
use Rattle.records.specs.Layout.{fields, is_event, event_layout, log_layout, layout_of, event_of, log_of, own_of, take_fields, last_word, lookup_of}
use Rattle.records.specs.Models.Layouts.{report_arguments}
use Rattle.records.specs.Record.{content_of}
use Rattle.records.specs.Item.{known, Referent, text_referent, Report, report, own_layout, last_words, report_layout, Key, text_key}
use Rattle.records.proofs.Layouts.{report-is}
use Rattle.records.proofs.Bounds.{AllWords, own-few, own-words-few, behind-few}
use Rattle.encoding.specs.Models.Part.{referent_table}
use Rattle.encoding.specs.Encoded.{Encoded, stream, words_bytes, parts_bytes, encoded_referent, arguments_records, encoded_pieces, layout_header, layout_body, item_record}
use Rattle.encoding.proofs.EncodedParts.{part_of, references_at, length-words, WordsAre, Spells}
use Rattle.encoding.proofs.EncodedRecords.{RecordFits, at_start, own-field}
use Rattle.encoding.proofs.EncodedArguments.{AllFit, all_sized, arguments-words, arguments_at, arguments_read_lem, SpellsArguments, arguments-spelled}
use Rattle.encoding.proofs.EncodedLayouts.{layout_words, behind_pieces, length-body, referent_words, PiecesFit, ReportSuits, referent_thread, referent_text, referent_table_lem, ItemFits, behind_at, pieces-spelled, length_all, pieces_read}

-- the pieces of a record, encoded, and the record
abbrev pub report_parts : (Key → ℕ) → Report → List Encoded
report_parts index r = encoded_pieces index (report_layout r).pieces

abbrev pub report_record : Format → (Key → ℕ) → Report → List ℕ
report_record f index r = item_record f index (report r)

-- as many words as stand behind the arguments
pub length_last : (behind last : ℕ) → behind ≤ 1 → length (last_words behind last) ≡ behind
length_last behind last few =
    cases (eqb behind 0) (λ e. let is = eqb-true behind 0 e in rw e (omega (arith, is)))
    (λ e. let is = eqb-false behind 0 e in rw e (omega arith))

-- the header of a record is the same where the count of its arguments, its references and the length of its stream are
pub header_same : (own : Own) (n n' a a' b b' c c' long long' : ℕ) → n ≡ n' → a ≡ a' → b ≡ b' → c ≡ c' → long ≡ long'
    → (own_layout own).header n a b c long ≡ (own_layout own).header n' a' b' c' long'
header_same own n n' a a' b b' c c' long long' count first second third stream-long =
    ap (λ x. (own_layout own).header x a b c long) count
    ∙ ap (λ x. (own_layout own).header n' x b c long) first
    ∙ ap (λ x. (own_layout own).header n' a' x c long) second
    ∙ ap (λ x. (own_layout own).header n' a' b' x long) third
    ∙ ap (λ x. (own_layout own).header n' a' b' c' x) stream-long

-- ---- what a kind has to show

-- the layout that is read
abbrev pub layout_encoded : (Key → ℕ) → Report → Layout
layout_encoded index r =
    record {
      read = true;
      words = length (own_layout r.own).words;
      first = part_of (encoded_referent index r.first);
      second = part_of (encoded_referent index r.second);
      third = part_of (encoded_referent index r.third);
      stream = length r.stream;
      count = length r.arguments;
      behind = (own_layout r.own).behind;
      reserved = 0;
    }

pub record OwnEncoded (f : Format) (index : Key → ℕ) (r : Report) : Type 0 where
  pub known : (own_layout r.own).type < 15
  pub fits : RecordFits (own_layout r.own).type (layout_header index (report_layout r)) (layout_body f index (report_layout r))
  pub layout : layout_of (word_at f.order (report_record f index r) 0) ≡ layout_encoded index r
  pub values : WordsAre f (report_record f index r) 8 (own_layout r.own).words → own_of f (report_record f index r) ≡ r.own

-- what a record does not refer to is written as the reference 0, where the empty text has no index
no_part : (f : Format) (index : Key → ℕ) (x : Referent) → x ≡ text_referent (known []) → index (text_key []) ≡ 0
    → part_of (encoded_referent index x) ≡ text_part 0
no_part f index x is none = rw (is, none)

-- a record with this for what is its own
abbrev with_own : Own → Report → Report
with_own own r =
    record {
      provider = r.provider;
      rate = r.rate;
      own = own;
      first = r.first;
      second = r.second;
      third = r.third;
      stream = r.stream;
      arguments = r.arguments;
      last = r.last;
    }

-- an event
event_encoded : (f : Format) (index : Key → ℕ) (e : Event) (r : Report) → ItemFits f index (report (with_own (EventOwn e) r))
    → OwnEncoded f index (with_own (EventOwn e) r)
unfolding layout_of event_layout is_event own_of event_of
event_encoded f index e r fit =
    let own = fit.suits.own in
    let l = report_layout (with_own (EventOwn e) r) in
    let size = length-body f index l in
    let a = referent_thread f index r.first own.first fit.layout.pieces.1.0 in
    let b = referent_text f index r.second own.second fit.layout.pieces.1.1.0 in
    let c = referent_text f index r.third own.third fit.layout.pieces.1.1.1.0 in
    let fits : RecordFits 4 (layout_header index l) (layout_body f index l) =
    record { fits = omega (arith, size, fit.layout.size, own.type, own.few, a.bits, b.bits, c.bits); full = refl; whole = omega (arith, size) } in
    record {
      known = omega arith;
      fits = fits;
      layout =
          rw (own-field f fits 0, own-field f fits 4, own-field f fits 5, own-field f fits 6, own-field f fits 3, own-field f fits 2, le-leb e.variant 10 own.type, ← a.part, ← b.part, ← c.part, own.stream);
      values = λ w. rw (own-field f fits 0, own-field f fits 2, w.0);
    }

-- a log: what it does not refer to is written as the reference 0
log_encoded : (f : Format) (index : Key → ℕ) (g : Log) (r : Report) → ItemFits f index (report (with_own (LogOwn g) r))
    → OwnEncoded f index (with_own (LogOwn g) r)
unfolding layout_of log_layout own_of log_of
log_encoded f index g r fit =
    let own = fit.suits.own in
    let l = report_layout (with_own (LogOwn g) r) in
    let size = length-body f index l in
    let a = referent_thread f index r.first own.first fit.layout.pieces.1.0 in
    let fits : RecordFits 9 (layout_header index l) (layout_body f index l) =
    record { fits = omega (arith, size, fit.layout.size, own.stream, a.bits); full = refl; whole = omega (arith, size) } in
    record {
      known = omega arith;
      fits = fits;
      layout =
          rw (
            own-field f fits 0,
            own-field f fits 2,
            own-field f fits 3,
            own-field f fits 4,
            own-field f fits 5,
            ← a.part,
            own.none,
            no_part f index r.second (fit.suits.absent.no_second (omega arith)) fit.empty,
            no_part f index r.third (fit.suits.absent.no_third (omega arith)) fit.empty,
          );
      values = λ w. rw (own-field f fits 0, w.0);
    }

-- every kind
pub own_encoded : (f : Format) (index : Key → ℕ) (r : Report) → ItemFits f index (report r) → OwnEncoded f index r
own_encoded f index r fit = go r.own fit
  where
    go : (own : Own) → ItemFits f index (report (with_own own r)) → OwnEncoded f index (with_own own r)
    go (EventOwn e) h = event_encoded f index e r h
    go (LogOwn g) h = log_encoded f index g r h

-- ---- reading

-- what is read for a record written at a place
abbrev pub report_at : Format → (Key → ℕ) → Report → ℕ → ReadReport
report_at f index r place =
    let references = references_at f (report_parts index r) (place + 8) in
    let l = layout_encoded index r in
    record {
      own = r.own;
      first = lookup_of l.first (part 1 references);
      second = lookup_of l.second (part 2 references);
      third = lookup_of l.third (part 3 references);
      stream = part 4 references;
      count = length r.arguments;
      arguments = place + 8 + length (parts_bytes f (report_parts index r));
      last = r.last;
    }

last_read : (f : Format) (source : List ℕ) (place at behind last : ℕ) → AllWords (last_words behind last) → (behind ≡ 0 → last ≡ 0)
    → At source (at - place) (words_bytes f (last_words behind last)) → at + 8 * behind ≤ place + length source
    → last_word f source place at behind ≡ Ok last
unfolding last_word
last_read f source place at behind last small none there room =
    cases (eqb behind 0) (λ e. rw (le-ltb (place + length source) (at + 8 * behind) room, e, none (eqb-true behind 0 e)))
    (λ e.
    let there' : At source (at - place) (word_bytes f.order last ++ []) = rw e at there in
    let small' : AllWords (last ∷ []) = rw e at small in
    rw (
      le-ltb (place + length source) (at + 8 * behind) room,
      e,
      word-is f.order source (at - place) last small'.0 (at_left source (at - place) (word_bytes f.order last) [] there'),
    ))

own_behind : (f : Format) (index : Key → ℕ) (r : Report) (place : ℕ)
    → At (report_record f index r) ((report_at f index r place).arguments - place) (behind_pieces f index (report_layout r))
own_behind f index r place =
    let source = report_record f index r in
    let n = length (parts_bytes f (report_parts index r)) in
    let from : 0 + 8 + n ≡ place + 8 + n - place = omega arith in
    rw from at (behind_at f index (report_layout r) source 0 (at_start source))

module _ (f : Format) (index : Key → ℕ) (r : Report) (place : ℕ) (fit : ItemFits f index (report r)) where
  abbrev source : List ℕ
  source = report_record f index r

  abbrev first : ℕ
  first = (report_at f index r place).arguments

  abbrev list : List ℕ
  list = arguments_records f index r.arguments

  abbrev end : List ℕ
  end = words_bytes f (last_words (own_layout r.own).behind r.last)

  room : length source ≡ 8 + length (parts_bytes f (report_parts index r)) + length list + 8 * (own_layout r.own).behind
  room =
      omega (
        arith,
        length_all f index (report_layout r),
        length-append list end,
        length-words f (last_words (own_layout r.own).behind r.last),
        length_last (own_layout r.own).behind r.last (behind-few r.own),
      )

  fields_there : take_fields f (layout_encoded index r) source place
      ≡ fields (report_at f index r place).first.reference (report_at f index r place).second.reference (report_at f index r place).third.reference
      (report_at f index r place).stream first
  unfolding take_fields
  fields_there = rw (pieces_read f index (report_layout r) place fit.layout.pieces)

  -- its arguments are read
  pub arguments_there : arguments_of f (length r.arguments) (drop (first - place) source) first
      ≡ arguments (arguments_at f index r.arguments first) (first + length list)
  arguments_there =
      let there = own_behind f index r place in
      let sized = all_sized index r.arguments (omega (arith, fit.layout.size)) in
      rw (there.1, append_assoc list end there.0) (arguments_read_lem f index r.arguments (end ++ there.0) first fit.layout.arguments sized)

  last_there : last_word f source place (first + length list) (own_layout r.own).behind ≡ Ok r.last
  last_there =
      let from : first - place + length list ≡ first + length list - place = omega arith in
      let there = rw from at (at_right source (first - place) list end (own_behind f index r place)) in
      last_read f source place (first + length list) (own_layout r.own).behind r.last fit.layout.last fit.suits.no_last there (omega (arith, room))

  -- a record that fits is read as its own values, its references and its last word
  pub report_content : content_of f source place ≡ ReportRead (report_at f index r place)
  unfolding content_of
  report_content =
      let own = own_encoded f index r fit in
      rw (
        own.layout,
        report-is f source place (layout_encoded index r) own.layout fields_there (ap walked arguments_there) last_there,
        own.values (pieces-spelled f index (report_layout r) source 0 fit.layout.pieces (at_start source)).0,
      )

-- a record that is read at a place of an archive as it was written: the same values, and references that spell what was written
pub record ReportSpelled (f : Format) (index : Key → ℕ) (r : Report) (archive : List ℕ) (place : ℕ) (q : ReadReport) : Type 0 where
  pub content : content_of f (report_record f index r) place ≡ ReportRead q
  pub own : q.own ≡ r.own
  pub first : Spells f archive q.first.reference (encoded_referent index r.first)
  pub second : Spells f archive q.second.reference (encoded_referent index r.second)
  pub third : Spells f archive q.third.reference (encoded_referent index r.third)
  pub stream : Spells f archive q.stream (stream r.stream)
  pub tables : (q.first.table ≡ referent_table r.first) × (q.second.table ≡ referent_table r.second) × (q.third.table ≡ referent_table r.third)
  pub count : q.count ≡ length r.arguments
  pub arguments : SpellsArguments f archive index (report_arguments f (report_record f index r) place q) r.arguments
  pub last : q.last ≡ r.last

-- a record that fits is read as it was written
pub report_read_lem : (f : Format) (index : Key → ℕ) (r : Report) (archive : List ℕ) (place : ℕ) → ItemFits f index (report r)
    → At archive place (report_record f index r) → ReportSpelled f index r archive place (report_at f index r place)
report_read_lem f index r archive place fit at =
    let fields = pieces-spelled f index (report_layout r) archive place fit.layout.pieces at in
    let l = arguments_records f index r.arguments in
    let first = (report_at f index r place).arguments in
    let there = at_left archive first l (words_bytes f (last_words (own_layout r.own).behind r.last)) (behind_at f index (report_layout r) archive place at) in
    record {
      content = report_content f index r place fit;
      own = refl;
      first = fields.1.0;
      second = fields.1.1.0;
      third = fields.1.1.1.0;
      stream = fields.1.1.1.1.0;
      tables = (referent_table_lem f index r.first fit.layout.pieces.1.0, referent_table_lem f index r.second fit.layout.pieces.1.1.0, referent_table_lem f index r.third fit.layout.pieces.1.1.1.0);
      count = refl;
      arguments = rw (arguments_there f index r place fit) (arguments-spelled f index archive first r.arguments fit.layout.arguments there);
      last = refl;
    }

-- ---- sizes

-- with strings of at most 256 bytes a record is small enough: a header and few words of its own, three references and a stream, 15 arguments
pub small_report : (index : Key → ℕ) (r : Report) → ReportSuits r → PiecesFit small_format index (report_layout r).pieces
    → AllFit small_format index r.arguments → layout_words index (report_layout r) ≤ 4095
small_report index r suits pieces fit =
    omega (
      arith,
      own-few r.own _ _ _ _ _ suits.own,
      own-words-few r.own,
      referent_words small_format index r.first pieces.1.0,
      referent_words small_format index r.second pieces.1.1.0,
      referent_words small_format index r.third pieces.1.1.1.0,
      pieces.1.1.1.1.0,
      arguments-words small_format index r.arguments fit,
      length_last (own_layout r.own).behind r.last (behind-few r.own),
      behind-few r.own,
    )
