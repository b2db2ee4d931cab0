-- What the second pass writes for arguments and records, taken apart part by part.
-- Assumes nothing.
use Prim.Native.Nat.{ℕ, ◌+◌, ◌-◌, ◌*◌, ◌/◌, ◌≤◌}
use mathlib.Core.Path.{◌≡◌, refl, sym, ap, subst}
use mathlib.Core.List.{List, [], ◌∷◌, ◌++◌}
use native.Mathlib.Omega.{arith}
use lib.ListN.{length, take, drop, length-append, length-drop}
use borrow.Author.Tests.{eq-eqb}
use Rattle.tally.specs.Models.Tally.{Wide}
use Rattle.tables.specs.Models.Entries.{FormatFits}
use Rattle.encoding.specs.Encoded.{reference_of, words_bytes, parts_bytes}
use Rattle.encoding.specs.Models.Part.{text_part, FieldsFit, text_argument, scalar_argument}
use Rattle.words.specs.Word.{word_bytes}
use Rattle.words.proofs.Words.{length-word_bytes}
use Rattle.format.specs.declared.Format.{Format}
use Rattle.encoding.specs.declared.Output.{Output}
use Rattle.encoding.specs.Models.Output.{Writes}
use Rattle.encoding.proofs.Writing.{Writing, writing_as, writing_fits, writing_goes_on, writing_ends}
use Rattle.format.specs.declared.Reference.{Reference}
use Rattle.format.proofs.Headers.{part_from}
use Rattle.arguments.specs.declared.Scalar.{Scalar}
use Rattle.arguments.specs.declared.Value.TheVariants.{Scalar as ScalarValue, Text}
use Rattle.arguments.specs.declared.Argument.{Argument}
use Rattle.records.specs.declared.Report.{Report}
use Rattle.records.specs.Item.{own_layout, last_words}
use Rattle.records.specs.Lookups.{text_lookup, arguments_to}
use Rattle.contexts.specs.declared.State.{State}
use Rattle.tables.specs.Table.{table_words}
use Rattle.encoding.proofs.EncodedReports.{header_same}
use Rattle.rewriting.specs.declared.Spelled.{Spelled}
use Rattle.rewriting.specs.Models.Write.{SpelledAs, spelled_bytes, spelled_lookup, argument_bytes, arguments_bytes, spelled_part, stream_of, spelled_pieces, spelled_fields, spelled_header, first_spelled, second_spelled, third_spelled, report_body, report_bytes}
use Rattle.rewriting.specs.Models.Fits.{ArgumentsFit, SpelledHeaderFits}

-- a header is eight bytes in front of a body
length_headed : (f : Format) (word : ℕ) (body : List ℕ) → length (word_bytes f.order word ++ body) ≡ 8 + length body
length_headed f word body = rw (length-append (word_bytes f.order word) body, length-word_bytes f.order word)

-- ---- the room

-- behind the tables stand the three stretches of the tally
pub slots_wide : (f : Format) (words : ℕ) (room : List ℕ) → FormatFits f → words ≡ table_words f → 4 * table_words f ≤ length room
    → Wide words (take (length room - words) (drop words room))
slots_wide f words room fit e h = record {
  some = omega arith;
  low = omega (arith, fit.indexes);
  long = rw (part_from words room) (omega (arith, length-drop words room));
}

-- the same of a room that is not lent
pub room_wide : (f : Format) (room : List ℕ) → FormatFits f → 4 * table_words f ≤ length room → Wide (table_words f) (drop (table_words f) room)
room_wide f room fit long = rw (part_from (table_words f) room) at (slots_wide f (table_words f) room fit refl long)

-- ---- last words

-- no last word where the kind has none
pub last_none : (f : Format) (behind last : ℕ) → behind ≡ 0 → words_bytes f (last_words behind last) ≡ []
last_none f behind last z = rw (eq-eqb behind 0 z)

-- ---- arguments

module _ (f : Format) (archive tables slots : List ℕ) (context until : ℕ) where
  -- an argument whose value is no text, from how its name is spelled
  pub scalar_argument_lem : (a : Argument) (p : Spelled) (bytes : List ℕ) (s : Scalar)
      → SpelledAs archive p (spelled_lookup f archive tables slots context until (text_lookup a.name)) → bytes ≡ spelled_bytes archive p → a.value ≡ ScalarValue s
      → argument_bytes f archive tables slots context until a ≡ scalar_argument f (text_part p.index bytes) s
  unfolding argument_bytes
  scalar_argument_lem a p bytes s spelled is v = rw (is, spelled.0, spelled.1, v)

  -- an argument whose value is a text, from how its name and its text are spelled
  pub text_argument_lem : (a : Argument) (p q : Spelled) (name text : List ℕ) (r : Reference)
      → SpelledAs archive p (spelled_lookup f archive tables slots context until (text_lookup a.name)) → name ≡ spelled_bytes archive p
      → SpelledAs archive q (spelled_lookup f archive tables slots context until (text_lookup r)) → text ≡ spelled_bytes archive q → a.value ≡ Text r
      → argument_bytes f archive tables slots context until a ≡ text_argument f (text_part p.index name) (text_part q.index text)
  unfolding argument_bytes
  text_argument_lem a p q name text r named n held t v = rw (n, named.0, named.1, t, held.0, held.1, v)

module _ (start : Output) (archive tables slots : List ℕ) (context until : ℕ) (whole : List Argument) where
  -- the bytes of arguments
  abbrev written : List Argument → List ℕ
  written l = arguments_bytes start.format archive tables slots context until l

  -- where a walk that writes arguments stands: those that are left are still to be written, and fit
  pub record Walk (here : Output) (left : List Argument) : Type 0 where
    pub writing : Writing start (written whole) here (written left)
    pub fit : ArgumentsFit start.format archive tables slots context until left
    pub space : start.place + length (written whole) ≤ length start.buffer.now

  -- the same list of those that are left
  pub walk_as : {here : Output} {left left' : List Argument} → left ≡ left' → Walk here left → Walk here left'
  walk_as {here} e w = subst (Walk here) e w

  -- there is room for the first of those that are left
  pub walk_fits : {here : Output} {a : Argument} {l : List Argument} → Walk here (a ∷ l)
      → here.place + length (argument_bytes start.format archive tables slots context until a) ≤ length here.buffer.now
  walk_fits {a = a} {l} w = writing_fits (argument_bytes start.format archive tables slots context until a) (written l) w.writing w.space

  -- and once it is written the walk goes on behind it
  pub walk_goes_on : {here next : Output} {a : Argument} {l : List Argument} {part : Format → List ℕ} → Walk here (a ∷ l)
      → part start.format ≡ argument_bytes start.format archive tables slots context until a → Writes here part next → Walk next l
  walk_goes_on {l = l} w e k = record {
    writing = writing_goes_on k (writing_as w.writing (ap (λ (b : List ℕ). b ++ written l) (sym e)));
    fit = w.fit.1;
    space = w.space;
  }

  -- where none is left, all are written
  pub walk_ends : {here : Output} → Walk here [] → Writes start (λ f. written whole) here
  walk_ends w = writing_ends w.writing

-- ---- records

-- how its three references are spelled
pub record ReportSpelled (f : Format) (archive tables slots : List ℕ) (s : State) (r : Report) (first second third : Spelled) : Type 0 where
  pub first-is : SpelledAs archive first (first_spelled f archive tables slots s r)
  pub second_is : SpelledAs archive second (second_spelled f archive tables slots s r)
  pub third-is : SpelledAs archive third (third_spelled f archive tables slots s r)

module _ (f : Format) (archive tables slots : List ℕ) (s : State) (r : Report) (next : ℕ) (first second third : Spelled)
    (p : ReportSpelled f archive tables slots s r first second third) where
  -- a record behind its header: its pieces, its arguments and its last word
  pub body_parts : parts_bytes f (spelled_pieces f archive r first second third)
      ++ (arguments_bytes f archive tables slots s.current s.place (arguments_to f archive r next) ++ words_bytes f (last_words (own_layout r.own).behind r.last))
      ≡ report_body f archive tables slots s r next
  unfolding report_body
  body_parts = rw (p.first-is.0, p.first-is.1, p.second_is.0, p.second_is.1, p.third-is.0, p.third-is.1)

  -- a part is spelled as what it is spelled as
  part_as : (table : ℕ) (x y : Spelled) → SpelledAs archive x y → reference_of (spelled_part f archive table x) ≡ reference_of (spelled_part f archive table y)
  part_as table x y e = rw (e.0, e.1)

  -- so the fields of its header are the same
  fields_as : spelled_fields f archive r first second third
      ≡ spelled_fields f archive r (first_spelled f archive tables slots s r) (second_spelled f archive tables slots s r) (third_spelled f archive tables slots s r)
  fields_as =
      header_same r.own r.count r.count _ _ _ _ _ _ (length (stream_of archive r)) _ refl (part_as r.first.table first _ p.first-is)
      (part_as r.second.table second _ p.second_is) (part_as r.third.table third _ p.third-is) refl

  -- the values of its header fit
  pub report-header : SpelledHeaderFits f archive r (first_spelled f archive tables slots s r) (second_spelled f archive tables slots s r)
      (third_spelled f archive tables slots s r) → SpelledHeaderFits f archive r first second third
  report-header fit = subst FieldsFit (sym fields_as) fit

  -- a record is as long as its header and what is behind it
  pub report-long : length (report_bytes f archive tables slots s r next) ≡ 8 + length (report_body f archive tables slots s r next)
  unfolding report_bytes
  report-long = length_headed f _ (report_body f archive tables slots s r next)

  -- and as its header and its parts
  pub report_parts_long : length (report_bytes f archive tables slots s r next)
      ≡ 8
      + (length (parts_bytes f (spelled_pieces f archive r first second third))
      + (length (arguments_bytes f archive tables slots s.current s.place (arguments_to f archive r next))
      + length (words_bytes f (last_words (own_layout r.own).behind r.last))))
  report_parts_long =
      let pieces = parts_bytes f (spelled_pieces f archive r first second third) in
      let arguments = arguments_bytes f archive tables slots s.current s.place (arguments_to f archive r next) in
      let last = words_bytes f (last_words (own_layout r.own).behind r.last) in
      omega (arith, report-long, ap length body_parts, length-append pieces (arguments ++ last), length-append arguments last)

  -- its header is eight bytes
  pub header_long : (size : ℕ) → length (spelled_header f archive size r first second third) ≡ 8
  header_long size = length-word_bytes f.order _

  -- a header of this size in words, and the parts, are the record
  pub report_joined : (size : ℕ) → size ≡ 1 + length (report_body f archive tables slots s r next) / 8
      → spelled_header f archive size r first second third
      ++ (parts_bytes f (spelled_pieces f archive r first second third)
      ++ (arguments_bytes f archive tables slots s.current s.place (arguments_to f archive r next)
      ++ words_bytes f (last_words (own_layout r.own).behind r.last)))
      ≡ report_bytes f archive tables slots s r next
  unfolding report_bytes
  report_joined size e = rw (body_parts, e, fields_as)
