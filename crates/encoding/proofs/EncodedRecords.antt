-- A record as it is written reads back: its header word and fields, its body behind them, and the registrations of texts and threads.
-- Assumes nothing.
use Prim.Native.Nat.{ℕ, ◌+◌, ◌*◌, ◌/◌, ◌%◌, ◌^◌, ◌<◌, ◌≤◌}
use mathlib.Core.Path.{◌≡◌, refl, sym, ap, ◌∙◌}
use mathlib.Core.List.{List, [], ◌∷◌, ◌++◌, append-nil}
use native.Mathlib.Omega.{arith}
use borrow.Author.Tests.{le-ltb, ne_eqb}
use lib.ListN.{length, take, drop, length-append}
use lib.Seq.{take-append_seam}
use Rattle.words.specs.Word.{word_at, word_bytes, Field, ◌of◌, pack}
use Rattle.words.specs.Stream.{stream_words, padded}
use Rattle.words.proofs.Fields.{Fits, widths, offset, width, value, field_law, pack_lt}
use Rattle.words.proofs.Words.{At, at_left, at_right, length-word_bytes, word-is, stream-is}
use Rattle.words.proofs.Streams.{length-padded}
use Rattle.format.specs.declared.Format.{Format}
use Rattle.format.specs.Header.{record_words, extent_of}
use Rattle.format.specs.Part.{take_part, take_parts}
use Rattle.records.specs.declared.Content.TheVariants.{String, Thread}
use Rattle.records.specs.Layout.{is_event, event_layout, layout_of}
use Rattle.records.specs.Record.{string_of, thread_of, content_of, record_of, record_at}
use Rattle.records.specs.Item.{Thread as ThreadWords, thread}
use Rattle.encoding.specs.Encoded.{thread_inline, part_bytes, record_bytes, string_record, thread_record}
use Rattle.encoding.proofs.EncodedParts.{length_part, words_read_lem, stream_read, thread-is}

-- ---- any record

-- the fields of a header: type and size come first, the others are the record's own
abbrev pub header_fields : ℕ → List Field → List ℕ → List Field
header_fields type fields body = type of 4 ∷ (1 + length body / 8) of 12 ∷ fields

-- what can be written as a record: its values fit their fields, the fields fill a word, the body is whole words
pub record RecordFits (type : ℕ) (fields : List Field) (body : List ℕ) : Type 0 where
  pub fits : Fits (header_fields type fields body)
  pub full : widths fields ≡ 48
  pub whole : length body % 8 ≡ 0

-- a list stands at its own start
pub at_start : (l : List ℕ) → At l 0 l
at_start l = ([], sym (append-nil l))

-- a record is a word longer than its body
pub length_record : (f : Format) (type : ℕ) (fields : List Field) (body : List ℕ) → length (record_bytes f type fields body) ≡ 8 + length body
length_record f type fields body =
    let header = pack (header_fields type fields body) in
    length-append (word_bytes f.order header) body ∙ ap (λ (n : ℕ). n + length body) (length-word_bytes f.order header)

-- where a record stands, its body stands right behind its header
pub body_at : (f : Format) (type : ℕ) (fields : List Field) (body bytes : List ℕ) (place : ℕ) → At bytes place (record_bytes f type fields body)
    → At bytes (place + 8) body
body_at f type fields body bytes place at =
    let header = pack (header_fields type fields body) in
    rw (length-word_bytes f.order header) at (at_right bytes place (word_bytes f.order header) body at)

module _ (f : Format) {type : ℕ} {fields : List Field} {body : List ℕ} (fit : RecordFits type fields body) where
  -- a record is as long as its size field says
  pub length-size : length (record_bytes f type fields body) ≡ 8 * (1 + length body / 8)
  length-size = omega (arith, length_record f type fields body, fit.whole)

  -- where a record stands, its header is read
  pub header_is : (bytes : List ℕ) (place : ℕ) → At bytes place (record_bytes f type fields body)
      → word_at f.order bytes place ≡ pack (header_fields type fields body)
  header_is bytes place at =
      let header = header_fields type fields body in
      let small : pack header < 256 ^ 8 = rw fit.full at (pack_lt header fit.fits) in
      word-is f.order bytes place (pack header) small (at_left bytes place (word_bytes f.order (pack header)) body at)

  -- and each field of it
  pub field_is : (i : ℕ) (bytes : List ℕ) (place : ℕ) → At bytes place (record_bytes f type fields body)
      → word_at f.order bytes place / 2 ^ offset i (header_fields type fields body) % 2 ^ width i (header_fields type fields body)
      ≡ value i (header_fields type fields body)
  field_is i bytes place at = rw (header_is bytes place at) (field_law i (header_fields type fields body) fit.fits)

  -- the same in the bytes of the record alone
  pub own-field : (i : ℕ)
      → word_at f.order (record_bytes f type fields body) 0 / 2 ^ offset i (header_fields type fields body) % 2 ^ width i (header_fields type fields body)
      ≡ value i (header_fields type fields body)
  own-field i = field_is i (record_bytes f type fields body) 0 (at_start (record_bytes f type fields body))

  -- a record is read as all of its bytes, whatever stands behind it
  pub record_read : type < 15 → (rest : List ℕ) (place : ℕ)
      → record_of f (record_bytes f type fields body ++ rest) place
      ≡ record { content = content_of f (record_bytes f type fields body) place; next = place + length (record_bytes f type fields body) }
  unfolding record_of extent_of record_words
  record_read known rest place =
      let source = record_bytes f type fields body in
      let long = length-append source rest in
      rw (
        field_is 0 (source ++ rest) 0 (rest, refl),
        field_is 1 (source ++ rest) 0 (rest, refl),
        ne_eqb type 15 (omega arith),
        ne_eqb (1 + length body / 8) 0 (omega arith),
        ← length-size,
        le-ltb (length (source ++ rest)) 8 (omega (arith, long, length_record f type fields body)),
        le-ltb (length (source ++ rest)) (length source) (omega (arith, long)),
        take-append_seam source rest,
      )

  -- the same in an archive
  pub record_at_lem : type < 15 → (archive : List ℕ) (place : ℕ) → At archive place (record_bytes f type fields body)
      → record_at f archive place
      ≡ record { content = content_of f (record_bytes f type fields body) place; next = place + length (record_bytes f type fields body) }
  record_at_lem known archive place at = rw at.1 (record_read known at.0 place)

-- a text that is a record's body is read behind the header
pub body-text : (f : Format) (type : ℕ) (fields : List Field) (b bytes : List ℕ) (place : ℕ) → At bytes place (record_bytes f type fields (padded b))
    → take (length b) (drop (place + 8) bytes) ≡ b
body-text f type fields b bytes place at = stream-is bytes (place + 8) b (body_at f type fields (padded b) bytes place at)

-- and so are the two words of a thread
pub body-thread : (f : Format) (type : ℕ) (fields : List Field) (p t : ℕ) (bytes : List ℕ) (place : ℕ) → p < 256 ^ 8 → t < 256 ^ 8
    → At bytes place (record_bytes f type fields (part_bytes f (thread_inline (thread p t))))
    → (word_at f.order bytes (place + 8) ≡ p) × (word_at f.order bytes (place + 8 + 8) ≡ t)
body-thread f type fields p t bytes place hp ht at =
    thread-is f bytes (place + 8) p t hp ht (body_at f type fields (part_bytes f (thread_inline (thread p t))) bytes place at)

-- ---- registrations

-- what can be written as a string record: an index and a text that the format allows, and that fit their fields
pub record StringFits (f : Format) (index : ℕ) (b : List ℕ) : Type 0 where
  pub some : 0 < index
  pub low : index ≤ f.highest
  pub index_bits : index < 2 ^ 15
  pub short : length b ≤ f.longest
  pub length_bits : length b < 2 ^ 15
  pub size_bits : 1 + stream_words (length b) < 2 ^ 12

-- its values fit their fields
pub string_fits : (f : Format) (index : ℕ) (b : List ℕ) → StringFits f index b
    → RecordFits 2 (index of 15 ∷ 0 of 1 ∷ length b of 15 ∷ 0 of 17 ∷ []) (padded b)
string_fits f index b s =
    record {
      fits = omega (arith, s.index_bits, s.length_bits, s.size_bits, length-padded b);
      full = refl;
      whole = omega (arith, length-padded b);
    }

-- a string record is read as its index and its text, which stands behind the header
pub string_read : (f : Format) (index : ℕ) (b : List ℕ) (place : ℕ) → StringFits f index b
    → content_of f (string_record f index b) place ≡ String index (place + 8) (length b)
unfolding content_of layout_of event_layout is_event string_of take_parts take_part
string_read f index b place s =
    let fit = string_fits f index b s in
    rw (
      own-field f fit 0,
      own-field f fit 2,
      own-field f fit 4,
      ne_eqb index 0 (omega (arith, s.some)),
      le-ltb f.highest index s.low,
      stream_read f (length b) (place + 8) (string_record f index b) place s.short
          (omega (arith, length-size f fit, length-padded b)),
    )

-- a thread record's values fit their fields
pub thread-fits : (f : Format) (index : ℕ) (t : ThreadWords) → index < 2 ^ 8 → RecordFits 3 (index of 8 ∷ 0 of 40 ∷ []) (part_bytes f (thread_inline t))
thread-fits f index t h =
    let size = length_part f (thread_inline t) in
    record { fits = omega (arith, size); full = refl; whole = omega (arith, size) }

-- a thread record is read as its index and its thread, which stands behind the header
pub thread_read : (f : Format) (index : ℕ) (t : ThreadWords) (place : ℕ) → 0 < index → index < 2 ^ 8
    → content_of f (thread_record f index t) place ≡ Thread index (place + 8)
unfolding content_of layout_of event_layout is_event thread_of take_parts take_part
thread_read f index t place some h =
    let fit = thread-fits f index t h in
    rw (
      own-field f fit 0,
      own-field f fit 2,
      ne_eqb index 0 (omega arith),
      words_read_lem 2 (place + 8) (thread_record f index t) place (omega (arith, length-size f fit, length_part f (thread_inline t))),
    )
