-- A record as it is written loses nothing when it is repacked: it is as long as its content, and its reserved and padding bits are zero.
-- Assumes nothing.
use Prim.Native.Nat.{ℕ, ◌+◌, ◌-◌, ◌*◌, ◌^◌, ◌<◌, ◌≤◌}
use mathlib.Core.Path.{◌≡◌, refl, ap}
use mathlib.Core.List.{List, [], ◌∷◌, ◌++◌, append_assoc}
use mathlib.Core.Bool.{true, false}
use native.Mathlib.Omega.{arith}
use native.Mathlib.Nat.{add-sub_cancel_left}
use borrow.Author.Tests.{eq-eqb, lt-ltb}
use lib.ListN.{length, drop, length-append}
use lib.Seq.{drop_at, drop-append_seam}
use Rattle.words.specs.Word.{word_at, word_bytes, field, ◌of◌, pack}
use Rattle.words.specs.Stream.{stream_words, padding_of, padded}
use Rattle.words.proofs.Words.{At, at_left, at_right, length-word_bytes}
use Rattle.words.proofs.Streams.{length-padded, padding_is}
use Rattle.format.specs.declared.Format.{Format}
use Rattle.format.specs.declared.Reference.{Reference}
use Rattle.format.specs.Part.{inline_bytes, padding_zero}
use Rattle.arguments.specs.declared.Scalar.{Scalar}
use Rattle.arguments.specs.declared.Scalar.TheVariants.{Null, Signed32, Unsigned32, Signed64, Unsigned64, Double, Pointer, KernelObject, Boolean, Unknown}
use Rattle.arguments.specs.Argument.{argument_type, scalar_type}
use Rattle.arguments.proofs.Bounds.{ScalarFits}
use Rattle.arguments.specs.Loss.{value_bytes, argument_bytes, reserved_bits, value_padding_zero, argument_keeps, arguments_keep}
use Rattle.records.specs.declared.Content.TheVariants.{String, Thread, Report as ReportRead}
use Rattle.records.specs.Record.{content_of}
use Rattle.records.specs.Loss.{words_keep, stream_keeps, report_keeps, record_keeps}
use Rattle.records.specs.Item.{Thread as ThreadWords, Value, scalar, text, Argument, Report, own_layout, last_words, Item, magic, provider_info, section, provider_event, initialization, report, skipped, report_layout, layout_of_item, Key}
use Rattle.encoding.specs.Encoded.{Encoded, word, words, stream, words_bytes, text_index, thread_index, text_inline, thread_inline, part_bytes, parts_bytes}
use Rattle.encoding.specs.Encoded.{record_bytes, encoded_text, scalar_half, argument_record, arguments_records, layout_header, layout_body, string_record, thread_record, item_record}
use Rattle.encoding.proofs.EncodedParts.{reference_at, references_at, part_words, parts_words, length-words, length_part}
use Rattle.encoding.proofs.EncodedRecords.{header_fields, at_start, length_record, length-size, field_is, own-field, body_at, StringFits, string_fits, thread-fits}
use Rattle.encoding.proofs.EncodedArguments.{ValueFits, encoded_value, ArgumentFits, AllFit, argument_words, AllSized, all_sized, text_encoded, scalar_parts_lem, type_of, half_of, argument_fields, argument_record_lem, value_at, argument_at, argument_fits, argument_read, length_argument}
use Rattle.encoding.proofs.EncodedLayouts.{behind_pieces, length_layout, ItemFits, pieces_at}
use Rattle.records.proofs.Bounds.{behind-few}
use Rattle.encoding.proofs.EncodedReports.{report_parts, report_record, length_last, own_encoded, report_at, report_content}
use Rattle.encoding.proofs.EncodedItems.{item_fits, magic_read, provider_info_read, section_read, provider_event_read, initialization_read}

-- ---- padding

-- behind a part that is written stands zero padding; `at` is its place, `start` that of the bytes that it is looked for in
pub part_keeps : (f : Format) (source : List ℕ) (start at : ℕ) (w : Encoded) → start ≤ at → At source (at - start) (part_bytes f w)
    → padding_zero source start (reference_at w at) ≡ true
unfolding padding_zero
part_keeps f source start at (word n) low there = refl
part_keeps f source start at (words ns) low there =
    let none : padding_of (8 * length ns) ≡ 0 = omega arith in rw none
part_keeps f source start at (stream b) low there =
    let same : at - start + length b ≡ at + length b - start = omega arith in rw same at (padding_is source (at - start) b there)
part_keeps f source start at (text_index index) low there = refl
part_keeps f source start at (thread_index index) low there = refl
part_keeps f source start at (text_inline b) low there =
    let same : at - start + length b ≡ at + length b - start = omega arith in rw same at (padding_is source (at - start) b there)
part_keeps f source start at (thread_inline t) low there = refl

-- zero padding stands behind each of these references
abbrev pub AllKeep : List ℕ → ℕ → List Reference → Type 0
AllKeep source start [] = Unit {0}
AllKeep source start (r ∷ rs) = (padding_zero source start r ≡ true) × AllKeep source start rs

-- and so for parts that are written one behind the other
pub parts_keep : (f : Format) (source : List ℕ) (start at : ℕ) (ws : List Encoded) → start ≤ at → At source (at - start) (parts_bytes f ws)
    → AllKeep source start (references_at f ws at)
parts_keep f source start at [] low there = tt
parts_keep f source start at (w ∷ ws) low there =
    let n = length (part_bytes f w) in
    let same : at - start + n ≡ at + n - start = omega arith in (
      part_keeps f source start at w low (at_left source (at - start) (part_bytes f w) (parts_bytes f ws) there),
      parts_keep f source start (at + n) ws (omega arith) (rw same at (at_right source (at - start) (part_bytes f w) (parts_bytes f ws) there)),
    )

-- ---- records that refer to nothing

words_keep_lem : (source : List ℕ) (size : ℕ) → length source ≡ 8 * size → words_keep source size 0 ≡ true
unfolding words_keep
words_keep_lem source size long = rw (eq-eqb (length source) (8 * size) long)

stream_keeps_lem : (f : Format) (source : List ℕ) (place : ℕ) (b : List ℕ) → length source ≡ 8 * (1 + stream_words (length b)) → At source 8 (padded b)
    → stream_keeps source place (place + 8) (length b) 0 ≡ true
unfolding stream_keeps
stream_keeps_lem f source place b long there =
    rw (
      words_keep_lem source (1 + stream_words (length b)) long,
      part_keeps f source place (place + 8) (text_inline b) (omega arith) (rw (add-sub_cancel_left place 8) there),
    )

-- a string record loses nothing
pub string_keeps : (f : Format) (index : ℕ) (b : List ℕ) (place : ℕ) → StringFits f index b
    → record_keeps f (string_record f index b) place (String index (place + 8) (length b)) ≡ true
unfolding record_keeps
string_keeps f index b place s =
    let fit = string_fits f index b s in
    let fields = index of 15 ∷ 0 of 1 ∷ length b of 15 ∷ 0 of 17 ∷ [] in
    let source = string_record f index b in
    rw (own-field f fit 3, own-field f fit 5)
    (stream_keeps_lem f source place b (omega (arith, length_record f 2 fields (padded b), length-padded b))
    (body_at f 2 fields (padded b) source 0 (at_start source)))

-- nor does a thread record
pub thread_keeps : (f : Format) (index : ℕ) (t : ThreadWords) (place : ℕ) → index < 2 ^ 8
    → record_keeps f (thread_record f index t) place (Thread index (place + 8)) ≡ true
unfolding record_keeps
thread_keeps f index t place h =
    let fit = thread-fits f index t h in
    rw (own-field f fit 3) (words_keep_lem (thread_record f index t) 3 (omega (arith, length-size f fit, length_part f (thread_inline t))))

-- ---- arguments

-- a header whose type is known, and whose reserved bits are zero
record HeaderKeeps (header : ℕ) : Type 0 where
  known : argument_type header < 10
  reserved : reserved_bits header ≡ 0

-- types 0, 3, 4, 5, 7 and 8 have the upper half reserved, 9 all of it but its lowest bit, 1 and 2 nothing
scalar-header : (header : ℕ) (s : Scalar) → ScalarFits s → argument_type header ≡ scalar_type s → field 32 63 header ≡ scalar_half s
    → HeaderKeeps header
unfolding reserved_bits
scalar-header header Null fit type half = record { known = omega arith; reserved = rw type half }
scalar-header header (Signed32 z) fit type half = record { known = omega arith; reserved = rw type }
scalar-header header (Unsigned32 n) fit type half = record { known = omega arith; reserved = rw type }
scalar-header header (Signed64 z) fit type half = record { known = omega arith; reserved = rw type half }
scalar-header header (Unsigned64 n) fit type half = record { known = omega arith; reserved = rw type half }
scalar-header header (Double n) fit type half = record { known = omega arith; reserved = rw type half }
scalar-header header (Pointer n) fit type half = record { known = omega arith; reserved = rw type half }
scalar-header header (KernelObject n) fit type half = record { known = omega arith; reserved = rw type half }
scalar-header header (Boolean true) fit type half = record { known = omega arith; reserved = rw type (omega (arith, half)) }
scalar-header header (Boolean false) fit type half = record { known = omega arith; reserved = rw type (omega (arith, half)) }
scalar-header header (Unknown t) fit type half = absurd fit

value-header : (f : Format) (index : Key → ℕ) (header : ℕ) (v : Value) → ValueFits f index v → argument_type header ≡ type_of v
    → field 32 63 header ≡ half_of index v → HeaderKeeps header
unfolding reserved_bits
value-header f index header (scalar s) fit type half = scalar-header header s fit type half
value-header f index header (text t) fit type half =
    let bits = (text_encoded f index t fit).bits in
    record { known = omega arith; reserved = rw type (omega (arith, half, bits)) }

-- a part has as many bytes inline as it is long
part_bytes_lem : (w : Encoded) (at : ℕ) → inline_bytes (reference_at w at) ≡ 8 * part_words w
part_bytes_lem (word n) at = refl
part_bytes_lem (words ns) at = omega arith
part_bytes_lem (stream b) at = refl
part_bytes_lem (text_index index) at = refl
part_bytes_lem (thread_index index) at = refl
part_bytes_lem (text_inline b) at = refl
part_bytes_lem (thread_inline t) at = refl

value_bytes_lem : (index : Key → ℕ) (v : Value) (at : ℕ) → value_bytes (value_at index v at) ≡ 8 * parts_words (encoded_value index v)
unfolding value_bytes
value_bytes_lem index (scalar s) at = omega (arith, scalar_parts_lem s)
value_bytes_lem index (text t) at = omega (arith, part_bytes_lem (encoded_text index t) at)

value_padding : (f : Format) (source : List ℕ) (start at : ℕ) (index : Key → ℕ) (v : Value) → start ≤ at
    → At source (at - start) (parts_bytes f (encoded_value index v)) → value_padding_zero source start (value_at index v at) ≡ true
unfolding value_padding_zero
value_padding f source start at index (scalar s) low there = refl
value_padding f source start at index (text t) low there =
    let w = encoded_text index t in part_keeps f source start at w low (at_left source (at - start) (part_bytes f w) [] there)

-- an argument that fits loses nothing, whatever stands behind it
pub argument_keeps_lem : (f : Format) (index : Key → ℕ) (a : Argument) (more : List ℕ) (place : ℕ) → ArgumentFits f index a
    → argument_words index a < 2 ^ 12
    → argument_keeps f (argument_record f index a ++ more) place (argument_at f index a place) (length (argument_record f index a)) ≡ true
unfolding argument_keeps
argument_keeps_lem f index a more place fit sized =
    let v = a.value in
    let name = encoded_text index a.name in
    let ws = encoded_value index v in
    let rest = argument_record f index a ++ more in
    let fields = argument_fits f index a fit sized in
    let start : At rest 0 (record_bytes f (type_of v) (argument_fields index a) (parts_bytes f (name ∷ ws))) =
    (more, ap (λ l. l ++ more) (argument_record_lem f index a)) in
    let body = body_at f (type_of v) (argument_fields index a) (parts_bytes f (name ∷ ws)) rest 0 start in
    let n = length (part_bytes f name) in
    let from : 0 + 8 ≡ place + 8 - place = omega arith in
    let from' : 0 + 8 + n ≡ place + 8 + n - place = omega arith in
    let first = rw from at (at_left rest (0 + 8) (part_bytes f name) (parts_bytes f ws) body) in
    let second = rw from' at (at_right rest (0 + 8) (part_bytes f name) (parts_bytes f ws) body) in
    let header = value-header f index (word_at f.order rest 0) v fit.value (field_is f fields 0 rest 0 start) (field_is f fields 3 rest 0 start) in
    let size : length (argument_record f index a) ≡ argument_bytes (argument_at f index a place) =
    omega (arith, length_argument f index a, part_bytes_lem name (place + 8), value_bytes_lem index v (place + 8 + n)) in
    rw (
      lt-ltb (argument_type (word_at f.order rest 0)) 10 header.known,
      header.reserved,
      eq-eqb (length (argument_record f index a)) (argument_bytes (argument_at f index a place)) size,
      part_keeps f rest place (place + 8) name (omega arith) first,
      value_padding f rest place (place + 8 + n) index v (omega arith) second,
    )

-- arguments that fit lose nothing, where as many bytes stand behind them as are asked for
pub arguments_keep_lem : (f : Format) (index : Key → ℕ) (l : List Argument) (more : List ℕ) (place : ℕ) → AllFit f index l → AllSized index l
    → arguments_keep f (length l) (arguments_records f index l ++ more) place (length more) ≡ true
unfolding arguments_keep
arguments_keep_lem f index [] more place fit sized = eq-eqb (length more) (length more) refl
arguments_keep_lem f index (a ∷ l) more place fit sized =
    let first = argument_record f index a in
    let others = arguments_records f index l in
    rw (
      append_assoc first others more,
      argument_read f index a (others ++ more) place fit.0 sized.0,
      argument_keeps_lem f index a (others ++ more) place fit.0 sized.0,
      drop-append_seam first (others ++ more),
      arguments_keep_lem f index l more (place + length first) fit.1 sized.1,
    )

-- ---- records that refer to texts and threads

-- behind the fields of a record stand its arguments and its last word, and nothing else
behind-fields : (f : Format) (index : Key → ℕ) (r : Report) (place : ℕ)
    → drop ((report_at f index r place).arguments - place) (report_record f index r) ≡ behind_pieces f index (report_layout r)
behind-fields f index r place =
    let header = word_bytes f.order (pack (header_fields (own_layout r.own).type (layout_header index (report_layout r)) (layout_body f index (report_layout r)))) in
    let fields = parts_bytes f (report_parts index r) in
    let long : length (header ++ fields) ≡ place + 8 + length fields - place =
    omega (
      arith,
      length-append header fields,
      length-word_bytes f.order (pack (header_fields (own_layout r.own).type (layout_header index (report_layout r)) (layout_body f index (report_layout r)))),
    ) in
    rw (← append_assoc header fields (behind_pieces f index (report_layout r)))
    (drop_at (header ++ fields) (behind_pieces f index (report_layout r)) (place + 8 + length fields - place) long)

-- a record that fits loses nothing
pub report_keeps_lem : (f : Format) (index : Key → ℕ) (r : Report) (place : ℕ) → ItemFits f index (report r)
    → record_keeps f (report_record f index r) place (ReportRead (report_at f index r place)) ≡ true
unfolding record_keeps report_keeps
report_keeps_lem f index r place fit =
    let source = report_record f index r in
    let x = words_bytes f (last_words (own_layout r.own).behind r.last) in
    let fields : At source (place + 8 - place) (parts_bytes f (report_parts index r)) =
    rw (add-sub_cancel_left place 8) (pieces_at f index (report_layout r) source 0 (at_start source)) in
    let long : length x ≡ 8 * (own_layout r.own).behind =
    omega (
      arith,
      length-words f (last_words (own_layout r.own).behind r.last),
      length_last (own_layout r.own).behind r.last (behind-few r.own),
    ) in
    let kept = parts_keep f source place (place + 8) (report_parts index r) (omega arith) fields in
    rw (
      (own_encoded f index r fit).layout,
      kept.1.0,
      kept.1.1.0,
      kept.1.1.1.0,
      kept.1.1.1.1.0,
      behind-fields f index r place,
      ← long,
      arguments_keep_lem f index r.arguments x (report_at f index r place).arguments fit.layout.arguments
          (all_sized index r.arguments (omega (arith, fit.layout.size))),
    )

-- ---- every item

-- an item that fits, as it is read, loses nothing
pub item_keeps : (f : Format) (index : Key → ℕ) (place : ℕ) (i : Item) → ItemFits f index i
    → record_keeps f (item_record f index i) place (content_of f (item_record f index i) place) ≡ true
unfolding record_keeps
item_keeps f index place magic fit = rw (magic_read f index place)
item_keeps f index place (provider_info id name) fit =
    let i = provider_info id name in
    let source = item_record f index i in
    rw (provider_info_read f index place id name fit, own-field f (item_fits f index i fit).fits 5)
    (stream_keeps_lem f source place name (omega (arith, length_layout f index (layout_of_item i)))
    (at_left source 8 (padded name) [] (pieces_at f index (layout_of_item i) source 0 (at_start source))))
item_keeps f index place (section id) fit =
    let i = section id in
    rw (section_read f index place id fit, own-field f (item_fits f index i fit).fits 4)
    (words_keep_lem (item_record f index i) 1 (omega (arith, length_layout f index (layout_of_item i))))
item_keeps f index place (provider_event id e) fit =
    let i = provider_event id e in
    rw (provider_event_read f index place id e fit, own-field f (item_fits f index i fit).fits 5)
    (words_keep_lem (item_record f index i) 1 (omega (arith, length_layout f index (layout_of_item i))))
item_keeps f index place (initialization rate) fit =
    let i = initialization rate in
    rw (initialization_read f index place rate fit, own-field f (item_fits f index i fit).fits 2)
    (words_keep_lem (item_record f index i) 2 (omega (arith, length_layout f index (layout_of_item i))))
item_keeps f index place (report r) fit = rw (report_content f index r place fit) (report_keeps_lem f index r place fit)
item_keeps f index place (skipped type size) fit = absurd fit.suits
