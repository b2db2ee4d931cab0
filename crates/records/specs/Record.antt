-- What stands at a place of an archive apart from tables and contexts, after the list of records in document 01.
-- `source` are the bytes of one whole record, which stands at the byte place `place`; its first word is its header.
use Rattle.std.specs.Prelude.{ℕ, ◌+◌, [], List, ◌∷◌, take, drop, eqb, ltb}
use Rattle.words.specs.Word.{pick, word_at, field}
use Rattle.words.specs.Stream.{starts_with_magic}
use Rattle.format.specs.declared.Format.{Format}
use Rattle.format.specs.declared.Reason.TheVariants.{Malformed, HighIndex}
use Rattle.format.specs.Header.{record_words, extent_of}
use Rattle.format.specs.declared.Part.TheVariants.{Words as words, Stream as stream}
use Rattle.format.specs.Part.{take_parts, on_body}
use Rattle.records.specs.declared.Content.{Content}
use Rattle.records.specs.declared.Content.TheVariants.{Magic, ProviderInfo, Section, ProviderEvent, Initialization, String, Thread, Ignored, Skipped}
use Rattle.records.specs.declared.Record.{Record}
use Rattle.records.specs.Layout.{layout_of, on_number, report_of, refused_by}

-- "Kind 1, provider info: id [20..51], name length [52..59], name stream."
unfoldable pub provider_info_of : Format → List ℕ → ℕ → Content
provider_info_of f source place =
    let header = word_at f.order source 0 in
    on_body (take_parts f (stream (field 52 59 header) ∷ []) (place + 8) source place) refused_by
    (λ references next. ProviderInfo (field 20 51 header) (place + 8) (field 52 59 header))

-- "Metadata (0): kind [16..19]. Kind 2, section: id [20..51]. Kind 3, provider event: id [20..51], event [52..55].
-- Kind 4 with trace info type 0 at [20..23]: the magic." A record that begins with the magic has one word, by its own size field.
unfoldable pub metadata_of : Format → List ℕ → ℕ → Content
metadata_of f source place =
    let header = word_at f.order source 0 in
    pick (eqb (field 16 19 header) 1) (provider_info_of f source place)
    (pick (eqb (field 16 19 header) 2) (Section (field 20 51 header))
    (pick (eqb (field 16 19 header) 3) (ProviderEvent (field 20 51 header) (field 52 55 header))
    (pick (eqb (field 16 23 header) 4) (pick (starts_with_magic source) Magic (refused_by Malformed))
    (Skipped 0 (record_words header)))))

-- "Initialization (1): one word, ticks per second."
unfoldable pub initialization_of : Format → List ℕ → ℕ → Content
initialization_of f source place =
    on_body (take_parts f (words 1 ∷ []) (place + 8) source place) refused_by
    (λ references next. Initialization (word_at f.order source 8))

-- "String (2): index [16..30], length [32..46], stream."; "for a string record 8, 7, 6"; "An index of 0 is ignored, with no further check."
unfoldable pub string_of : Format → List ℕ → ℕ → Content
string_of f source place =
    let header = word_at f.order source 0 in
    pick (eqb (field 16 30 header) 0) Ignored
    (pick (ltb f.highest (field 16 30 header)) (refused_by HighIndex)
    (on_body (take_parts f (stream (field 32 46 header) ∷ []) (place + 8) source place) refused_by
    (λ references next. String (field 16 30 header) (place + 8) (field 32 46 header))))

-- "Thread (3): index [16..23], process word, thread word."
unfoldable pub thread_of : Format → List ℕ → ℕ → Content
thread_of f source place =
    let header = word_at f.order source 0 in
    pick (eqb (field 16 23 header) 0) Ignored
    (on_body (take_parts f (words 2 ∷ []) (place + 8) source place) refused_by
    (λ references next. Thread (field 16 23 header) (place + 8)))

-- a record that refers to texts and threads, or by its type; "Every other record type, metadata type, trace info type and event type is skipped by its size, and shown as skipped."
unfoldable pub content_of : Format → List ℕ → ℕ → Content
content_of f source place =
    let header = word_at f.order source 0 in
    pick (layout_of header).read (report_of f source place)
    (pick (eqb (field 0 3 header) 0) (metadata_of f source place)
    (pick (eqb (field 0 3 header) 1) (initialization_of f source place)
    (pick (eqb (field 0 3 header) 2) (string_of f source place)
    (pick (eqb (field 0 3 header) 3) (thread_of f source place)
    (Skipped (field 0 3 header) (record_words header))))))

-- the record at the start of what is left of the archive from `place` on
unfoldable pub record_of : Format → List ℕ → ℕ → Record
record_of f rest place =
    on_number (extent_of f rest) (λ reason. record { content = refused_by reason; next = place })
    (λ size. record { content = content_of f (take size rest) place; next = place + size })

-- the record at a place
abbrev pub record_at : Format → List ℕ → ℕ → Record
record_at f archive place = record_of f (drop place archive) place
