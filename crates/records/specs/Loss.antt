-- What a record loses when it is repacked, after number 10 of document 01: "a skipped record, an unknown argument, appended words,
-- or a nonzero reserved or padding bit, in any record but string or thread records of index 0". Reserved bits are those that its list of fields leaves out.
use Rattle.std.specs.Prelude.{ℕ, ◌+◌, ◌-◌, ◌*◌, List, Bool, true, false, ◌&&◌, length, drop, eqb}
use Rattle.words.specs.Word.{word_at, field}
use Rattle.words.specs.Stream.{stream_words}
use Rattle.format.specs.declared.Format.{Format}
use Rattle.format.specs.declared.Reference.TheVariants.{Inline}
use Rattle.format.specs.Part.{padding_zero}
use Rattle.arguments.specs.Loss.{arguments_keep}
use Rattle.records.specs.declared.Report.{Report}
use Rattle.records.specs.declared.Content.{Content}
use Rattle.records.specs.declared.Content.TheVariants.{Refused, Magic, ProviderInfo, Section, ProviderEvent, Initialization, String, Thread, Report as ReportRead, Ignored, Skipped}
use Rattle.records.specs.Layout.{layout_of}

-- a record of so many words whose reserved bits are these
unfoldable pub words_keep : List ℕ → ℕ → ℕ → Bool
words_keep source size reserved = eqb (length source) (8 * size) && eqb reserved 0

-- a record that is its header and a stream, and whose reserved bits are these
unfoldable pub stream_keeps : List ℕ → ℕ → ℕ → ℕ → ℕ → Bool
stream_keeps source place at long reserved =
    words_keep source (1 + stream_words long) reserved && padding_zero source place (Inline at long)

-- a record that refers to texts and threads, by its layout
unfoldable pub report_keeps : Format → List ℕ → ℕ → Report → Bool
report_keeps f source place r =
    let l = layout_of (word_at f.order source 0) in
    eqb l.reserved 0
    && (padding_zero source place r.first.reference
    && (padding_zero source place r.second.reference
    && (padding_zero source place r.third.reference
    && (padding_zero source place r.stream
    && arguments_keep f r.count (drop (r.arguments - place) source) r.arguments (8 * l.behind)))))

-- whether the record is written again as it is
unfoldable pub record_keeps : Format → List ℕ → ℕ → Content → Bool
record_keeps f source place (Refused number) = false
record_keeps f source place Magic = true
record_keeps f source place (ProviderInfo id at long) = stream_keeps source place at long (field 60 63 (word_at f.order source 0))
record_keeps f source place (Section id) = words_keep source 1 (field 52 63 (word_at f.order source 0))
record_keeps f source place (ProviderEvent id event) = words_keep source 1 (field 56 63 (word_at f.order source 0))
record_keeps f source place (Initialization rate) = words_keep source 2 (field 16 63 (word_at f.order source 0))
record_keeps f source place (String index at long) =
    stream_keeps source place at long (field 31 31 (word_at f.order source 0) + field 47 63 (word_at f.order source 0))
record_keeps f source place (Thread index at) = words_keep source 3 (field 24 63 (word_at f.order source 0))
record_keeps f source place (ReportRead r) = report_keeps f source place r
record_keeps f source place Ignored = true
record_keeps f source place (Skipped type size) = false
