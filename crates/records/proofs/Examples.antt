-- Document 01's nine words, and logs, read record by record: computed of the definitions. Assumes nothing.
use Prim.Native.Nat.{ℕ}
use mathlib.Core.Path.{◌≡◌, refl}
use mathlib.Core.List.{[], List, ◌∷◌, ◌++◌}
use mathlib.Core.Bool.{true}
use lib.ListN.{take, drop}
use Rattle.words.specs.Word.{word_at, little, little_at, bytes_of}
use Rattle.words.specs.Stream.{magic, starts_with_magic}
use Rattle.format.specs.declared.Reference.TheVariants.{Inline, Index}
use Rattle.format.specs.Limits.{small_format}
use Rattle.format.specs.Header.{record_words, extent_of}
use Rattle.format.specs.Part.{take_words, take_stream, take_text, take_thread, take_part, take_parts, padding_zero, table_of}
use Rattle.arguments.specs.declared.Scalar.TheVariants.{Unsigned32}
use Rattle.arguments.specs.declared.Value.TheVariants.{Scalar}
use Rattle.arguments.specs.Argument.{header_scalar, holds_word, word_scalar, argument_body, argument_of, arguments_of}
use Rattle.arguments.specs.Loss.{value_bytes, reserved_bits, value_padding_zero, argument_keeps, arguments_keep}
use Rattle.records.specs.declared.Own.TheVariants.{Event as EventOwn, Log as LogOwn}
use Rattle.records.specs.declared.Report.{Report}
use Rattle.records.specs.declared.Content.TheVariants.{Magic, String, Refused, Report as ReportRead}
use Rattle.records.specs.Layout.{has_extra, extra_words, is_event, event_layout, log_layout, layout_of, event_of, log_of, own_of, take_fields, last_word, report_of}
use Rattle.records.specs.Models.Layouts.{report_arguments}
use Rattle.records.specs.Record.{provider_info_of, metadata_of, initialization_of, string_of, thread_of, content_of, record_of, record_at}
use Rattle.records.specs.Loss.{words_keep, stream_keeps, report_keeps, record_keeps}

-- the words of an archive, one after another
abbrev archive_of : List ℕ → List ℕ
archive_of [] = []
archive_of (w ∷ ws) = bytes_of 8 w ++ archive_of ws

-- document 01's nine words: "charge" and "sun" are spelled as numbers, the first letter lowest
abbrev nine : List ℕ
nine =
    archive_of (0x0016547846040010 ∷ 0x0000000600010022 ∷ 0x0000656772616863 ∷ 0x8003000100100064 ∷ 100 ∷ 7 ∷ 8 ∷ 0x00000000006E7573 ∷ 0x0000002A00010012 ∷ [])

abbrev nine_event : Report
nine_event =
    record {
      own = EventOwn (record { variant = 0; timestamp = 100 });
      first = record { table = 3; reference = Inline 40 16 };
      second = record { table = 2; reference = Index 1 };
      third = record { table = 2; reference = Inline 56 3 };
      stream = Inline 64 0;
      count = 1;
      arguments = 64;
      last = 0;
    }

-- request W1: a log of thread 1 at 200 with the message "hot", and one of an inline thread without a message
abbrev logs : List ℕ
logs = archive_of (0x0016547846040010 ∷ 0x0000000100030039 ∷ 200 ∷ 0x0000000000746F68 ∷ 0x0000000000000049 ∷ 300 ∷ 7 ∷ 8 ∷ [])

abbrev indexed_log : Report
indexed_log =
    record {
      own = LogOwn (record { timestamp = 200 });
      first = record { table = 3; reference = Index 1 };
      second = record { table = 2; reference = Inline 24 0 };
      third = record { table = 2; reference = Inline 24 0 };
      stream = Inline 24 3;
      count = 0;
      arguments = 32;
      last = 0;
    }

abbrev silent_log : Report
silent_log =
    record {
      own = LogOwn (record { timestamp = 300 });
      first = record { table = 3; reference = Inline 48 16 };
      second = record { table = 2; reference = Inline 64 0 };
      third = record { table = 2; reference = Inline 64 0 };
      stream = Inline 64 0;
      count = 0;
      arguments = 64;
      last = 0;
    }

-- "A log of size 1 with length 300 is 6; of size 2 with a thread index and length 300 is 7"
abbrev short : List ℕ
short = archive_of (0x00000001012C0019 ∷ 0x00000001012C0029 ∷ 200 ∷ [])

pub record Table : Type 0 where
  pub nine_magic : record_at small_format nine 0 ≡ record { content = Magic; next = 8 }
  pub nine_string : record_at small_format nine 8 ≡ record { content = String 1 16 6; next = 24 }
  pub nine_event_lem : record_at small_format nine 24 ≡ record { content = ReportRead nine_event; next = 72 }
  pub nine_arguments : report_arguments small_format (drop 24 nine) 24 nine_event ≡ record { name = Index 1; value = Scalar (Unsigned32 42) } ∷ []
  pub nine_keeps : record_keeps small_format (drop 24 nine) 24 (ReportRead nine_event) ≡ true
  pub log_indexed : record_at small_format logs 8 ≡ record { content = ReportRead indexed_log; next = 32 }
  pub log_silent : record_at small_format logs 32 ≡ record { content = ReportRead silent_log; next = 64 }
  pub log_small : record_at small_format short 0 ≡ record { content = Refused 6; next = 8 }
  pub log_long : record_at small_format short 8 ≡ record { content = Refused 7; next = 24 }
  pub log_keeps : record_keeps small_format (take 24 (drop 8 logs)) 8 (ReportRead indexed_log) ≡ true

pub table : Table
unfolding little little_at word_at bytes_of magic starts_with_magic record_words extent_of take_words take_stream take_text take_thread take_part take_parts padding_zero
    header_scalar holds_word word_scalar argument_body argument_of arguments_of value_bytes reserved_bits value_padding_zero argument_keeps arguments_keep
    has_extra extra_words is_event event_layout log_layout layout_of event_of log_of own_of table_of take_fields last_word report_of provider_info_of metadata_of initialization_of string_of thread_of
    content_of record_of words_keep stream_keeps report_keeps record_keeps
table =
    record {
      nine_magic = refl;
      nine_string = refl;
      nine_event_lem = refl;
      nine_arguments = refl;
      nine_keeps = refl;
      log_indexed = refl;
      log_silent = refl;
      log_small = refl;
      log_long = refl;
      log_keeps = refl;
    }
