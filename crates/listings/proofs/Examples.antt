-- Document 01's nine words and the whole listing of them, and single lines, computed of the definitions. Assumes nothing.
use Prim.Native.Nat.{ℕ}
use mathlib.Core.Path.{◌≡◌, refl}
use mathlib.Core.List.{List, [], ◌∷◌, ◌++◌}
use mathlib.Core.Bool.{true}
use lib.IntN.{negsuc}
use lib.ListN.{replicate}
use Rattle.effects.specs.Follow.{changed, stopped, followed, change_of}
use Rattle.words.specs.Word.{word_at, word_bytes, little, little_at, bytes_of}
use Rattle.words.specs.Stream.{magic, starts_with_magic, part_of}
use Rattle.format.specs.Limits.{small_format}
use Rattle.format.specs.Header.{record_words, extent_of, archive_number}
use Rattle.format.specs.Part.{take_words, take_stream, take_text, take_thread, table_of, take_part, take_parts}
use Rattle.arguments.specs.declared.Scalar.TheVariants.{Null, Signed32, Double, Boolean, Unknown}
use Rattle.arguments.specs.Argument.{header_scalar, holds_word, word_scalar, argument_body, argument_of, arguments_of, numbered_of, arguments_read}
use Rattle.arguments.specs.Models.Reading.{take_value, texts_of, value_text}
use Rattle.records.specs.Layout.{has_extra, extra_words, is_event, event_layout, log_layout, layout_of, event_of, log_of, own_of, take_fields, last_word, report_of}
use Rattle.records.specs.Record.{metadata_of, string_of, content_of, record_of}
use Rattle.records.specs.Effect.{effect_of}
use Rattle.contexts.specs.Context.{belongs_to, provider_of}
use Rattle.tables.specs.Table.{highest_of, position, registration_of, entry_at, resolved}
use Rattle.views.specs.declared.ShownText.TheVariants.{Unresolved}
use Rattle.views.specs.declared.ShownThread.TheVariants.{Unresolved as ThreadUnresolved}
use Rattle.views.specs.Shown.{is_bad, shown_text, shown_thread, shown_referent, shown_stream, shown_report, shown_value, none_bad}
use Rattle.reader.specs.Step.{opening_number, stopping, content_decision, place_decision, decision_of, report_answer, plain_answer, effect_decision}
use Rattle.reader.specs.Ask.{shown_argument, asked_report, asked_place, argument_reply}
use Rattle.lines.specs.Shown.{decimal_within, decimal, number_shown, signed_shown, boolean_shown, double_shown, unresolved_shown, bytes_shown, text_shown, thread_shown, referent_shown, provider_shown, scalar_shown, value_shown, value_type}
use Rattle.item_lines.specs.Line.{trace_line, magic_line, timestamp_shown, event_start, referents_shown, extra_shown, event_shown, log_shown, own_shown, report_line, argument_line, end_line, answer_line, asked_line, skipped_line}
use Rattle.listings.specs.Listing.{argument_lines, answer_arguments, step_lines, is_end, lines_from, listing}

-- the words of an archive, one after another
abbrev archive_of : List ℕ → List ℕ
archive_of [] = []
archive_of (w ∷ ws) = bytes_of 8 w ++ archive_of ws

-- document 01's nine words: "charge" and "sun" are spelled as numbers, the first letter lowest
abbrev nine : List ℕ
nine =
    archive_of (0x0016547846040010 ∷ 0x0000000600010022 ∷ 0x0000656772616863 ∷ 0x8003000100100064 ∷ 100 ∷ 7 ∷ 8 ∷ 0x00000000006E7573 ∷ 0x0000002A00010012 ∷ [])

-- "The whole listing", a line to a line
abbrev nine_listing : List ℕ
nine_listing =
    116 ∷ 114 ∷ 97 ∷ 99 ∷ 101 ∷ 32 ∷ 49 ∷ 10
    ∷ 77 ∷ 10
    ∷ 69 ∷ 32 ∷ 48 ∷ 32 ∷ 45 ∷ 32 ∷ 49 ∷ 48 ∷ 48 ∷ 32 ∷ 49 ∷ 48 ∷ 48 ∷ 48 ∷ 48 ∷ 48 ∷ 48 ∷ 48 ∷ 48 ∷ 48 ∷ 32 ∷ 55 ∷ 32 ∷ 56 ∷ 32
    ∷ 54 ∷ 58 ∷ 99 ∷ 104 ∷ 97 ∷ 114 ∷ 103 ∷ 101 ∷ 32 ∷ 51 ∷ 58 ∷ 115 ∷ 117 ∷ 110 ∷ 32 ∷ 49 ∷ 10
    ∷ 65 ∷ 32 ∷ 50 ∷ 32 ∷ 54 ∷ 58 ∷ 99 ∷ 104 ∷ 97 ∷ 114 ∷ 103 ∷ 101 ∷ 32 ∷ 52 ∷ 50 ∷ 10
    ∷ 101 ∷ 110 ∷ 100 ∷ 32 ∷ 48 ∷ 32 ∷ 55 ∷ 50 ∷ 10 ∷ []

-- a log of the thread 7 8 at 200 with the message "hot", and its listing: `L - 200 1000000000 7 8 3:hot`
abbrev hot : List ℕ
hot = archive_of (0x0016547846040010 ∷ 0x0000000000030059 ∷ 200 ∷ 7 ∷ 8 ∷ 0x0000000000746F68 ∷ [])

abbrev hot_listing : List ℕ
hot_listing =
    116 ∷ 114 ∷ 97 ∷ 99 ∷ 101 ∷ 32 ∷ 49 ∷ 10
    ∷ 77 ∷ 10
    ∷ 76 ∷ 32 ∷ 45 ∷ 32 ∷ 50 ∷ 48 ∷ 48 ∷ 32 ∷ 49 ∷ 48 ∷ 48 ∷ 48 ∷ 48 ∷ 48 ∷ 48 ∷ 48 ∷ 48 ∷ 48 ∷ 32 ∷ 55 ∷ 32 ∷ 56 ∷ 32
    ∷ 51 ∷ 58 ∷ 104 ∷ 111 ∷ 116 ∷ 10
    ∷ 101 ∷ 110 ∷ 100 ∷ 32 ∷ 48 ∷ 32 ∷ 52 ∷ 56 ∷ 10 ∷ []

pub record Table : Type 0 where
  -- the nine words
  pub nine_words : listing small_format nine (replicate 6912 0) ≡ nine_listing
  -- the log
  pub hot_log : listing small_format hot (replicate 6912 0) ≡ hot_listing
  -- ` 0`, ` 1000000000` and the highest number of 64 bits
  pub zero_shown : number_shown 0 ≡ 32 ∷ 48 ∷ []
  pub rate_shown : number_shown 1000000000 ≡ 32 ∷ 49 ∷ replicate 9 48
  pub highest_shown : number_shown 18446744073709551615 ≡ 32 ∷ 49 ∷ 56 ∷ 52 ∷ 52 ∷ 54 ∷ 55 ∷ 52 ∷ 52 ∷ 48 ∷ 55 ∷ 51 ∷ 55 ∷ 48 ∷ 57 ∷ 53 ∷ 53 ∷ 49 ∷ 54 ∷ 49 ∷ 53 ∷ []
  -- ` -2`
  pub signed_shown_lem : scalar_shown (Signed32 (negsuc 1)) ≡ 32 ∷ 45 ∷ 50 ∷ []
  -- ` 3ff0000000000000`: the double 1
  pub double_shown_lem : scalar_shown (Double 0x3FF0000000000000) ≡ 32 ∷ 51 ∷ 102 ∷ 102 ∷ replicate 13 48
  -- ` 1`, ` -` and ` ?`
  pub boolean_shown_lem : scalar_shown (Boolean true) ≡ 32 ∷ 49 ∷ []
  pub null_shown : scalar_shown Null ≡ 32 ∷ 45 ∷ []
  pub unknown_shown : scalar_shown (Unknown 12) ≡ 32 ∷ 63 ∷ []
  -- ` ?7`
  pub text_shown_lem : text_shown [] (Unresolved 7) ≡ 32 ∷ 63 ∷ 55 ∷ []
  pub thread_shown_lem : thread_shown (ThreadUnresolved 7) ≡ 32 ∷ 63 ∷ 55 ∷ []
  -- an extra word for type 4, none for type 3
  pub extra_shown_lem : extra_shown 4 9 ≡ 32 ∷ 57 ∷ []
  pub no_extra : extra_shown 3 9 ≡ []
  -- `K 5 3`
  pub skipped_line_lem : skipped_line 5 3 ≡ 75 ∷ 32 ∷ 53 ∷ 32 ∷ 51 ∷ 10 ∷ []

pub table : Table
unfolding little little_at word_at word_bytes bytes_of magic starts_with_magic record_words extent_of take_words take_stream take_text take_thread table_of take_part take_parts
    header_scalar holds_word word_scalar take_value argument_body argument_of texts_of value_text arguments_of numbered_of
    has_extra extra_words is_event event_layout log_layout layout_of event_of log_of own_of take_fields last_word report_of metadata_of string_of content_of record_of
    belongs_to provider_of highest_of position registration_of entry_at resolved
    is_bad shown_text shown_thread shown_referent shown_stream shown_report none_bad shown_value
    opening_number archive_number stopping report_answer plain_answer effect_decision content_decision stopped followed change_of effect_of arguments_read
    place_decision decision_of changed shown_argument asked_report asked_place argument_reply part_of
    decimal_within decimal number_shown signed_shown boolean_shown double_shown unresolved_shown bytes_shown text_shown thread_shown referent_shown provider_shown
    scalar_shown value_shown value_type trace_line magic_line timestamp_shown event_start referents_shown extra_shown event_shown log_shown own_shown report_line argument_line end_line
    answer_line asked_line skipped_line argument_lines answer_arguments step_lines is_end lines_from listing
table =
    record {
      nine_words = refl;
      hot_log = refl;
      zero_shown = refl;
      rate_shown = refl;
      highest_shown = refl;
      signed_shown_lem = refl;
      double_shown_lem = refl;
      boolean_shown_lem = refl;
      null_shown = refl;
      unknown_shown = refl;
      text_shown_lem = refl;
      thread_shown_lem = refl;
      extra_shown_lem = refl;
      no_extra = refl;
      skipped_line_lem = refl;
    }
