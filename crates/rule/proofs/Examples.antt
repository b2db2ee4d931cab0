-- Bench examples of document 01, those marked K, the nine words, logs and rates, computed of the definitions.
-- Assumes nothing.
use Prim.Native.Nat.{ℕ, ◌*◌}
use mathlib.Core.Path.{◌≡◌, refl}
use mathlib.Core.List.{[], List, ◌∷◌, ◌++◌}
use mathlib.Core.Bool.{true, false}
use mathlib.Core.Option.{none, some}
use lib.IntN.{negsuc}
use lib.ListN.{length, replicate}
use Rattle.effects.specs.Follow.{changed, stopped, followed, change_of}
use Rattle.words.specs.Word.{word_at, word_bytes, little, little_at, bytes_of}
use Rattle.words.specs.Stream.{magic as magic_bytes, starts_with_magic, part_of}
use Rattle.registering.specs.Registers.{registers}
use Rattle.format.specs.declared.Reference.TheVariants.{Inline}
use Rattle.format.specs.Limits.{small_format}
use Rattle.format.specs.Header.{record_words, extent_of, archive_number}
use Rattle.format.specs.Part.{take_words, take_stream, take_text, take_thread, take_part, take_parts, padding_zero, table_of}
use Rattle.arguments.specs.declared.Scalar.TheVariants.{Null, Signed32, Unsigned32}
use Rattle.arguments.specs.declared.Value.TheVariants.{Scalar}
use Rattle.arguments.specs.Argument.{header_scalar, holds_word, argued, argument_body, argument_of, arguments_of, numbered_of, arguments_read}
use Rattle.arguments.specs.Loss.{value_bytes, reserved_bits, value_padding_zero, argument_keeps, arguments_keep}
use Rattle.records.specs.declared.Own.TheVariants.{Event as EventOwn, Log as LogOwn}
use Rattle.records.specs.declared.Content.TheVariants.{Refused, String, Skipped}
use Rattle.records.specs.Layout.{has_extra, extra_words, is_event, event_layout, log_layout, layout_of, event_of, log_of, own_of, take_fields, last_word, report_of}
use Rattle.records.specs.Record.{provider_info_of, metadata_of, initialization_of, string_of, thread_of, content_of, record_of, record_at}
use Rattle.records.specs.Loss.{words_keep, stream_keeps, report_keeps, record_keeps}
use Rattle.records.specs.Item.{known, Thread, thread, scalar, text_referent, thread_referent, Item, magic, provider_info, section, initialization, report, thread_key, key_words}
use Rattle.contexts.specs.Context.{opening, belongs_to, provider_of, find_id, entering}
use Rattle.tables.specs.Table.{table_words, highest_of, position, registration_of, entry_at, resolved}
use Rattle.reader.specs.declared.Answer.TheVariants.{End}
use Rattle.views.specs.Shown.{is_bad, shown_text, shown_thread, shown_referent, shown_stream, shown_report, shown_value, none_bad}
use Rattle.reader.specs.Step.{opening_number, stopping, content_decision, place_decision, decision_of, open_reply, report_answer, plain_answer, effect_decision}
use Rattle.reader.specs.Ask.{shown_argument, asked_report, asked_place, argument_reply}
use Rattle.reader.specs.Reads.{argument_items, item_of}
use Rattle.records.specs.Effect.{effect_of}
use Rattle.rule.specs.Rule.{rule}
use Rattle.rule.specs.Refusal.{refusal, ended, passed, run_from, run_of, refusal_of, items_of, Accepted, written_length}

-- the words of an archive, one after another
abbrev archive_of : List ℕ → List ℕ
archive_of [] = []
archive_of (w ∷ ws) = word_bytes small_format.order w ++ archive_of ws

-- a string record with this header, and so many bytes of stream
abbrev string_of_length : ℕ → ℕ → List ℕ
string_of_length header n = word_bytes small_format.order header ++ replicate n 0x41

-- document 01's nine words: "charge" and "sun" are spelled as numbers, the first letter lowest
abbrev nine : List ℕ
nine =
    archive_of (0x0016547846040010 ∷ 0x0000000600010022 ∷ 0x0000656772616863 ∷ 0x8003000100100064 ∷ 100 ∷ 7 ∷ 8 ∷ 0x00000000006E7573 ∷ 0x0000002A00010012 ∷ [])

-- the two texts byte by byte
abbrev charge : List ℕ
charge = 0x63 ∷ 0x68 ∷ 0x61 ∷ 0x72 ∷ 0x67 ∷ 0x65 ∷ []

abbrev sun : List ℕ
sun = 0x73 ∷ 0x75 ∷ 0x6E ∷ []

-- the same repacked: nine words too, with both uses of "charge" inline; a line is a word
abbrev repacked : List ℕ
repacked =
    0x10 ∷ 0x00 ∷ 0x04 ∷ 0x46 ∷ 0x78 ∷ 0x54 ∷ 0x16 ∷ 0x00
    ∷ 0x84 ∷ 0x00 ∷ 0x10 ∷ 0x00 ∷ 0x06 ∷ 0x80 ∷ 0x03 ∷ 0x80
    ∷ 100 ∷ 0 ∷ 0 ∷ 0 ∷ 0 ∷ 0 ∷ 0 ∷ 0
    ∷ 7 ∷ 0 ∷ 0 ∷ 0 ∷ 0 ∷ 0 ∷ 0 ∷ 0
    ∷ 8 ∷ 0 ∷ 0 ∷ 0 ∷ 0 ∷ 0 ∷ 0 ∷ 0
    ∷ 0x63 ∷ 0x68 ∷ 0x61 ∷ 0x72 ∷ 0x67 ∷ 0x65 ∷ 0x00 ∷ 0x00
    ∷ 0x73 ∷ 0x75 ∷ 0x6E ∷ 0x00 ∷ 0x00 ∷ 0x00 ∷ 0x00 ∷ 0x00
    ∷ 0x22 ∷ 0x00 ∷ 0x06 ∷ 0x80 ∷ 0x2A ∷ 0x00 ∷ 0x00 ∷ 0x00
    ∷ 0x63 ∷ 0x68 ∷ 0x61 ∷ 0x72 ∷ 0x67 ∷ 0x65 ∷ 0x00 ∷ 0x00
    ∷ []

-- "E 0 - 100 1000000000 7 8 6:charge 3:sun 1" and "A 2 6:charge 42"
abbrev nine_event : Item
nine_event =
    report (record {
      provider = none;
      rate = 1000000000;
      own = EventOwn (record { variant = 0; timestamp = 100 });
      first = thread_referent (known (thread 7 8));
      second = text_referent (known charge);
      third = text_referent (known sun);
      stream = [];
      arguments = record { name = known charge; value = scalar (Unsigned32 42) } ∷ [];
      last = 0;
    })

-- an event that uses "sun" three times, and the thread of the nine words once
abbrev eleven_event : Item
eleven_event =
    report (record {
      provider = none;
      rate = 1000000000;
      own = EventOwn (record { variant = 0; timestamp = 100 });
      first = thread_referent (known (thread 7 8));
      second = text_referent (known sun);
      third = text_referent (known sun);
      stream = [];
      arguments = record { name = known sun; value = scalar Null } ∷ [];
      last = 0;
    })

-- K11 spelled inline: the magic, and that event with all three uses of "sun" inline. The event has eight words: its header, the timestamp, process
-- and thread, "sun" twice, and an argument of two words
abbrev eleven_inline : List ℕ
eleven_inline =
    archive_of (0x0016547846040010 ∷ 0x8003800300100084 ∷ 100 ∷ 7 ∷ 8 ∷ 0x6E7573 ∷ 0x6E7573 ∷ 0x80030020 ∷ 0x6E7573 ∷ [])

-- the same repacked: "sun" is registered under 1 right before the event, and the thread is inline; a line is a word
abbrev eleven : List ℕ
eleven =
    0x10 ∷ 0x00 ∷ 0x04 ∷ 0x46 ∷ 0x78 ∷ 0x54 ∷ 0x16 ∷ 0x00
    ∷ 0x22 ∷ 0x00 ∷ 0x01 ∷ 0x00 ∷ 0x03 ∷ 0x00 ∷ 0x00 ∷ 0x00
    ∷ 0x73 ∷ 0x75 ∷ 0x6E ∷ 0x00 ∷ 0x00 ∷ 0x00 ∷ 0x00 ∷ 0x00
    ∷ 0x54 ∷ 0x00 ∷ 0x10 ∷ 0x00 ∷ 0x01 ∷ 0x00 ∷ 0x01 ∷ 0x00
    ∷ 100 ∷ 0 ∷ 0 ∷ 0 ∷ 0 ∷ 0 ∷ 0 ∷ 0
    ∷ 7 ∷ 0 ∷ 0 ∷ 0 ∷ 0 ∷ 0 ∷ 0 ∷ 0
    ∷ 8 ∷ 0 ∷ 0 ∷ 0 ∷ 0 ∷ 0 ∷ 0 ∷ 0
    ∷ 0x10 ∷ 0x00 ∷ 0x01 ∷ 0x00 ∷ 0x00 ∷ 0x00 ∷ 0x00 ∷ 0x00
    ∷ []

-- request W1: two logs of the thread 7 8 with the message "sun", spelled inline: the magic, and five words for each
abbrev logs_inline : List ℕ
logs_inline = archive_of (0x0016547846040010 ∷ 0x0000000000030059 ∷ 200 ∷ 7 ∷ 8 ∷ 0x6E7573 ∷ 0x0000000000030059 ∷ 300 ∷ 7 ∷ 8 ∷ 0x6E7573 ∷ [])

-- the same repacked: the thread is registered under 1 right before the first, and both messages are inline, though they are the same
abbrev logs : List ℕ
logs = archive_of (0x0016547846040010 ∷ 0x0000000000010033 ∷ 7 ∷ 8 ∷ 0x0000000100030039 ∷ 200 ∷ 0x6E7573 ∷ 0x0000000100030039 ∷ 300 ∷ 0x6E7573 ∷ [])

abbrev log_item : ℕ → Item
log_item timestamp =
    report (record {
      provider = none;
      rate = 1000000000;
      own = LogOwn (record { timestamp = timestamp });
      first = thread_referent (known (thread 7 8));
      second = text_referent (known []);
      third = text_referent (known []);
      stream = sun;
      arguments = [];
      last = 0;
    })

-- a log without a message that has the reserved bit 31 set
abbrev log_reserved : List ℕ
log_reserved = archive_of (0x0016547846040010 ∷ 0x0000000080000049 ∷ 200 ∷ 7 ∷ 8 ∷ [])

-- request W2: provider 1 sets its rate to 5 and logs, provider 2 logs without one of its own, and provider 1 logs again
abbrev rates : List ℕ
rates =
    archive_of (
    0x0016547846040010 ∷ 0x110010 ∷ 0x21 ∷ 5 ∷ 0x49 ∷ 200 ∷ 7 ∷ 8
    ∷ 0x210010 ∷ 0x49 ∷ 200 ∷ 7 ∷ 8
    ∷ 0x120010 ∷ 0x49 ∷ 200 ∷ 7 ∷ 8 ∷ []
    )

abbrev quiet_log : (provider rate : ℕ) → Item
quiet_log provider rate =
    report (record {
      provider = some provider;
      rate = rate;
      own = LogOwn (record { timestamp = 200 });
      first = thread_referent (known (thread 7 8));
      second = text_referent (known []);
      third = text_referent (known []);
      stream = [];
      arguments = [];
      last = 0;
    })

-- the magic from its last byte to its first
abbrev reversed : List ℕ
reversed = 0x00 ∷ 0x16 ∷ 0x54 ∷ 0x78 ∷ 0x46 ∷ 0x04 ∷ 0x00 ∷ 0x10 ∷ []

-- the bench examples, under one claim. A run of whole archives has the tables of the small format, 6,912 words.
pub record Table : Type 0 where
  -- K1: empty input: 1 at 0
  pub k1 : open_reply small_format [] (table_words small_format) ≡ record { answer = End 1 0; state = opening }
  -- K2: the magic alone: one item, 0 at 8
  pub k2 : run_of small_format magic_bytes ≡ passed 0 true (some magic) (ended 0 8)
  -- so its one item is the magic
  pub k2_items : items_of (run_of small_format magic_bytes) ≡ magic ∷ []
  -- K3: magic and 4 bytes: 5 at 8
  pub k3 : run_of small_format (magic_bytes ++ replicate 4 0) ≡ passed 0 true (some magic) (ended 5 8)
  -- K4: magic reversed: 1
  pub k4 : open_reply small_format reversed (table_words small_format) ≡ record { answer = End 1 0; state = opening }
  -- K5: magic, then a zero word: 6 at 8
  pub k5 : run_of small_format (magic_bytes ++ replicate 8 0) ≡ passed 0 true (some magic) (ended 6 8)
  -- K6: string index 511 taken
  pub k6_taken : record_at small_format (word_bytes small_format.order 0x0000000001FF0012) 0 ≡ record { content = String 511 8 0; next = 8 }
  -- 512: 8
  pub k6_refused : record_at small_format (word_bytes small_format.order 0x0000000002000012) 0 ≡ record { content = Refused 8; next = 8 }
  -- K7: length 256 taken
  pub k7_taken : record_at small_format (string_of_length 0x0000010000010212 256) 0 ≡ record { content = String 1 8 256; next = 264 }
  -- 257: 7
  pub k7_refused : record_at small_format (string_of_length 0x0000010100010222 264) 0 ≡ record { content = Refused 7; next = 272 }
  -- K8: header 000000000001003F: type 15, 4,099 words, not 3
  pub k8 : record_at small_format (word_bytes small_format.order 0x000000000001003F ++ replicate (8 * 4098) 0) 0 ≡ record { content = Skipped 15 4099; next = 8 * 4099 }
  -- K9: w 1, k 2: inline (2 against 2)
  pub k9 : registers 1 2 ≡ false
  -- K10: w 2, k 2: registered (3 against 4)
  pub k10 : registers 2 2 ≡ true
  -- K11: w 1, k 3: registered
  pub k11 : registers 1 3 ≡ true
  -- in an archive: eight words, with the registration right before the event
  pub k11_repacked : rule small_format (magic ∷ eleven_event ∷ []) ≡ eleven
  -- that read as the same items
  pub k11_run : run_of small_format eleven ≡ passed 0 true (some magic) (passed 8 true none (passed 24 true (some eleven_event) (ended 0 64)))
  -- spelled inline it is nine words
  pub k11_inline_length : length eleven_inline ≡ 72
  -- that read as the same items
  pub k11_inline_run : run_of small_format eleven_inline ≡ passed 0 true (some magic) (passed 8 true (some eleven_event) (ended 0 72))
  -- repacking takes it
  pub k11_inline_accepted : Accepted small_format eleven_inline
  -- and writes the eight words, not a copy of its input
  pub k11_inline_repacked : rule small_format (items_of (run_of small_format eleven_inline)) ≡ eleven
  -- the written length in the reply is theirs
  pub k11_inline_written : written_length small_format eleven_inline ≡ 64
  -- logs are items, and repacked with their thread registered and their messages inline
  pub logs_run : run_of small_format logs_inline ≡ passed 0 true (some magic) (passed 8 true (some (log_item 200)) (passed 48 true (some (log_item 300)) (ended 0 88)))
  pub logs_repacked : rule small_format (items_of (run_of small_format logs_inline)) ≡ logs
  pub logs_again : items_of (run_of small_format logs) ≡ magic ∷ log_item 200 ∷ log_item 300 ∷ []
  -- a reserved bit is lost: 10 at the log
  pub log_reserved_lem : refusal_of small_format (run_of small_format log_reserved) ≡ some (refusal 10 8)
  -- a rate is its provider's alone, and is kept until that provider is met again
  pub rates_items : items_of (run_of small_format rates)
      ≡ magic ∷ provider_info 1 [] ∷ initialization 5 ∷ quiet_log 1 5 ∷ provider_info 2 [] ∷ quiet_log 2 1000000000 ∷ section 1 ∷ quiet_log 1 5 ∷ []
  -- K12: thread used once inline
  pub k12_once : (t : Thread) → registers (key_words (thread_key t)) 1 ≡ false
  -- twice registered
  pub k12_twice : (t : Thread) → registers (key_words (thread_key t)) 2 ≡ true
  -- K13: signed argument with high half FFFFFFFE reads as -2
  pub k13 : argument_of small_format (word_bytes small_format.order 0xFFFFFFFE00000011) 0 ≡ argued (record { name = Inline 8 0; value = Scalar (Signed32 (negsuc 1)) }) 8
  -- the nine words: each record with its place, whether it loses nothing, and its item; 0 at 72
  pub nine_run : run_of small_format nine ≡ passed 0 true (some magic) (passed 8 true none (passed 24 true (some nine_event) (ended 0 72)))
  -- the items of the listing
  pub nine_items : items_of (run_of small_format nine) ≡ magic ∷ nine_event ∷ []
  -- repacking takes them
  pub nine_accepted : refusal_of small_format (run_of small_format nine) ≡ none
  -- repacked it is nine words too, with both uses of "charge" inline
  pub nine_repacked : rule small_format (items_of (run_of small_format nine)) ≡ repacked
  -- these are nine words
  pub nine_length : length repacked ≡ 72
  -- that read as the same items
  pub repacked_run : run_of small_format repacked ≡ passed 0 true (some magic) (passed 8 true (some nine_event) (ended 0 72))

-- each by computation
pub table : Table
unfolding little little_at word_at word_bytes bytes_of magic_bytes starts_with_magic record_words extent_of take_words take_stream take_text take_thread take_part take_parts
    padding_zero header_scalar holds_word argument_body argument_of arguments_of numbered_of value_bytes reserved_bits value_padding_zero argument_keeps
    arguments_keep has_extra extra_words is_event event_layout log_layout layout_of event_of log_of own_of take_fields last_word report_of table_of
    provider_info_of metadata_of initialization_of string_of thread_of content_of record_of words_keep stream_keeps report_keeps record_keeps
    belongs_to provider_of find_id entering highest_of position registration_of entry_at resolved is_bad shown_text shown_thread
    shown_referent shown_stream shown_report none_bad shown_value opening_number archive_number stopping report_answer plain_answer effect_decision
    content_decision stopped followed change_of effect_of arguments_read
    place_decision decision_of changed shown_argument asked_report asked_place argument_reply part_of argument_items item_of registers rule run_from run_of
    refusal_of
table =
    record {
      k1 = refl;
      k2 = refl;
      k2_items = refl;
      k3 = refl;
      k4 = refl;
      k5 = refl;
      k6_taken = refl;
      k6_refused = refl;
      k7_taken = refl;
      k7_refused = refl;
      k8 = refl;
      k9 = refl;
      k10 = refl;
      k11 = refl;
      k11_repacked = refl;
      k11_run = refl;
      k11_inline_length = refl;
      k11_inline_run = refl;
      k11_inline_accepted = record { opened = refl; not_refused = refl };
      k11_inline_repacked = refl;
      k11_inline_written = refl;
      logs_run = refl;
      logs_repacked = refl;
      logs_again = refl;
      log_reserved_lem = refl;
      rates_items = refl;
      k12_once = λ t. refl;
      k12_twice = λ t. refl;
      k13 = refl;
      nine_run = refl;
      nine_items = refl;
      nine_accepted = refl;
      nine_repacked = refl;
      nine_length = refl;
      repacked_run = refl;
    }
