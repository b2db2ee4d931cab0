-- Records that refer to texts and threads: which records are read so, how each kind is laid out, and what is read of any of them.
-- A body is leading words, three references, a stream that is no reference, arguments, and words behind them; what a kind has not, takes no bytes.
-- A kind is its layout and what is particular to it; all else is the same for all kinds.
use Rattle.std.specs.Prelude.{ℕ, ◌+◌, ◌-◌, ◌*◌, [], List, ◌∷◌, Bool, true, false, length, drop, Result, Ok, Err, eqb, leb, ltb}
use Rattle.words.specs.Word.{pick, word_at, field}
use Rattle.format.specs.declared.Format.{Format}
use Rattle.format.specs.declared.Reference.{Reference}
use Rattle.format.specs.declared.Reason.{Reason}
use Rattle.format.specs.declared.Reason.TheVariants.{Malformed}
use Rattle.format.specs.Limits.{number_of}
use Rattle.format.specs.declared.Part.{Part}
use Rattle.format.specs.declared.Part.TheVariants.{Words as words, Stream as stream, Text as text, Thread as thread}
use Rattle.format.specs.Part.{table_of, Body, refused, body, take_parts, part}
use Rattle.arguments.specs.Argument.{arguments_of, walked}
use Rattle.records.specs.declared.Event.{Event}
use Rattle.records.specs.declared.Log.{Log}
use Rattle.records.specs.declared.Own.{Own}
use Rattle.records.specs.declared.Own.TheVariants.{Event as EventOwn, Log as LogOwn}
use Rattle.records.specs.declared.Lookup.{Lookup}
use Rattle.records.specs.declared.Report.{Report}
use Rattle.records.specs.declared.Layout.{Layout}
use Rattle.records.specs.declared.Fields.{Fields}
use Rattle.records.specs.declared.Content.{Content}
use Rattle.records.specs.declared.Content.TheVariants.{Refused, Report as ReportRead}

-- ---- the kinds

-- "one more word for event types 1 and 4 to 10. Types 0, 2 and 3 have none"; types above 10 are skipped before this is asked
unfoldable pub has_extra : ℕ → Bool
has_extra type = pick (eqb type 1) true (ltb 3 type)

unfoldable pub extra_words : ℕ → ℕ
extra_words type = pick (has_extra type) 1 0

-- an event of a type that is read, 0 to 10
unfoldable pub is_event : ℕ → Bool
is_event header = pick (eqb (field 0 3 header) 4) (leb (field 16 19 header) 10) false

-- "Event (4): event type [16..19], argument count [20..23], thread [24..31], category [32..47], name [48..63];
-- then timestamp, inline process and thread, inline category, inline name, arguments, and one more word"
unfoldable pub event_layout : ℕ → Layout
event_layout header =
    record {
      read = is_event header;
      words = 1;
      first = thread (field 24 31 header);
      second = text (field 32 47 header);
      third = text (field 48 63 header);
      stream = 0;
      count = field 20 23 header;
      behind = extra_words (field 16 19 header);
      reserved = 0;
    }

-- a log, type 9 (request W1)
abbrev pub is_log : ℕ → Bool
is_log header = eqb (field 0 3 header) 9

-- "message length [16..30], thread reference [32..39], timestamp, inline process and thread, message stream"; the other bits are reserved, and it
-- has neither a second nor a third reference
unfoldable pub log_layout : ℕ → Layout
log_layout header =
    record {
      read = true;
      words = 1;
      first = thread (field 32 39 header);
      second = text 0;
      third = text 0;
      stream = field 16 30 header;
      count = 0;
      behind = 0;
      reserved = field 31 31 header + field 40 63 header;
    }

-- no record but events and logs is read so
unfoldable pub layout_of : ℕ → Layout
layout_of header = pick (is_log header) (log_layout header) (event_layout header)

-- what is particular to an event that is read, and to a log
unfoldable pub event_of : Format → List ℕ → Event
event_of f source = record { variant = field 16 19 (word_at f.order source 0); timestamp = word_at f.order source 8 }

unfoldable pub log_of : Format → List ℕ → Log
log_of f source = record { timestamp = word_at f.order source 8 }

-- what is particular to the kind of a record that is read
unfoldable pub own_of : Format → List ℕ → Own
own_of f source = pick (is_log (word_at f.order source 0)) (LogOwn (log_of f source)) (EventOwn (event_of f source))

-- ---- any kind

-- a record that is refused, by document 01's number of the reason
abbrev pub refused_by : Reason → Content
refused_by reason = Refused (number_of reason)

abbrev pub layout_parts : Layout → List Part
layout_parts l = words l.words ∷ l.first ∷ l.second ∷ l.third ∷ stream l.stream ∷ []

-- the references and the stream of a layout that are read, and the place behind them
abbrev pub fields : (first second third stream : Reference) → ℕ → Result Fields Reason
fields a b c s next = Ok (record { first = a; second = b; third = c; stream = s; next = next })

abbrev pub fields_of : Body → Result Fields Reason
fields_of (refused reason) = Err reason
fields_of (body references next) = fields (part 1 references) (part 2 references) (part 3 references) (part 4 references) next

-- a record up to its arguments: its bytes are `source` and start at `place`
unfoldable pub take_fields : Format → Layout → List ℕ → ℕ → Result Fields Reason
take_fields f l source place = fields_of (take_parts f (layout_parts l) (place + 8) source place)

-- the word behind the arguments, which end at `at`
unfoldable pub last_word : Format → List ℕ → ℕ → ℕ → ℕ → Result ℕ Reason
last_word f source place at behind =
    pick (ltb (place + length source) (at + 8 * behind)) (Err Malformed)
    (pick (eqb behind 0) (Ok 0) (Ok (word_at f.order source (at - place))))

abbrev pub on_fields : {A : Type 0} → Result Fields Reason → (Reason → A) → (Reference → Reference → Reference → Reference → ℕ → A) → A
on_fields (Err reason) refuse then = refuse reason
on_fields (Ok x) refuse then = then x.first x.second x.third x.stream x.next

-- what is made of a number that is read, a place, a size or a last word, or of its refusal
abbrev pub on_number : {A : Type 0} → Result ℕ Reason → (Reason → A) → (ℕ → A) → A
on_number (Err reason) refuse then = refuse reason
on_number (Ok n) refuse then = then n

-- a reference that was taken for a part
abbrev pub lookup_of : Part → Reference → Lookup
lookup_of p reference = record { table = table_of p; reference = reference }

abbrev pub report_read : Format → Layout → List ℕ → Reference → Reference → Reference → Reference → ℕ → ℕ → Report
report_read f l source a b c s first last =
    record {
      own = own_of f source;
      first = lookup_of l.first a;
      second = lookup_of l.second b;
      third = lookup_of l.third c;
      stream = s;
      count = l.count;
      arguments = first;
      last = last;
    }

-- a record of one of the kinds
unfoldable pub report_of : Format → List ℕ → ℕ → Content
report_of f source place =
    let l = layout_of (word_at f.order source 0) in
    on_fields (take_fields f l source place) refused_by
    (λ a b c s first.
    on_number (walked (arguments_of f l.count (drop (first - place) source) first)) refused_by
    (λ at.
    on_number (last_word f source place at l.behind) refused_by
    (λ last. ReportRead (report_read f l source a b c s first last))))
