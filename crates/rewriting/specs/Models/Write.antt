-- The bytes of a record and of the registrations before it as the second pass writes them, reference after reference. `tables` are the reading
-- tables, `slots` the words of the tally, in which choices and indexes stand for uses; the room holds both.
use Rattle.std.specs.Prelude.{ℕ, ◌%◌, ◌≡◌, List, [], ◌∷◌, ◌++◌, length, take, drop, eqb}
use Rattle.std.proofs.Math.Option.{Option, none, some}
use Rattle.tally.specs.declared.Slot.TheVariants.{Here}
use Rattle.tally.specs.Models.Slots.{label_of, key_of, place_at, label_at, find_of}
use Rattle.passes.specs.Models.Item.{plain_item}
use Rattle.indexing.specs.Models.Indexes.{index_at, index_of, new_index, indexed}
use Rattle.words.specs.Word.{pick, word_at, Field}
use Rattle.words.specs.Stream.{part_of}
use Rattle.encoding.specs.Encoded.{Encoded, words, stream, reference_of, parts_bytes, words_bytes, record_bytes, string_record, thread_record}
use Rattle.encoding.specs.Models.Part.{plain_record, referent_part, report_header, text_argument, scalar_argument}
use Rattle.format.specs.declared.Format.{Format}
use Rattle.arguments.specs.declared.Value.{Value}
use Rattle.arguments.specs.declared.Value.TheVariants.{Scalar as ScalarValue, Text}
use Rattle.arguments.specs.declared.Argument.{Argument}
use Rattle.records.specs.declared.Lookup.{Lookup}
use Rattle.records.specs.declared.Report.{Report}
use Rattle.records.specs.declared.Content.{Content}
use Rattle.records.specs.Item.{thread, Item, own_layout, last_words}
use Rattle.records.specs.Lookups.{text_lookup, arguments_to, report_lookups, on_report}
use Rattle.contexts.specs.declared.State.{State}
use Rattle.tables.specs.declared.Resolved.{Resolved}
use Rattle.tables.specs.declared.Resolved.TheVariants.{Bad, Known, Unresolved}
use Rattle.tables.specs.Table.{table_words, looked_up}
use Rattle.views.specs.Shown.{shown_stream}
use Rattle.reader.specs.Reads.{stream_item}
use Rattle.rewriting.specs.declared.Spelled.{Spelled}

-- ---- the room

-- the reading tables come first, and behind them the words of the tally
abbrev pub tables_in : Format → List ℕ → List ℕ
tables_in f room = take (table_words f) room

abbrev pub slots_in : Format → List ℕ → List ℕ
slots_in f room = drop (table_words f) room

-- ---- registrations

-- the registration of a key under an index; none where that is 0
unfoldable pub registration_bytes : Format → ℕ → ℕ → List ℕ → List ℕ
registration_bytes f table index bytes =
    pick (eqb index 0) []
    (pick (eqb table 3) (thread_record f index (thread (word_at f.order bytes 0) (word_at f.order bytes 8))) (string_record f index bytes))

-- the index that what a reference stands for gets now, or 0
unfoldable pub given_index : Format → List ℕ → List ℕ → ℕ → ℕ → Resolved → ℕ
given_index f archive slots context table Bad = 0
given_index f archive slots context table (Known place long) =
    pick (eqb long 0) 0
    (new_index (table_words f) slots (label_of context table long)
    (find_of archive (table_words f) slots (key_of archive place (label_of context table long))))
given_index f archive slots context table (Unresolved index) = 0

-- the slots after it
unfoldable pub given_slots : Format → List ℕ → List ℕ → ℕ → ℕ → Resolved → List ℕ
given_slots f archive slots context table Bad = slots
given_slots f archive slots context table (Known place long) =
    pick (eqb long 0) slots
    (indexed (table_words f) slots (label_of context table long)
    (find_of archive (table_words f) slots (key_of archive place (label_of context table long))))
given_slots f archive slots context table (Unresolved index) = slots

-- its registration
abbrev pub known_bytes : List ℕ → Resolved → List ℕ
known_bytes archive Bad = []
known_bytes archive (Known place long) = part_of archive place long
known_bytes archive (Unresolved index) = []

abbrev pub given_bytes : Format → List ℕ → List ℕ → ℕ → ℕ → Resolved → List ℕ
given_bytes f archive slots context table r = registration_bytes f table (given_index f archive slots context table r) (known_bytes archive r)

-- the same by the slot of a key: the bytes of the key, its registration under the index that it gets now, and the slots after it
abbrev pub slot_bytes : List ℕ → ℕ → List ℕ → ℕ → List ℕ
slot_bytes archive stretch slots s = part_of archive (place_at slots s) (label_at stretch slots s % 65536)

abbrev pub slot_index : ℕ → List ℕ → ℕ → ℕ
slot_index stretch slots s = new_index stretch slots (label_at stretch slots s) (Here s)

unfoldable pub slot_given_bytes : Format → (archive slots : List ℕ) → (table s : ℕ) → List ℕ
slot_given_bytes f archive slots table s =
    registration_bytes f table (slot_index (table_words f) slots s) (slot_bytes archive (table_words f) slots s)

unfoldable pub slot_given_slots : Format → List ℕ → ℕ → List ℕ
slot_given_slots f slots s = indexed (table_words f) slots (label_at (table_words f) slots s) (Here s)

-- the slots after the registrations of what references stand for, one after the other, and these registrations
abbrev pub lookups_given_slots : Format → (archive tables : List ℕ) → (context until : ℕ) → List ℕ → List Lookup → List ℕ
lookups_given_slots f archive tables context until slots [] = slots
lookups_given_slots f archive tables context until slots (l ∷ more) =
    lookups_given_slots f archive tables context until
    (given_slots f archive slots context l.table (looked_up f archive tables context until l)) more

abbrev pub lookups_given_bytes : Format → (archive tables : List ℕ) → (context until : ℕ) → List ℕ → List Lookup → List ℕ
lookups_given_bytes f archive tables context until slots [] = []
lookups_given_bytes f archive tables context until slots (l ∷ more) =
    given_bytes f archive slots context l.table (looked_up f archive tables context until l)
    ++ lookups_given_bytes f archive tables context until
    (given_slots f archive slots context l.table (looked_up f archive tables context until l)) more

-- the same in a room
abbrev pub registered_room : Format → (archive room : List ℕ) → (context until : ℕ) → List Lookup → List ℕ
registered_room f archive room context until ls =
    tables_in f room ++ lookups_given_slots f archive (tables_in f room) context until (slots_in f room) ls

abbrev pub registered_bytes : Format → (archive room : List ℕ) → (context until : ℕ) → List Lookup → List ℕ
registered_bytes f archive room context until ls = lookups_given_bytes f archive (tables_in f room) context until (slots_in f room) ls

-- ---- references

-- how what a reference stands for is written: by its index, or, where that is 0, inline from its place and length in the archive
unfoldable pub spelled_of : Format → List ℕ → List ℕ → ℕ → ℕ → Resolved → Spelled
spelled_of f archive slots context table Bad = record { index = 0; place = 0; long = 0 }
spelled_of f archive slots context table (Known place long) =
    record { index = index_of archive (table_words f) slots (key_of archive place (label_of context table long)); place = place; long = long }
spelled_of f archive slots context table (Unresolved index) = record { index = index; place = 0; long = 0 }

-- how the key of a slot is written
unfoldable pub slot_spelled : ℕ → List ℕ → ℕ → Spelled
slot_spelled stretch slots s =
    record { index = index_at stretch slots (Here s); place = place_at slots s; long = label_at stretch slots s % 65536 }

abbrev pub spelled_lookup : Format → (archive tables slots : List ℕ) → (context until : ℕ) → Lookup → Spelled
spelled_lookup f archive tables slots context until l = spelled_of f archive slots context l.table (looked_up f archive tables context until l)

abbrev pub spelled_in : Format → (archive room : List ℕ) → (context until : ℕ) → Lookup → Spelled
spelled_in f archive room context until l = spelled_lookup f archive (tables_in f room) (slots_in f room) context until l

-- a text or a thread that is spelled so
abbrev pub spelled_bytes : List ℕ → Spelled → List ℕ
spelled_bytes archive p = part_of archive p.place p.long

-- spelled as another is: under the same index and with the same bytes, though these may stand at another place; what is written depends on these alone
abbrev pub SpelledAs : List ℕ → (p q : Spelled) → Type 0
SpelledAs archive p q = (p.index ≡ q.index) × (spelled_bytes archive p ≡ spelled_bytes archive q)

abbrev pub spelled_part : Format → List ℕ → ℕ → Spelled → Encoded
spelled_part f archive table p = referent_part f table p.index (spelled_bytes archive p)

-- a reference of a record as it is written
abbrev pub lookup_part : Format → (archive tables slots : List ℕ) → (context until : ℕ) → Lookup → Encoded
lookup_part f archive tables slots context until l = spelled_part f archive l.table (spelled_lookup f archive tables slots context until l)

-- ---- arguments

abbrev pub value_bytes : Format → (archive tables slots : List ℕ) → (context until : ℕ) → Encoded → Value → List ℕ
value_bytes f archive tables slots context until name (ScalarValue s) = scalar_argument f name s
value_bytes f archive tables slots context until name (Text reference) =
    text_argument f name (lookup_part f archive tables slots context until (text_lookup reference))

unfoldable pub argument_bytes : Format → (archive tables slots : List ℕ) → (context until : ℕ) → Argument → List ℕ
argument_bytes f archive tables slots context until a =
    value_bytes f archive tables slots context until (lookup_part f archive tables slots context until (text_lookup a.name)) a.value

abbrev pub arguments_bytes : Format → (archive tables slots : List ℕ) → (context until : ℕ) → List Argument → List ℕ
arguments_bytes f archive tables slots context until [] = []
arguments_bytes f archive tables slots context until (a ∷ l) =
    argument_bytes f archive tables slots context until a ++ arguments_bytes f archive tables slots context until l

-- the same in a room
abbrev pub argument_in : Format → (archive room : List ℕ) → (context until : ℕ) → Argument → List ℕ
argument_in f archive room context until a = argument_bytes f archive (tables_in f room) (slots_in f room) context until a

abbrev pub arguments_in : Format → (archive room : List ℕ) → (context until : ℕ) → List Argument → List ℕ
arguments_in f archive room context until l = arguments_bytes f archive (tables_in f room) (slots_in f room) context until l

-- ---- records that refer to texts and threads

-- the bytes of a record's stream
abbrev pub stream_of : List ℕ → Report → List ℕ
stream_of archive r = stream_item archive (shown_stream r.stream)

-- its own words, its references as they are spelled, and its stream
abbrev pub spelled_pieces : Format → List ℕ → Report → (first second third : Spelled) → List Encoded
spelled_pieces f archive r first second third =
    words (own_layout r.own).words
    ∷ spelled_part f archive r.first.table first
    ∷ spelled_part f archive r.second.table second
    ∷ spelled_part f archive r.third.table third
    ∷ stream (stream_of archive r)
    ∷ []

-- its header behind type and size, and with them
abbrev pub spelled_fields : Format → List ℕ → Report → (first second third : Spelled) → List Field
spelled_fields f archive r first second third =
    (own_layout r.own).header r.count (reference_of (spelled_part f archive r.first.table first)) (reference_of (spelled_part f archive r.second.table second))
    (reference_of (spelled_part f archive r.third.table third)) (length (stream_of archive r))

abbrev pub spelled_header : Format → List ℕ → ℕ → Report → (first second third : Spelled) → List ℕ
spelled_header f archive size r first second third =
    report_header f r.own size r.count (reference_of (spelled_part f archive r.first.table first))
    (reference_of (spelled_part f archive r.second.table second)) (reference_of (spelled_part f archive r.third.table third)) (length (stream_of archive r))

-- how its three references are spelled, in a state
abbrev pub first_spelled : Format → (archive tables slots : List ℕ) → State → Report → Spelled
first_spelled f archive tables slots s r = spelled_lookup f archive tables slots s.current s.place r.first

abbrev pub second_spelled : Format → (archive tables slots : List ℕ) → State → Report → Spelled
second_spelled f archive tables slots s r = spelled_lookup f archive tables slots s.current s.place r.second

abbrev pub third_spelled : Format → (archive tables slots : List ℕ) → State → Report → Spelled
third_spelled f archive tables slots s r = spelled_lookup f archive tables slots s.current s.place r.third

-- its pieces, its header's fields, and all that stands behind the header
abbrev pub report_pieces : Format → (archive tables slots : List ℕ) → State → Report → List Encoded
report_pieces f archive tables slots s r =
    spelled_pieces f archive r (first_spelled f archive tables slots s r) (second_spelled f archive tables slots s r) (third_spelled f archive tables slots s r)

abbrev pub report_fields : Format → (archive tables slots : List ℕ) → State → Report → List Field
report_fields f archive tables slots s r =
    spelled_fields f archive r (first_spelled f archive tables slots s r) (second_spelled f archive tables slots s r) (third_spelled f archive tables slots s r)

unfoldable pub report_body : Format → (archive tables slots : List ℕ) → State → Report → ℕ → List ℕ
report_body f archive tables slots s r next =
    parts_bytes f (report_pieces f archive tables slots s r)
    ++ (arguments_bytes f archive tables slots s.current s.place (arguments_to f archive r next)
    ++ words_bytes f (last_words (own_layout r.own).behind r.last))

unfoldable pub report_bytes : Format → (archive tables slots : List ℕ) → State → Report → ℕ → List ℕ
report_bytes f archive tables slots s r next =
    record_bytes f (own_layout r.own).type (report_fields f archive tables slots s r) (report_body f archive tables slots s r next)

abbrev pub report_in : Format → (archive room : List ℕ) → State → Report → ℕ → List ℕ
report_in f archive room s r next = report_bytes f archive (tables_in f room) (slots_in f room) s r next

-- its registrations, and the slots after them
abbrev pub report_given_slots : Format → (archive tables slots : List ℕ) → State → Report → ℕ → List ℕ
report_given_slots f archive tables slots s r next =
    lookups_given_slots f archive tables s.current s.place slots (report_lookups f archive r next)

abbrev pub report_given_bytes : Format → (archive tables slots : List ℕ) → State → Report → ℕ → List ℕ
report_given_bytes f archive tables slots s r next =
    lookups_given_bytes f archive tables s.current s.place slots (report_lookups f archive r next)

-- ---- any record

-- the record of an item that refers to nothing
abbrev pub plain_bytes : Format → Option Item → List ℕ
plain_bytes f none = []
plain_bytes f (some i) = plain_record f i

-- what is written for a record that ends at `next`, and the slots after it
abbrev pub content_bytes : Format → (archive tables slots : List ℕ) → State → Content → ℕ → List ℕ
content_bytes f archive tables slots s c next =
    on_report c (plain_bytes f (plain_item archive c))
    (λ r. report_given_bytes f archive tables slots s r next ++ report_bytes f archive tables (report_given_slots f archive tables slots s r next) s r next)

abbrev pub content_slots : Format → (archive tables slots : List ℕ) → State → Content → ℕ → List ℕ
content_slots f archive tables slots s c next = on_report c slots (λ r. report_given_slots f archive tables slots s r next)

-- the same in a room
abbrev pub content_in : Format → (archive room : List ℕ) → State → Content → ℕ → List ℕ
content_in f archive room s c next = content_bytes f archive (tables_in f room) (slots_in f room) s c next

abbrev pub content_room : Format → (archive room : List ℕ) → State → Content → ℕ → List ℕ
content_room f archive room s c next = tables_in f room ++ content_slots f archive (tables_in f room) (slots_in f room) s c next
