-- When what the second pass writes fits its fields: indexes, lengths and sizes. Every archive that is not refused satisfies these.
use Rattle.std.specs.Prelude.{ℕ, ◌+◌, ◌-◌, ◌*◌, ◌^◌, ◌<◌, ◌≤◌, ◌≡◌, List, [], ◌∷◌, length, get_or}
use Rattle.std.proofs.Math.Option.{Option, none, some}
use Rattle.passes.specs.Models.Known.{ReferenceFits}
use Rattle.passes.specs.Models.Memory.{Remembers}
use Rattle.tally.specs.Models.Slots.{label_at}
use Rattle.passes.specs.Models.Item.{plain_item}
use Rattle.tables.specs.Models.Entries.{FormatFits}
use Rattle.words.specs.Stream.{stream_words}
use Rattle.encoding.specs.Models.Part.{FieldsFit}
use Rattle.format.specs.declared.Format.{Format}
use Rattle.format.specs.Limits.{small_format, longest_archive}
use Rattle.arguments.specs.declared.Value.{Value}
use Rattle.arguments.specs.declared.Value.TheVariants.{Scalar as ScalarValue, Text}
use Rattle.arguments.specs.declared.Argument.{Argument}
use Rattle.arguments.specs.Argument.{text_in, scalar_type}
use Rattle.records.specs.declared.Lookup.{Lookup}
use Rattle.records.specs.declared.Report.{Report}
use Rattle.records.specs.declared.Content.{Content}
use Rattle.records.specs.declared.Content.TheVariants.{Report as ReportRead}
use Rattle.records.specs.Record.{record_at}
use Rattle.records.specs.Item.{Item, magic, provider_info, section, provider_event, initialization, report, skipped}
use Rattle.records.specs.Lookups.{text_lookup, arguments_to, report_lookups}
use Rattle.contexts.specs.declared.State.{State}
use Rattle.tables.specs.declared.Resolved.{Resolved}
use Rattle.tables.specs.Table.{table_words, looked_up}
use Rattle.reader.specs.Step.{opening_number}
use Rattle.rule.specs.Rule.{rule}
use Rattle.rule.specs.Refusal.{run_of, refusal_of, items_of}
use Rattle.rewriting.specs.declared.Spelled.{Spelled}
use Rattle.rewriting.specs.Models.Write.{tables_in, slots_in, slot_bytes, slot_index, given_index, given_slots, known_bytes, spelled_lookup, spelled_bytes, argument_bytes, spelled_fields, report_body, report_given_slots, first_spelled, second_spelled, third_spelled}

-- an archive whose places fit a slot, a context that the tables have, and a room of the tables and the three stretches of the tally behind them
pub record RoomFits (f : Format) (archive room : List ℕ) (context : ℕ) : Type 0 where
  pub limits : FormatFits f
  pub short : length archive ≤ longest_archive
  pub wide : 4 * table_words f ≤ length room
  pub low : context ≤ 8

-- every slot that the room remembers is that of what its entry stands for, as a record at a place looks it up
abbrev pub RemembersIn : Format → (archive room : List ℕ) → ℕ → Type 0
RemembersIn f archive room until = Remembers f archive (tables_in f room) (slots_in f room) until

-- a record that refers to texts and threads is read at the state's place, and ends at `next`
pub record ReportAt (f : Format) (archive : List ℕ) (s : State) (r : Report) (next : ℕ) : Type 0 where
  pub inside : s.place ≤ length archive
  pub is : record_at f archive s.place ≡ record { content = ReportRead r; next = next }

-- ---- registrations

-- a registration: a thread has two words and an index of 8 bits, a text is no longer than a string record holds
pub record RegistrationFits (table index : ℕ) (bytes : List ℕ) : Type 0 where
  pub low : index < 2 ^ 15
  pub thread-low : table ≡ 3 → index < 2 ^ 8
  pub thread-long : table ≡ 3 → (index ≡ 0 → ⊥) → 16 ≤ length bytes
  pub short : 1 + stream_words (length bytes) < 2 ^ 12

-- that of the key of a slot, under the index that is given now
pub record SlotFits (f : Format) (archive slots : List ℕ) (table s : ℕ) : Type 0 where
  pub low : s < table_words f - 18
  pub label : label_at (table_words f) slots s < 18 * 65536
  pub fits : RegistrationFits table (slot_index (table_words f) slots s) (slot_bytes archive (table_words f) slots s)

-- that of what a reference stands for, under the index that is given now
abbrev pub GivenFits : Format → (archive slots : List ℕ) → (context table : ℕ) → Resolved → Type 0
GivenFits f archive slots context table r = RegistrationFits table (given_index f archive slots context table r) (known_bytes archive r)

-- a reference can be looked up: its table is one of the two, and its bytes fit a word and a label
pub record CanLookUp (l : Lookup) : Type 0 where
  pub low : 2 ≤ l.table
  pub high : l.table ≤ 3
  pub reference : ReferenceFits l.reference

-- the registrations of what references stand for, one after the other
abbrev pub LookupsGivenFit : Format → (archive tables : List ℕ) → (context until : ℕ) → List ℕ → List Lookup → Type 0
LookupsGivenFit f archive tables context until slots [] = Unit {0}
LookupsGivenFit f archive tables context until slots (l ∷ more) =
    (CanLookUp l × GivenFits f archive slots context l.table (looked_up f archive tables context until l))
    × LookupsGivenFit f archive tables context until
    (given_slots f archive slots context l.table (looked_up f archive tables context until l)) more

abbrev pub LookupsFitIn : Format → (archive room : List ℕ) → (context until : ℕ) → List Lookup → Type 0
LookupsFitIn f archive room context until ls = LookupsGivenFit f archive (tables_in f room) context until (slots_in f room) ls

-- ---- references

-- a thread that is spelled inline has two words
abbrev pub SpelledThread : ℕ → List ℕ → Spelled → Type 0
SpelledThread table archive p = table ≡ 3 → p.index ≡ 0 → 16 ≤ length (spelled_bytes archive p)

-- a text that is spelled so has an index and a length of 15 bits
abbrev pub TextShort : List ℕ → Spelled → Type 0
TextShort archive p = (p.index < 2 ^ 15) × (length (spelled_bytes archive p) < 2 ^ 15)

-- a reference that is spelled so
pub record SpelledFits (f : Format) (archive tables slots : List ℕ) (context until : ℕ) (l : Lookup) : Type 0 where
  pub can : CanLookUp l
  pub text : l.table ≡ 2 → TextShort archive (spelled_lookup f archive tables slots context until l)
  pub thread : SpelledThread l.table archive (spelled_lookup f archive tables slots context until l)

-- ---- arguments

-- the type of a value has four bits
abbrev pub ValueLow : Value → Type 0
ValueLow (ScalarValue s) = scalar_type s < 2 ^ 4
ValueLow (Text reference) = Unit {0}

pub record ArgumentFits (f : Format) (archive tables slots : List ℕ) (context until : ℕ) (a : Argument) : Type 0 where
  pub name : SpelledFits f archive tables slots context until (text_lookup a.name)
  pub text : SpelledFits f archive tables slots context until (text_lookup (text_in a.value))
  pub type : ValueLow a.value
  pub size : length (argument_bytes f archive tables slots context until a) < 2 ^ 15

abbrev pub ArgumentsFit : Format → (archive tables slots : List ℕ) → (context until : ℕ) → List Argument → Type 0
ArgumentsFit f archive tables slots context until [] = Unit {0}
ArgumentsFit f archive tables slots context until (a ∷ l) =
    ArgumentFits f archive tables slots context until a × ArgumentsFit f archive tables slots context until l

abbrev pub ArgumentFitsIn : Format → (archive room : List ℕ) → (context until : ℕ) → Argument → Type 0
ArgumentFitsIn f archive room context until a = ArgumentFits f archive (tables_in f room) (slots_in f room) context until a

abbrev pub ArgumentsFitIn : Format → (archive room : List ℕ) → (context until : ℕ) → List Argument → Type 0
ArgumentsFitIn f archive room context until l = ArgumentsFit f archive (tables_in f room) (slots_in f room) context until l

-- ---- records that refer to texts and threads

-- the values of its header
abbrev pub SpelledHeaderFits : Format → List ℕ → Report → (first second third : Spelled) → Type 0
SpelledHeaderFits f archive r first second third = FieldsFit (spelled_fields f archive r first second third)

pub record ReportFits (f : Format) (archive tables slots : List ℕ) (s : State) (r : Report) (next : ℕ) : Type 0 where
  pub first : SpelledFits f archive tables slots s.current s.place r.first
  pub second : SpelledFits f archive tables slots s.current s.place r.second
  pub third : SpelledFits f archive tables slots s.current s.place r.third
  pub header : SpelledHeaderFits f archive r (first_spelled f archive tables slots s r) (second_spelled f archive tables slots s r)
      (third_spelled f archive tables slots s r)
  pub arguments : ArgumentsFit f archive tables slots s.current s.place (arguments_to f archive r next)
  pub size : length (report_body f archive tables slots s r next) < 2 ^ 15 - 8

abbrev pub ReportFitsIn : Format → (archive room : List ℕ) → State → Report → ℕ → Type 0
ReportFitsIn f archive room s r next = ReportFits f archive (tables_in f room) (slots_in f room) s r next

-- ---- any record

-- an item that refers to nothing; one of a skipped record is never written
abbrev pub PlainFits : Option Item → Type 0
PlainFits none = Unit {0}
PlainFits (some magic) = Unit {0}
PlainFits (some (provider_info id name)) = length name < 2 ^ 8
PlainFits (some (section id)) = Unit {0}
PlainFits (some (provider_event id e)) = e < 2 ^ 4
PlainFits (some (initialization rate)) = Unit {0}
PlainFits (some (report r)) = Unit {0}
PlainFits (some (skipped type size)) = ⊥

-- a record that ends at `next`
pub record ContentFits (f : Format) (archive tables slots : List ℕ) (s : State) (c : Content) (next : ℕ) : Type 0 where
  pub plain : PlainFits (plain_item archive c)
  pub report : (r : Report) → c ≡ ReportRead r
      → LookupsGivenFit f archive tables s.current s.place slots (report_lookups f archive r next)
      × ReportFits f archive tables (report_given_slots f archive tables slots s r next) s r next

abbrev pub ContentFitsIn : Format → (archive room : List ℕ) → State → Content → ℕ → Type 0
ContentFitsIn f archive room s c next = ContentFits f archive (tables_in f room) (slots_in f room) s c next

-- what is remembered is asked for where the record refers to texts and threads
abbrev pub RemembersFor : Format → (archive room : List ℕ) → State → Content → Type 0
RemembersFor f archive room s c = (r : Report) → c ≡ ReportRead r → RemembersIn f archive room s.place

-- ---- the whole pass

-- what the pass asks of its archive, room and output, but for the choices in the slots; no slot is remembered yet
abbrev pub Asks : Format → (archive room out : List ℕ) → Type 0
Asks f archive room out =
    (f ≡ small_format)
    × (opening_number f archive (table_words f) ≡ 0)
    × (refusal_of f (run_of f archive) ≡ none)
    × (4 * table_words f ≤ length room)
    × ((i : ℕ) → i < table_words f → get_or room i 0 ≡ 0)
    × (length (rule f (items_of (run_of f archive))) ≤ length out)
    × ((i : ℕ) → i < table_words f → get_or room (3 * table_words f + i) 0 ≡ 0)
