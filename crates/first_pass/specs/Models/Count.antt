-- The uses of a record as the first pass counts them, reference after reference. `tables` are the reading tables, `slots` the words of the tally.
use Rattle.std.specs.Prelude.{ℕ, ◌+◌, ◌-◌, ◌*◌, ◌≤◌, ◌<◌, ◌≡◌, List, [], ◌∷◌, Bool, true, false, ◌&&◌, ◌||◌, length, take, drop, eqb, Result, Ok, Err}
use Rattle.passes.specs.Models.Item.{report_at}
use Rattle.passes.specs.Models.Memory.{noted, Remembers}
use Rattle.tally.specs.Models.Slots.{label_of, key_of, find_of, is_added, added_slot, added}
use Rattle.tables.specs.Models.Entries.{FormatFits}
use Rattle.records.specs.Models.Fixed.{fixed_words}
use Rattle.words.specs.Word.{pick}
use Rattle.words.specs.Stream.{stream_words}
use Rattle.format.specs.declared.Format.{Format}
use Rattle.format.specs.declared.Reason.{Reason}
use Rattle.format.specs.declared.Reason.TheVariants.{Loss, Unregistered, ManyKeys}
use Rattle.format.specs.declared.Reference.{Reference}
use Rattle.format.specs.declared.Reference.TheVariants.{Inline, Index}
use Rattle.format.specs.Limits.{longest_archive}
use Rattle.arguments.specs.declared.Argument.{Argument}
use Rattle.arguments.specs.declared.Value.{Value}
use Rattle.arguments.specs.declared.Value.TheVariants.{Scalar as ScalarValue, Text}
use Rattle.arguments.specs.Argument.{scalar_words}
use Rattle.records.specs.declared.Lookup.{Lookup}
use Rattle.records.specs.declared.Report.{Report}
use Rattle.records.specs.declared.Content.{Content}
use Rattle.records.specs.declared.Content.TheVariants.{Refused, Magic, ProviderInfo, Section, ProviderEvent, Initialization, String, Thread, Report as ReportRead, Ignored, Skipped}
use Rattle.records.specs.Record.{record_at}
use Rattle.arguments.specs.Loss.{arguments_keep}
use Rattle.records.specs.Loss.{record_keeps}
use Rattle.records.specs.Lookups.{report_lookups, on_report}
use Rattle.records.specs.Item.{report}
use Rattle.contexts.specs.declared.State.{State}
use Rattle.tables.specs.declared.Resolved.{Resolved}
use Rattle.tables.specs.declared.Resolved.TheVariants.{Bad, Known, Unresolved}
use Rattle.tables.specs.Table.{table_words, highest_of, looked_up}

-- ---- the room

-- the reading tables stand first in the room, the slots behind them
abbrev pub tables_in : Format → List ℕ → List ℕ
tables_in f room = take (table_words f) room

abbrev pub slots_in : Format → List ℕ → List ℕ
slots_in f room = drop (table_words f) room

-- what counting in a context asks for: a format whose indexes fit, an archive whose places fit a slot, a room of four stretches, one of nine contexts
pub record CanCount (f : Format) (archive room : List ℕ) (context : ℕ) : Type 0 where
  pub fits : FormatFits f
  pub short : length archive ≤ longest_archive
  pub wide : 4 * table_words f ≤ length room
  pub low : context ≤ 8

-- the record at the state's place, which stands in the archive, has this content and ends at `next`
abbrev pub RecordIs : Format → List ℕ → State → Content → ℕ → Type 0
RecordIs f archive s content next = (s.place ≤ length archive) × (record_at f archive s.place ≡ record { content = content; next = next })

-- the slots that are remembered are those of what the entries of the tables stand for at `until`
abbrev pub Recalls : Format → List ℕ → List ℕ → ℕ → Type 0
Recalls f archive room until = Remembers f archive (tables_in f room) (slots_in f room) until

-- ---- references

-- an inline reference whose bytes can be counted: they stand in the archive, behind its first byte where there are any, and are fewer than 65,536
abbrev pub CanStand : List ℕ → Reference → Type 0
CanStand archive (Inline place long) = (place + long ≤ length archive) × (long < 65536) × (0 < long → 0 < place)
CanStand archive (Index index) = Unit {0}

-- whether a reference is shown as unresolved
unfoldable pub unresolved_in : Resolved → Bool
unresolved_in Bad = true
unresolved_in (Known place long) = false
unresolved_in (Unresolved index) = true

-- whether what a reference stands for is counted: it is known, and is empty, has a slot, or gets one
unfoldable pub count_good : Format → List ℕ → List ℕ → ℕ → ℕ → Resolved → Bool
count_good f archive slots context table Bad = false
count_good f archive slots context table (Known place long) =
    pick (eqb long 0) true
    (is_added (table_words f) slots (label_of context table long) (highest_of f table)
    (find_of archive (table_words f) slots (key_of archive place (label_of context table long))))
count_good f archive slots context table (Unresolved index) = false

-- the slots after it, in which its slot is remembered for the reference
unfoldable pub count_slots : Format → List ℕ → List ℕ → ℕ → ℕ → Reference → Resolved → List ℕ
count_slots f archive slots context table reference Bad = slots
count_slots f archive slots context table reference (Known place long) =
    let label = label_of context table long in
    let slot = find_of archive (table_words f) slots (key_of archive place label) in
    pick (eqb long 0) slots
    (noted f (added (table_words f) slots place label (highest_of f table) slot) context table reference
    (added_slot (table_words f) slots label (highest_of f table) slot))
count_slots f archive slots context table reference (Unresolved index) = slots

-- a reference looked up in its table
abbrev pub lookup_good : Format → List ℕ → List ℕ → List ℕ → ℕ → ℕ → Lookup → Bool
lookup_good f archive tables slots context until l = count_good f archive slots context l.table (looked_up f archive tables context until l)

abbrev pub lookup_slots : Format → List ℕ → List ℕ → List ℕ → ℕ → ℕ → Lookup → List ℕ
lookup_slots f archive tables slots context until l = count_slots f archive slots context l.table l.reference (looked_up f archive tables context until l)

-- references one after the other
unfoldable pub lookups_good : Format → List ℕ → List ℕ → List ℕ → ℕ → ℕ → List Lookup → Bool
lookups_good f archive tables slots context until [] = true
lookups_good f archive tables slots context until (l ∷ more) =
    lookup_good f archive tables slots context until l
    && lookups_good f archive tables (lookup_slots f archive tables slots context until l) context until more

unfoldable pub lookups_slots : Format → List ℕ → List ℕ → List ℕ → ℕ → ℕ → List Lookup → List ℕ
lookups_slots f archive tables slots context until [] = slots
lookups_slots f archive tables slots context until (l ∷ more) =
    lookups_slots f archive tables (lookup_slots f archive tables slots context until l) context until more

-- whether one of them is unresolved
unfoldable pub any_unresolved : Format → List ℕ → List ℕ → ℕ → ℕ → List Lookup → Bool
any_unresolved f archive tables context until [] = false
any_unresolved f archive tables context until (l ∷ more) =
    unresolved_in (looked_up f archive tables context until l) || any_unresolved f archive tables context until more

-- ---- words

-- so many arguments lose nothing, whatever stands behind them
abbrev pub AllKept : Format → ℕ → List ℕ → ℕ → Type 0
AllKept f count rest place = (extra : ℕ) × (arguments_keep f count rest place extra ≡ true)

-- the words of a value behind its argument's name, without a text
unfoldable pub words_in : Value → ℕ
words_in (ScalarValue scalar) = scalar_words scalar
words_in (Text reference) = 0

-- the words of arguments without texts
unfoldable pub words_read : List Argument → ℕ
words_read [] = 0
words_read (a ∷ l) = 1 + words_in a.value + words_read l

-- the words of a record that refers to nothing, where it shows an item
unfoldable pub plain_words : Content → ℕ
plain_words (Refused number) = 0
plain_words Magic = 1
plain_words (ProviderInfo id place long) = 1 + stream_words long
plain_words (Section id) = 1
plain_words (ProviderEvent id e) = 1
plain_words (Initialization rate) = 2
plain_words (String index place long) = 0
plain_words (Thread index place) = 0
plain_words (ReportRead r) = 0
plain_words Ignored = 0
plain_words (Skipped type size) = 0

-- ---- records

-- a record that refers to texts and threads and ends at `next`
abbrev pub report_good : Format → List ℕ → List ℕ → List ℕ → State → Report → ℕ → Bool
report_good f archive tables slots s r next = lookups_good f archive tables slots s.current s.place (report_lookups f archive r next)

abbrev pub report_slots : Format → List ℕ → List ℕ → List ℕ → State → Report → ℕ → List ℕ
report_slots f archive tables slots s r next = lookups_slots f archive tables slots s.current s.place (report_lookups f archive r next)

abbrev pub report_unresolved : Format → List ℕ → List ℕ → State → Report → ℕ → Bool
report_unresolved f archive tables s r next = any_unresolved f archive tables s.current s.place (report_lookups f archive r next)

abbrev pub report_words : Format → List ℕ → List ℕ → State → Report → ℕ → ℕ
report_words f archive tables s r next = fixed_words (report (report_at f archive tables s r next))

-- what is found at a record: the words that its item takes without texts and threads, or what it is refused by
abbrev pub Counted : Type 0
Counted = Result ℕ Reason

-- what is found at one that loses nothing. Once something is found the uses are counted no more.
unfoldable pub report_checked : Format → List ℕ → List ℕ → List ℕ → State → Report → ℕ → Bool → Counted
report_checked f archive tables slots s r next clean =
    pick clean
    (pick (report_good f archive tables slots s r next) (Ok (report_words f archive tables s r next))
    (pick (report_unresolved f archive tables s r next) (Err Unregistered) (Err ManyKeys)))
    (pick (report_unresolved f archive tables s r next) (Err Unregistered) (Ok 0))

-- what is found at any record that loses nothing, and the slots after it
abbrev pub content_checked : Format → List ℕ → List ℕ → List ℕ → State → Content → ℕ → Bool → Counted
content_checked f archive tables slots s content next clean =
    on_report content (Ok (plain_words content)) (λ r. report_checked f archive tables slots s r next clean)

abbrev pub content_slots : Format → List ℕ → List ℕ → List ℕ → State → Content → ℕ → Bool → List ℕ
content_slots f archive tables slots s content next clean =
    on_report content slots (λ r. pick clean (report_slots f archive tables slots s r next) slots)

-- whether the record from the state's place to `next` is written again as it is
abbrev pub keeps_to : Format → List ℕ → State → Content → ℕ → Bool
keeps_to f archive s content next = record_keeps f (take (next - s.place) (drop s.place archive)) s.place content

-- what is found at a record that ends at `next`, and the slots after it
unfoldable pub record_checked : Format → List ℕ → List ℕ → List ℕ → State → Content → ℕ → Bool → Counted
record_checked f archive tables slots s content next clean =
    pick (keeps_to f archive s content next) (content_checked f archive tables slots s content next clean) (Err Loss)

unfoldable pub checked_slots : Format → List ℕ → List ℕ → List ℕ → State → Content → ℕ → Bool → List ℕ
checked_slots f archive tables slots s content next clean =
    pick (keeps_to f archive s content next) (content_slots f archive tables slots s content next clean) slots
