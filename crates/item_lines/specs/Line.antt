-- The lines of a listing, after "The listing program" of document 01. A line ends in a line feed, 10; letters are by their ASCII numbers.
use Rattle.std.specs.Prelude.{ℕ, List, [], ◌∷◌, ◌++◌, Option, Ok, Err}
use Rattle.words.specs.Stream.{part_of}
use Rattle.words.specs.Word.{pick}
use Rattle.records.specs.declared.Event.{Event}
use Rattle.records.specs.declared.Log.{Log}
use Rattle.records.specs.declared.Own.{Own}
use Rattle.records.specs.declared.Own.TheVariants.{Event as EventOwn, Log as LogOwn}
use Rattle.records.specs.Layout.{has_extra}
use Rattle.views.specs.declared.ShownReport.{ShownReport}
use Rattle.views.specs.declared.ShownArgument.{ShownArgument}
use Rattle.reader.specs.Ask.{Asked}
use Rattle.reader.specs.declared.Answer.{Answer}
use Rattle.reader.specs.declared.Answer.TheVariants.{End, Nothing, Magic, ProviderInfo, Section, ProviderEvent, Initialization, Report, Skipped}
use Rattle.lines.specs.Shown.{number_shown, bytes_shown, text_shown, referent_shown, provider_shown, value_type, value_shown}

abbrev pub line_end : List ℕ
line_end = 10 ∷ []

-- "First `trace 1`"
unfoldable pub trace_line : List ℕ
trace_line = 116 ∷ 114 ∷ 97 ∷ 99 ∷ 101 ∷ 32 ∷ 49 ∷ 10 ∷ []

-- "`M`"
unfoldable pub magic_line : List ℕ
magic_line = 77 ∷ 10 ∷ []

-- "`P id name`"
unfoldable pub provider_info_line : ℕ → List ℕ → List ℕ
provider_info_line id name = (80 ∷ []) ++ number_shown id ++ bytes_shown name ++ line_end

-- "`S id`"
unfoldable pub section_line : ℕ → List ℕ
section_line id = (83 ∷ []) ++ number_shown id ++ line_end

-- "`V id event`"
unfoldable pub provider_event_line : ℕ → ℕ → List ℕ
provider_event_line id event = (86 ∷ []) ++ number_shown id ++ number_shown event ++ line_end

-- "`I rate`"
unfoldable pub initialization_line : ℕ → List ℕ
initialization_line rate = (73 ∷ []) ++ number_shown rate ++ line_end

-- "`K type size`"
unfoldable pub skipped_line : ℕ → ℕ → List ℕ
skipped_line type size = (75 ∷ []) ++ number_shown type ++ number_shown size ++ line_end

-- "provider timestamp rate"
unfoldable pub timestamp_shown : Option ℕ → ℕ → ℕ → List ℕ
timestamp_shown provider timestamp rate = provider_shown provider ++ number_shown timestamp ++ number_shown rate

-- "`E type provider timestamp rate"
unfoldable pub event_start : Event → ShownReport → List ℕ
event_start e r = (69 ∷ []) ++ number_shown e.variant ++ timestamp_shown r.provider e.timestamp r.rate

-- the three that an event refers to: "process thread category name"
unfoldable pub referents_shown : List ℕ → ShownReport → List ℕ
referents_shown archive r = referent_shown archive r.first ++ referent_shown archive r.second ++ referent_shown archive r.third

-- "[extra]": "one more word for event types 1 and 4 to 10"
unfoldable pub extra_shown : ℕ → ℕ → List ℕ
extra_shown type extra = pick (has_extra type) (number_shown extra) []

-- an event's letter and its fields in their order, the last of them "count [extra]`"
unfoldable pub event_shown : List ℕ → Event → ShownReport → List ℕ
event_shown archive e r = event_start e r ++ referents_shown archive r ++ number_shown r.count ++ extra_shown e.variant r.last

-- "`L provider timestamp rate process thread message`" (request W1)
unfoldable pub log_shown : List ℕ → Log → ShownReport → List ℕ
log_shown archive l r =
    (76 ∷ []) ++ timestamp_shown r.provider l.timestamp r.rate ++ referent_shown archive r.first
    ++ bytes_shown (part_of archive r.stream.place r.stream.length)

-- a report: what is its own says, here alone, which letter and which fields in which order
unfoldable pub own_shown : List ℕ → Own → ShownReport → List ℕ
own_shown archive (EventOwn e) r = event_shown archive e r
own_shown archive (LogOwn l) r = log_shown archive l r

-- the line of a report
unfoldable pub report_line : List ℕ → ShownReport → List ℕ
report_line archive r = own_shown archive r.own r ++ line_end

-- "`A type name value`"
unfoldable pub argument_line : List ℕ → ShownArgument → List ℕ
argument_line archive a =
    (65 ∷ []) ++ number_shown (value_type a.value) ++ text_shown archive a.name ++ value_shown archive a.value ++ line_end

-- "last `end number place`"
unfoldable pub end_line : ℕ → ℕ → List ℕ
end_line number place = (101 ∷ 110 ∷ 100 ∷ []) ++ number_shown number ++ number_shown place ++ line_end

-- the line of an answer; one that shows nothing has none
unfoldable pub answer_line : List ℕ → Answer → List ℕ
answer_line archive (End number place) = end_line number place
answer_line archive Nothing = []
answer_line archive Magic = magic_line
answer_line archive (ProviderInfo id place long) = provider_info_line id (part_of archive place long)
answer_line archive (Section id) = section_line id
answer_line archive (ProviderEvent id event) = provider_event_line id event
answer_line archive (Initialization rate) = initialization_line rate
answer_line archive (Report r) = report_line archive r
answer_line archive (Skipped type size) = skipped_line type size

-- the line of what was asked for: an argument's, or a refusal's
unfoldable pub asked_line : List ℕ → Asked → List ℕ
asked_line archive (Err refused) = end_line refused.number refused.place
asked_line archive (Ok a) = argument_line archive a
