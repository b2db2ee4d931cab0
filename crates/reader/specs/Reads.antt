-- The list of items that an archive reads as, after "The list of items" of document 01. It is built of the definitions that the contracts of
-- `step`, `argument` and `text` cite, from the state and the tables that opening leaves (proofs `Opening.reads_as_opened`).
use Rattle.std.specs.Prelude.{ℕ, zero, suc, ◌≡◌, [], List, ◌∷◌, replicate, Some, None, Ok, Err}
use Rattle.std.specs.Prelude as code
use Rattle.std.proofs.Math.Option.{Option, none, some}
use Rattle.words.specs.Stream.{part_of}
use Rattle.format.specs.declared.Format.{Format}
use Rattle.records.specs.Item.{Shown, known, unresolved, Thread, thread, Text, Value, scalar, text, Argument, Referent, text_referent, thread_referent, Item, magic, provider_info, section, provider_event, initialization, report, skipped}
use Rattle.contexts.specs.declared.State.{State}
use Rattle.contexts.specs.Context.{opening}
use Rattle.tables.specs.Table.{table_words}
use Rattle.views.specs.declared.ShownStream.{ShownStream}
use Rattle.views.specs.declared.ShownText.{ShownText}
use Rattle.views.specs.declared.ShownText.TheVariants.{At, Unresolved}
use Rattle.views.specs.declared.ShownThread.{ShownThread}
use Rattle.views.specs.declared.ShownThread.TheVariants.{Words, Unresolved as ThreadUnresolved}
use Rattle.views.specs.declared.ShownReferent.{ShownReferent}
use Rattle.views.specs.declared.ShownReferent.TheVariants.{Text as TextReferentShown, Thread as ThreadShown}
use Rattle.views.specs.declared.ShownReport.{ShownReport}
use Rattle.views.specs.declared.ShownValue.{ShownValue}
use Rattle.views.specs.declared.ShownValue.TheVariants.{Scalar as ScalarShown, Text as TextValue}
use Rattle.views.specs.declared.ShownArgument.{ShownArgument}
use Rattle.reader.specs.declared.Answer.{Answer}
use Rattle.reader.specs.declared.Answer.TheVariants.{End, Nothing, Magic, ProviderInfo, Section, ProviderEvent, Initialization, Report as ReportShown, Skipped}
use Rattle.reader.specs.Step.{opening_number, step_reply, step_tables}
use Rattle.reader.specs.Ask.{Asked, argument_reply}

-- "a string's bytes are the part of the archive answered for the place and length shown"
abbrev pub text_item : List ℕ → ShownText → Text
text_item archive (At place long) = known (part_of archive place long)
text_item archive (Unresolved index) = unresolved index

abbrev pub thread_item : ShownThread → Shown Thread
thread_item (Words process t) = known (thread process t)
thread_item (ThreadUnresolved index) = unresolved index

-- the provider of an item, from the Option that code answers (`code.Option`)
abbrev pub provider_item : code.Option ℕ → Option ℕ
provider_item None = none
provider_item (Some id) = some id

abbrev pub value_item : List ℕ → ShownValue → Value
value_item archive (ScalarShown s) = scalar s
value_item archive (TextValue t) = text (text_item archive t)

abbrev pub argument_item : List ℕ → ShownArgument → Argument
argument_item archive a = record { name = text_item archive a.name; value = value_item archive a.value }

-- an argument that is refused is no argument
abbrev pub prepend : List ℕ → Asked → Option (List Argument) → Option (List Argument)
prepend archive (Err refused) rest = none
prepend archive (Ok a) none = none
prepend archive (Ok a) (some l) = some (argument_item archive a ∷ l)

-- "An event's arguments are those asked for in the state right after it": so many, from a number on
unfoldable pub argument_items : Format → List ℕ → List ℕ → State → ℕ → ℕ → ℕ → Option (List Argument)
argument_items f archive tables s place number zero = some []
argument_items f archive tables s place number (suc count) =
    prepend archive (argument_reply f archive tables s place number) (argument_items f archive tables s place (suc number) count)

abbrev pub referent_item : List ℕ → ShownReferent → Referent
referent_item archive (TextReferentShown t) = text_referent (text_item archive t)
referent_item archive (ThreadShown t) = thread_referent (thread_item t)

-- the bytes of a stream
abbrev pub stream_item : List ℕ → ShownStream → List ℕ
stream_item archive s = part_of archive s.place s.length

abbrev pub report_item : List ℕ → ShownReport → Option (List Argument) → Option Item
report_item archive r none = none
report_item archive r (some l) =
    some (report (record {
      provider = provider_item r.provider;
      rate = r.rate;
      own = r.own;
      first = referent_item archive r.first;
      second = referent_item archive r.second;
      third = referent_item archive r.third;
      stream = stream_item archive r.stream;
      arguments = l;
      last = r.last;
    }))

-- the item of an answer, with the state and the tables that the step hands back
unfoldable pub item_of : Format → List ℕ → List ℕ → State → Answer → Option Item
item_of f archive tables s (End number place) = none
item_of f archive tables s Nothing = none
item_of f archive tables s Magic = some magic
item_of f archive tables s (ProviderInfo id place long) = some (provider_info id (part_of archive place long))
item_of f archive tables s (Section id) = some (section id)
item_of f archive tables s (ProviderEvent id e) = some (provider_event id e)
item_of f archive tables s (Initialization rate) = some (initialization rate)
item_of f archive tables s (ReportShown r) = report_item archive r (argument_items f archive tables s r.place 0 r.count)
item_of f archive tables s (Skipped type size) = some (skipped type size)

-- the steps from a state "show exactly the list's items, in order, until one replies 0". "Each step gets the archive unchanged, and the state and
-- tables as the last call handed them back"
pub data Reads (f : Format) (archive : List ℕ) : State → List ℕ → List Item → Type 0 where
  ends : (s : State) (tables : List ℕ) (place : ℕ) → (step_reply f archive tables s).answer ≡ End 0 place → Reads f archive s tables []
  passes : (s : State) (tables : List ℕ) (items : List Item) → (step_reply f archive tables s).answer ≡ Nothing
      → Reads f archive (step_reply f archive tables s).state (step_tables f archive tables s) items → Reads f archive s tables items
  shows : (s : State) (tables : List ℕ) (i : Item) (items : List Item)
      → item_of f archive (step_tables f archive tables s) (step_reply f archive tables s).state (step_reply f archive tables s).answer ≡ some i
      → Reads f archive (step_reply f archive tables s).state (step_tables f archive tables s) items → Reads f archive s tables (i ∷ items)

-- "An archive reads to its end as a list when opening takes it, given long enough tables, and the steps from there show exactly the list's items".
-- Here opening is spelled out: its first checks, its state, and zeros for the tables. That `open`'s reply and tables say the same, whatever long enough
-- tables held before and however long they are, is the law `Opening.reads_as_opened`.
abbrev pub ReadsAs : Format → List ℕ → List Item → Type 0
ReadsAs f archive items = (opening_number f archive (table_words f) ≡ 0) × Reads f archive opening (replicate (table_words f) 0) items
