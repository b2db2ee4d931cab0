-- The item of a record, from what was read in it and the tables as they stand at it.
use Rattle.std.specs.Prelude.{ℕ, [], List, ◌∷◌}
use Rattle.std.proofs.Math.Option.{Option, none, some}
use Rattle.words.specs.Stream.{part_of}
use Rattle.format.specs.declared.Format.{Format}
use Rattle.format.specs.declared.Reference.{Reference}
use Rattle.arguments.specs.declared.Argument.{Argument as ArgumentRead}
use Rattle.records.specs.declared.Lookup.{Lookup}
use Rattle.records.specs.declared.Report.{Report as ReadReport}
use Rattle.records.specs.declared.Content.{Content}
use Rattle.records.specs.declared.Content.TheVariants.{Refused, Magic, ProviderInfo, Section, ProviderEvent, Initialization, String, Thread, Report as ReportRead, Ignored, Skipped}
use Rattle.records.specs.Lookups.{arguments_to, on_report}
use Rattle.records.specs.Item.{Text, Argument, Referent, Report, Item, magic, provider_info, section, provider_event, initialization, report, skipped}
use Rattle.contexts.specs.declared.State.{State}
use Rattle.contexts.specs.Context.{provider_of, rate_of}
use Rattle.tables.specs.Table.{resolved, looked_up}
use Rattle.views.specs.Shown.{shown_text, shown_referent, shown_stream, shown_value}
use Rattle.reader.specs.Reads.{text_item, referent_item, stream_item, provider_item, value_item}

-- what a reference of a record stands for in a context
abbrev pub referent_at : Format → List ℕ → List ℕ → ℕ → ℕ → Lookup → Referent
referent_at f archive tables context until l = referent_item archive (shown_referent f archive l.table (looked_up f archive tables context until l))

-- what a text reference does
abbrev pub text_at : Format → List ℕ → List ℕ → ℕ → ℕ → Reference → Text
text_at f archive tables context until reference = text_item archive (shown_text (resolved f archive tables context 2 until reference))

-- an argument that was read
abbrev pub argument_at : Format → List ℕ → List ℕ → ℕ → ℕ → ArgumentRead → Argument
argument_at f archive tables context until a = record {
  name = text_at f archive tables context until a.name;
  value = value_item archive (shown_value f archive tables context until a.value);
}

abbrev pub arguments_at : Format → List ℕ → List ℕ → ℕ → ℕ → List ArgumentRead → List Argument
arguments_at f archive tables context until [] = []
arguments_at f archive tables context until (a ∷ l) = argument_at f archive tables context until a ∷ arguments_at f archive tables context until l

-- a record that refers to texts and threads and ends at `next`
unfoldable pub report_at : Format → List ℕ → List ℕ → State → ReadReport → ℕ → Report
report_at f archive tables s r next = record {
  provider = provider_item (provider_of s);
  rate = rate_of s;
  own = r.own;
  first = referent_at f archive tables s.current s.place r.first;
  second = referent_at f archive tables s.current s.place r.second;
  third = referent_at f archive tables s.current s.place r.third;
  stream = stream_item archive (shown_stream r.stream);
  arguments = arguments_at f archive tables s.current s.place (arguments_to f archive r next);
  last = r.last;
}

-- a record that refers to nothing
unfoldable pub plain_item : List ℕ → Content → Option Item
plain_item archive (Refused number) = none
plain_item archive Magic = some magic
plain_item archive (ProviderInfo id place long) = some (provider_info id (part_of archive place long))
plain_item archive (Section id) = some (section id)
plain_item archive (ProviderEvent id e) = some (provider_event id e)
plain_item archive (Initialization rate) = some (initialization rate)
plain_item archive (String index place long) = none
plain_item archive (Thread index place) = none
plain_item archive (ReportRead r) = none
plain_item archive Ignored = none
plain_item archive (Skipped type size) = some (skipped type size)

-- a record that ends at `next`
abbrev pub item_at : Format → List ℕ → List ℕ → State → Content → ℕ → Option Item
item_at f archive tables s content next = on_report content (plain_item archive content) (λ r. some (report (report_at f archive tables s r next)))
