-- What a record refers to, as a list in written order: thread, category and name of an event, then of each argument its name and its text.
-- Looking for bad entries and for unresolved ones, counting uses and giving indexes go through this list.
use Rattle.std.specs.Prelude.{ℕ, ◌-◌, [], List, ◌∷◌, take, drop}
use Rattle.format.specs.declared.Format.{Format}
use Rattle.format.specs.declared.Reference.{Reference}
use Rattle.arguments.specs.declared.Argument.{Argument}
use Rattle.arguments.specs.Argument.{text_in, arguments_read}
use Rattle.records.specs.declared.Lookup.{Lookup}
use Rattle.records.specs.declared.Report.{Report}
use Rattle.records.specs.declared.Content.{Content}
use Rattle.records.specs.declared.Content.TheVariants.{Refused, Magic, ProviderInfo, Section, ProviderEvent, Initialization, String, Thread, Report as ReportRead, Ignored, Skipped}

-- a text is looked up in table 2
abbrev pub text_lookup : Reference → Lookup
text_lookup reference = record { table = 2; reference = reference }

-- where a value is no text, an inline text of no bytes stands for it
abbrev pub argument_lookups : List Argument → List Lookup
argument_lookups [] = []
argument_lookups (a ∷ l) = text_lookup a.name ∷ text_lookup (text_in a.value) ∷ argument_lookups l

-- the arguments of a record that ends at `next`
abbrev pub arguments_to : Format → List ℕ → Report → ℕ → List Argument
arguments_to f archive r next = arguments_read f r.count (take (next - r.arguments) (drop r.arguments archive)) r.arguments

abbrev pub report_lookups : Format → List ℕ → Report → ℕ → List Lookup
report_lookups f archive r next = r.first ∷ r.second ∷ r.third ∷ argument_lookups (arguments_to f archive r next)

-- a record that refers to texts and threads, and any other
abbrev pub on_report : {A : Type 0} → Content → A → (Report → A) → A
on_report (Refused number) other report = other
on_report Magic other report = other
on_report (ProviderInfo id place long) other report = other
on_report (Section id) other report = other
on_report (ProviderEvent id event) other report = other
on_report (Initialization rate) other report = other
on_report (String index place long) other report = other
on_report (Thread index place) other report = other
on_report (ReportRead r) other report = report r
on_report Ignored other report = other
on_report (Skipped type size) other report = other

abbrev pub content_lookups : Format → List ℕ → Content → ℕ → List Lookup
content_lookups f archive content next = on_report content [] (λ r. report_lookups f archive r next)
