-- Where the parts of a record that was read stand: bounds that functions ask for.
use Rattle.std.specs.Prelude.{ℕ, ◌≤◌}
use Rattle.format.specs.declared.Reference.TheVariants.{Inline}
use Rattle.format.specs.Models.Bounds.{Inside}
use Rattle.records.specs.declared.Report.{Report}
use Rattle.records.specs.declared.Content.{Content}
use Rattle.records.specs.declared.Content.TheVariants.{Refused, Magic, ProviderInfo, Section, ProviderEvent, Initialization, String, Thread, Report as ReportRead, Ignored, Skipped}

-- the places that a record that refers to texts and threads shows stand between two places
pub record ReportInside (from to : ℕ) (r : Report) : Type 0 where
  pub first : Inside from to r.first.reference
  pub second : Inside from to r.second.reference
  pub third : Inside from to r.third.reference
  pub stream : Inside from to r.stream
  pub behind : from ≤ r.arguments
  pub before : r.arguments ≤ to

-- the places that a record shows do
abbrev pub ContentInside : ℕ → ℕ → Content → Type 0
ContentInside from to (Refused number) = Unit {0}
ContentInside from to Magic = Unit {0}
ContentInside from to (ProviderInfo id place long) = Inside from to (Inline place long)
ContentInside from to (Section id) = Unit {0}
ContentInside from to (ProviderEvent id event) = Unit {0}
ContentInside from to (Initialization rate) = Unit {0}
ContentInside from to (String index place long) = Inside from to (Inline place long)
ContentInside from to (Thread index place) = Inside from to (Inline place 16)
ContentInside from to (ReportRead r) = ReportInside from to r
ContentInside from to Ignored = Unit {0}
ContentInside from to (Skipped type size) = Unit {0}
