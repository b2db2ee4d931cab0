-- Where what a reference stands for can be counted and written: its place and its length fit a slot.
use Rattle.std.specs.Prelude.{◌+◌, ◌<◌, ◌≤◌}
use Rattle.format.specs.Limits.{longest_archive}
use Rattle.format.specs.declared.Reference.{Reference}
use Rattle.format.specs.declared.Reference.TheVariants.{Inline, Index}
use Rattle.tables.specs.declared.Resolved.{Resolved}
use Rattle.tables.specs.declared.Resolved.TheVariants.{Bad, Known, Unresolved}

-- an inline reference does; of an index nothing is asked
abbrev pub ReferenceFits : Reference → Type 0
ReferenceFits (Inline place long) = (place + long ≤ longest_archive) × (long < 65536)
ReferenceFits (Index index) = Unit {0}

-- what is known does
abbrev pub KnownFits : Resolved → Type 0
KnownFits Bad = Unit {0}
KnownFits (Known place long) = (place + long ≤ longest_archive) × (long < 65536)
KnownFits (Unresolved index) = Unit {0}
