-- Bounds that functions ask for.
use Rattle.std.specs.Prelude.{ℕ, ◌+◌, ◌*◌, ◌^◌, ◌<◌, ◌≤◌}
use Rattle.words.specs.Stream.{stream_words}
use Rattle.format.specs.declared.Reference.{Reference}
use Rattle.format.specs.declared.Reference.TheVariants.{Inline, Index}
use Rattle.format.specs.declared.Part.{Part}
use Rattle.format.specs.declared.Part.TheVariants.{Words as words, Stream as stream, Text as text, Thread as thread}

-- the numbers of a part fit the fields of a header
abbrev pub PartFits : Part → Type 0
PartFits (words n) = n < 2 ^ 32
PartFits (stream n) = n < 2 ^ 32
PartFits (text reference) = reference < 2 ^ 16
PartFits (thread reference) = reference < 2 ^ 8

-- the bytes of a reference, with their padding, stand between two places
abbrev pub Inside : ℕ → ℕ → Reference → Type 0
Inside from to (Inline place length) = (from ≤ place) × (place + 8 * stream_words length ≤ to)
Inside from to (Index index) = Unit {0}
