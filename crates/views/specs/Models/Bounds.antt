-- Bounds that functions ask for.
use Rattle.std.specs.Prelude.{ℕ, ◌+◌, ◌≤◌, ◌≡◌, List, length, take, drop}
use Rattle.format.specs.declared.Format.{Format}
use Rattle.records.specs.declared.Content.{Content}
use Rattle.records.specs.Record.{record_at}
use Rattle.tables.specs.declared.Resolved.{Resolved}
use Rattle.tables.specs.declared.Resolved.TheVariants.{Bad, Known, Unresolved}

-- the record at a place of the archive is whole and has this content, and `source` are its bytes
abbrev pub Whole : Format → List ℕ → ℕ → List ℕ → Content → Type 0
Whole f archive place source content =
    (record_at f archive place ≡ record { content = content; next = place + length source }) × (source ≡ take (length source) (drop place archive))

-- and it stands inside the archive with a word at least
abbrev pub StandsWhole : Format → List ℕ → ℕ → List ℕ → Content → Type 0
StandsWhole f archive place source content =
    (place ≤ length archive) × (8 ≤ length source) × (place + length source ≤ length archive) × Whole f archive place source content

-- a thread's two words stand inside the archive
abbrev pub ThreadInside : ℕ → Resolved → Type 0
ThreadInside n Bad = Unit {0}
ThreadInside n (Known place length) = place + 16 ≤ n
ThreadInside n (Unresolved index) = Unit {0}

-- a reference that is looked up as a thread is one
abbrev pub ReferentInside : ℕ → ℕ → Resolved → Type 0
ReferentInside n table r = table ≡ 3 → ThreadInside n r
