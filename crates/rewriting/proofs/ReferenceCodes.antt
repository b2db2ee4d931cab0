-- What references stand for: it stands inside the archive, and the key that the slots are asked for it is the code of its use.
-- Assumes nothing.
use Prim.Native.Nat.{ℕ, ◌+◌, ◌≤◌, ◌<◌}
use mathlib.Core.Path.{◌≡◌, refl, ◌∙◌}
use mathlib.Core.List.{List}
use mathlib.Core.Option.{Option}
use native.Mathlib.Nat.{add-zero}
use native.Mathlib.Omega.{arith}
use lib.ListN.{length, drop}
use Rattle.passes.specs.Models.Codes.{context_in, code_in}
use Rattle.tally.specs.Models.Slots.{label_of, key_of}
use Rattle.words.specs.Word.{word_at}
use Rattle.words.specs.Stream.{part_of}
use Rattle.words.proofs.Words.{word_at-drop, word_at-take, AllBytes}
use Rattle.format.specs.declared.Format.{Format}
use Rattle.records.specs.declared.Lookup.{Lookup}
use Rattle.records.specs.Item.{thread, text_key, thread_key}
use Rattle.contexts.specs.declared.State.{State}
use Rattle.tables.specs.declared.Resolved.{Resolved}
use Rattle.tables.specs.declared.Resolved.TheVariants.{Bad, Known, Unresolved}
use Rattle.tables.specs.Table.{looked_up}
use Rattle.passes.proofs.Places.{LookupStands, lookup_known, part-inside}
use Rattle.passes.proofs.Codes.{text_code, thread_code}

-- ---- where it stands

-- what is known stands inside the archive, and a thread's bytes are sixteen
abbrev pub ResolvedStands : List ℕ → ℕ → Resolved → Type 0
ResolvedStands archive table Bad = Unit {0}
ResolvedStands archive table (Known place long) = (place + long ≤ length archive) × (table ≡ 3 → long ≡ 16)
ResolvedStands archive table (Unresolved index) = Unit {0}

-- so it is for every reference of a record that stands in the archive
pub resolved_stands : (f : Format) (archive tables : List ℕ) (context until : ℕ) (l : Lookup) → LookupStands archive l
    → ResolvedStands archive l.table (looked_up f archive tables context until l)
resolved_stands f archive tables context until l h = go (looked_up f archive tables context until l) refl
  where
    go : (x : Resolved) → looked_up f archive tables context until l ≡ x → ResolvedStands archive l.table x
    go Bad e = tt
    go (Known place long) e = let k = lookup_known f archive tables context until l place long h e in (k.0.inside, k.1)
    go (Unresolved index) e = tt

-- the two words of sixteen bytes are those that the archive has there
pub words_inside : (f : Format) (archive : List ℕ) (place : ℕ) → place + 16 ≤ length archive
    → (word_at f.order (part_of archive place 16) 0 ≡ word_at f.order archive place) × (word_at f.order (part_of archive place 16) 8 ≡ word_at f.order archive (place + 8))
words_inside f archive place h =
    rw (part-inside archive place 16 h).0 (
      word_at-take f.order (drop place archive) 0 16 (omega arith) ∙ word_at-drop f.order archive place 0 ∙ rw add-zero,
      word_at-take f.order (drop place archive) 8 16 (omega arith) ∙ word_at-drop f.order archive place 8,
    )

-- ---- the codes

module _ (f : Format) (archive : List ℕ) (last : State) (provider : Option ℕ) (context : ℕ) (here : context_in last provider ≡ context) (place : ℕ) where
  -- the key of a text in a provider's context is the code of its use
  pub text_use_code : (long : ℕ) → place + long ≤ length archive → long < 65536
      → key_of archive place (label_of context 2 long) ≡ code_in f last (record { provider = provider; key = text_key (part_of archive place long) })
  text_use_code long h short = rw here (text_code f archive place long context short (part-inside archive place long h).1)

  -- and so is that of a thread
  pub thread_use_code : AllBytes archive → place + 16 ≤ length archive
      → key_of archive place (label_of context 3 16)
      ≡ code_in f last (record { provider = provider; key = thread_key (thread (word_at f.order archive place) (word_at f.order archive (place + 8))) })
  thread_use_code bytes h = rw here (thread_code f archive place context bytes h)
