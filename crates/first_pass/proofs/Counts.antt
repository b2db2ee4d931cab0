-- The references of a record counted one after the other: what comes of it, what the slots tell of afterwards, and that they are kept.
-- Assumes nothing.
use Prim.Native.Nat.{ℕ, ◌≤◌}
use mathlib.Core.Path.{◌≡◌, refl}
use mathlib.Core.List.{List, [], ◌∷◌, ◌++◌, append_assoc, append-nil}
use mathlib.Core.Bool.{Bool, true, false, ◌&&◌, ◌||◌}
use mathlib.Core.Option.{Option}
use mathlib.Core.Logic.{inl, inr}
use lib.ListN.{length}
use Rattle.passes.specs.Models.Codes.{context_in}
use Rattle.words.proofs.Words.{AllBytes}
use Rattle.format.specs.declared.Format.{Format}
use Rattle.format.specs.Limits.{longest_archive}
use Rattle.tables.specs.Models.Entries.{FormatFits}
use Rattle.records.specs.declared.Lookup.{Lookup}
use Rattle.records.specs.Item.{Use}
use Rattle.contexts.specs.declared.State.{State}
use Rattle.tables.specs.Table.{looked_up}
use Rattle.passes.proofs.Places.{LookupStands, LookupsStand}
use Rattle.first_pass.specs.Models.Count.{unresolved_in, lookup_good, lookup_slots, lookups_good, lookups_slots, any_unresolved}
use Rattle.first_pass.specs.Models.Left.{within_limit, counted_uses}
use Rattle.first_pass.proofs.Kept.{SlotsKept, kept_same, kept_then, added-kept, remembering-kept}
use Rattle.first_pass.proofs.References.{lookup_uses, lookups_uses, Noted, on_lookup}
use Rattle.first_pass.proofs.Told.{Told, Outcome, outcome_none, outcome_unresolved, outcome_then, outcome_use, outcome_noted, use_counted, key_mark_lem, told_noted}

-- uses in two parts
counted_both : (f : Format) (uses us vs : List Use) → counted_uses f uses (us ++ vs) ≡ counted_uses f (counted_uses f uses us) vs
counted_both f uses [] vs = refl
counted_both f uses (u ∷ us) vs = counted_both f (within_limit f uses u) us vs

-- counting these uses leads from slots to slots, which keep what they must. Where the first tell of some uses, the second tell of those with
-- these counted, and whether all went well is what comes of it.
pub record Counts (f : Format) (archive : List ℕ) (last : State) (slots : List ℕ) (us : List Use) (bad good : Bool) (slots' : List ℕ) : Type 0 where
  pub kept : SlotsKept f slots slots'
  pub counted : (uses : List Use) → Told f archive last slots uses → Told f archive last slots' (counted_uses f uses us)
  pub outcome : (uses : List Use) → Told f archive last slots uses → Outcome f archive last slots' (uses ++ us) good bad

-- no uses
counts-none : (f : Format) (archive : List ℕ) (last : State) (slots : List ℕ) → Counts f archive last slots [] false true slots
counts-none f archive last slots =
    record {
      kept = kept_same f slots;
      counted = λ uses told. told;
      outcome = λ uses told. rw (append-nil uses) (outcome_none f archive last slots uses told);
    }

-- some uses, and then others
counts_both : (f : Format) (archive : List ℕ) (last : State) (slots : List ℕ) (us vs : List Use) (bad good bad' good' : Bool) (slots' slots'' : List ℕ)
    → Counts f archive last slots us bad good slots' → Counts f archive last slots' vs bad' good' slots''
    → Counts f archive last slots (us ++ vs) (bad || bad') (good && good') slots''
counts_both f archive last slots us vs bad good bad' good' slots' slots'' first second =
    record {
      kept = kept_then f slots slots' slots'' first.kept second.kept;
      counted = λ uses told. rw (counted_both f uses us vs) (second.counted (counted_uses f uses us) (first.counted uses told));
      outcome = λ uses told.
          rw (← append_assoc uses us vs)
          (outcome_then f archive last slots' slots'' (uses ++ us) vs good bad good' bad' (first.outcome uses told) (second.outcome (uses ++ us)));
    }

-- a word that is remembered keeps what slots must keep
pub kept-noted : (f : Format) (slots after : List ℕ) → Noted f slots after → SlotsKept f slots after
kept-noted f slots after (inl e) = rw e (kept_same f slots)
kept-noted f slots after (inr (entry, slot, low, e)) = rw e (remembering-kept f slots entry slot low)

-- some uses, and then a word that is remembered
counts-noted : (f : Format) (archive : List ℕ) (last : State) (slots : List ℕ) (us : List Use) (bad good : Bool) (slots' after : List ℕ)
    → Noted f slots' after → Counts f archive last slots us bad good slots' → Counts f archive last slots us bad good after
counts-noted f archive last slots us bad good slots' after noted c =
    record {
      kept = kept_then f slots slots' after c.kept (kept-noted f slots' after noted);
      counted = λ uses told. told_noted f archive last slots' after (counted_uses f uses us) noted (c.counted uses told);
      outcome = λ uses told. outcome_noted f archive last slots' after (uses ++ us) good bad noted (c.outcome uses told);
    }

module _ (f : Format) (archive : List ℕ) (fits : FormatFits f) (last : State) (few : last.count ≤ 8) (bytes : AllBytes archive)
    (small : length archive ≤ longest_archive) (provider : Option ℕ) (context : ℕ) (here : context_in last provider ≡ context) (low : context ≤ 8)
    (tables : List ℕ) (until : ℕ) where
  -- one reference
  lookup_counts : (slots : List ℕ) (l : Lookup) → LookupStands archive l
      → Counts f archive last slots (lookup_uses f archive tables provider context until l) (unresolved_in (looked_up f archive tables context until l))
      (lookup_good f archive tables slots context until l) (lookup_slots f archive tables slots context until l)
  lookup_counts slots =
      on_lookup f archive fits bytes small provider context low tables until slots (Counts f archive last slots) (record {
        missing = record {
          kept = kept_same f slots;
          counted = λ uses told. told;
          outcome = λ uses told. outcome_unresolved f archive last slots (uses ++ []);
        };
        empty = counts-none f archive last slots;
        used = λ key place label most k after noted.
            counts-noted f archive last slots (record { provider = provider; key = key } ∷ []) false _ _ after noted (record {
              kept = added-kept f archive slots place label most k.behind k.small (key_mark_lem f k low);
              counted = λ uses told. use_counted f archive last few slots uses told provider context here low key place label most k;
              outcome = λ uses told. outcome_use f archive last few slots uses told provider context here low key place label most k;
            });
      })

  -- references one after the other
  pub lookups_count : (ls : List Lookup) → LookupsStand archive ls → (slots : List ℕ)
      → Counts f archive last slots (lookups_uses f archive tables provider context until ls) (any_unresolved f archive tables context until ls)
      (lookups_good f archive tables slots context until ls) (lookups_slots f archive tables slots context until ls)
  unfolding any_unresolved lookups_good lookups_slots
  lookups_count [] stands slots = counts-none f archive last slots
  lookups_count (l ∷ more) stands slots =
      counts_both f archive last slots (lookup_uses f archive tables provider context until l) (lookups_uses f archive tables provider context until more)
      (unresolved_in (looked_up f archive tables context until l)) (lookup_good f archive tables slots context until l)
      (any_unresolved f archive tables context until more)
      (lookups_good f archive tables (lookup_slots f archive tables slots context until l) context until more)
      (lookup_slots f archive tables slots context until l)
      (lookups_slots f archive tables (lookup_slots f archive tables slots context until l) context until more) (lookup_counts slots l stands.0)
      (lookups_count more stands.1 (lookup_slots f archive tables slots context until l))
