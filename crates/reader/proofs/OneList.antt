-- An archive reads as one list at most. Assumes nothing.
use Prim.Native.Nat.{ℕ}
use mathlib.Core.Path.{◌≡◌, refl, sym, subst}
use mathlib.Core.List.{List}
use mathlib.Core.Option.{some}
use native.Mathlib.Omega.{arith}
use Rattle.format.specs.declared.Format.{Format}
use Rattle.records.specs.Item.{Item}
use Rattle.contexts.specs.declared.State.{State}
use Rattle.reader.specs.declared.Answer.{Answer}
use Rattle.reader.specs.declared.Answer.TheVariants.{End, Nothing, Magic, ProviderInfo, Section, ProviderEvent, Initialization, Report, Skipped}
use Rattle.reader.specs.Reads.{item_of, Reads, ends, passes, shows, ReadsAs}

-- the answers that show nothing: an end, a refusal, and nothing
abbrev Silent : Answer → Type 0
Silent (End number place) = Unit {0}
Silent Nothing = Unit {0}
Silent Magic = ⊥
Silent (ProviderInfo id place long) = ⊥
Silent (Section id) = ⊥
Silent (ProviderEvent id e) = ⊥
Silent (Initialization rate) = ⊥
Silent (Report e) = ⊥
Silent (Skipped type size) = ⊥

-- they are no item
silent_none : (f : Format) (archive tables : List ℕ) (s : State) (a : Answer) (i : Item) → Silent a → item_of f archive tables s a ≡ some i → ⊥
unfolding item_of
silent_none f archive tables s (End number place) i h k = let z : ◌≡◌ {A = ℕ} 0 1 = cc in omega arith
silent_none f archive tables s Nothing i h k = let z : ◌≡◌ {A = ℕ} 0 1 = cc in omega arith
silent_none f archive tables s Magic i h k = h
silent_none f archive tables s (ProviderInfo id place long) i h k = h
silent_none f archive tables s (Section id) i h k = h
silent_none f archive tables s (ProviderEvent id e) i h k = h
silent_none f archive tables s (Initialization rate) i h k = h
silent_none f archive tables s (Report e) i h k = h
silent_none f archive tables s (Skipped type size) i h k = h

end_or_nothing : (a : Answer) (place : ℕ) → a ≡ End 0 place → a ≡ Nothing → ⊥
end_or_nothing a place e k = let z : ◌≡◌ {A = ℕ} 0 1 = cc in omega arith

-- from a state and tables an archive reads to its end as one list at most
pub one_list : (f : Format) (archive : List ℕ) {s : State} {tables : List ℕ} {l l' : List Item} → Reads f archive s tables l
    → Reads f archive s tables l' → l ≡ l'
one_list f archive (ends s tables p e) (ends _ _ p' e') = refl
one_list f archive (ends s tables p e) (passes _ _ l' e' r') = absurd (end_or_nothing _ p e e')
one_list f archive (ends s tables p e) (shows _ _ i' l' e' r') = absurd (silent_none f archive _ _ _ i' (subst Silent (sym e) tt) e')
one_list f archive (passes s tables l e r) (ends _ _ p' e') = absurd (end_or_nothing _ p' e' e)
one_list f archive (passes s tables l e r) (passes _ _ l' e' r') = one_list f archive r r'
one_list f archive (passes s tables l e r) (shows _ _ i' l' e' r') = absurd (silent_none f archive _ _ _ i' (subst Silent (sym e) tt) e')
one_list f archive (shows s tables i l e r) (ends _ _ p' e') = absurd (silent_none f archive _ _ _ i (subst Silent (sym e') tt) e)
one_list f archive (shows s tables i l e r) (passes _ _ l' e' r') = absurd (silent_none f archive _ _ _ i (subst Silent (sym e') tt) e)
one_list f archive (shows s tables i l e r) (shows _ _ i' l' e' r') = let q = one_list f archive r r' in cc

-- an archive reads to its end as one list at most
pub reads_as_one : (f : Format) (archive : List ℕ) (l l' : List Item) → ReadsAs f archive l → ReadsAs f archive l' → l ≡ l'
reads_as_one f archive l l' r r' = one_list f archive r.1 r'.1
