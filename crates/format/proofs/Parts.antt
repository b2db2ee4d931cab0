-- Laws of the parts of a body: where they stand, and what they cost. Assumes nothing.
use Prim.Native.Nat.{ℕ, suc, ◌+◌, ◌-◌, ◌*◌, ◌≤◌}
use mathlib.Core.Path.{◌≡◌, refl, ap, subst}
use mathlib.Core.List.{[], List, ◌∷◌}
use native.Mathlib.Omega.{arith}
use borrow.Author.Tests.{ltb-false}
use lib.Dec.{eqb, ltb}
use lib.ListN.{length}
use Rattle.std.proofs.Common.{Result, Ok, Err}
use Rattle.words.specs.Stream.{stream_words}
use Rattle.words.proofs.Tests.{on-pick}
use Rattle.format.specs.declared.Format.{Format}
use Rattle.format.specs.declared.Reference.{Reference}
use Rattle.format.specs.declared.Reference.TheVariants.{Inline, Index}
use Rattle.format.specs.declared.Taken.{Taken}
use Rattle.format.specs.declared.Reason.{Reason}
use Rattle.format.specs.declared.Part.{Part}
use Rattle.format.specs.declared.Part.TheVariants.{Words as words, Stream as stream, Text as text, Thread as thread}
use Rattle.format.specs.Part.{taken, take_words, take_stream, take_text, take_thread, take_part, Body, refused, body, prepend, on_taken, take_parts, inline_bytes}
use Rattle.format.specs.Models.Bounds.{Inside}

-- a part that is taken moves the place by what it has inline, and stands inside its record
abbrev pub Moves : ℕ → ℕ → Result Taken Reason → Type 0
Moves place end (Err reason) = Unit {0}
Moves place end (Ok t) = (t.next ≡ place + inline_bytes t.reference) × (t.next ≤ end) × Inside place end t.reference

words_move : (n place : ℕ) (source : List ℕ) (start : ℕ) → Moves place (start + length source) (take_words n place source start)
unfolding take_words
words_move n place source start =
    on-pick (Moves place (start + length source)) (ltb (start + length source) (place + 8 * n)) _ _ (λ e. tt)
    (λ e. let h = ltb-false (start + length source) (place + 8 * n) e in (omega arith, omega arith, (omega arith, omega arith)))

stream_moves : (f : Format) (n place : ℕ) (source : List ℕ) (start : ℕ) → Moves place (start + length source) (take_stream f n place source start)
unfolding take_stream
stream_moves f n place source start =
    on-pick (Moves place (start + length source)) (ltb f.longest n) _ _ (λ e. tt)
    (λ e. on-pick (Moves place (start + length source)) (ltb (start + length source) (place + 8 * stream_words n)) _ _ (λ e. tt)
    (λ e. let h = ltb-false (start + length source) (place + 8 * stream_words n) e in (omega arith, omega arith, (omega arith, omega arith))))

-- a string reference moves so
pub text_moves : (f : Format) (reference place : ℕ) (source : List ℕ) (start : ℕ) → place ≤ (start + length source) → Moves place (start + length source) (take_text f reference place source start)
unfolding take_text
text_moves f reference place source start h =
    on-pick (Moves place (start + length source)) (eqb reference 0) _ _ (λ e. (omega arith, h, (omega arith, omega arith)))
    (λ e. on-pick (Moves place (start + length source)) (ltb reference 0x8000) _ _ (λ e. (omega arith, h, tt)) (λ e. stream_moves f (reference - 0x8000) place source start))

-- and a thread reference
pub thread_moves : (reference place : ℕ) (source : List ℕ) (start : ℕ) → place ≤ (start + length source) → Moves place (start + length source) (take_thread reference place source start)
unfolding take_thread
thread_moves reference place source start h =
    on-pick (Moves place (start + length source)) (eqb reference 0) _ _ (λ e. words_move 2 place source start) (λ e. (omega arith, h, tt))

-- every part moves so
pub part_moves : (f : Format) (p : Part) (place : ℕ) (source : List ℕ) (start : ℕ) → place ≤ (start + length source) → Moves place (start + length source) (take_part f p place source start)
unfolding take_part
part_moves f (words n) place source start h = words_move n place source start
part_moves f (stream n) place source start h = stream_moves f n place source start
part_moves f (text reference) place source start h = text_moves f reference place source start h
part_moves f (thread reference) place source start h = thread_moves reference place source start h

-- the same of a part that is known to be taken
pub part_taken : (f : Format) (p : Part) (place : ℕ) (source : List ℕ) (start : ℕ) (x : Reference) (next : ℕ) → place ≤ (start + length source) → take_part f p place source start ≡ taken x next
    → Moves place (start + length source) (taken x next)
part_taken f p place source start x next h e = subst (Moves place (start + length source)) e (part_moves f p place source start h)

pub text_taken : (f : Format) (r place : ℕ) (source : List ℕ) (start : ℕ) (x : Reference) (next : ℕ) → place ≤ (start + length source) → take_text f r place source start ≡ taken x next
    → Moves place (start + length source) (taken x next)
text_taken f r place source start x next h e = subst (Moves place (start + length source)) e (text_moves f r place source start h)

-- what references have inline, all together
abbrev pub inline_all : List Reference → ℕ
inline_all [] = 0
inline_all (r ∷ rs) = inline_bytes r + inline_all rs

abbrev pub AllInside : ℕ → ℕ → List Reference → Type 0
AllInside from to [] = Unit {0}
AllInside from to (r ∷ rs) = Inside from to r × AllInside from to rs

-- a body that is read ends behind its parts, which stand inside its record one after another
abbrev pub Ends : ℕ → ℕ → Body → Type 0
Ends place end (refused reason) = Unit {0}
Ends place end (body references next) = (next ≡ place + inline_all references) × (next ≤ end) × AllInside place end references

-- what stands between two places stands between wider ones
pub inside_wider : {from to : ℕ} (from' to' : ℕ) (r : Reference) → from' ≤ from → to ≤ to' → Inside from to r → Inside from' to' r
inside_wider from' to' (Inline place length) h k i = (omega (arith, i.0), omega (arith, i.1))
inside_wider from' to' (Index index) h k i = tt

all_inside_wider : {from : ℕ} (from' to : ℕ) (rs : List Reference) → from' ≤ from → AllInside from to rs → AllInside from' to rs
all_inside_wider from' to [] h i = tt
all_inside_wider from' to (r ∷ rs) h i =
    (inside_wider from' to r h (omega arith) i.0, all_inside_wider from' to rs h i.1)

prepend-ends : (x : Reference) (place next end : ℕ) (b : Body) → Moves place end (taken x next) → Ends next end b → Ends place end (prepend x b)
prepend-ends x place next end (refused reason) m e = tt
prepend-ends x place next end (body rs last) m e =
    (omega (arith, m.0, e.0), e.1, (m.2, all_inside_wider place end rs (omega (arith, m.0)) e.2))

on_taken_lem : (place end : ℕ) (t : Result Taken Reason) (k : Reference → ℕ → Body) → Moves place end t
    → ((x : Reference) (next : ℕ) → Moves place end (taken x next) → Ends place end (k x next)) → Ends place end (on_taken t k)
on_taken_lem place end (Err reason) k m g = tt
on_taken_lem place end (Ok t) k m g = g t.reference t.next m

-- every list of parts ends so
pub parts_end : (f : Format) (ps : List Part) (place : ℕ) (source : List ℕ) (start : ℕ) → place ≤ (start + length source) → Ends place (start + length source) (take_parts f ps place source start)
unfolding take_parts
parts_end f [] place source start h = (omega arith, h, tt)
parts_end f (p ∷ ps) place source start h =
    on_taken_lem place (start + length source) (take_part f p place source start) (λ x next. prepend x (take_parts f ps next source start)) (part_moves f p place source start h)
    (λ x next m. prepend-ends x place next (start + length source) (take_parts f ps next source start) m (parts_end f ps next source start m.1))

-- as many references are read as there are parts
abbrev pub Counted : ℕ → Body → Type 0
Counted n (refused reason) = Unit {0}
Counted n (body references next) = length references ≡ n

prepend-counted : (n : ℕ) (x : Reference) (b : Body) → Counted n b → Counted (suc n) (prepend x b)
prepend-counted n x (refused reason) c = tt
prepend-counted n x (body rs last) c = ap suc c

pub parts_counted : (f : Format) (ps : List Part) (place : ℕ) (source : List ℕ) (start : ℕ) → Counted (length ps) (take_parts f ps place source start)
unfolding take_parts
parts_counted f [] place source start = refl
parts_counted f (p ∷ ps) place source start = go (take_part f p place source start) (λ next. parts_counted f ps next source start)
  where
    go : (t : Result Taken Reason) → ((next : ℕ) → Counted (length ps) (take_parts f ps next source start))
        → Counted (suc (length ps)) (on_taken t (λ x next. prepend x (take_parts f ps next source start)))
    go (Err reason) k = tt
    go (Ok t) k = prepend-counted (length ps) t.reference (take_parts f ps t.next source start) (k t.next)
