-- Which of document 01's numbers a repack can answer, and the place that comes with each. A number is that of the definition `packed_number`.
-- Assumes nothing.
use Prim.Native.Nat.{ℕ}
use mathlib.Core.Path.{◌≡◌, refl, subst}
use mathlib.Core.List.{List}
use mathlib.Core.Option.{Option, none, some}
use mathlib.Core.Logic.{◌⊎◌, inl, inr}
use native.Mathlib.Omega.{arith}
use borrow.Author.Tests.{eqb-true, eqb-false}
use lib.Dec.{eqb, ltb}
use lib.ListN.{length}
use Rattle.words.specs.Stream.{starts_with_magic}
use Rattle.words.proofs.Tests.{on-pick}
use Rattle.format.specs.declared.Format.{Format}
use Rattle.reader.proofs.Numbers.{Between}
use Rattle.rule.specs.Refusal.{Refusal, refusal, run_of, refusal_of, written_length}
use Rattle.rule.proofs.Numbers.{refusal_numbers}
use Rattle.format.specs.Header.{archive_number}
use Rattle.format.specs.Limits.{longest_archive}
use Rattle.std.specs.Prelude.{Ok, Err}
use Rattle.format.specs.Limits.{refused_at}
use Rattle.packer.specs.Pack.{Packed, room_words, packing_number, written_reply, refused_or, pack_reply}
use Rattle.packer.specs.Numbers.{packed_number}
use Rattle.packer.proofs.Demand.{opened}

-- "Repacking checks 2, 1, 13, then 5 to 9 as reading meets them, 10, 11, 12, 14": never 0, 3 or 4
abbrev pub RepackNumber : ℕ → Type 0
RepackNumber number = Between 1 2 number ⊎ Between 5 14 number

-- "for 13 and 14, 0", and 0 for 1 and 2 too; 5 to 12 come with the place that the run of the archive gives them
pub record RepackPlaces (f : Format) (archive : List ℕ) (number place : ℕ) : Type 0 where
  pub opens : Between 1 2 number → place ≡ 0
  pub found : Between 5 12 number → refusal_of f (run_of f archive) ≡ some (refusal number place)
  pub room : Between 13 14 number → place ≡ 0

-- the numbers that a repack can answer, each with its place
abbrev RepackEnds : Format → List ℕ → Packed → Type 0
RepackEnds f archive (Err refused) = RepackNumber refused.number × RepackPlaces f archive refused.number refused.place
RepackEnds f archive (Ok long) = Unit {0}

-- 1 and 2, and 13 and 14, stand at place 0
at_zero : (f : Format) (archive : List ℕ) (number : ℕ) → Between 1 2 number ⊎ Between 13 14 number → RepackEnds f archive (refused_at number 0)
at_zero f archive number (inl b) =
    (inl b, record { opens = λ q. refl; found = λ q. absurd (omega (arith, b.1, q.0)); room = λ q. refl })
at_zero f archive number (inr b) =
    (inr (omega (arith, b.0), b.1), record { opens = λ q. refl; found = λ q. absurd (omega (arith, b.0, q.1)); room = λ q. refl })

-- what the first checks of a repack refuses by is 1, 2 or 13
packing_low : (f : Format) (archive : List ℕ) (room : ℕ) → (packing_number f archive room ≡ 0 → ⊥)
    → Between 1 2 (packing_number f archive room) ⊎ Between 13 14 (packing_number f archive room)
unfolding packing_number archive_number
packing_low f archive room =
    on-pick P (ltb longest_archive (length archive)) _ _ (λ e z. inl (omega arith, omega arith))
    (λ e. on-pick P (starts_with_magic archive) _ _
    (λ e. on-pick P (ltb room (room_words f)) _ _ (λ e z. inr (omega arith, omega arith)) (λ e z. absurd (z refl)))
    (λ e z. inl (omega arith, omega arith)))
  where
    P : ℕ → Type 0
    P number = (number ≡ 0 → ⊥) → Between 1 2 number ⊎ Between 13 14 number

-- so does every repack
repack_ends : (f : Format) (archive : List ℕ) (room output : ℕ) → RepackEnds f archive (pack_reply f archive room output)
unfolding pack_reply written_reply
repack_ends f archive room output =
    on-pick P (eqb opens 0) _ _ (λ e. passed (eqb-true opens 0 e) (refusal_of f (run_of f archive)) refl)
    (λ e. at_zero f archive opens (packing_low f archive room (eqb-false opens 0 e)))
  where
    opens : ℕ
    opens = packing_number f archive room

    P : Packed → Type 0
    P = RepackEnds f archive

    passed : opens ≡ 0 → (r : Option Refusal) → refusal_of f (run_of f archive) ≡ r
        → P (refused_or r (written_reply output (written_length f archive)))
    passed z (some (refusal number place)) e =
        let b = refusal_numbers f archive number place (opened f archive room z).0 e in (
          inr (b.0, omega (arith, b.1)),
          record { opens = λ q. absurd (omega (arith, b.0, q.1)); found = λ q. e; room = λ q. absurd (omega (arith, b.1, q.0)) },
        )
    passed z none e =
        on-pick P (ltb output (written_length f archive)) _ _ (λ q. at_zero f archive 14 (inr (omega arith, omega arith))) (λ q. tt)

-- A repack answers 1, 2 or 5 to 14.
pub repack_numbers : (f : Format) (archive : List ℕ) (room output n : ℕ) → packed_number (pack_reply f archive room output) ≡ some n → RepackNumber n
repack_numbers f archive room output n = go (pack_reply f archive room output) (repack_ends f archive room output)
  where
    go : (p : Packed) → RepackEnds f archive p → packed_number p ≡ some n → RepackNumber n
    go (Err refused) h e = let q : refused.number ≡ n = cc in subst RepackNumber q h.0
    go (Ok long) h e = let z : ◌≡◌ {A = ℕ} 0 1 = cc in absurd (omega arith)

-- And each number with document 01's place.
pub repack_places : (f : Format) (archive : List ℕ) (room output number place : ℕ) → pack_reply f archive room output ≡ refused_at number place
    → RepackPlaces f archive number place
repack_places f archive room output number place e = (subst (RepackEnds f archive) e (repack_ends f archive room output)).1
