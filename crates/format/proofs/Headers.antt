-- Laws of a record's header and extent. Assumes nothing.
use Prim.Native.Nat.{ℕ, ◌-◌, ◌*◌, ◌^◌, ◌≤◌, ◌<◌}
use mathlib.Core.Path.{◌≡◌, subst}
use mathlib.Core.List.{List}
use native.Mathlib.Omega.{arith}
use borrow.Author.Tests.{ltb-false, eqb-false}
use lib.Dec.{eqb, ltb}
use lib.ListN.{length, take, drop, length-drop}
use lib.Seq.{take_all}
use Rattle.std.proofs.Common.{Result, Ok, Err}
use Rattle.words.specs.Word.{word_at, field}
use Rattle.words.proofs.Tests.{on-pick}
use Rattle.format.specs.declared.Format.{Format}
use Rattle.format.specs.declared.Reason.{Reason}
use Rattle.format.specs.Header.{record_words, extent_of}

-- a size has at most 32 bits
pub words_lt : (header : ℕ) → record_words header < 2 ^ 32
unfolding record_words
words_lt header = on-pick (λ n. n < 2 ^ 32) (eqb (field 0 3 header) 15) _ _ (λ e. omega arith) (λ e. omega arith)

-- a record that is all there: a whole number of words, one at least, by its own header
pub record Whole (f : Format) (rest : List ℕ) (size : ℕ) : Type 0 where
  pub is : size ≡ 8 * record_words (word_at f.order rest 0)
  pub some : 8 ≤ size
  pub inside : size ≤ length rest

abbrev pub ExtentWhole : Format → List ℕ → Result ℕ Reason → Type 0
ExtentWhole f rest (Err reason) = Unit {0}
ExtentWhole f rest (Ok size) = Whole f rest size

-- every extent is such a record's
pub extent_whole : (f : Format) (rest : List ℕ) → ExtentWhole f rest (extent_of f rest)
unfolding extent_of
extent_whole f rest =
    on-pick (ExtentWhole f rest) (ltb (length rest) 8) _ _ (λ e. tt)
    (λ e. on-pick (ExtentWhole f rest) (eqb n 0) _ _ (λ e. tt)
    (λ z. on-pick (ExtentWhole f rest) (ltb (length rest) (8 * n)) _ _ (λ e. tt)
    (λ e. let l = ltb-false (length rest) (8 * n) e in let s = eqb-false n 0 z in record { is = omega arith; some = omega arith; inside = omega arith })))
  where
    n : ℕ
    n = record_words (word_at f.order rest 0)

-- the part of a slice from a place on, as the code takes it
pub part_from : (n : ℕ) (l : List ℕ) → take (length l - n) (drop n l) ≡ drop n l
part_from n l = take_all (length l - n) (drop n l) (omega (arith, length-drop n l))

-- the same of an extent that is known
pub extent_read : (f : Format) (rest : List ℕ) (size : ℕ) → extent_of f rest ≡ Ok size → Whole f rest size
extent_read f rest size e = subst (ExtentWhole f rest) e (extent_whole f rest)
