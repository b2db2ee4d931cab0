-- The arguments of a record as a walk over them reads them: one turn, its end, and how many they are.
-- Assumes nothing.
use Prim.Native.Nat.{ℕ, zero, suc, ◌+◌, ◌-◌, ◌<◌}
use mathlib.Core.Path.{◌≡◌, refl, ap, ◌∙◌}
use mathlib.Core.List.{List, [], ◌∷◌}
use native.Mathlib.Omega.{arith}
use lib.ListN.{length, drop}
use Rattle.passes.specs.Models.Item.{arguments_at}
use Rattle.arguments.specs.Models.Reading.{texts, texts_of}
use Rattle.format.specs.declared.Format.{Format}
use Rattle.arguments.specs.declared.Argument.{Argument}
use Rattle.arguments.specs.declared.Argued.{Argued}
use Rattle.format.specs.declared.Reason.{Reason}
use Rattle.std.specs.Prelude.{Result, Ok, Err}
use Rattle.arguments.specs.Argument.{argued, argument_of, on_argued, arguments_read, arguments_of, refused, prepend}
use Rattle.format.specs.declared.Reference.{Reference}
use Rattle.records.specs.Lookups.{text_lookup, argument_lookups}
use Rattle.records.proofs.Lookups.{AllRead, behind_read, lookups_turn}

-- one turn of a walk over arguments: the first, then the rest
pub arguments_turn : (f : Format) (n : ℕ) (rest : List ℕ) (place : ℕ) → 0 < n
    → arguments_read f n rest place
    ≡ on_argued (argument_of f rest place) (λ reason. []) (λ a size. a ∷ arguments_read f (n - 1) (drop size rest) (place + size))
unfolding arguments_read
arguments_turn f zero rest place h = absurd (omega arith)
arguments_turn f (suc n) rest place h = let e : suc n - 1 ≡ n = omega arith in rw e

-- where none is left, none is read
pub arguments-none : (f : Format) (n : ℕ) (rest : List ℕ) (place : ℕ) → n ≡ 0 → arguments_read f n rest place ≡ []
unfolding arguments_read
arguments-none f n rest place z = rw z

-- where the first is read, it comes before the others
pub argument_first : (f : Format) (n : ℕ) (rest : List ℕ) (place : ℕ) (a : Argument) (size : ℕ) → 0 < n → argument_of f rest place ≡ argued a size
    → arguments_read f n rest place ≡ a ∷ arguments_read f (n - 1) (drop size rest) (place + size)
argument_first f n rest place a size h e = arguments_turn f n rest place h ∙ rw e

-- where it is refused, none is read
pub argument_refused : (f : Format) (n : ℕ) (rest : List ℕ) (place : ℕ) (reason : Reason) → 0 < n → argument_of f rest place ≡ Err reason
    → arguments_read f n rest place ≡ []
argument_refused f n rest place reason h e = arguments_turn f n rest place h ∙ rw e

-- the same of what arguments refer to
pub texts_first : (f : Format) (n : ℕ) (rest : List ℕ) (place : ℕ) (name value : Reference) (size : ℕ) → 0 < n
    → texts_of f rest place ≡ texts name value size
    → argument_lookups (arguments_read f n rest place)
    ≡ text_lookup name ∷ text_lookup value ∷ argument_lookups (arguments_read f (n - 1) (drop size rest) (place + size))
texts_first f n rest place name value size h e = lookups_turn f n rest place h ∙ rw e

pub texts_refused : (f : Format) (n : ℕ) (rest : List ℕ) (place : ℕ) (reason : Reason) → 0 < n → texts_of f rest place ≡ Err reason
    → argument_lookups (arguments_read f n rest place) ≡ []
texts_refused f n rest place reason h e = lookups_turn f n rest place h ∙ rw e

pub lookups_none : (f : Format) (n : ℕ) (rest : List ℕ) (place : ℕ) → n ≡ 0 → argument_lookups (arguments_read f n rest place) ≡ []
lookups_none f n rest place z = ap argument_lookups (arguments-none f n rest place z)

-- arguments that are all read are as many as were asked for
pub read_count : (f : Format) (count : ℕ) (rest : List ℕ) (place : ℕ) → AllRead (arguments_of f count rest place)
    → length (arguments_read f count rest place) ≡ count
unfolding arguments_read arguments_of
read_count f zero rest place all = refl
read_count f (suc count) rest place all = go (λ size. read_count f count (drop size rest) (place + size)) (argument_of f rest place) all
  where
    go : ((size : ℕ) → AllRead (arguments_of f count (drop size rest) (place + size)) → length (arguments_read f count (drop size rest) (place + size)) ≡ count)
        → (x : Result Argued Reason) → AllRead (on_argued x refused (λ a size. prepend a (arguments_of f count (drop size rest) (place + size))))
        → length (on_argued x (λ reason. []) (λ a size. a ∷ arguments_read f count (drop size rest) (place + size))) ≡ suc count
    go more (Err reason) all = absurd all
    go more (Ok read) all =
        ap suc (more read.size (behind_read read.argument (arguments_of f count (drop read.size rest) (place + read.size)) all))

-- and so many are shown
pub shown_count : (f : Format) (archive tables : List ℕ) (context until : ℕ) (l : List Argument)
    → length (arguments_at f archive tables context until l) ≡ length l
shown_count f archive tables context until [] = refl
shown_count f archive tables context until (a ∷ l) = ap suc (shown_count f archive tables context until l)
