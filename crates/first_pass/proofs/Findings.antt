-- Numbers 10, 11 and 12 found record by record: the refusal of a run is the lower one of what its first record shows and what the others do.
-- Assumes nothing.
use Prim.Native.Nat.{ℕ, ◌≤◌}
use mathlib.Core.Path.{◌≡◌, refl, sym, ap, ◌∙◌}
use mathlib.Core.List.{List, ◌++◌}
use mathlib.Core.Bool.{Bool, true, false, not, ◌||◌, true≢false}
use mathlib.Core.Option.{Option, none, some}
use mathlib.Core.Logic.{◌⊎◌, inl, inr}
use native.Mathlib.Omega.{arith}
use borrow.Author.Tests.{lt-ltb, le-ltb, ltb-true, ltb-false}
use lib.Dec.{ltb}
use Rattle.words.specs.Word.{pick}
use Rattle.words.proofs.Tests.{on-pick, cases}
use Rattle.format.specs.declared.Format.{Format}
use Rattle.records.specs.Item.{Item, Use}
use Rattle.rule.specs.Refusal.{Run, ended, passed, Refusal, refusal, or_else, loss_refusal, item_unresolved, unresolved_refusal, passes_limit, item_uses, limit_refusal}
use Rattle.std.specs.Prelude.{Some, None, Ok, Err, is_some, is_none, is_ok}
use Rattle.format.specs.Limits.{number_of}
use Rattle.first_pass.specs.Models.Count.{Counted}
use Rattle.first_pass.specs.Models.Found.{Finding, lowest_of}
use Rattle.first_pass.specs.Models.Left.{counted_uses, counted_from}

-- the number of what is found at a record, or 0 where nothing is
abbrev pub number_or_zero : Counted → ℕ
number_or_zero (Ok words) = 0
number_or_zero (Err reason) = number_of reason

-- ---- the lower of two refusals

-- what was found, as a refusal
abbrev pub refusal_in : Finding → Option Refusal
refusal_in None = none
refusal_in (Some refused) = some (refusal refused.number refused.place)

-- what is found at a place, as a refusal
abbrev pub refusal_at : Counted → ℕ → Option Refusal
refusal_at (Ok words) place = none
refusal_at (Err reason) place = some (refusal (number_of reason) place)

-- a test that says whether nothing was found
pub clean_is : (found : Finding) (clean : Bool) → is_some found ≡ not clean → clean ≡ is_none found
clean_is None true e = refl
clean_is None false e = absurd (true≢false (sym e))
clean_is (Some refused) true e = absurd (true≢false e)
clean_is (Some refused) false e = refl

-- what was found has at most the number 12
abbrev pub Low : Finding → Type 0
Low None = Unit {0}
Low (Some refused) = refused.number ≤ 12

-- the refusal with the lower number, and of equal ones the first
abbrev pub lower : Option Refusal → Option Refusal → Option Refusal
lower none other = other
lower (some (refusal n p)) none = some (refusal n p)
lower (some (refusal n p)) (some (refusal m q)) = pick (ltb m n) (some (refusal m q)) (some (refusal n p))

-- nothing found last changes nothing
pub lower_none : (a : Option Refusal) → lower a none ≡ a
lower_none none = refl
lower_none (some (refusal n p)) = refl

-- where the lower of two is none, both are
pub lower_clean : (a b : Option Refusal) → lower a b ≡ none → (a ≡ none) × (b ≡ none)
lower_clean none b e = (refl, e)
lower_clean (some (refusal n p)) none e = let z : ◌≡◌ {A = ℕ} 0 1 = cc in absurd (omega arith)
lower_clean (some (refusal n p)) (some (refusal m q)) e =
    cases (ltb m n)
    (λ l. let e' = rw l at e in let z : ◌≡◌ {A = ℕ} 0 1 = cc in absurd (omega arith))
    (λ l. let e' = rw l at e in let z : ◌≡◌ {A = ℕ} 0 1 = cc in absurd (omega arith))

-- where the first of two that is not none is none, so is the second
pub or_else_none : (a b : Option Refusal) → or_else a b ≡ none → b ≡ none
or_else_none none b e = e
or_else_none (some r) b e = let z : ◌≡◌ {A = ℕ} 0 1 = cc in absurd (omega arith)

-- three are compared from either end
pub lower_three : (a b c : Option Refusal) → lower a (lower b c) ≡ lower (lower a b) c
lower_three none b c = refl
lower_three (some (refusal n p)) none c = refl
lower_three (some (refusal n p)) (some (refusal m q)) none = sym (lower_none (lower (some (refusal n p)) (some (refusal m q))))
lower_three (some (refusal n p)) (some (refusal m q)) (some (refusal k r)) =
    cases (ltb m n)
    (λ e. cases (ltb k m)
    (λ d. rw (e, d, lt-ltb k n (omega (arith, ltb-true m n e, ltb-true k m d))))
    (λ d. rw (e, d, e)))
    (λ e. cases (ltb k m)
    (λ d. rw (e, d))
    (λ d. rw (e, d, e, le-ltb k n (omega (arith, ltb-false m n e, ltb-false k m d)))))

-- the lower finding is the lower refusal
lower_found : (found : Finding) (counted : Counted) (place : ℕ)
    → refusal_in (lowest_of found counted place) ≡ lower (refusal_in found) (refusal_at counted place)
unfolding lowest_of
lower_found found (Ok words) place = sym (lower_none (refusal_in found))
lower_found None (Err reason) place = refl
lower_found (Some earlier) (Err reason) place =
    cases (ltb (number_of reason) earlier.number) (λ l. rw l) (λ l. rw l)

-- ---- one record

-- what a record adds, with all uses up to it
abbrev pub record_refusal : Format → Bool → Option Item → List Use → ℕ → Option Refusal
record_refusal f keeps item uses place =
    pick keeps (pick (item_unresolved item) (some (refusal 11 place)) (pick (passes_limit f uses uses) (some (refusal 12 place)) none))
    (some (refusal 10 place))

-- what a run adds, with the uses before it
abbrev pub run_refusal : Format → List Use → Run → Option Refusal
run_refusal f before run = or_else (loss_refusal run) (or_else (unresolved_refusal run) (limit_refusal f before run))

-- a refusal of this number, or none
abbrev Numbered : ℕ → Option Refusal → Type 0
Numbered n none = Unit {0}
Numbered n (some (refusal number place)) = number ≡ n

-- a loss has the number 10
loss_ten : (run : Run) → Numbered 10 (loss_refusal run)
loss_ten (ended number place) = tt
loss_ten (passed place keeps item run) = on-pick (Numbered 10) keeps _ _ (λ e. loss_ten run) (λ e. refl)

-- what is unresolved has the number 11
unresolved_eleven : (run : Run) → Numbered 11 (unresolved_refusal run)
unresolved_eleven (ended number place) = tt
unresolved_eleven (passed place keeps item run) = on-pick (Numbered 11) (item_unresolved item) _ _ (λ e. refl) (λ e. unresolved_eleven run)

-- a limit that is passed has the number 12
limit_twelve : (f : Format) (before : List Use) (run : Run) → Numbered 12 (limit_refusal f before run)
limit_twelve f before (ended number place) = tt
limit_twelve f before (passed place keeps item run) =
    on-pick (Numbered 12) (passes_limit f (before ++ item_uses item) (before ++ item_uses item)) _ _ (λ e. refl)
    (λ e. limit_twelve f (before ++ item_uses item) run)

-- a first refusal of each number, before those of a run
first_then : (place : ℕ) (keeps bad over : Bool) (loss unresolved limit : Option Refusal) → Numbered 10 loss → Numbered 11 unresolved → Numbered 12 limit
    → or_else (pick keeps loss (some (refusal 10 place)))
    (or_else (pick bad (some (refusal 11 place)) unresolved) (pick over (some (refusal 12 place)) limit))
    ≡ lower (pick keeps (pick bad (some (refusal 11 place)) (pick over (some (refusal 12 place)) none)) (some (refusal 10 place)))
    (or_else loss (or_else unresolved limit))
first_then place false bad over (some (refusal n p)) u m hl hu hm = rw hl
first_then place false bad over none (some (refusal n p)) m hl hu hm = rw hu
first_then place false bad over none none (some (refusal n p)) hl hu hm = rw hm
first_then place false bad over none none none hl hu hm = refl
first_then place true true over (some (refusal n p)) u m hl hu hm = rw hl
first_then place true true over none (some (refusal n p)) m hl hu hm = rw hu
first_then place true true over none none (some (refusal n p)) hl hu hm = rw hm
first_then place true true over none none none hl hu hm = refl
first_then place true false true (some (refusal n p)) u m hl hu hm = rw hl
first_then place true false true none (some (refusal n p)) m hl hu hm = rw hu
first_then place true false true none none (some (refusal n p)) hl hu hm = rw hm
first_then place true false true none none none hl hu hm = refl
first_then place true false false l u m hl hu hm = refl

-- the refusal of a run is the lower one of its first record's and that of the others
pub passed-refusal : (f : Format) (before : List Use) (place : ℕ) (keeps : Bool) (item : Option Item) (run : Run)
    → run_refusal f before (passed place keeps item run)
    ≡ lower (record_refusal f keeps item (before ++ item_uses item) place) (run_refusal f (before ++ item_uses item) run)
passed-refusal f before place keeps item run =
    let uses = before ++ item_uses item in
    first_then place keeps (item_unresolved item) (passes_limit f uses uses) (loss_refusal run) (unresolved_refusal run) (limit_refusal f uses run) (loss_ten run)
    (unresolved_eleven run) (limit_twelve f uses run)

-- what is counted says what a record adds; once something was found, number 12 need not be told
pub record Says (found : Finding) (counted : Counted) (place : ℕ) (own : Option Refusal) : Type 0 where
  pub low : number_or_zero counted ≤ 12
  pub tells : (own ≡ refusal_at counted place) ⊎ ((is_none found ≡ false) × (is_ok counted ≡ true) × (own ≡ some (refusal 12 place)))

-- what was found stays one of these numbers
pub found-low : (found : Finding) (counted : Counted) (place : ℕ) → Low found → number_or_zero counted ≤ 12 → Low (lowest_of found counted place)
unfolding lowest_of
found-low found (Ok words) place h k = h
found-low None (Err reason) place h k = k
found-low (Some earlier) (Err reason) place h k = on-pick Low (ltb (number_of reason) earlier.number) _ _ (λ e. k) (λ e. h)

-- a use over the limits adds nothing to what was found before
late : (found : Finding) (counted : Counted) (place : ℕ) → Low found → is_none found ≡ false → is_ok counted ≡ true
    → lower (refusal_in found) (some (refusal 12 place)) ≡ refusal_in (lowest_of found counted place)
unfolding lowest_of
late None counted place low before passes = absurd (true≢false before)
late (Some earlier) (Err reason) place low before passes = absurd (true≢false (sym passes))
late (Some earlier) (Ok words) place low before passes = rw (le-ltb 12 earlier.number low)

-- and is the lower one of what was found before and what the record adds
pub found_turn : (found : Finding) (counted : Counted) (place : ℕ) (own : Option Refusal) → Low found → Says found counted place own
    → lower (refusal_in found) own ≡ refusal_in (lowest_of found counted place)
found_turn found counted place own low says = go says.tells
  where
    go : (own ≡ refusal_at counted place) ⊎ ((is_none found ≡ false) × (is_ok counted ≡ true) × (own ≡ some (refusal 12 place)))
        → lower (refusal_in found) own ≡ refusal_in (lowest_of found counted place)
    go (inl e) = ap (lower (refusal_in found)) e ∙ sym (lower_found found counted place)
    go (inr (before, passes, own_is)) = ap (lower (refusal_in found)) own_is ∙ late found counted place low before passes

-- where nothing is found after a record, nothing was found before it, nor in it
pub found_clean : (found : Finding) (counted : Counted) (place : ℕ) → is_none (lowest_of found counted place) ≡ true
    → (is_none found ≡ true) × (is_ok counted ≡ true)
unfolding lowest_of
found_clean found (Ok words) place e = (e, refl)
found_clean None (Err reason) place e = absurd (true≢false (sym e))
found_clean (Some earlier) (Err reason) place e =
    on-pick (λ (x : Finding). is_none x ≡ true → (◌≡◌ {A = Bool} false true) × (◌≡◌ {A = Bool} false true)) (ltb (number_of reason) earlier.number) _ _
    (λ l q. absurd (true≢false (sym q))) (λ l q. absurd (true≢false (sym q))) e

-- ---- the uses that are counted

module _ (f : Format) (uses : List Use) (place : ℕ) (keeps : Bool) (item : Option Item) (run : Run) where
  -- behind a record that adds nothing the uses of the others are counted too
  pub counted-on : record_refusal f keeps item (uses ++ item_uses item) place ≡ none
      → counted_from f uses (passed place keeps item run) ≡ counted_from f (uses ++ item_uses item) run
  unfolding counted_from
  counted-on = go keeps (item_unresolved item) (passes_limit f (uses ++ item_uses item) (uses ++ item_uses item))
    where
      go : (k u l : Bool) → pick k (pick u (some (refusal 11 place)) (pick l (some (refusal 12 place)) none)) (some (refusal 10 place)) ≡ none
          → pick k (pick (u || l) (counted_uses f uses (item_uses item)) (counted_from f (uses ++ item_uses item) run)) uses
          ≡ counted_from f (uses ++ item_uses item) run
      go true false false e = refl
      go true false true e = let z : ◌≡◌ {A = ℕ} 0 1 = cc in absurd (omega arith)
      go true true l e = let z : ◌≡◌ {A = ℕ} 0 1 = cc in absurd (omega arith)
      go false u l e = let z : ◌≡◌ {A = ℕ} 0 1 = cc in absurd (omega arith)

  -- behind one that adds something none are, and of its own those that pass no limit, if it loses nothing
  pub counted-last : (record_refusal f keeps item (uses ++ item_uses item) place ≡ none → ⊥)
      → counted_from f uses (passed place keeps item run) ≡ pick keeps (counted_uses f uses (item_uses item)) uses
  unfolding counted_from
  counted-last = go keeps (item_unresolved item) (passes_limit f (uses ++ item_uses item) (uses ++ item_uses item))
    where
      go : (k u l : Bool) → (pick k (pick u (some (refusal 11 place)) (pick l (some (refusal 12 place)) none)) (some (refusal 10 place)) ≡ none → ⊥)
          → pick k (pick (u || l) (counted_uses f uses (item_uses item)) (counted_from f (uses ++ item_uses item) run)) uses
          ≡ pick k (counted_uses f uses (item_uses item)) uses
      go true false false n = absurd (n refl)
      go true false true n = refl
      go true true l n = refl
      go false u l n = refl

-- where nothing was found before a record, it adds nothing if it passes
pub says_none : (found : Finding) (counted : Counted) (place : ℕ) (own : Option Refusal) → is_none found ≡ true → Says found counted place own
    → is_ok counted ≡ true → own ≡ none
says_none found counted place own before says passes = go says.tells
  where
    nothing : (counted : Counted) → is_ok counted ≡ true → refusal_at counted place ≡ none
    nothing (Ok words) e = refl
    nothing (Err reason) e = absurd (true≢false (sym e))

    go : (own ≡ refusal_at counted place) ⊎ ((is_none found ≡ false) × (is_ok counted ≡ true) × (own ≡ some (refusal 12 place)))
        → own ≡ none
    go (inl e) = e ∙ nothing counted passes
    go (inr (n, _, _)) = absurd (true≢false (sym before ∙ n))

-- and something if it does not
pub says_some : (found : Finding) (counted : Counted) (place : ℕ) (own : Option Refusal) → is_none found ≡ true → Says found counted place own
    → is_ok counted ≡ false → own ≡ none → ⊥
says_some found counted place own before says refused none_is = go says.tells
  where
    something : (counted : Counted) → is_ok counted ≡ false → refusal_at counted place ≡ none → ⊥
    something (Ok words) e q = true≢false e
    something (Err reason) e q = let z : ◌≡◌ {A = ℕ} 0 1 = cc in omega arith

    go : (own ≡ refusal_at counted place) ⊎ ((is_none found ≡ false) × (is_ok counted ≡ true) × (own ≡ some (refusal 12 place)))
        → ⊥
    go (inl e) = something counted refused (sym e ∙ none_is)
    go (inr (n, _, _)) = true≢false (sym before ∙ n)

-- where nothing is found up to a record, nor in it, nothing is found
pub found_none : (found : Finding) (counted : Counted) (place : ℕ) → is_none found ≡ true → is_ok counted ≡ true
    → is_none (lowest_of found counted place) ≡ true
unfolding lowest_of
found_none found (Ok words) place before passes = before
found_none found (Err reason) place before passes = absurd (true≢false (sym passes))
