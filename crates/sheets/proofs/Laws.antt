-- What a layer above wants to know of a sheet. Assumes nothing.
use Prim.Native.Nat.{ℕ, zero, suc, ◌+◌, ◌<◌, ◌≤◌}
use mathlib.Core.Path.{◌≡◌, refl, sym, ap, ◌∙◌}
use mathlib.Core.List.{List, [], ◌∷◌, Memᴰ}
use mathlib.Core.Bool.{true, ◌&&◌}
use mathlib.Core.Logic.{⊎_elim}
use native.Mathlib.Omega.{arith}
use borrow.Author.Tests.{eq-eqb, ne_eqb, eqb-true, ltb-true}
use lib.ListN.{length}
use lib.Dec.{eqb, ltb}
use Rattle.std.specs.Prelude.{Some, None}
use Rattle.sheets.specs.declared.Text.{Text}
use Rattle.sheets.specs.Sheet.{length_at, index_at, text_at, end_at, starts_in, starts_from, starts, is_whole, is_good, first_bad, has_version, breach_of, find_in, find_of, found_at}
use Rattle.sheets.proofs.Turns.{cases, both, whole-ends, good_whole, good_is, Good}

-- an entry of the sheet starts at this place
abbrev pub StartsAt : List ℕ → ℕ → Type 0
StartsAt sheet at = Memᴰ at (starts sheet)

-- where the text of an index was found: in which of these entries, and where there
pub record Held (sheet : List ℕ) (index place long : ℕ) (ats : List ℕ) : Type 0 where
  pub start : ℕ
  pub among : Memᴰ start ats
  pub whole : end_at sheet start ≤ length sheet
  pub named : index_at sheet start ≡ index
  pub text : place ≡ text_at start
  pub size : long ≡ length_at sheet start

held_later : (sheet : List ℕ) (index place long at : ℕ) (ats : List ℕ) → Held sheet index place long ats → Held sheet index place long (at ∷ ats)
held_later sheet index place long at ats h =
    record { start = h.start; among = mathlib.Core.List.Memᴰ.tail h.among; whole = h.whole; named = h.named; text = h.text; size = h.size }

held_in : (sheet : List ℕ) (index place long : ℕ) (ats : List ℕ) → find_in sheet index ats ≡ found_at place long → Held sheet index place long ats
unfolding find_in
held_in sheet index place long [] e = let z : ◌≡◌ {A = ℕ} 0 1 = cc in absurd (omega arith)
held_in sheet index place long (at ∷ ats) e =
    cases (is_whole sheet at && eqb (index_at sheet at) index)
    (λ t.
    let w = both (is_whole sheet at) (eqb (index_at sheet at) index) t in
    let f : found_at (text_at at) (length_at sheet at) ≡ found_at place long = rw t at e in
    let same : ◌≡◌ {A = Text} (record { place = text_at at; length = length_at sheet at }) (record { place = place; length = long }) = cc in
    record {
      start = at;
      among = mathlib.Core.List.Memᴰ.head refl;
      whole = whole-ends sheet at w.0;
      named = eqb-true (index_at sheet at) index w.1;
      text = sym (ap (λ (t : Text). t.place) same);
      size = sym (ap (λ (t : Text). t.length) same);
    })
    (λ t. held_later sheet index place long at ats (held_in sheet index place long ats (rw t at e)))

-- what is found is the text of an entry with that index, and lies inside the sheet: of any bytes
pub found_held : (sheet : List ℕ) (index place long : ℕ) → find_of sheet index ≡ found_at place long → Held sheet index place long (starts sheet)
unfolding find_of
found_held sheet index place long e = held_in sheet index place long (starts sheet) e

pub found_inside : (sheet : List ℕ) (index place long : ℕ) → find_of sheet index ≡ found_at place long → place + long ≤ length sheet
found_inside sheet index place long e = let h = found_held sheet index place long e in omega arith

none_in : (sheet : List ℕ) (index : ℕ) (ats : List ℕ) → ((at : ℕ) → Memᴰ at ats → index_at sheet at ≡ index → ⊥) → find_in sheet index ats ≡ None
unfolding find_in
none_in sheet index [] h = refl
none_in sheet index (at ∷ ats) h =
    cases (is_whole sheet at && eqb (index_at sheet at) index)
    (λ t. absurd (h at (mathlib.Core.List.Memᴰ.head refl) (eqb-true (index_at sheet at) index (both (is_whole sheet at) (eqb (index_at sheet at) index) t).1)))
    (λ t. rw t (none_in sheet index ats (λ a m. h a (mathlib.Core.List.Memᴰ.tail m))))

-- an index that no entry has is not found: of any bytes
pub not_listed : (sheet : List ℕ) (index : ℕ) → ((at : ℕ) → StartsAt sheet at → index_at sheet at ≡ index → ⊥) → find_of sheet index ≡ None
unfolding find_of
not_listed sheet index h = none_in sheet index (starts sheet) h

-- no breach among these entries: the first is good, and there is none among the others
pub none_first : (sheet : List ℕ) (longest before at : ℕ) (ats : List ℕ) → first_bad sheet longest before (at ∷ ats) ≡ None
    → (is_good sheet longest before at ≡ true) × (first_bad sheet longest (index_at sheet at) ats ≡ None)
unfolding first_bad
none_first sheet longest before at ats e =
    cases (is_good sheet longest before at)
    (λ t. (t, rw t at e))
    (λ t. let f : Some at ≡ None = rw t at e in let z : ◌≡◌ {A = ℕ} 0 1 = cc in absurd (omega arith))

-- so each of them is good, and above the index before the first
good_each : (sheet : List ℕ) (longest before : ℕ) (ats : List ℕ) → first_bad sheet longest before ats ≡ None → (at : ℕ) → Memᴰ at ats → Good sheet longest before at
good_each sheet longest before [] e at m = absurd (mathlib.Core.List.Memᴰ.not-nil m)
good_each sheet longest before (x ∷ ats) e at m =
    let n = none_first sheet longest before x ats e in
    let g = good_is sheet longest before x n.0 in
    ⊎_elim (λ q. rw q g)
    (λ l.
    let r = good_each sheet longest (index_at sheet x) ats n.1 at l in
    record { whole = r.whole; short = r.short; rises = omega arith; small = r.small })
    (mathlib.Core.List.Memᴰ.cases_cons m)

unique_in : (sheet : List ℕ) (longest before : ℕ) (ats : List ℕ) → first_bad sheet longest before ats ≡ None
    → (a b : ℕ) → Memᴰ a ats → Memᴰ b ats → index_at sheet a ≡ index_at sheet b → a ≡ b
unique_in sheet longest before [] e a b ma mb q = absurd (mathlib.Core.List.Memᴰ.not-nil ma)
unique_in sheet longest before (x ∷ ats) e a b ma mb q =
    let n = none_first sheet longest before x ats e in
    ⊎_elim
    (λ ha.
    ⊎_elim (λ hb. ha ∙ sym hb)
    (λ lb. let g = good_each sheet longest (index_at sheet x) ats n.1 b lb in absurd (omega (arith, ap (index_at sheet) ha)))
    (mathlib.Core.List.Memᴰ.cases_cons mb))
    (λ la.
    ⊎_elim (λ hb. let g = good_each sheet longest (index_at sheet x) ats n.1 a la in absurd (omega (arith, ap (index_at sheet) hb)))
    (λ lb. unique_in sheet longest (index_at sheet x) ats n.1 a b la lb q)
    (mathlib.Core.List.Memᴰ.cases_cons mb))
    (mathlib.Core.List.Memᴰ.cases_cons ma)

own_in : (sheet : List ℕ) (longest before : ℕ) (ats : List ℕ) → first_bad sheet longest before ats ≡ None
    → (at : ℕ) → Memᴰ at ats → find_in sheet (index_at sheet at) ats ≡ found_at (text_at at) (length_at sheet at)
unfolding find_in
own_in sheet longest before [] e at m = absurd (mathlib.Core.List.Memᴰ.not-nil m)
own_in sheet longest before (x ∷ ats) e at m =
    let n = none_first sheet longest before x ats e in
    let w = good_whole sheet longest before x n.0 in
    ⊎_elim (λ q. rw (w, eq-eqb (index_at sheet x) (index_at sheet at) (ap (index_at sheet) (sym q)), q))
    (λ l.
    let g = good_each sheet longest (index_at sheet x) ats n.1 at l in
    rw (w, ne_eqb (index_at sheet x) (index_at sheet at) (λ q. omega arith)) (own_in sheet longest (index_at sheet x) ats n.1 at l))
    (mathlib.Core.List.Memᴰ.cases_cons m)

-- a good sheet
module _ (sheet : List ℕ) (longest : ℕ) (good : breach_of sheet longest ≡ None) where
  pub has_version_lem : has_version sheet ≡ true
  unfolding breach_of
  has_version_lem =
      cases (has_version sheet) (λ t. t) (λ t. let f : Some 0 ≡ None = rw t at good in let z : ◌≡◌ {A = ℕ} 0 1 = cc in absurd (omega arith))

  pub none_bad_lem : first_bad sheet longest 0 (starts sheet) ≡ None
  unfolding breach_of
  none_bad_lem = rw has_version_lem at good

  -- each of its entries is whole, within the string limit, and has an index from 1 to 32,767
  pub each_good : (at : ℕ) → StartsAt sheet at → Good sheet longest 0 at
  each_good at m = good_each sheet longest 0 (starts sheet) none_bad_lem at m

  -- no two of its entries have the same index
  pub unique : (a b : ℕ) → StartsAt sheet a → StartsAt sheet b → index_at sheet a ≡ index_at sheet b → a ≡ b
  unique a b ma mb q = unique_in sheet longest 0 (starts sheet) none_bad_lem a b ma mb q

  -- each of its entries is found by its index
  pub each_found : (at : ℕ) → StartsAt sheet at → find_of sheet (index_at sheet at) ≡ found_at (text_at at) (length_at sheet at)
  unfolding find_of
  each_found at m = own_in sheet longest 0 (starts sheet) none_bad_lem at m

  -- an index that is not found is no entry's
  pub nothing_listed : (index : ℕ) → find_of sheet index ≡ None → (at : ℕ) → StartsAt sheet at → index_at sheet at ≡ index → ⊥
  nothing_listed index e at m q =
      let f : find_of sheet index ≡ found_at (text_at at) (length_at sheet at) = rw q at (each_found at m) in
      let z : ◌≡◌ {A = ℕ} 0 1 = cc in omega arith

  -- what is found is within the string limit, and its index lies in 1 to 32,767
  pub found_good : (index place long : ℕ) → find_of sheet index ≡ found_at place long → (long ≤ longest) × (1 ≤ index) × (index ≤ 32767)
  found_good index place long e =
      let h = found_held sheet index place long e in
      let g = each_good h.start h.among in
      (omega arith, omega arith, omega arith)

-- a breach lies inside the sheet, or at 0
breach_among : (sheet : List ℕ) (longest before place : ℕ) (ats : List ℕ) → first_bad sheet longest before ats ≡ Some place → Memᴰ place ats
unfolding first_bad
breach_among sheet longest before place [] e = let z : ◌≡◌ {A = ℕ} 0 1 = cc in absurd (omega arith)
breach_among sheet longest before place (at ∷ ats) e =
    cases (is_good sheet longest before at)
    (λ t. mathlib.Core.List.Memᴰ.tail (breach_among sheet longest (index_at sheet at) place ats (rw t at e)))
    (λ t. let f : Some at ≡ Some place = rw t at e in mathlib.Core.List.Memᴰ.head (cc))

start_inside : (sheet : List ℕ) (turns at place : ℕ) → Memᴰ place (starts_in turns sheet at) → place < length sheet
unfolding starts_in
start_inside sheet zero at place m = absurd (mathlib.Core.List.Memᴰ.not-nil m)
start_inside sheet (suc turns) at place m =
    cases (ltb at (length sheet))
    (λ t.
    let l : Memᴰ place (at ∷ starts_in turns sheet (end_at sheet at)) = rw t at m in
    ⊎_elim (λ q. rw q (ltb-true at (length sheet) t)) (λ r. start_inside sheet turns (end_at sheet at) place r) (mathlib.Core.List.Memᴰ.cases_cons l))
    (λ t. let l : Memᴰ place [] = rw t at m in absurd (mathlib.Core.List.Memᴰ.not-nil l))

pub starts-inside : (sheet : List ℕ) (at : ℕ) → StartsAt sheet at → at < length sheet
unfolding starts_from
starts-inside sheet at m = start_inside sheet (length sheet) 1 at m

pub breach_inside : (sheet : List ℕ) (longest place : ℕ) → breach_of sheet longest ≡ Some place → place ≤ length sheet
unfolding breach_of
breach_inside sheet longest place e =
    cases (has_version sheet)
    (λ t. let l = starts-inside sheet place (breach_among sheet longest 0 place (starts sheet) (rw t at e)) in omega arith)
    (λ t. let f : Some 0 ≡ Some place = rw t at e in let z : 0 ≡ place = cc in omega arith)

-- the empty sheet has no breach and finds nothing; a sheet of no bytes finds nothing
pub empty_good : (longest : ℕ) → breach_of (1 ∷ []) longest ≡ None
unfolding breach_of has_version starts_from starts_in first_bad
empty_good longest = refl

pub empty_finds : (index : ℕ) → find_of (1 ∷ []) index ≡ None
unfolding find_of starts_from starts_in find_in
empty_finds index = refl

pub no_bytes_finds : (index : ℕ) → find_of [] index ≡ None
unfolding find_of starts_from starts_in find_in
no_bytes_finds index = refl
