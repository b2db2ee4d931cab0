-- One turn of each walk over a sheet's entries, and that the turns are enough. Assumes nothing.
use Prim.Native.Nat.{ℕ, zero, suc, ◌+◌, ◌<◌, ◌≤◌}
use mathlib.Core.Path.{◌≡◌, refl, ◌∙◌}
use mathlib.Core.List.{List, [], ◌∷◌}
use mathlib.Core.Bool.{Bool, true, false, ◌&&◌}
use native.Mathlib.Omega.{arith}
use borrow.Author.Tests.{lt-ltb, le-ltb, leb-true, leb-false, ltb-true}
use lib.ListN.{length}
use lib.Dec.{eqb, leb, ltb}
use Rattle.std.specs.Prelude.{Some, None}
use Rattle.words.specs.Word.{pick}
use Rattle.sheets.specs.Sheet.{length_at, index_at, text_at, end_at, starts_in, starts_from, is_whole, is_good, first_bad, has_version, find_in, found_at}

-- any two numbers of turns that reach the sheet's end give the same starts: the turns never run out
pub turns_enough : (sheet : List ℕ) (m n at : ℕ) → length sheet ≤ at + m → length sheet ≤ at + n → starts_in m sheet at ≡ starts_in n sheet at
unfolding starts_in
turns_enough sheet zero zero at hm hn = refl
turns_enough sheet zero (suc n) at hm hn = rw (le-ltb at (length sheet) (omega arith))
turns_enough sheet (suc m) zero at hm hn = rw (le-ltb at (length sheet) (omega arith))
turns_enough sheet (suc m) (suc n) at hm hn = rw (turns_enough sheet m n (end_at sheet at) (omega arith) (omega arith))

-- the same without a number of turns
pub starts_turn : (sheet : List ℕ) (at : ℕ) → starts_from sheet at ≡ pick (ltb at (length sheet)) (at ∷ starts_from sheet (end_at sheet at)) []
unfolding starts_from starts_in
starts_turn sheet at = turns_enough sheet (length sheet) (suc (length sheet)) at (omega arith) (omega arith)

pub starts_more : (sheet : List ℕ) (at : ℕ) → at < length sheet → starts_from sheet at ≡ at ∷ starts_from sheet (end_at sheet at)
starts_more sheet at h = starts_turn sheet at ∙ rw (lt-ltb at (length sheet) h)

pub starts_none : (sheet : List ℕ) (at : ℕ) → length sheet ≤ at → starts_from sheet at ≡ []
starts_none sheet at h = starts_turn sheet at ∙ rw (le-ltb at (length sheet) h)

-- a test, with what it gave
pub cases : {P : Type 0} (t : Bool) → (t ≡ true → P) → (t ≡ false → P) → P
cases true f g = f refl
cases false f g = g refl

pub both : (a b : Bool) → a && b ≡ true → (a ≡ true) × (b ≡ true)
both true true e = (refl, refl)
both true false e = (refl, e)
both false b e = (e, let z : ◌≡◌ {A = Bool} false true = e in cc)

pub whole-ends : (sheet : List ℕ) (at : ℕ) → is_whole sheet at ≡ true → end_at sheet at ≤ length sheet
unfolding is_whole
whole-ends sheet at e = leb-true (end_at sheet at) (length sheet) e

pub good_whole : (sheet : List ℕ) (longest before at : ℕ) → is_good sheet longest before at ≡ true → is_whole sheet at ≡ true
unfolding is_good
good_whole sheet longest before at e =
    let p = both (is_whole sheet at && leb (length_at sheet at) longest && ltb before (index_at sheet at)) (leb (index_at sheet at) 32767) e in
    let q = both (is_whole sheet at && leb (length_at sheet at) longest) (ltb before (index_at sheet at)) p.0 in
    (both (is_whole sheet at) (leb (length_at sheet at) longest) q.0).0

-- what a good entry is
pub record Good (sheet : List ℕ) (longest before at : ℕ) : Type 0 where
  pub whole : end_at sheet at ≤ length sheet
  pub short : length_at sheet at ≤ longest
  pub rises : before < index_at sheet at
  pub small : index_at sheet at ≤ 32767

pub good_is : (sheet : List ℕ) (longest before at : ℕ) → is_good sheet longest before at ≡ true → Good sheet longest before at
unfolding is_good
good_is sheet longest before at e =
    let p = both (is_whole sheet at && leb (length_at sheet at) longest && ltb before (index_at sheet at)) (leb (index_at sheet at) 32767) e in
    let q = both (is_whole sheet at && leb (length_at sheet at) longest) (ltb before (index_at sheet at)) p.0 in
    let r = both (is_whole sheet at) (leb (length_at sheet at) longest) q.0 in
    record {
      whole = whole-ends sheet at r.0;
      short = leb-true (length_at sheet at) longest r.1;
      rises = ltb-true before (index_at sheet at) q.1;
      small = leb-true (index_at sheet at) 32767 p.1;
    }

module _ (sheet : List ℕ) (longest before at : ℕ) (h : at < length sheet) where
  pub bad_here : is_good sheet longest before at ≡ false → first_bad sheet longest before (starts_from sheet at) ≡ Some at
  unfolding first_bad
  bad_here e = rw (starts_more sheet at h, e)

  pub bad_later : is_good sheet longest before at ≡ true
      → first_bad sheet longest before (starts_from sheet at) ≡ first_bad sheet longest (index_at sheet at) (starts_from sheet (end_at sheet at))
  unfolding first_bad
  bad_later e = rw (starts_more sheet at h, e)

pub bad_none : (sheet : List ℕ) (longest before at : ℕ) → length sheet ≤ at → first_bad sheet longest before (starts_from sheet at) ≡ None
unfolding first_bad
bad_none sheet longest before at h = rw (starts_none sheet at h)

module _ (sheet : List ℕ) (index at : ℕ) (h : at < length sheet) where
  pub find_here : is_whole sheet at ≡ true → eqb (index_at sheet at) index ≡ true
      → find_in sheet index (starts_from sheet at) ≡ found_at (text_at at) (length_at sheet at)
  unfolding find_in
  find_here w e = rw (starts_more sheet at h, w, e)

  pub find_later : is_whole sheet at ≡ true → eqb (index_at sheet at) index ≡ false
      → find_in sheet index (starts_from sheet at) ≡ find_in sheet index (starts_from sheet (end_at sheet at))
  unfolding find_in
  find_later w e = rw (starts_more sheet at h, w, e)

pub find_none : (sheet : List ℕ) (index at : ℕ) → length sheet ≤ at → find_in sheet index (starts_from sheet at) ≡ None
unfolding find_in
find_none sheet index at h = rw (starts_none sheet at h)

-- behind an entry that is not whole there is none
pub find_cut : (sheet : List ℕ) (index at : ℕ) → at < length sheet → is_whole sheet at ≡ false → find_in sheet index (starts_from sheet at) ≡ None
unfolding find_in is_whole
find_cut sheet index at h e =
    let l = leb-false (end_at sheet at) (length sheet) e in
    rw (starts_more sheet at h, e, starts_none sheet (end_at sheet at) (omega arith))

pub has_bytes : (sheet : List ℕ) → has_version sheet ≡ true → 1 ≤ length sheet
unfolding has_version
has_bytes [] e = let z : ◌≡◌ {A = ℕ} 0 1 = cc in omega arith
has_bytes (b ∷ bs) e = omega arith
