-- An archive that number 12 lets pass registers no more keys in a context than its tables hold, so every index that the rule gives fits.
-- Assumes nothing.
use Prim.Native.Nat.{ℕ, ◌+◌, ◌≤◌, ◌<◌}
use mathlib.Core.Path.{◌≡◌, refl, ◌∙◌}
use mathlib.Core.List.{[], List, ◌∷◌, ◌++◌, append_assoc, append-nil}
use mathlib.Core.Bool.{Bool, true, false, cond, ◌&&◌}
use mathlib.Core.Option.{Option, none, some}
use native.Mathlib.Omega.{arith}
use borrow.Author.Tests.{ltb-false, eqb-true, eqb-false}
use lib.Dec.{eqb, ltb}
use Rattle.words.proofs.Tests.{either_false, cases}
use Rattle.format.specs.declared.Format.{Format}
use Rattle.records.specs.Item.{Item, Key, Use, uses_of}
use Rattle.registering.specs.Counting.{keys, member}
use Rattle.registering.proofs.Counting.{keys_ext, seen_again}
use Rattle.rule.specs.Rule.{same_use, same_provider, same_table, uses_all, Entry, index_in, next_index, is_new, with_use, entries_after}
use Rattle.rule.specs.Refusal.{Run, ended, passed, alike, limit_of, passes_limit, item_uses, limit_refusal, items_of}
use Rattle.rule.proofs.Length.{Registered, none_registered, is_new_lem, use_registered, next_index_pos}
use Rattle.rule.proofs.Tables.{Every, index-holds}
use Rattle.rule.proofs.Uses.{same_provider_refl, same_table_refl, same_use_eq, same_use_refl}

-- ---- how many keys are registered

module _ (chosen : Use → Bool) where
  -- a use adds one entry at most, and only to its own context and table
  use_next : (entries : List Entry) (u v : Use)
      → next_index (with_use chosen entries u) v ≤ cond (same_provider v.provider u.provider && same_table v.key u.key) 1 0 + next_index entries v
  use_next entries u v = cases (is_new chosen entries u) (λ e. rw e (omega arith)) (λ e. rw e (omega arith))

  -- no next index goes down
  use_grows : (entries : List Entry) (u v : Use) → next_index entries v ≤ next_index (with_use chosen entries u) v
  use_grows entries u v = cases (is_new chosen entries u) (λ e. rw e (omega arith)) (λ e. rw e (omega arith))

  -- nor after some uses
  pub uses_grow : (entries : List Entry) (us : List Use) (v : Use) → next_index entries v ≤ next_index (entries_after chosen entries us) v
  uses_grow entries [] v = omega arith
  uses_grow entries (u ∷ us) v = omega (arith, use_grows entries u v, uses_grow (with_use chosen entries u) us v)

  -- as many entries at most as there are distinct keys
  pub next_low : (entries : List Entry) (seen us : List Use) → Registered chosen entries seen → (v : Use)
      → next_index (entries_after chosen entries us) v ≤ next_index entries v + alike v (keys same_use seen us)
  next_low entries seen [] r v = omega arith
  next_low entries seen (u ∷ us) r v =
      let rest = next_low (with_use chosen entries u) (u ∷ seen) us (use_registered chosen entries seen u r) v in
      cases (member same_use u seen)
      (λ m.
      let old : is_new chosen entries u ≡ false = is_new_lem chosen entries seen u r ∙ rw m (cases (chosen u) (λ c. rw c) (λ c. rw c)) in
      let same = keys_ext same_use same_use_eq same_use_refl (u ∷ seen) seen us (seen_again same_use same_use_eq same_use_refl u seen m) in
      let rest' = rw (old, same) at rest in
      rw (m, old) rest')
      (λ m. rw m (omega (arith, rest, use_next entries u v)))

  -- the table after two parts of uses
  pub after_both : (entries : List Entry) (us vs : List Use)
      → entries_after chosen entries (us ++ vs) ≡ entries_after chosen (entries_after chosen entries us) vs
  after_both entries [] vs = refl
  after_both entries (u ∷ us) vs = after_both (with_use chosen entries u) us vs

-- ---- what number 12 lets pass

-- the next indexes of these uses are one above their tables' highest at most
abbrev pub Limited : Format → List Entry → List Use → Type 0
Limited f entries [] = Unit {0}
Limited f entries (u ∷ us) = (next_index entries u ≤ 1 + limit_of f u.key) × Limited f entries us

-- where no context uses more distinct keys than its table holds, they are so behind all uses
pub limits-kept : (f : Format) (chosen : Use → Bool) (uses us : List Use) → passes_limit f uses us ≡ false
    → Limited f (entries_after chosen [] uses) us
limits-kept f chosen uses [] e = tt
limits-kept f chosen uses (u ∷ us) e =
    let n = alike u (keys same_use [] uses) in
    let both = either_false (ltb (limit_of f u.key) n) (passes_limit f uses us) e in (
      omega (arith, ltb-false (limit_of f u.key) n both.0, next_low chosen [] [] uses (none_registered chosen) u),
      limits-kept f chosen uses us both.1,
    )

-- a run that number 12 lets pass uses no more than that in all
pub limits_of : (f : Format) (before : List Use) (run : Run) → passes_limit f before before ≡ false → limit_refusal f before run ≡ none
    → passes_limit f (before ++ uses_all (items_of run)) (before ++ uses_all (items_of run)) ≡ false
limits_of f before (ended number place) h e = rw (append-nil before) h
limits_of f before (passed place keeps item run) h e =
    cases (passes_limit f (before ++ item_uses item) (before ++ item_uses item))
    (λ q. let e' = rw q at e in let z : ◌≡◌ {A = ℕ} 0 1 = cc in absurd (omega arith))
    (λ q. behind item q (limits_of f (before ++ item_uses item) run q (rw q at e)))
  where
    behind : (item : Option Item) → passes_limit f (before ++ item_uses item) (before ++ item_uses item) ≡ false
        → passes_limit f (before ++ item_uses item ++ uses_all (items_of run)) (before ++ item_uses item ++ uses_all (items_of run)) ≡ false
        → passes_limit f (before ++ uses_all (items_of (passed place keeps item run))) (before ++ uses_all (items_of (passed place keeps item run))) ≡ false
    behind none q r = rw (append-nil before) at r
    behind (some i) q r = rw (append_assoc before (uses_of i) (uses_all (items_of run))) at r

-- ---- indexes that fit

-- every index of a table is one of its key's table
abbrev pub LowTable : Format → List Entry → Type 0
LowTable f entries = Every (λ provider key index. index ≤ limit_of f key) entries

-- so is the index of every key
pub low-index : (f : Format) (entries : List Entry) (provider : Option ℕ) → LowTable f entries → (key : Key)
    → index_in entries provider key ≤ limit_of f key
low-index f entries provider low key =
    cases (eqb (index_in entries provider key) 0) (λ e. let z = eqb-true (index_in entries provider key) 0 e in omega arith)
    (λ e. index-holds (λ p k index. index ≤ limit_of f k) entries provider key low (eqb-false (index_in entries provider key) 0 e))

-- the indexes that uses are given where they are new
abbrev pub UsesLow : Format → (Use → Bool) → List Entry → List Use → Type 0
UsesLow f chosen entries [] = Unit {0}
UsesLow f chosen entries (u ∷ us) =
    (is_new chosen entries u ≡ true → (0 < next_index entries u) × (next_index entries u ≤ limit_of f u.key))
    × UsesLow f chosen (with_use chosen entries u) us

-- they fit where the limits are kept behind all uses
pub uses_low : (f : Format) (chosen : Use → Bool) (entries : List Entry) (us vs : List Use)
    → Limited f (entries_after chosen entries (us ++ vs)) (us ++ vs) → LowTable f entries
    → UsesLow f chosen entries us × LowTable f (entries_after chosen entries us) × Limited f (entries_after chosen (entries_after chosen entries us) vs) vs
uses_low f chosen entries [] vs limited low = (tt, low, limited)
uses_low f chosen entries (u ∷ us) vs limited low =
    let fits : is_new chosen entries u ≡ true → (0 < next_index entries u) × (next_index entries u ≤ limit_of f u.key) = fitting in
    let low' : LowTable f (with_use chosen entries u) =
    cases (is_new chosen entries u) (λ e. rw e ((fits e).1, low)) (λ e. rw e low) in
    let rest = uses_low f chosen (with_use chosen entries u) us vs limited.1 low' in
    ((fits, rest.0), rest.1, rest.2)
  where
    own : (same_provider u.provider u.provider && same_table u.key u.key) ≡ true
    own = rw (same_provider_refl u.provider, same_table_refl u.key)

    fitting : is_new chosen entries u ≡ true → (0 < next_index entries u) × (next_index entries u ≤ limit_of f u.key)
    fitting e =
        let one : next_index (with_use chosen entries u) u ≡ 1 + next_index entries u = rw (e, own) in
        let all : next_index (entries_after chosen (with_use chosen entries u) (us ++ vs)) u ≤ 1 + limit_of f u.key = limited.0 in
        (next_index_pos entries u, omega (arith, one, all, uses_grow chosen (with_use chosen entries u) (us ++ vs) u))
