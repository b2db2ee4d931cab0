-- Laws of the contexts: what a search for an id finds, and what a state keeps that can belong to an archive. Assumes nothing.
use Prim.Native.Nat.{ℕ, zero, suc, ◌+◌, ◌%◌, ◌<◌, ◌≤◌}
use mathlib.Core.Path.{◌≡◌, refl, sym, subst, ◌∙◌}
use mathlib.Core.List.{[], List, ◌∷◌}
use mathlib.Core.Bool.{true, true≢false}
use native.Mathlib.Omega.{arith}
use native.Mathlib.Nat.{add-sub_cancel}
use borrow.Author.Tests.{eqb-true, leb-true, eqb-false, eq-eqb, le-leb, ne_eqb}
use lib.Dec.{eqb, leb}
use lib.ListN.{length, get_or, take, length-take, length-set}
use lib.Seq.{get_or-take, length-take-le, get_or-set_same, get_or-set_other}
use Rattle.std.specs.Prelude.{Option, Some, None}
use Rattle.std.specs.List.{position, position_from}
use Rattle.std.proofs.lemmas.Iterator.Adapters.{position_from-zero}
use Rattle.std.proofs.lemmas.Option.{none-some, same_Some}
use Rattle.words.specs.Word.{pick}
use Rattle.words.proofs.Tests.{cases}
use Rattle.contexts.specs.Context.{find_from, find_id, belongs_to, entering, on_found, in_context, with_id, provider_of}
use Rattle.contexts.specs.declared.State.{State}

-- ---- the search for an id

-- a search counted from i finds what std's word for `position` says, counted from i
find_from_position : (id i : ℕ) (xs : List ℕ) → find_from i xs id ≡ position_from (λ own. eqb own id) i xs
find_from_position id i [] = refl
find_from_position id i (x ∷ xs) =
    cases (eqb x id) (λ e. rw e) (λ e. rw e (find_from_position id (i + 1) xs))

-- the search is `position` among the first `count` ids
pub find_position : (ids : List ℕ) (count id : ℕ) → find_id ids count id ≡ position (λ own. eqb own id) (take count ids)
unfolding find_id
find_position ids count id =
    find_from_position id 0 (take count ids) ∙ sym (position_from-zero (λ own. eqb own id) (take count ids))

-- what is found of an id in a list, counted from k: its first slot, or that it has none
abbrev FoundIn : ℕ → List ℕ → ℕ → Option ℕ → Type 0
FoundIn k xs id (Some i) =
    (j : ℕ) × (i ≡ k + j) × (j < length xs) × (get_or xs j 0 ≡ id) × ((m : ℕ) → m < j → get_or xs m 0 ≡ id → ⊥)
FoundIn k xs id None = (m : ℕ) → m < length xs → get_or xs m 0 ≡ id → ⊥

found_later : (k x : ℕ) (xs : List ℕ) (id : ℕ) (r : Option ℕ) → (x ≡ id → ⊥) → FoundIn (k + 1) xs id r → FoundIn k (x ∷ xs) id r
found_later k x xs id (Some i) h (j, e, l, s, u) = (suc j, omega arith, omega arith, s, before)
  where
    before : (m : ℕ) → m < suc j → get_or (x ∷ xs) m 0 ≡ id → ⊥
    before zero l = h
    before (suc m) l = u m (omega arith)
found_later k x xs id None h u = after
  where
    after : (m : ℕ) → m < suc (length xs) → get_or (x ∷ xs) m 0 ≡ id → ⊥
    after zero l = h
    after (suc m) l = u m (omega arith)

from_found : (k : ℕ) (xs : List ℕ) (id : ℕ) → FoundIn k xs id (find_from k xs id)
from_found k [] id = λ m l s. absurd (omega arith)
from_found k (x ∷ xs) id =
    cases (eqb x id) (λ e. rw e (0, omega arith, omega arith, eqb-true x id e, λ m l. absurd (omega arith)))
    (λ e. rw e (found_later k x xs id (find_from (k + 1) xs id) (eqb-false x id e) (from_found (k + 1) xs id)))

found : (ids : List ℕ) (count id : ℕ) (r : Option ℕ) → find_id ids count id ≡ r → FoundIn 0 (take count ids) id r
unfolding find_id
found ids count id r e = subst (FoundIn 0 (take count ids) id) e (from_found 0 (take count ids) id)

-- a slot that is found is one of the first `count`
pub found_lt : (ids : List ℕ) (count id i : ℕ) → find_id ids count id ≡ Some i → i < count
found_lt ids count id i e = let h = found ids count id (Some i) e in omega (arith, h.1, h.2, length-take count ids)

-- it holds the id
pub found-is : (ids : List ℕ) (count id i : ℕ) → find_id ids count id ≡ Some i → get_or ids i 0 ≡ id
found-is ids count id i e =
    let h = found ids count id (Some i) e in
    let p : i ≡ h.0 = omega (arith, h.1) in
    rw p (sym (get_or-take count ids h.0 0 (omega (arith, h.2, length-take count ids))) ∙ h.3)

-- and no slot before it does
pub found_first : (ids : List ℕ) (count id i j : ℕ) → find_id ids count id ≡ Some i → j < i → get_or ids j 0 ≡ id → ⊥
found_first ids count id i j e l s =
    let h = found ids count id (Some i) e in
    h.4 j (omega (arith, h.1)) (get_or-take count ids j 0 (omega (arith, h.1, h.2, length-take count ids)) ∙ s)

-- where nothing is found, none of the first `count` slots holds the id
pub found_none : (ids : List ℕ) (count id j : ℕ) → count ≤ length ids → find_id ids count id ≡ None → j < count
    → get_or ids j 0 ≡ id → ⊥
found_none ids count id j n e l s =
    found ids count id None e j (rw (length-take-le count ids n) l) (get_or-take count ids j 0 l ∙ s)

-- ---- states that belong

-- what is known of a state that can belong to an archive of n bytes
pub record Belongs (s : State) (n : ℕ) : Type 0 where
  pub whole : s.place % 8 ≡ 0
  pub inside : s.place ≤ n
  pub few : s.count ≤ 8
  pub known : s.current ≤ s.count

-- a state that belongs is whole and inside, with at most 8 ids, one of them current or none
pub belongs_facts : (s : State) (n : ℕ) → belongs_to s n ≡ true → Belongs s n
unfolding belongs_to
belongs_facts s n =
    cases (eqb (s.place % 8) 0)
    (λ a. cases (leb s.place n)
    (λ b. cases (leb s.count 8)
    (λ c. rw (a, b, c)
    (λ d. record {
      whole = eqb-true (s.place % 8) 0 a;
      inside = leb-true s.place n b;
      few = leb-true s.count 8 c;
      known = leb-true s.current s.count d;
    }))
    (λ c. rw (a, b, c) (λ d. absurd (true≢false (sym d)))))
    (λ b. rw (a, b) (λ d. absurd (true≢false (sym d)))))
    (λ a. rw a (λ d. absurd (true≢false (sym d))))

-- and a state that is so belongs
pub facts_belong : (s : State) (n : ℕ) → Belongs s n → belongs_to s n ≡ true
unfolding belongs_to
facts_belong s n b =
    rw (
      eq-eqb (s.place % 8) 0 b.whole,
      le-leb s.place n b.inside,
      le-leb s.count 8 b.few,
      le-leb s.current s.count b.known,
    )

-- ---- the context of an id

-- what is known of the state t in the context of an id, at another place than s
pub record InContext (s : State) (id place : ℕ) (t : State) : Type 0 where
  pub few : t.count ≤ 8
  pub known : t.current ≤ t.count
  pub slots : length t.ids ≡ 8
  pub place_is : t.place ≡ place
  pub grown : s.count ≤ t.count
  pub ids_kept : (j : ℕ) → j < s.count → get_or t.ids j 0 ≡ get_or s.ids j 0
  pub provider-is : provider_of t ≡ Some id

-- where the id is not a ninth, the state that it makes current can belong again, and has the ids that it had
pub entered_belongs : (s : State) (id place : ℕ) (t : State) → s.count ≤ 8 → length s.ids ≡ 8 → entering s id place ≡ Some t → InContext s id place t
unfolding entering provider_of
entered_belongs s id place t n l = go (find_id s.ids s.count id) refl
  where
    old : ℕ → Option State
    old i = Some (in_context s (i + 1) place)

    new : Option State
    new = Some (with_id s id place)

    go : (r : Option ℕ) → find_id s.ids s.count id ≡ r → on_found r old (pick (eqb s.count 8) None new) ≡ Some t → InContext s id place t
    go (Some i) e z =
        let h = found_lt s.ids s.count id i e in
        subst (InContext s id place) (same_Some (in_context s (i + 1) place) t z) (record {
          few = n;
          known = omega arith;
          slots = l;
          place_is = refl;
          grown = omega arith;
          ids_kept = λ j k. refl;
          provider-is = rw (ne_eqb (i + 1) 0 (λ q. omega arith), add-sub_cancel i 1, found-is s.ids s.count id i e);
        })
    go None e z =
        cases (eqb s.count 8) (λ q. absurd (none-some t (rw q at z)))
        (λ q.
        let h : s.count < 8 = omega (arith, eqb-false s.count 8 q) in
        subst (InContext s id place) (same_Some (with_id s id place) t (rw q at z)) (record {
          few = omega arith;
          known = omega arith;
          slots = length-set s.ids s.count id ∙ l;
          place_is = refl;
          grown = omega arith;
          ids_kept = λ j k. get_or-set_other s.ids s.count j id 0 (λ p. omega arith);
          provider-is = rw (ne_eqb (s.count + 1) 0 (λ q. omega arith), add-sub_cancel s.count 1, get_or-set_same s.ids s.count id 0 (omega arith));
        }))
