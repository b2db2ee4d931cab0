-- The table of registrations that the repacking rule keeps: what compares as the same use is the same, indexes count up in each context from 1,
-- and an index that a use has is one that an entry gave it.
-- Assumes nothing.
use Prim.Native.Nat.{ℕ, ◌≤◌, ◌<◌}
use mathlib.Core.Path.{◌≡◌, refl, ap}
use mathlib.Core.List.{[], List, ◌∷◌}
use mathlib.Core.Bool.{true, ◌&&◌}
use mathlib.Core.Option.{Option}
use native.Mathlib.Omega.{arith}
use borrow.Author.Tests.{eq-eqb}
use lib.Dec.{eqb}
use Rattle.words.proofs.Tests.{cases}
use Rattle.records.specs.Item.{Key, text_key, thread_key, Use}
use Rattle.rule.specs.Rule.{same_provider, same_use, same_table, Entry, index_in, next_index}
use Rattle.rule.proofs.Uses.{same_provider_refl, same_use_eq}

-- ---- the tables of keys

-- the record type of a key: 2 for a text, 3 for a thread
abbrev pub key_table : Key → ℕ
key_table (text_key bytes) = 2
key_table (thread_key t) = 3

-- keys are of one table where the types of their records are equal
pub table_alike : (a b : Key) → same_table a b ≡ eqb (key_table a) (key_table b)
table_alike (text_key a) (text_key b) = refl
table_alike (text_key a) (thread_key t) = refl
table_alike (thread_key t) (text_key b) = refl
table_alike (thread_key t) (thread_key u) = refl

-- ---- indexes

-- uses of one provider and one table have one next index
pub next_alike : (entries : List Entry) (u v : Use) → u.provider ≡ v.provider → key_table u.key ≡ key_table v.key
    → next_index entries u ≡ next_index entries v
next_alike [] u v p k = refl
next_alike (e ∷ entries) u v p k =
    rw (next_alike entries u v p k, p, table_alike u.key e.use_of.key, table_alike v.key e.use_of.key, k)

-- each entry's index was the next one when it was put in
abbrev pub Made : List Entry → Type 0
Made [] = Unit {0}
Made (e ∷ entries) = (e.index ≡ next_index entries e.use_of) × Made entries

-- an index of another use's context and table is below the next one
pub made_lt : (e : Entry) (entries : List Entry) (u : Use) → Made (e ∷ entries) → e.use_of.provider ≡ u.provider
    → key_table e.use_of.key ≡ key_table u.key → e.index < next_index (e ∷ entries) u
made_lt e entries u m p k =
    let one : (same_provider u.provider e.use_of.provider && same_table u.key e.use_of.key) ≡ true =
    rw (p, same_provider_refl u.provider, table_alike u.key e.use_of.key, k, eq-eqb (key_table u.key) (key_table u.key) refl) in
    rw one (omega (arith, m.0, next_alike entries e.use_of u p k))

-- with one entry more no next index is smaller
pub next_grows : (e : Entry) (entries : List Entry) (u : Use) → next_index entries u ≤ next_index (e ∷ entries) u
next_grows e entries u = omega arith

-- what holds of every entry of a table
abbrev pub Every : (Option ℕ → Key → ℕ → Type 0) → List Entry → Type 0
Every P [] = Unit {0}
Every P (e ∷ entries) = P e.use_of.provider e.use_of.key e.index × Every P entries

-- holds of every index that the table gives a key
pub index-holds : (P : Option ℕ → Key → ℕ → Type 0) (entries : List Entry) (provider : Option ℕ) (key : Key) → Every P entries
    → (index_in entries provider key ≡ 0 → ⊥) → P provider key (index_in entries provider key)
index-holds P [] provider key h given = absurd (given refl)
index-holds P (e ∷ entries) provider key h given =
    cases (same_use (record { provider = provider; key = key }) e.use_of)
    (λ q.
    let u = same_use_eq (record { provider = provider; key = key }) e.use_of q in
    rw (q, ap (λ x. x.provider) u, ap (λ x. x.key) u) h.0)
    (λ q. rw q (index-holds P entries provider key h.1 (rw q at given)))
