-- Keys, contexts and uses compared: what compares as the same is the same, and everything compares as the same with itself.
-- Assumes nothing.
use Prim.Native.Nat.{ℕ}
use mathlib.Core.Path.{◌≡◌, refl}
use mathlib.Core.Bool.{true}
use mathlib.Core.Option.{Option, none, some}
use borrow.Author.Tests.{eq-eqb, eqb-true}
use lib.Dec.{eqb}
use Rattle.words.proofs.Tests.{both_true}
use Rattle.words.proofs.Same.{same_true, same_refl}
use Rattle.records.specs.Item.{thread, Key, text_key, thread_key, Use}
use Rattle.rule.specs.Rule.{same_key, same_provider, same_table, same_use}

-- keys that compare as the same are the same
pub same_key_eq : (a b : Key) → same_key a b ≡ true → a ≡ b
same_key_eq (text_key a) (text_key b) e = let bytes = same_true a b e in cc
same_key_eq (text_key a) (thread_key t) e = cc
same_key_eq (thread_key t) (text_key b) e = cc
same_key_eq (thread_key (thread p t)) (thread_key (thread q u)) e =
    let both = both_true (eqb p q) (eqb t u) e in
    let first = eqb-true p q both.0 in
    let second = eqb-true t u both.1 in
    cc

-- a key compares as the same with itself
pub same_key_refl : (a : Key) → same_key a a ≡ true
same_key_refl (text_key a) = same_refl a
same_key_refl (thread_key (thread p t)) = rw (eq-eqb p p refl, eq-eqb t t refl)

-- contexts that compare as the same are the same
pub same_provider_eq : (a b : Option ℕ) → same_provider a b ≡ true → a ≡ b
same_provider_eq none none e = refl
same_provider_eq none (some b) e = cc
same_provider_eq (some a) none e = cc
same_provider_eq (some a) (some b) e = let ids = eqb-true a b e in cc

-- a context compares as the same with itself
pub same_provider_refl : (a : Option ℕ) → same_provider a a ≡ true
same_provider_refl none = refl
same_provider_refl (some a) = eq-eqb a a refl

-- uses that compare as the same are of one key in one context
pub same_use_eq : (a b : Use) → same_use a b ≡ true → a ≡ b
same_use_eq a b e =
    let both = both_true (same_provider a.provider b.provider) (same_key a.key b.key) e in
    let provider = same_provider_eq a.provider b.provider both.0 in
    let key = same_key_eq a.key b.key both.1 in
    of_parts a.provider b.provider a.key b.key provider key
  where
    of_parts : (p q : Option ℕ) (k l : Key) → p ≡ q → k ≡ l
        → ◌≡◌ {A = Use} (record { provider = p; key = k }) (record { provider = q; key = l })
    of_parts p q k l e f = cc

-- a use compares as the same with itself
pub same_use_refl : (a : Use) → same_use a a ≡ true
same_use_refl a = rw (same_provider_refl a.provider, same_key_refl a.key)

-- a key is of its own table
pub same_table_refl : (a : Key) → same_table a a ≡ true
same_table_refl (text_key a) = refl
same_table_refl (thread_key t) = refl
