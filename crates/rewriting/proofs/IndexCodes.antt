-- The indexes of the rule's table by the codes of uses, as the slots of the tally hold them: what is found for the code of a use is its index in the table.
-- Assumes nothing.
use Prim.Native.Nat.{ℕ, ◌+◌, ◌*◌, ◌≤◌}
use mathlib.Core.Path.{◌≡◌, refl, sym, ◌∙◌}
use mathlib.Core.List.{List, [], ◌∷◌}
use mathlib.Core.Bool.{false, cond, ◌&&◌}
use mathlib.Core.Option.{Option}
use native.Mathlib.Omega.{arith}
use borrow.Author.Tests.{eq-eqb, ne_eqb, eqb-true, eqb-false, le-ltb}
use lib.Dec.{eqb}
use Rattle.passes.specs.Models.Codes.{context_in, code_in, codes}
use Rattle.tally.specs.Models.Slots.{key_mark}
use Rattle.indexing.specs.Models.Indexes.{index_of, Indexes, chosen_key}
use Rattle.words.specs.Stream.{same_bytes}
use Rattle.words.proofs.Tests.{cases}
use Rattle.registering.specs.Counting.{count}
use Rattle.registering.specs.Registers.{registers}
use Rattle.indexing.proofs.Indexed.{index-found, index-missing}
use Rattle.format.specs.declared.Format.{Format}
use Rattle.records.specs.Item.{text_key, key_words, Use}
use Rattle.contexts.specs.declared.State.{State}
use Rattle.tables.specs.Table.{table_words}
use Rattle.rule.specs.Rule.{same_use, same_provider, same_table, Entry, index_in, next_index, chosen_in}
use Rattle.rule.proofs.Length.{Registered}
use Rattle.rule.proofs.Tables.{Every}
use Rattle.passes.proofs.Codes.{KeyPlain, UsesPlain, code_words, same_codes, count-codes, alike-distinct}
use Rattle.rewriting.specs.Models.Indexed.{index_code, given_code}

-- ---- a table by codes

-- entries whose keys are plain
abbrev pub TablePlain : List Entry → Type 0
TablePlain entries = Every (λ provider key index. KeyPlain key) entries

-- whether two numbers are equal does not depend on their order
test_turned : (a b : ℕ) → eqb a b ≡ eqb b a
test_turned a b =
    cases (eqb a b) (λ e. rw (e, eqb-true a b e) (sym (eq-eqb b b refl))) (λ e. rw e (sym (ne_eqb b a (λ z. eqb-false a b e (sym z)))))

module _ (f : Format) (last : State) (few : last.count ≤ 8) where
  -- the index of a use's code is the use's
  pub index_code_lem : (entries : List Entry) (u : Use) → TablePlain entries → KeyPlain u.key
      → index_code f last entries (code_in f last u) ≡ index_in entries u.provider u.key
  index_code_lem [] u plain h = refl
  index_code_lem (e ∷ entries) u plain h = rw (← (same_codes f last few u e.use_of h plain.0), index_code_lem entries u plain.1 h)

  -- the marks of two codes are the same where the uses are of one context and table
  mark_same : (u v : Use) → KeyPlain u.key → KeyPlain v.key
      → ◌≡◌ {A = ℕ} (cond (eqb (key_mark (code_in f last u)) (key_mark (code_in f last v))) 1 0)
      (cond (same_provider u.provider v.provider && same_table u.key v.key) 1 0)
  mark_same u v h k =
      rw (test_turned (key_mark (code_in f last u)) (key_mark (code_in f last v))) (omega (arith, alike-distinct f last few u (v ∷ []) h (k, tt)))

  -- with the entries of a use's mark counted, the next is the use's next index
  pub given_code_lem : (entries : List Entry) (u : Use) → TablePlain entries → KeyPlain u.key
      → given_code f last entries (key_mark (code_in f last u)) + 1 ≡ next_index entries u
  given_code_lem [] u plain h = refl
  given_code_lem (e ∷ entries) u plain h = omega (arith, mark_same u e.use_of h plain.0, given_code_lem entries u plain.1 h)

  -- a use is chosen where its code is
  pub chosen_code : (uses : List Use) (u : Use) → UsesPlain uses → KeyPlain u.key
      → chosen_key (codes f last uses) (code_in f last u) ≡ chosen_in uses u
  chosen_code uses u plain h = rw (code_words f (context_in last u.provider) u.key h, count-codes f last few u uses h plain)

-- ---- the slots by a table

-- the slots hold, by codes, the choices of a list of uses and the indexes of a table
pub record Indexing (f : Format) (archive : List ℕ) (last : State) (uses : List Use) (slots : List ℕ) (entries : List Entry) : Type 0 where
  pub indexes : Indexes archive (table_words f) slots (codes f last uses) (chosen_key (codes f last uses)) (index_code f last entries) (given_code f last entries)
  pub plain : TablePlain entries
  pub seen : List Use
  pub registered : Registered (chosen_in uses) entries seen

-- a key that was used no time is not chosen
unused_inline : (w n : ℕ) → n ≡ 0 → registers w n ≡ false
unfolding registers
unused_inline w n e = rw e (le-ltb (1 + w) (0 * w) (omega arith))

-- neither is one that takes no word
empty_inline : (n : ℕ) → registers 0 n ≡ false
unfolding registers
empty_inline n = le-ltb 1 (n * 0) (omega arith)

module _ (f : Format) (archive : List ℕ) (last : State) (uses : List Use) (few : last.count ≤ 8) (plain : UsesPlain uses)
    (slots : List ℕ) (entries : List Entry) (I : Indexing f archive last uses slots entries) where
  -- a use that is not chosen has no index
  inline_index : (u : Use) → chosen_in uses u ≡ false → index_in entries u.provider u.key ≡ 0
  inline_index u e = eqb-true (index_in entries u.provider u.key) 0 (rw e at (I.registered u))

  -- an empty text never has one
  pub empty_index : (provider : Option ℕ) → index_in entries provider (text_key []) ≡ 0
  empty_index provider =
      let u : Use = record { provider = provider; key = text_key [] } in
      inline_index u (empty_inline (count same_use u uses))

  -- what is found for a plain use's code is its index
  pub index-spelled : (u : Use) → KeyPlain u.key → index_of archive (table_words f) slots (code_in f last u) ≡ index_in entries u.provider u.key
  index-spelled u h =
      let n = count same_bytes (code_in f last u) (codes f last uses) in
      let counted = count-codes f last few u uses h plain in
      cases (eqb n 0)
      (λ e. let none = eqb-true n 0 e in
      index-missing I.indexes (code_in f last u) none
      ∙ sym (inline_index u (unused_inline (key_words u.key) (count same_use u uses) (sym counted ∙ none))))
      (λ e. let some = eqb-false n 0 e in
      index-found I.indexes (code_in f last u) (omega arith)
      ∙ (rw (chosen_code f last few uses u plain h, index_code_lem f last few entries u I.plain h)
      (cases (chosen_in uses u) (λ c. rw c) (λ c. rw c (sym (inline_index u c))))))
