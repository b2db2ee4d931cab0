-- The bytes that document 01's repacking rule gives for a list of items.
use Rattle.std.specs.Prelude.{ℕ, ◌+◌, [], List, ◌∷◌, ◌++◌, Bool, true, false, cond, ◌&&◌, eqb}
use Rattle.std.proofs.Math.Option.{Option, none, some}
use Rattle.words.specs.Stream.{same_bytes}
use Rattle.registering.specs.Counting.{count}
use Rattle.registering.specs.Registers.{registers}
use Rattle.format.specs.declared.Format.{Format}
use Rattle.records.specs.Item.{thread, Item, item_provider, Key, text_key, thread_key, key_words, Use, uses_of}
use Rattle.encoding.specs.Encoded.{string_record, thread_record, item_record}

-- "strings byte for byte, threads by their two words"
abbrev pub same_key : Key → Key → Bool
same_key (text_key a) (text_key b) = same_bytes a b
same_key (text_key a) (thread_key t) = false
same_key (thread_key t) (text_key b) = false
same_key (thread_key (thread p t)) (thread_key (thread q u)) = eqb p q && eqb t u

abbrev pub same_provider : Option ℕ → Option ℕ → Bool
same_provider none none = true
same_provider none (some b) = false
same_provider (some a) none = false
same_provider (some a) (some b) = eqb a b

-- two uses are the same where they are of one key in one context; a context is its provider's, or the one with no provider
abbrev pub same_use : Use → Use → Bool
same_use a b = same_provider a.provider b.provider && same_key a.key b.key

-- the uses of all items, in order
abbrev pub uses_all : List Item → List Use
uses_all [] = []
uses_all (i ∷ items) = uses_of i ++ uses_all items

-- a registration: a use and the index it was given
pub record Entry : Type 0 where
  pub use_of : Use
  pub index : ℕ

-- the index of a key in a provider's context, 0 where it has none
abbrev pub index_in : List Entry → Option ℕ → Key → ℕ
index_in [] provider key = 0
index_in (e ∷ entries) provider key =
    let rest = index_in entries provider key in
    cond (same_use (record { provider = provider; key = key }) e.use_of) e.index rest

-- strings and threads are numbered apart
abbrev pub same_table : Key → Key → Bool
same_table (text_key a) (text_key b) = true
same_table (text_key a) (thread_key t) = false
same_table (thread_key t) (text_key b) = false
same_table (thread_key t) (thread_key u) = true

-- "Indexes count up from 1 in each context, for strings and threads apart."
abbrev pub next_index : List Entry → Use → ℕ
next_index [] u = 1
next_index (e ∷ entries) u =
    cond (same_provider u.provider e.use_of.provider && same_table u.key e.use_of.key) 1 0 + next_index entries u

-- the record that registers a key
abbrev pub key_record : Format → ℕ → Key → List ℕ
key_record f index (text_key bytes) = string_record f index bytes
key_record f index (thread_key t) = thread_record f index t

-- whether a use is the first of a key that is to be registered
abbrev pub is_new : (Use → Bool) → List Entry → Use → Bool
is_new chosen entries u = chosen u && eqb (index_in entries u.provider u.key) 0

abbrev pub with_use : (Use → Bool) → List Entry → Use → List Entry
with_use chosen entries u = cond (is_new chosen entries u) (record { use_of = u; index = next_index entries u } ∷ entries) entries

abbrev pub use_bytes : Format → (Use → Bool) → List Entry → Use → List ℕ
use_bytes f chosen entries u = cond (is_new chosen entries u) (key_record f (next_index entries u) u.key) []

-- the registrations after some uses, and the bytes of their records in order
abbrev pub entries_after : (Use → Bool) → List Entry → List Use → List Entry
entries_after chosen entries [] = entries
entries_after chosen entries (u ∷ us) = entries_after chosen (with_use chosen entries u) us

abbrev pub registrations : Format → (Use → Bool) → List Entry → List Use → List ℕ
registrations f chosen entries [] = []
registrations f chosen entries (u ∷ us) = use_bytes f chosen entries u ++ registrations f chosen (with_use chosen entries u) us

-- "A registration stands right before the first record using it: thread, then strings by first use in that record."
abbrev pub records_from : Format → (Use → Bool) → List Entry → List Item → List ℕ
records_from f chosen entries [] = []
records_from f chosen entries (i ∷ items) =
    registrations f chosen entries (uses_of i)
    ++ (item_record f (index_in (entries_after chosen entries (uses_of i)) (item_provider i)) i ++ records_from f chosen (entries_after chosen entries (uses_of i)) items)

-- which uses of a list are of registered keys; "Otherwise each use is inline."
abbrev pub chosen_in : List Use → Use → Bool
chosen_in uses u = registers (key_words u.key) (count same_use u uses)

-- the bytes that the repacking rule gives
unfoldable pub rule : Format → List Item → List ℕ
rule f items = records_from f (chosen_in (uses_all items)) [] items
