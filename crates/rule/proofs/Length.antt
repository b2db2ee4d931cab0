-- How long the bytes of the repacking rule are: the fixed words of the items, and the least that their uses cost.
-- Assumes nothing.
use Prim.Native.Nat.{ℕ, ◌+◌, ◌*◌, ◌≤◌, ◌<◌}
use mathlib.Core.Path.{◌≡◌, refl}
use mathlib.Core.Bool.{Bool, not, cond, ◌&&◌}
use mathlib.Core.Option.{Option}
use mathlib.Core.List.{[], List, ◌∷◌, ◌++◌}
use native.Mathlib.Omega.{arith}
use lib.Dec.{eqb}
use lib.ListN.{length, length-append}
use borrow.Author.Tests.{ne_eqb}
use Rattle.format.specs.declared.Format.{Format}
use Rattle.registering.proofs.Best.{best, cost_in_order, use_cost, cost_append, lower, attained}
use Rattle.registering.proofs.Counting.{fresh, seen_after, sum_scale, sum-append, member_after, seen_again, sum_members}
use Rattle.registering.specs.Registers.{registers}
use Rattle.registering.specs.Counting.{sum_by, member}
use Rattle.words.proofs.Tests.{cases}
use Rattle.words.specs.Word.{◌of◌}
use Rattle.words.specs.Stream.{padded}
use Rattle.words.proofs.Streams.{length-padded}
use Rattle.records.specs.Item.{Shown, known, unresolved, Thread, Text, Value, scalar, text, Argument, Referent, text_referent, thread_referent, Item, Piece, words, stream, refers}
use Rattle.records.specs.Item.{ItemLayout, layout_of_item, item_provider, Key, text_key, thread_key, key_words, Use, text_uses, thread_uses, referent_uses, value_uses, arguments_uses, piece_uses, pieces_uses, layout_uses, uses_of}
use Rattle.records.specs.Models.Fixed.{value_words, arguments_words as fixed_arguments, piece_words, pieces_words, layout_fixed, fixed_words}
use Rattle.encoding.specs.Encoded.{thread_inline, part_bytes, encoded_text, encoded_thread, encoded_referent, encoded_piece, encoded_pieces, item_record}
use Rattle.encoding.proofs.EncodedParts.{part_words, parts_words, length_part}
use Rattle.encoding.proofs.EncodedRecords.{length_record}
use Rattle.encoding.proofs.EncodedArguments.{arguments_words, encoded_value, scalar_parts_lem}
use Rattle.encoding.proofs.EncodedLayouts.{layout_words, length_layout}
use Rattle.rule.specs.Rule.{same_use, uses_all, Entry, index_in, next_index, key_record, is_new, with_use, use_bytes, entries_after, registrations, records_from, chosen_in, rule}
use Rattle.rule.proofs.Uses.{same_use_eq, same_use_refl}

-- ---- what a use costs

-- the words of a use inline: those of its key
abbrev pub inline_words : Use → ℕ
inline_words u = key_words u.key

-- the words of a registration: a header more
abbrev pub register_words : Use → ℕ
register_words u = 1 + key_words u.key

-- the least words that a list of uses costs
abbrev pub best_words : List Use → ℕ
best_words uses = best same_use inline_words register_words uses

-- what a use takes inline in a record, by its index: nothing where it has one
abbrev pub spelled_words : (Option ℕ → Key → ℕ) → Use → ℕ
spelled_words index u = cond (eqb (index u.provider u.key) 0) (key_words u.key) 0

-- ---- one record

-- the record that registers a key has a word more than the key takes inline
pub length-key_record : (f : Format) (index : ℕ) (k : Key) → length (key_record f index k) ≡ 8 * (1 + key_words k)
length-key_record f index (text_key b) =
    omega (arith, length_record f 2 (index of 15 ∷ 0 of 1 ∷ length b of 15 ∷ 0 of 17 ∷ []) (padded b), length-padded b)
length-key_record f index (thread_key t) =
    omega (arith, length_record f 3 (index of 8 ∷ 0 of 40 ∷ []) (part_bytes f (thread_inline t)), length_part f (thread_inline t))

module _ (index : Option ℕ → Key → ℕ) where
  text-words : (provider : Option ℕ) (t : Text)
      → part_words (encoded_text (index provider) t) ≡ sum_by (spelled_words index) (text_uses provider t)
  text-words provider (known []) = cases (eqb (index provider (text_key [])) 0) (λ e. rw e) (λ e. rw e)
  text-words provider (known (b ∷ bs)) =
      cases (eqb (index provider (text_key (b ∷ bs))) 0) (λ e. rw e (omega arith)) (λ e. rw e)
  text-words provider (unresolved i) = refl

  thread-words : (provider : Option ℕ) (t : Shown Thread)
      → part_words (encoded_thread (index provider) t) ≡ sum_by (spelled_words index) (thread_uses provider t)
  thread-words provider (known t) = cases (eqb (index provider (thread_key t)) 0) (λ e. rw e) (λ e. rw e)
  thread-words provider (unresolved i) = refl

  value-words : (provider : Option ℕ) (v : Value)
      → parts_words (encoded_value (index provider) v) ≡ value_words v + sum_by (spelled_words index) (value_uses provider v)
  value-words provider (scalar s) = omega (arith, scalar_parts_lem s)
  value-words provider (text t) = omega (arith, text-words provider t)

  arguments-words : (provider : Option ℕ) (l : List Argument)
      → arguments_words (index provider) l ≡ fixed_arguments l + sum_by (spelled_words index) (arguments_uses provider l)
  arguments-words provider [] = refl
  arguments-words provider (a ∷ l) =
      let f = spelled_words index in
      let name = text_uses provider a.name in
      let value = value_uses provider a.value in
      let others = arguments_uses provider l in
      omega (
        arith,
        text-words provider a.name,
        value-words provider a.value,
        arguments-words provider l,
        sum-append f name (value ++ others),
        sum-append f value others,
      )

  referent_words : (provider : Option ℕ) (s : Referent)
      → part_words (encoded_referent (index provider) s) ≡ sum_by (spelled_words index) (referent_uses provider s)
  referent_words provider (text_referent t) = text-words provider t
  referent_words provider (thread_referent t) = thread-words provider t

  piece_words_lem : (provider : Option ℕ) (p : Piece)
      → part_words (encoded_piece (index provider) p) ≡ piece_words p + sum_by (spelled_words index) (piece_uses provider p)
  piece_words_lem provider (words ns) = omega arith
  piece_words_lem provider (stream b) = omega arith
  piece_words_lem provider (refers x) = omega (arith, referent_words provider x)

  pieces-words : (provider : Option ℕ) (ps : List Piece) (more : List Use)
      → parts_words (encoded_pieces (index provider) ps) + sum_by (spelled_words index) more
      ≡ pieces_words ps + sum_by (spelled_words index) (pieces_uses provider ps more)
  pieces-words provider [] more = refl
  pieces-words provider (p ∷ ps) more =
      omega (
        arith,
        piece_words_lem provider p,
        pieces-words provider ps more,
        sum-append (spelled_words index) (piece_uses provider p) (pieces_uses provider ps more),
      )

  -- a record has its fixed words and those of the uses that have no index
  pub layout_words_lem : (l : ItemLayout) → layout_words (index l.provider) l ≡ layout_fixed l + sum_by (spelled_words index) (layout_uses l)
  layout_words_lem l =
      omega (
        arith,
        pieces-words l.provider l.pieces (arguments_uses l.provider l.arguments),
        arguments-words l.provider l.arguments,
      )

  -- and so an item's
  pub length_item : (f : Format) (i : Item) → length (item_record f (index (item_provider i)) i) ≡ 8 * (fixed_words i + sum_by (spelled_words index) (uses_of i))
  length_item f i = omega (arith, length_layout f (index (item_provider i)) (layout_of_item i), layout_words_lem (layout_of_item i))

-- ---- the table of registrations

-- the index of a use
abbrev pub index_of : List Entry → Use → ℕ
index_of entries u = index_in entries u.provider u.key

-- no index is 0
pub next_index_pos : (entries : List Entry) (u : Use) → 0 < next_index entries u
next_index_pos [] u = omega arith
next_index_pos (e ∷ entries) u = omega (arith, next_index_pos entries u)

module _ (chosen : Use → Bool) where
  -- a table after the uses seen: exactly the chosen ones among them have an index
  abbrev pub Registered : List Entry → List Use → Type 0
  Registered entries seen = (u : Use) → eqb (index_of entries u) 0 ≡ not (chosen u && member same_use u seen)

  -- at first none has
  pub none_registered : Registered [] []
  none_registered u = cases (chosen u) (λ e. rw e) (λ e. rw e)

  -- whether a use is registered now
  pub is_new_lem : (entries : List Entry) (seen : List Use) (u : Use) → Registered entries seen
      → is_new chosen entries u ≡ (chosen u && not (member same_use u seen))
  is_new_lem entries seen u r = rw (r u) (cases (chosen u) (λ e. rw e) (λ e. rw e))

  -- a use, registered or not, is one more that is seen
  pub use_registered : (entries : List Entry) (seen : List Use) (u : Use) → Registered entries seen
      → Registered (with_use chosen entries u) (u ∷ seen)
  use_registered entries seen u r v =
      rw (is_new_lem entries seen u r)
      (cases (chosen u)
      (λ c. rw c
      (cases (member same_use u seen)
      (λ m. rw (m, seen_again same_use same_use_eq same_use_refl u seen m v) (r v))
      (λ m. rw m
      (cases (same_use v u)
      (λ e. rw (e, same_use_eq v u e, c, ne_eqb (next_index entries u) 0 (omega (arith, next_index_pos entries u))))
      (λ e. rw e (r v))))))
      (λ c. rw c
      (cases (same_use v u)
      (λ e. let q = same_use_eq v u e in rw (r v, e, q, c))
      (λ e. rw e (r v)))))

  -- and so after some uses
  pub uses_registered : (entries : List Entry) (seen us : List Use) → Registered entries seen
      → Registered (entries_after chosen entries us) (seen_after seen us)
  uses_registered entries seen [] r = r
  uses_registered entries seen (u ∷ us) r = uses_registered (with_use chosen entries u) (u ∷ seen) us (use_registered entries seen u r)

  -- the words that uses take in a record behind their registrations
  abbrev pub left_inline : Use → ℕ
  left_inline u = cond (chosen u) 0 (inline_words u)

  -- one use costs its registration, where it is new, and what it takes inline
  use_length : (f : Format) (entries : List Entry) (seen : List Use) (u : Use) → Registered entries seen
      → length (use_bytes f chosen entries u) + 8 * left_inline u ≡ 8 * use_cost same_use inline_words register_words chosen seen u
  use_length f entries seen u r =
      rw (is_new_lem entries seen u r)
      (cases (chosen u)
      (λ c. rw c
      (cases (member same_use u seen)
      (λ m. rw m)
      (λ m. rw m (omega (arith, length-key_record f (next_index entries u) u.key)))))
      (λ c. rw c (omega arith)))

  -- registrations and what is inline behind them cost the uses in order
  pub length-registrations : (f : Format) (entries : List Entry) (seen us : List Use) → Registered entries seen
      → length (registrations f chosen entries us) + 8 * sum_by left_inline us
      ≡ 8 * cost_in_order same_use inline_words register_words chosen seen us
  length-registrations f entries seen [] r = refl
  length-registrations f entries seen (u ∷ us) r =
      omega (
        arith,
        length-append (use_bytes f chosen entries u) (registrations f chosen (with_use chosen entries u) us),
        use_length f entries seen u r,
        length-registrations f (with_use chosen entries u) (u ∷ seen) us (use_registered entries seen u r),
      )

  -- behind their registrations exactly the uses of other keys are inline
  pub inline_after : (entries : List Entry) (seen us : List Use) → Registered entries seen
      → sum_by (spelled_words (index_in (entries_after chosen entries us))) us ≡ sum_by left_inline us
  inline_after entries seen us r =
      sum_members same_use same_use_eq same_use_refl (spelled_words (index_in (entries_after chosen entries us))) left_inline us
      (λ u m. rw (uses_registered entries seen us r u, member_after same_use u seen us, m)
      (cases (chosen u) (λ c. rw c) (λ c. rw c)))

  -- ---- all items

  -- items and the registrations before them take the items' fixed words, and the cost of their uses in order
  pub length_records : (f : Format) (entries : List Entry) (seen : List Use) (items : List Item) → Registered entries seen
      → length (records_from f chosen entries items)
      ≡ 8 * (sum_by fixed_words items + cost_in_order same_use inline_words register_words chosen seen (uses_all items))
  length_records f entries seen [] r = refl
  length_records f entries seen (i ∷ items) r =
      let us = uses_of i in
      let after = entries_after chosen entries us in
      let first = registrations f chosen entries us in
      let own = item_record f (index_in after (item_provider i)) i in
      let others = records_from f chosen after items in
      omega (
        arith,
        length-append first (own ++ others),
        length-append own others,
        length-registrations f entries seen us r,
        inline_after entries seen us r,
        length_item (index_in after) f i,
        length_records f after (seen_after seen us) items (uses_registered entries seen us r),
        cost_append same_use inline_words register_words chosen seen us (uses_all items),
      )

-- the bytes that the rule gives for any items are their fixed words and the least cost of their uses
pub rule-length : (f : Format) (items : List Item) → length (rule f items) ≡ 8 * (sum_by fixed_words items + best_words (uses_all items))
unfolding rule registers
rule-length f items =
    let uses = uses_all items in
    let chosen = chosen_in uses in
    omega (
      arith,
      length_records chosen f [] [] items (none_registered chosen),
      attained same_use same_use_eq same_use_refl inline_words register_words uses,
    )

-- and whatever an archive registers, with those registrations and all other uses inline it is no shorter
pub rule-least : (f : Format) (items : List Item) (registered : List Use)
    → length (rule f items)
    ≤ 8 * (sum_by fixed_words items + (sum_by register_words registered + sum_by (fresh same_use inline_words registered) (uses_all items)))
rule-least f items registered =
    omega (
      arith,
      rule-length f items,
      lower same_use same_use_eq same_use_refl inline_words register_words registered (uses_all items),
    )

-- the same in bytes, as any archive's length is counted
pub rule-least_bytes : (f : Format) (items : List Item) (registered : List Use)
    → length (rule f items)
    ≤ 8 * sum_by fixed_words items + sum_by (λ (u : Use). 8 * (1 + key_words u.key)) registered
    + sum_by (λ (u : Use). cond (member same_use u registered) 0 (8 * key_words u.key)) (uses_all items)
rule-least_bytes f items registered =
    omega (
      arith,
      rule-least f items registered,
      sum_scale 8 register_words (λ (u : Use). 8 * (1 + key_words u.key)) registered (λ u. refl),
      sum_scale 8 (fresh same_use inline_words registered)
          (λ (u : Use). cond (member same_use u registered) 0 (8 * key_words u.key)) (uses_all items)
          (λ u. cases (member same_use u registered) (λ e. rw e) (λ e. rw e)),
    )
