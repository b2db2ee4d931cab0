-- Headers put together field by field, and records written as a header and right behind it a body; how long the records are.
-- Assumes nothing.
use Prim.Native.Nat.{ℕ, ◌+◌, ◌*◌, ◌/◌, ◌^◌}
use mathlib.Core.Path.{◌≡◌, ap, ◌∙◌}
use mathlib.Core.List.{List, [], ◌∷◌, ◌++◌}
use native.Mathlib.Nat.{add_assoc, mul_assoc, mul_comm, mul-add, mul-zero, add-zero}
use native.Mathlib.Omega.{arith}
use lib.ListN.{length}
use lib.Pow.{pow-add}
use Rattle.words.specs.Word.{Field, ◌of◌, pack, word_bytes}
use Rattle.format.specs.declared.Format.{Format}
use Rattle.records.specs.Item.{Thread, Item, layout_of_item}
use Rattle.encoding.specs.Encoded.{thread_inline, part_bytes, record_bytes, thread_record}
use Rattle.encoding.proofs.EncodedParts.{length_part}
use Rattle.encoding.proofs.EncodedRecords.{length_record}
use Rattle.encoding.proofs.EncodedLayouts.{layout_words, length_layout}
use Rattle.encoding.specs.Models.Part.{plain_record}

-- ---- fields and bodies

-- a word with these fields put in one above the other, the first at bit low
abbrev pub with_fields : ℕ → ℕ → List Field → ℕ
with_fields word low [] = word
with_fields word low (v of w ∷ fields) = with_fields (word + v * 2 ^ low) (low + w) fields

-- fields put in one above the other are packed above the word
pub fields_packed : (word low : ℕ) (fields : List Field) → with_fields word low fields ≡ word + 2 ^ low * pack fields
fields_packed word low [] = rw (mul-zero (2 ^ low), add-zero)
fields_packed word low (v of w ∷ fields) =
    rw (
      fields_packed (word + v * 2 ^ low) (low + w) fields,
      pow-add 2 low w,
      mul-add (2 ^ low) v (2 ^ w * pack fields),
      ← mul_assoc (2 ^ low) (2 ^ w) (pack fields),
      mul_comm v (2 ^ low),
      add_assoc word (2 ^ low * v),
    )

-- a header, and behind it a body of this size, are a record
pub record_joined : (f : Format) (type size word : ℕ) (fields : List Field) (body : List ℕ) → length body ≡ 8 * size
    → word ≡ with_fields type 4 ((1 + size) of 12 ∷ fields) → word_bytes f.order word ++ body ≡ record_bytes f type fields body
record_joined f type size word fields body l e =
    let words : 1 + length body / 8 ≡ 1 + size = omega (arith, l) in
    ap (λ (n : ℕ). word_bytes f.order n ++ body) (e ∙ fields_packed type 4 ((1 + size) of 12 ∷ fields) ∙ rw words)

-- ---- lengths

-- a thread record: a header and two words
pub length-thread : (f : Format) (index : ℕ) (t : Thread) → length (thread_record f index t) ≡ 24
length-thread f index t =
    length_record f 3 (index of 8 ∷ 0 of 40 ∷ []) (part_bytes f (thread_inline t)) ∙ ap (λ (n : ℕ). 8 + n) (length_part f (thread_inline t))

-- an item that uses nothing: as many words as its layout has
pub length-plain : (f : Format) (i : Item) → length (plain_record f i) ≡ 8 * layout_words (λ key. 0) (layout_of_item i)
length-plain f i = length_layout f (λ key. 0) (layout_of_item i)
