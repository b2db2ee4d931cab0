-- Names for parts of what is encoded: the record of an item that uses no key, texts and threads by an index or inline,
-- and the starts of reports and arguments.
use Rattle.std.specs.Prelude.{ℕ, ◌+◌, ◌/◌, ◌^◌, ◌<◌, List, [], ◌∷◌, ◌++◌, length, eqb}
use Rattle.words.specs.Word.{pick, word_at, word_bytes, Field, ◌of◌, pack}
use Rattle.format.specs.declared.Format.{Format}
use Rattle.words.specs.Stream.{padded}
use Rattle.arguments.specs.declared.Scalar.{Scalar}
use Rattle.records.specs.declared.Own.{Own}
use Rattle.records.specs.Item.{Thread, thread, Referent, text_referent, thread_referent, Item, own_layout}
use Rattle.encoding.specs.Encoded.{Encoded, text_index, thread_index, text_inline, thread_inline, reference_of, part_bytes, scalar_half, scalar_parts, encoded_argument, item_record}
use Rattle.arguments.specs.Argument.{scalar_type}

-- the record of an item that uses no text and no thread, so that no key's index matters
abbrev pub plain_record : Format → Item → List ℕ
plain_record f item = item_record f (λ key. 0) item

-- a text, by its index, or inline where that is 0
abbrev pub text_part : ℕ → List ℕ → Encoded
text_part index b = pick (eqb index 0) (text_inline b) (text_index index)

-- the bytes of such a text, and the reference of what a record refers to, by the table that it is looked up in: no byte order concerns them
abbrev pub text_bytes : ℕ → List ℕ → List ℕ
text_bytes index b = pick (eqb index 0) (padded b) []

abbrev pub referent_reference : (table index : ℕ) → List ℕ → ℕ
referent_reference table index b = pick (eqb table 3) index (reference_of (text_part index b))

-- a thread, by its index, or inline where that is 0
abbrev pub thread_part : ℕ → Thread → Encoded
thread_part index t = pick (eqb index 0) (thread_inline t) (thread_index index)

-- what a record refers to, by the table that it is looked up in: a thread from the two words of its bytes, or a text
abbrev pub referent_part : Format → (table index : ℕ) → List ℕ → Encoded
referent_part f table index b = pick (eqb table 3) (thread_part index (thread (word_at f.order b 0) (word_at f.order b 8))) (text_part index b)

-- the table that what a record refers to is looked up in
abbrev pub referent_table : Referent → ℕ
referent_table (text_referent t) = 2
referent_table (thread_referent t) = 3

-- each value fits the width of its field
abbrev pub FieldsFit : List Field → Type 0
FieldsFit [] = Unit {0}
FieldsFit (v of w ∷ fields) = (v < 2 ^ w) × FieldsFit fields

-- the header of a record that refers to texts and threads, from the size of its record in words
abbrev pub header_word : (type size : ℕ) → List Field → ℕ
header_word type size fields = pack (type of 4 ∷ size of 12 ∷ fields)

abbrev pub report_header : Format → Own → (size count first second third long : ℕ) → List ℕ
report_header f own size count first second third long =
    word_bytes f.order (header_word (own_layout own).type size ((own_layout own).header count first second third long))

-- an argument's header and name, where so many words follow them
abbrev pub argument_start : Format → (type more half : ℕ) → Encoded → List ℕ
argument_start f type more half name =
    word_bytes f.order (pack (type of 4 ∷ (1 + length (part_bytes f name) / 8 + more) of 12 ∷ reference_of name of 16 ∷ half of 32 ∷ []))
    ++ part_bytes f name

-- an argument whose value is a text
abbrev pub text_argument : Format → (name text : Encoded) → List ℕ
text_argument f name text = encoded_argument f 6 (reference_of text) name (text ∷ [])

-- an argument whose value is no text
abbrev pub scalar_argument : Format → (name : Encoded) → Scalar → List ℕ
scalar_argument f name s = encoded_argument f (scalar_type s) (scalar_half s) name (scalar_parts s)
