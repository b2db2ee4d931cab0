-- The bytes of records as the repacker writes them: "Empty strings are 0, and so are reserved bits" (document 01). Which key has which index is given;
-- a key of index 0 is written inline.
use Rattle.std.specs.Prelude.{ℕ, ◌+◌, ◌/◌, List, [], ◌∷◌, ◌++◌, length, eqb}
use Rattle.words.specs.Word.{pick, word_bytes, Field, ◌of◌, pack, unsigned, bit}
use Rattle.words.specs.Stream.{padded}
use Rattle.format.specs.declared.Format.{Format}
use Rattle.arguments.specs.declared.Scalar.{Scalar}
use Rattle.arguments.specs.declared.Scalar.TheVariants.{Null, Signed32, Unsigned32, Signed64, Unsigned64, Double, Pointer, KernelObject, Boolean, Unknown}
use Rattle.arguments.specs.Argument.{scalar_type}
use Rattle.records.specs.Item.{known, unresolved, Shown, Thread, thread, Text, Value, scalar, text, Argument, Referent, text_referent, thread_referent, Item, Piece, words as words_piece, stream as stream_piece, refers, ItemLayout, layout_of_item, Key, text_key, thread_key}

-- a part of a body as it is encoded: what stands there once the indexes are given
pub data Encoded : Type 0 where
  word : ℕ → Encoded
  words stream : List ℕ → Encoded
  text_index thread_index : ℕ → Encoded
  text_inline : List ℕ → Encoded
  thread_inline : Thread → Encoded

-- what stands in the header for a part: a reference, the length of a stream
abbrev pub reference_of : Encoded → ℕ
reference_of (word n) = 0
reference_of (words ns) = 0
reference_of (stream b) = length b
reference_of (text_index index) = index
reference_of (thread_index index) = index
reference_of (text_inline []) = 0
reference_of (text_inline (b ∷ bs)) = 0x8000 + length (b ∷ bs)
reference_of (thread_inline t) = 0

abbrev pub words_bytes : Format → List ℕ → List ℕ
words_bytes f [] = []
words_bytes f (n ∷ ns) = word_bytes f.order n ++ words_bytes f ns

-- the bytes that stand in the body
abbrev pub part_bytes : Format → Encoded → List ℕ
part_bytes f (word n) = word_bytes f.order n
part_bytes f (words ns) = words_bytes f ns
part_bytes f (stream b) = padded b
part_bytes f (text_index index) = []
part_bytes f (thread_index index) = []
part_bytes f (text_inline b) = padded b
part_bytes f (thread_inline (thread p t)) = word_bytes f.order p ++ word_bytes f.order t

abbrev pub parts_bytes : Format → List Encoded → List ℕ
parts_bytes f [] = []
parts_bytes f (w ∷ ws) = part_bytes f w ++ parts_bytes f ws

-- a record, or an argument: the header with its size, then the body
abbrev pub record_bytes : Format → ℕ → List Field → List ℕ → List ℕ
record_bytes f type fields body = word_bytes f.order (pack (type of 4 ∷ (1 + length body / 8) of 12 ∷ fields)) ++ body

-- a text or a thread, by its index or inline
abbrev pub encoded_text : (Key → ℕ) → Text → Encoded
encoded_text index (known b) = pick (eqb (index (text_key b)) 0) (text_inline b) (text_index (index (text_key b)))
encoded_text index (unresolved i) = text_index i

abbrev pub encoded_thread : (Key → ℕ) → Shown Thread → Encoded
encoded_thread index (known t) = pick (eqb (index (thread_key t)) 0) (thread_inline t) (thread_index (index (thread_key t)))
encoded_thread index (unresolved i) = thread_index i

abbrev pub encoded_referent : (Key → ℕ) → Referent → Encoded
encoded_referent index (text_referent t) = encoded_text index t
encoded_referent index (thread_referent t) = encoded_thread index t

-- the high half of a value's header, and what stands behind the name
abbrev pub scalar_half : Scalar → ℕ
scalar_half Null = 0
scalar_half (Signed32 n) = unsigned 32 n
scalar_half (Unsigned32 n) = n
scalar_half (Signed64 n) = 0
scalar_half (Unsigned64 n) = 0
scalar_half (Double n) = 0
scalar_half (Pointer n) = 0
scalar_half (KernelObject n) = 0
scalar_half (Boolean b) = bit b
scalar_half (Unknown type) = 0

abbrev pub scalar_parts : Scalar → List Encoded
scalar_parts Null = []
scalar_parts (Signed32 n) = []
scalar_parts (Unsigned32 n) = []
scalar_parts (Signed64 n) = word (unsigned 64 n) ∷ []
scalar_parts (Unsigned64 n) = word n ∷ []
scalar_parts (Double n) = word n ∷ []
scalar_parts (Pointer n) = word n ∷ []
scalar_parts (KernelObject n) = word n ∷ []
scalar_parts (Boolean b) = []
scalar_parts (Unknown type) = []

abbrev pub encoded_argument : Format → ℕ → ℕ → Encoded → List Encoded → List ℕ
encoded_argument f type half name parts = record_bytes f type (reference_of name of 16 ∷ half of 32 ∷ []) (parts_bytes f (name ∷ parts))

abbrev pub value_record : Format → (Key → ℕ) → Encoded → Value → List ℕ
value_record f index name (scalar s) = encoded_argument f (scalar_type s) (scalar_half s) name (scalar_parts s)
value_record f index name (text t) = encoded_argument f 6 (reference_of (encoded_text index t)) name (encoded_text index t ∷ [])

abbrev pub argument_record : Format → (Key → ℕ) → Argument → List ℕ
argument_record f index a = value_record f index (encoded_text index a.name) a.value

abbrev pub arguments_records : Format → (Key → ℕ) → List Argument → List ℕ
arguments_records f index [] = []
arguments_records f index (a ∷ l) = argument_record f index a ++ arguments_records f index l

-- a piece, by the indexes of what it refers to
abbrev pub encoded_piece : (Key → ℕ) → Piece → Encoded
encoded_piece index (words_piece ns) = words ns
encoded_piece index (stream_piece b) = stream b
encoded_piece index (refers x) = encoded_referent index x

abbrev pub encoded_pieces : (Key → ℕ) → List Piece → List Encoded
encoded_pieces index [] = []
encoded_pieces index (p ∷ ps) = encoded_piece index p ∷ encoded_pieces index ps

-- a record by its layout: the header behind type and size, the body, and both
abbrev pub layout_header : (Key → ℕ) → ItemLayout → List Field
layout_header index l = l.fields (λ p. reference_of (encoded_piece index p))

abbrev pub layout_body : Format → (Key → ℕ) → ItemLayout → List ℕ
layout_body f index l = parts_bytes f (encoded_pieces index l.pieces) ++ (arguments_records f index l.arguments ++ words_bytes f l.last)

abbrev pub layout_record : Format → (Key → ℕ) → ItemLayout → List ℕ
layout_record f index l = record_bytes f l.type (layout_header index l) (layout_body f index l)

-- an item's record
abbrev pub item_record : Format → (Key → ℕ) → Item → List ℕ
item_record f index i = layout_record f index (layout_of_item i)

-- the registrations of a text and of a thread
abbrev pub string_record : Format → ℕ → List ℕ → List ℕ
string_record f index b = record_bytes f 2 (index of 15 ∷ 0 of 1 ∷ length b of 15 ∷ 0 of 17 ∷ []) (padded b)

abbrev pub thread_record : Format → ℕ → Thread → List ℕ
thread_record f index t = record_bytes f 3 (index of 8 ∷ 0 of 40 ∷ []) (part_bytes f (thread_inline t))
