-- The parts of events and arguments as they are written one behind the other: references, lengths, and that header, name and value are one writing.
-- Assumes nothing.
use Prim.Native.Nat.{ℕ, ◌+◌, ◌*◌, ◌/◌, ◌^◌, ◌<◌}
use mathlib.Core.Path.{◌≡◌, refl, sym, ap, ◌∙◌}
use mathlib.Core.List.{List, [], ◌∷◌, ◌++◌, append_assoc, append-nil}
use mathlib.Core.Bool.{Bool, true, false}
use native.Mathlib.Omega.{arith}
use lib.ListN.{length, length-append}
use lib.Dec.{eqb}
use borrow.Author.Tests.{eq-eqb, ne_eqb, eqb-true}
use Rattle.words.specs.Word.{pick, word_at, ◌of◌, pack, word_bytes}
use Rattle.words.specs.Stream.{overwritten}
use Rattle.words.proofs.Words.{length-word_bytes}
use Rattle.words.proofs.Tests.{cases}
use Rattle.words.proofs.Streams.{none-overwritten}
use Rattle.format.specs.declared.Format.{Format}
use Rattle.records.specs.Item.{Thread, thread}
use Rattle.encoding.specs.Encoded.{Encoded, text_index, text_inline, thread_inline, reference_of, part_bytes, parts_bytes, encoded_argument}
use Rattle.encoding.proofs.EncodedParts.{length_part}
use Rattle.encoding.proofs.EncodedRecords.{length_record}
use Rattle.encoding.specs.Models.Part.{text_part, text_bytes, referent_reference, thread_part, referent_part, argument_start}

-- the bytes of a text, in any order
pub text_bytes_lem : (f : Format) (index : ℕ) (b : List ℕ) → part_bytes f (text_part index b) ≡ text_bytes index b
text_bytes_lem f index b = cases (eqb index 0) (λ e. rw e) (λ e. rw e)

-- an empty text has the reference 0
pub empty_reference : (b : List ℕ) → length b ≡ 0 → reference_of (text_inline b) ≡ 0
empty_reference [] h = refl
empty_reference (b ∷ bs) h = absurd (omega arith)

-- any other inline text has its length in its reference
pub inline_reference : (b : List ℕ) → 0 < length b → reference_of (text_inline b) ≡ 0x8000 + length b
inline_reference [] h = absurd (omega arith)
inline_reference (b ∷ bs) h = refl

inline_lt : (b : List ℕ) → length b < 2 ^ 15 → reference_of (text_inline b) < 2 ^ 16
inline_lt [] h = omega arith
inline_lt (b ∷ bs) h = omega arith

either_lt : (q : Bool) (index : ℕ) (b : List ℕ) → index < 2 ^ 15 → length b < 2 ^ 15
    → reference_of (pick q (text_inline b) (text_index index)) < 2 ^ 16
either_lt true index b hi hb = inline_lt b hb
either_lt false index b hi hb = omega arith

-- a text's reference fits its field
pub reference_lt : (index : ℕ) (b : List ℕ) → index < 2 ^ 15 → length b < 2 ^ 15 → reference_of (text_part index b) < 2 ^ 16
reference_lt index b hi hb = either_lt (eqb index 0) index b hi hb

-- where nothing is written nothing changes
pub nothing_written : (out : List ℕ) (place : ℕ) → out ≡ overwritten out place []
nothing_written out place = none-overwritten out place []

-- an argument's start is as long as its header and its name
pub length_start : (f : Format) (type more half : ℕ) (name : Encoded) → length (argument_start f type more half name) ≡ 8 + length (part_bytes f name)
length_start f type more half name =
    let header = pack (type of 4 ∷ (1 + length (part_bytes f name) / 8 + more) of 12 ∷ reference_of name of 16 ∷ half of 32 ∷ []) in
    rw (length-append (word_bytes f.order header) (part_bytes f name), length-word_bytes f.order)

-- an argument is as long as its header, its name and its other parts
pub length_argument : (f : Format) (type half : ℕ) (name : Encoded) (parts : List Encoded)
    → length (encoded_argument f type half name parts) ≡ 8 + (length (part_bytes f name) + length (parts_bytes f parts))
length_argument f type half name parts =
    length_record f type (reference_of name of 16 ∷ half of 32 ∷ []) (parts_bytes f (name ∷ parts))
    ∙ ap (λ (n : ℕ). 8 + n) (length-append (part_bytes f name) (parts_bytes f parts))

-- an argument is its start and its other parts
pub argument_parts_lem : (f : Format) (type more half : ℕ) (name : Encoded) (parts : List Encoded) → length (parts_bytes f parts) ≡ more * 8
    → argument_start f type more half name ++ parts_bytes f parts ≡ encoded_argument f type half name parts
argument_parts_lem f type more half name parts h =
    let same : 1 + length (part_bytes f name) / 8 + more ≡ 1 + length (parts_bytes f (name ∷ parts)) / 8 =
    omega (arith, h, length-append (part_bytes f name) (parts_bytes f parts), length_part f name) in
    append_assoc (word_bytes f.order (pack (type of 4 ∷ (1 + length (part_bytes f name) / 8 + more) of 12 ∷ reference_of name of 16 ∷ half of 32 ∷ [])))
    (part_bytes f name) (parts_bytes f parts)
    ∙ ap
    (λ (n : ℕ). word_bytes f.order (pack (type of 4 ∷ n of 12 ∷ reference_of name of 16 ∷ half of 32 ∷ [])) ++ parts_bytes f (name ∷ parts)) same

-- a header and the name are an argument's start
pub start_joined : (f : Format) (type more half size word : ℕ) (name : Encoded) → size * 8 ≡ length (part_bytes f name)
    → word ≡ type + (1 + size + more) * 2 ^ 4 + reference_of name * 2 ^ 16 + half * 2 ^ 32
    → word_bytes f.order word ++ part_bytes f name ≡ argument_start f type more half name
start_joined f type more half size word name l e =
    let same : word ≡ pack (type of 4 ∷ (1 + length (part_bytes f name) / 8 + more) of 12 ∷ reference_of name of 16 ∷ half of 32 ∷ []) =
    omega (arith, l, e) in
    ap (λ (n : ℕ). word_bytes f.order n ++ part_bytes f name) same

-- an argument is its start and its one other part
pub argument_joined : (f : Format) (type more half : ℕ) (name part : Encoded) → length (part_bytes f part) ≡ more * 8
    → argument_start f type more half name ++ part_bytes f part ≡ encoded_argument f type half name (part ∷ [])
argument_joined f type more half name part l =
    let one : parts_bytes f (part ∷ []) ≡ part_bytes f part = append-nil (part_bytes f part) in
    ap (λ (b : List ℕ). argument_start f type more half name ++ b) (sym one)
    ∙ argument_parts_lem f type more half name (part ∷ []) (ap length one ∙ l)

-- an argument with one part behind its name is as long as its header and both
pub length_argument_one : (f : Format) (type half : ℕ) (name part : Encoded)
    → length (encoded_argument f type half name (part ∷ [])) ≡ 8 + (length (part_bytes f name) + length (part_bytes f part))
length_argument_one f type half name part =
    length_argument f type half name (part ∷ []) ∙ ap (λ (b : List ℕ). 8 + (length (part_bytes f name) + length b)) (append-nil (part_bytes f part))

-- a thread of index 0 stands inline
pub inline_thread : (f : Format) (index : ℕ) (t : Thread) → index ≡ 0 → part_bytes f (thread_part index t) ≡ part_bytes f (thread_inline t)
inline_thread f index t h = simp (eq-eqb _ _ h)

-- what is looked up in the table of threads is written as a thread of two words
pub referent_thread : (f : Format) (table index : ℕ) (b : List ℕ) → table ≡ 3 → referent_part f table index b ≡ thread_part index (thread (word_at f.order b 0) (word_at f.order b 8))
referent_thread f table index b h = rw (eq-eqb table 3 h)

-- what is not, as a text
pub referent_text : (f : Format) (table index : ℕ) (b : List ℕ) → (table ≡ 3 → ⊥) → referent_part f table index b ≡ text_part index b
referent_text f table index b h = rw (ne_eqb table 3 h)

-- the reference of a thread is its index
pub thread-reference : (index : ℕ) (t : Thread) → reference_of (thread_part index t) ≡ index
thread-reference index t = cases (eqb index 0) (λ e. rw e (sym (eqb-true index 0 e))) (λ e. rw e)

-- the reference of what a record refers to, in any order
pub referent_reference_lem : (f : Format) (table index : ℕ) (b : List ℕ) → reference_of (referent_part f table index b) ≡ referent_reference table index b
referent_reference_lem f table index b =
    cases (eqb table 3)
    (λ e. rw e (thread-reference index (thread (word_at f.order b 0) (word_at f.order b 8))))
    (λ e. rw e)
