-- Arguments as they are written read back: each kind of value, one argument, and all of them in one induction.
-- Assumes nothing.
use Prim.Native.Nat.{ℕ, ◌+◌, ◌-◌, ◌*◌, ◌^◌, ◌<◌, ◌≤◌, max}
use mathlib.Core.Path.{◌≡◌, refl}
use mathlib.Core.List.{List, [], ◌∷◌, ◌++◌, map, append_assoc}
use mathlib.Core.Bool.{Bool, true, false}
use native.Mathlib.Omega.{arith}
use native.Mathlib.Nat.{add_assoc, add-zero}
use borrow.Author.Tests.{eq-eqb, eqb-false, le-ltb, ne_eqb}
use lib.Dec.{eqb}
use lib.Seq.{take-append_seam}
use lib.ListN.{length, length-append}
use lib.Seq.{drop-append_seam}
use Rattle.words.proofs.Tests.{cases}
use Rattle.words.specs.Word.{word_at, word_bytes, field, Field, ◌of◌, unsigned, bit}
use Rattle.words.specs.Stream.{stream_words}
use Rattle.words.proofs.Words.{At, at_left, at_right, word-is}
use Rattle.words.proofs.Signed.{unsigned_lt, signed-unsigned}
use Rattle.format.specs.declared.Format.{Format}
use Rattle.format.specs.declared.Part.TheVariants.{Text as text_part}
use Rattle.format.specs.Part.{part}
use Rattle.arguments.specs.declared.Scalar.{Scalar}
use Rattle.arguments.specs.declared.Scalar.TheVariants.{Null, Signed32, Unsigned32, Signed64, Unsigned64, Double, Pointer, KernelObject, Boolean, Unknown}
use Rattle.arguments.specs.declared.Value.{Value as ReadValue}
use Rattle.arguments.specs.declared.Value.TheVariants.{Scalar as ScalarValue, Text as TextValue}
use Rattle.arguments.specs.declared.Argument.{Argument as ReadArgument}
use Rattle.arguments.specs.Argument.{argued, scalar_words, argument_type, header_scalar, holds_word, word_scalar, value_parts, value_of, argument_body, argument_of, arguments, arguments_of, scalar_type}
use Rattle.arguments.proofs.Bounds.{ScalarFits}
use Rattle.records.specs.Item.{known, unresolved, Text, Value, scalar, text, Argument, Key, text_key}
use Rattle.encoding.specs.Encoded.{Encoded, word, text_inline, reference_of, part_bytes, parts_bytes, encoded_text, scalar_half, scalar_parts, record_bytes, encoded_argument, value_record, argument_record, arguments_records}
use Rattle.encoding.proofs.EncodedParts.{part_of, reference_at, references_at, Fine, AllFine, part_words, parts_words, length_parts, parts_read, Spells, spelled}
use Rattle.encoding.proofs.EncodedRecords.{at_start, RecordFits, length_record, length-size, field_is, body_at}

-- ---- what can be written

-- a text that is short enough, with an index or none; an unresolved one is never written
abbrev pub TextFits : Format → (Key → ℕ) → Text → Type 0
TextFits f index (known b) = (length b ≤ f.longest) × (length b < 0x8000) × (index (text_key b) < 0x8000)
TextFits f index (unresolved i) = ⊥

-- a value is a scalar or a text that fits
abbrev pub ValueFits : Format → (Key → ℕ) → Value → Type 0
ValueFits f index (scalar s) = ScalarFits s
ValueFits f index (text t) = TextFits f index t

-- the part that stands behind an argument's name, if any does
abbrev pub encoded_value : (Key → ℕ) → Value → List Encoded
encoded_value index (scalar s) = scalar_parts s
encoded_value index (text t) = encoded_text index t ∷ []

-- the body of an argument
abbrev pub argument_parts : (Key → ℕ) → Argument → List Encoded
argument_parts index a = encoded_text index a.name ∷ encoded_value index a.value

-- an argument whose name and value fit
pub record ArgumentFits (f : Format) (index : Key → ℕ) (a : Argument) : Type 0 where
  pub name : TextFits f index a.name
  pub value : ValueFits f index a.value

-- arguments that all fit
abbrev pub AllFit : Format → (Key → ℕ) → List Argument → Type 0
AllFit f index [] = Unit {0}
AllFit f index (a ∷ l) = ArgumentFits f index a × AllFit f index l

-- the words of an argument, and of arguments
abbrev pub argument_words : (Key → ℕ) → Argument → ℕ
argument_words index a = 1 + parts_words (argument_parts index a)

abbrev pub arguments_words : (Key → ℕ) → List Argument → ℕ
arguments_words index [] = 0
arguments_words index (a ∷ l) = argument_words index a + arguments_words index l

-- the size of every argument fits its field
abbrev pub AllSized : (Key → ℕ) → List Argument → Type 0
AllSized index [] = Unit {0}
AllSized index (a ∷ l) = (argument_words index a < 2 ^ 12) × AllSized index l

-- so it does where all of them together are small enough for one record
pub all_sized : (index : Key → ℕ) (l : List Argument) → arguments_words index l < 2 ^ 12 → AllSized index l
all_sized index [] h = tt
all_sized index (a ∷ l) h = (omega arith, all_sized index l (omega arith))

-- ---- texts

-- a part that a string reference of the header stands for
pub record AsText (f : Format) (w : Encoded) : Type 0 where
  pub fine : Fine f w
  pub part : part_of w ≡ text_part (reference_of w)
  pub bits : reference_of w < 2 ^ 16
  pub words : part_words w ≤ stream_words f.longest

inline_text : (f : Format) (b : List ℕ) → Fine f (text_inline b) → AsText f (text_inline b)
inline_text f [] fine = record { fine = fine; part = refl; bits = omega arith; words = omega arith }
inline_text f (c ∷ b) fine = record { fine = fine; part = refl; bits = omega (arith, fine.1); words = omega (arith, fine.0) }

-- every text that fits is written as such a part
pub text_encoded : (f : Format) (index : Key → ℕ) (t : Text) → TextFits f index t → AsText f (encoded_text index t)
text_encoded f index (known b) fit =
    let i = index (text_key b) in
    cases (eqb i 0) (λ e. rw e (inline_text f b (fit.0, fit.1)))
    (λ e. let some = eqb-false i 0 e in
    rw e (record { fine = (omega arith, fit.2); part = refl; bits = omega (arith, fit.2); words = omega arith }))
text_encoded f index (unresolved i) fit = absurd fit

-- ---- values

-- what a value has in its argument's header: the type, and the upper half
abbrev pub type_of : Value → ℕ
type_of (scalar s) = scalar_type s
type_of (text t) = 6

abbrev pub half_of : (Key → ℕ) → Value → ℕ
half_of index (scalar s) = scalar_half s
half_of index (text t) = reference_of (encoded_text index t)

-- the fields of its header behind type and size
abbrev pub argument_fields : (Key → ℕ) → Argument → List Field
argument_fields index a = reference_of (encoded_text index a.name) of 16 ∷ half_of index a.value of 32 ∷ []

-- every argument is a record, whose body is its name and its value
pub argument_record_lem : (f : Format) (index : Key → ℕ) (a : Argument)
    → argument_record f index a ≡ record_bytes f (type_of a.value) (argument_fields index a) (parts_bytes f (argument_parts index a))
argument_record_lem f index a = of_value a.value
  where
    name : Encoded
    name = encoded_text index a.name

    of_value : (v : Value)
        → value_record f index name v
        ≡ record_bytes f (type_of v) (reference_of name of 16 ∷ half_of index v of 32 ∷ []) (parts_bytes f (name ∷ encoded_value index v))
    of_value (scalar s) = refl
    of_value (text t) = refl

-- a type, an upper half and a part behind the name that can be written, in at most so many words
pub record AsValue (f : Format) (type half : ℕ) (ws : List Encoded) (most : ℕ) : Type 0 where
  pub type_bits : type < 2 ^ 4
  pub half_bits : half < 2 ^ 32
  pub fine : AllFine f ws
  pub words : parts_words ws ≤ most

in_half : (f : Format) (type half : ℕ) → type < 2 ^ 4 → half < 2 ^ 32 → AsValue f type half [] 1
in_half f type half ht hh = record { type_bits = ht; half_bits = hh; fine = tt; words = omega arith }

in_word : (f : Format) (type n : ℕ) → type < 2 ^ 4 → n < 2 ^ 64 → AsValue f type 0 (word n ∷ []) 1
in_word f type n ht hn = record { type_bits = ht; half_bits = omega arith; fine = (hn, tt); words = omega arith }

scalar_encoded : (f : Format) (s : Scalar) → ScalarFits s → AsValue f (scalar_type s) (scalar_half s) (scalar_parts s) 1
scalar_encoded f Null fit = in_half f 0 0 (omega arith) (omega arith)
scalar_encoded f (Signed32 z) fit = in_half f 1 (unsigned 32 z) (omega arith) (unsigned_lt 32 z (omega arith) fit)
scalar_encoded f (Unsigned32 n) fit = in_half f 2 n (omega arith) fit
scalar_encoded f (Signed64 z) fit = in_word f 3 (unsigned 64 z) (omega arith) (unsigned_lt 64 z (omega arith) fit)
scalar_encoded f (Unsigned64 n) fit = in_word f 4 n (omega arith) fit
scalar_encoded f (Double n) fit = in_word f 5 n (omega arith) fit
scalar_encoded f (Pointer n) fit = in_word f 7 n (omega arith) fit
scalar_encoded f (KernelObject n) fit = in_word f 8 n (omega arith) fit
scalar_encoded f (Boolean true) fit = in_half f 9 1 (omega arith) (omega arith)
scalar_encoded f (Boolean false) fit = in_half f 9 0 (omega arith) (omega arith)
scalar_encoded f (Unknown type) fit = absurd fit

-- the words of a scalar behind the name
pub scalar_parts_lem : (s : Scalar) → parts_words (scalar_parts s) ≡ scalar_words s
scalar_parts_lem Null = refl
scalar_parts_lem (Signed32 n) = refl
scalar_parts_lem (Unsigned32 n) = refl
scalar_parts_lem (Signed64 n) = refl
scalar_parts_lem (Unsigned64 n) = refl
scalar_parts_lem (Double n) = refl
scalar_parts_lem (Pointer n) = refl
scalar_parts_lem (KernelObject n) = refl
scalar_parts_lem (Boolean b) = refl
scalar_parts_lem (Unknown type) = refl

-- the most words that a value takes
abbrev pub most_words : Format → ℕ
most_words f = max 1 (stream_words f.longest)

-- every value that fits is written so
pub value_encoded : (f : Format) (index : Key → ℕ) (v : Value) → ValueFits f index v
    → AsValue f (type_of v) (half_of index v) (encoded_value index v) (most_words f)
value_encoded f index (scalar s) fit =
    let w = scalar_encoded f s fit in
    record { type_bits = w.type_bits; half_bits = w.half_bits; fine = w.fine; words = omega (arith, w.words) }
value_encoded f index (text t) fit =
    let w = text_encoded f index t fit in
    record { type_bits = omega arith; half_bits = omega (arith, w.bits); fine = (w.fine, tt); words = omega (arith, w.words) }

-- what is read for a value whose part stands at a place
abbrev pub value_at : (Key → ℕ) → Value → ℕ → ReadValue
value_at index (scalar s) place = ScalarValue s
value_at index (text t) place = TextValue (reference_at (encoded_text index t) place)

-- a header and bytes of an argument that are read as these parts and this value; its parts start at `at`
pub record Valued (f : Format) (header : ℕ) (argument : List ℕ) (place at : ℕ) (ws : List Encoded) (v : ReadValue) : Type 0 where
  pub parts : value_parts header ≡ map part_of ws
  pub value : value_of f header argument place (part 0 (references_at f ws at)) ≡ v

-- a scalar that stands in a word: types 3, 4, 5, 7 and 8
word_read : (f : Format) (header : ℕ) (argument : List ℕ) (place at type n : ℕ) → eqb type 6 ≡ false → holds_word type ≡ true
    → argument_type header ≡ type → n < 2 ^ 64 → At argument (at - place) (parts_bytes f (word n ∷ []))
    → Valued f header argument place at (word n ∷ []) (ScalarValue (word_scalar type n))
word_read f header argument place at type n other holds is small there =
    let there' = at_left argument (at - place) (word_bytes f.order n) [] there in
    record { parts = rw (is, other, holds); value = rw (is, other, holds, word-is f.order argument (at - place) n small there') }

bit_read : (header : ℕ) (b : Bool) → field 32 63 header ≡ bit b → eqb (field 32 32 header) 1 ≡ b
bit_read header true half = eq-eqb (field 32 32 header) 1 (omega arith)
bit_read header false half = ne_eqb (field 32 32 header) 1 (omega arith)

scalar_read : (f : Format) (header : ℕ) (argument : List ℕ) (place at : ℕ) (s : Scalar) → ScalarFits s
    → argument_type header ≡ scalar_type s → field 32 63 header ≡ scalar_half s → At argument (at - place) (parts_bytes f (scalar_parts s))
    → Valued f header argument place at (scalar_parts s) (ScalarValue s)
unfolding header_scalar holds_word word_scalar
scalar_read f header argument place at Null fit type half there = record { parts = rw type; value = rw type }
scalar_read f header argument place at (Signed32 z) fit type half there =
    record { parts = rw type; value = rw (type, half, signed-unsigned 32 z (omega arith) fit) }
scalar_read f header argument place at (Unsigned32 n) fit type half there = record { parts = rw type; value = rw (type, half) }
scalar_read f header argument place at (Signed64 z) fit type half there =
    let n = unsigned 64 z in
    rw (signed-unsigned 64 z (omega arith) fit) at
    (word_read f header argument place at 3 n refl refl type (unsigned_lt 64 z (omega arith) fit) there)
scalar_read f header argument place at (Unsigned64 n) fit type half there = word_read f header argument place at 4 n refl refl type fit there
scalar_read f header argument place at (Double n) fit type half there = word_read f header argument place at 5 n refl refl type fit there
scalar_read f header argument place at (Pointer n) fit type half there = word_read f header argument place at 7 n refl refl type fit there
scalar_read f header argument place at (KernelObject n) fit type half there = word_read f header argument place at 8 n refl refl type fit there
scalar_read f header argument place at (Boolean b) fit type half there = record { parts = rw type; value = rw (type, bit_read header b half) }
scalar_read f header argument place at (Unknown t) fit type half there = absurd fit

text_read : (header : ℕ) (argument : List ℕ) (place at : ℕ) (f : Format) (w : Encoded) → AsText f w
    → argument_type header ≡ 6 → field 32 63 header ≡ reference_of w
    → Valued f header argument place at (w ∷ []) (TextValue (reference_at w at))
text_read header argument place at f w t type half =
    let reference : field 32 47 header ≡ reference_of w = omega (arith, t.bits) in
    record { parts = rw (type, reference, t.part); value = rw type }

-- a value that fits is read by its type, the upper half of its header, and what stands behind the name
pub value_read : (header : ℕ) (argument : List ℕ) (place at : ℕ) (f : Format) (index : Key → ℕ) (v : Value) → ValueFits f index v
    → argument_type header ≡ type_of v → field 32 63 header ≡ half_of index v → At argument (at - place) (parts_bytes f (encoded_value index v))
    → Valued f header argument place at (encoded_value index v) (value_at index v at)
value_read header argument place at f index (scalar s) fit type half there = scalar_read f header argument place at s fit type half there
value_read header argument place at f index (text t) fit type half there =
    text_read header argument place at f (encoded_text index t) (text_encoded f index t fit) type half

-- ---- one argument

-- what is read for an argument written at a place
abbrev pub argument_at : Format → (Key → ℕ) → Argument → ℕ → ReadArgument
argument_at f index a place =
    let name = encoded_text index a.name in
    record { name = reference_at name (place + 8); value = value_at index a.value (place + 8 + length (part_bytes f name)) }

encoded_read : (f : Format) (type half : ℕ) (name : Encoded) (ws : List Encoded) (more : List ℕ) (place : ℕ) (v : ReadValue)
    → RecordFits type (reference_of name of 16 ∷ half of 32 ∷ []) (parts_bytes f (name ∷ ws)) → AsText f name → AllFine f ws
    → Valued f (word_at f.order (encoded_argument f type half name ws ++ more) 0) (encoded_argument f type half name ws) place
    (place + 8 + length (part_bytes f name)) ws v
    → argument_of f (encoded_argument f type half name ws ++ more) place
    ≡ argued (record { name = reference_at name (place + 8); value = v }) (length (encoded_argument f type half name ws))
unfolding argument_of argument_body
encoded_read f type half name ws more place v fit t fine valued =
    let source = encoded_argument f type half name ws in
    let rest = source ++ more in
    let long = length-append source more in
    let own = length_record f type (reference_of name of 16 ∷ half of 32 ∷ []) (parts_bytes f (name ∷ ws)) in
    rw (
      valued.parts,
      field_is f fit 1 rest 0 (more, refl),
      field_is f fit 2 rest 0 (more, refl),
      ← length-size f fit,
      le-ltb (length rest) 8 (omega (arith, long, own)),
      ne_eqb (length source) 0 (omega (arith, own)),
      le-ltb (length rest) (length source) (omega (arith, long)),
      ← t.part,
      take-append_seam source more,
      parts_read f (name ∷ ws) (place + 8) source place (t.fine, fine) (omega (arith, own)),
      valued.value,
    )

-- an argument's values fit their fields
pub argument_fits : (f : Format) (index : Key → ℕ) (a : Argument) → ArgumentFits f index a → argument_words index a < 2 ^ 12
    → RecordFits (type_of a.value) (argument_fields index a) (parts_bytes f (argument_parts index a))
argument_fits f index a fit sized =
    let name = text_encoded f index a.name fit.name in
    let value = value_encoded f index a.value fit.value in
    let size = length_parts f (argument_parts index a) in
    record { fits = omega (arith, name.bits, value.type_bits, value.half_bits, size); full = refl; whole = omega (arith, size) }

-- an argument that fits is read as itself, whatever stands behind it
pub argument_read : (f : Format) (index : Key → ℕ) (a : Argument) (more : List ℕ) (place : ℕ) → ArgumentFits f index a
    → argument_words index a < 2 ^ 12
    → argument_of f (argument_record f index a ++ more) place ≡ argued (argument_at f index a place) (length (argument_record f index a))
argument_read f index a more place fit sized =
    let v = a.value in
    let name = encoded_text index a.name in
    let ws = encoded_value index v in
    let fields = argument_fits f index a fit sized in
    let source = encoded_argument f (type_of v) (half_of index v) name ws in
    let rest = source ++ more in
    let start : At rest 0 source = (more, refl) in
    let body = body_at f (type_of v) (argument_fields index a) (parts_bytes f (name ∷ ws)) source 0 (at_start source) in
    let at = place + 8 + length (part_bytes f name) in
    let from : 0 + 8 + length (part_bytes f name) ≡ at - place = omega arith in
    let behind = rw from at (at_right source (0 + 8) (part_bytes f name) (parts_bytes f ws) body) in
    let valued = value_read (word_at f.order rest 0) source place at f index v fit.value (field_is f fields 0 rest 0 start) (field_is f fields 3 rest 0 start) behind in
    rw (argument_record_lem f index a)
    (encoded_read f (type_of v) (half_of index v) name ws more place (value_at index v at) fields
    (text_encoded f index a.name fit.name) (value_encoded f index v fit.value).fine valued)

-- an argument is as long as its words
pub length_argument : (f : Format) (index : Key → ℕ) (a : Argument) → length (argument_record f index a) ≡ 8 * argument_words index a
length_argument f index a =
    rw (argument_record_lem f index a)
    (omega (arith, length_record f (type_of a.value) (argument_fields index a) (parts_bytes f (argument_parts index a)), length_parts f (argument_parts index a)))

-- an argument that fits has at most its header, the longest name, and the longest value
pub argument_words_lem : (f : Format) (index : Key → ℕ) (a : Argument) → ArgumentFits f index a
    → argument_words index a ≤ 1 + stream_words f.longest + most_words f
argument_words_lem f index a fit =
    omega (arith, (text_encoded f index a.name fit.name).words, (value_encoded f index a.value fit.value).words)

-- ---- all arguments

-- arguments are as long as their words
pub length-arguments : (f : Format) (index : Key → ℕ) (l : List Argument) → length (arguments_records f index l) ≡ 8 * arguments_words index l
length-arguments f index [] = refl
length-arguments f index (a ∷ l) =
    omega (arith, length-append (argument_record f index a) (arguments_records f index l), length_argument f index a, length-arguments f index l)

-- arguments that fit have at most so many words each
pub arguments-words : (f : Format) (index : Key → ℕ) (l : List Argument) → AllFit f index l
    → arguments_words index l ≤ length l * (1 + stream_words f.longest + most_words f)
arguments-words f index [] fit = omega arith
arguments-words f index (a ∷ l) fit =
    omega (arith, argument_words_lem f index a fit.0, arguments-words f index l fit.1)

-- what is read for arguments written one behind the other from a place on
abbrev pub arguments_at : Format → (Key → ℕ) → List Argument → ℕ → List ReadArgument
arguments_at f index [] place = []
arguments_at f index (a ∷ l) place = argument_at f index a place ∷ arguments_at f index l (place + length (argument_record f index a))

-- arguments that fit are read as themselves, whatever stands behind them
pub arguments_read_lem : (f : Format) (index : Key → ℕ) (l : List Argument) (more : List ℕ) (place : ℕ) → AllFit f index l
    → AllSized index l
    → arguments_of f (length l) (arguments_records f index l ++ more) place
    ≡ arguments (arguments_at f index l place) (place + length (arguments_records f index l))
unfolding arguments_of
arguments_read_lem f index [] more place fit sized = rw (add-zero place)
arguments_read_lem f index (a ∷ l) more place fit sized =
    let first = argument_record f index a in
    let others = arguments_records f index l in
    rw (
      append_assoc first others more,
      argument_read f index a (others ++ more) place fit.0 sized.0,
      drop-append_seam first (others ++ more),
      arguments_read_lem f index l more (place + length first) fit.1 sized.1,
      length-append first others,
      add_assoc place (length first) (length others),
    )

-- in these bytes the value that is read is the value that was written
abbrev pub SpellsValue : Format → List ℕ → (Key → ℕ) → ReadValue → Value → Type 0
SpellsValue f bytes index (ScalarValue s) (scalar s') = s ≡ s'
SpellsValue f bytes index (ScalarValue s) (text t) = ⊥
SpellsValue f bytes index (TextValue r) (scalar s) = ⊥
SpellsValue f bytes index (TextValue r) (text t) = Spells f bytes r (encoded_text index t)

-- in these bytes the argument that is read is the argument that was written
pub record SpellsArgument (f : Format) (bytes : List ℕ) (index : Key → ℕ) (q : ReadArgument) (a : Argument) : Type 0 where
  pub name : Spells f bytes q.name (encoded_text index a.name)
  pub value : SpellsValue f bytes index q.value a.value

-- and so for arguments, one by one
abbrev pub SpellsArguments : Format → List ℕ → (Key → ℕ) → List ReadArgument → List Argument → Type 0
SpellsArguments f bytes index [] [] = Unit {0}
SpellsArguments f bytes index [] (a ∷ l) = ⊥
SpellsArguments f bytes index (q ∷ qs) [] = ⊥
SpellsArguments f bytes index (q ∷ qs) (a ∷ l) = SpellsArgument f bytes index q a × SpellsArguments f bytes index qs l

value-spelled : (f : Format) (index : Key → ℕ) (bytes : List ℕ) (place : ℕ) (v : Value) → ValueFits f index v
    → At bytes place (parts_bytes f (encoded_value index v)) → SpellsValue f bytes index (value_at index v place) v
value-spelled f index bytes place (scalar s) fit at = refl
value-spelled f index bytes place (text t) fit at =
    let w = encoded_text index t in
    spelled f bytes place w (text_encoded f index t fit).fine (at_left bytes place (part_bytes f w) [] at)

argument_spelled : (f : Format) (index : Key → ℕ) (bytes : List ℕ) (place : ℕ) (a : Argument) → ArgumentFits f index a
    → At bytes place (argument_record f index a) → SpellsArgument f bytes index (argument_at f index a place) a
argument_spelled f index bytes place a fit at =
    let name = encoded_text index a.name in
    let ws = encoded_value index a.value in
    let body = body_at f (type_of a.value) (argument_fields index a) (parts_bytes f (name ∷ ws)) bytes place (rw (argument_record_lem f index a) at at) in
    let first = at_left bytes (place + 8) (part_bytes f name) (parts_bytes f ws) body in
    let second = at_right bytes (place + 8) (part_bytes f name) (parts_bytes f ws) body in
    record {
      name = spelled f bytes (place + 8) name (text_encoded f index a.name fit.name).fine first;
      value = value-spelled f index bytes (place + 8 + length (part_bytes f name)) a.value fit.value second;
    }

-- where arguments stand, what is read for them spells them
pub arguments-spelled : (f : Format) (index : Key → ℕ) (bytes : List ℕ) (place : ℕ) (l : List Argument) → AllFit f index l
    → At bytes place (arguments_records f index l) → SpellsArguments f bytes index (arguments_at f index l place) l
arguments-spelled f index bytes place [] fit at = tt
arguments-spelled f index bytes place (a ∷ l) fit at =
    let first = argument_record f index a in
    let others = arguments_records f index l in (
      argument_spelled f index bytes place a fit.0 (at_left bytes place first others at),
      arguments-spelled f index bytes (place + length first) l fit.1 (at_right bytes place first others at),
    )
