-- The parts of a body as they are written: how long they are, that reading takes each of them, and that what it takes is what was written.
-- Assumes nothing.
use Prim.Native.Nat.{ℕ, ◌+◌, ◌*◌, ◌^◌, ◌<◌, ◌≤◌}
use mathlib.Core.Path.{◌≡◌, refl}
use mathlib.Core.List.{List, [], ◌∷◌, map}
use native.Mathlib.Omega.{arith}
use native.Mathlib.Nat.{add_assoc, add-zero, add-sub_cancel_left}
use borrow.Author.Tests.{le-ltb, lt-ltb, ne_eqb}
use lib.ListN.{length, take, drop, length-append}
use Rattle.words.specs.Word.{word_at, word_bytes}
use Rattle.words.specs.Stream.{stream_words}
use Rattle.words.proofs.Words.{At, at_left, at_right, length-word_bytes, word-is, stream-is}
use Rattle.words.proofs.Streams.{length-padded}
use Rattle.format.specs.declared.Format.{Format}
use Rattle.format.specs.declared.Reference.{Reference}
use Rattle.format.specs.declared.Reference.TheVariants.{Inline, Index}
use Rattle.format.specs.declared.Part.{Part}
use Rattle.format.specs.declared.Part.TheVariants.{Words as words_part, Stream as stream_part, Text as text_part, Thread as thread_part}
use Rattle.format.specs.Part.{taken, take_words, take_stream, take_text, take_thread, take_part, body, take_parts}
use Rattle.records.specs.Item.{thread}
use Rattle.records.proofs.Bounds.{AllWords}
use Rattle.encoding.specs.Encoded.{Encoded, word, words, stream, words_bytes, text_index, thread_index, text_inline, thread_inline, reference_of, part_bytes, parts_bytes}

-- ---- what is read for a part

-- the part that a reader is told to take
abbrev pub part_of : Encoded → Part
part_of (word n) = words_part 1
part_of (words ns) = words_part (length ns)
part_of (stream b) = stream_part (length b)
part_of (text_index index) = text_part index
part_of (thread_index index) = thread_part index
part_of (text_inline b) = text_part (reference_of (text_inline b))
part_of (thread_inline t) = thread_part 0

-- the reference that is read for a part written at a place
abbrev pub reference_at : Encoded → ℕ → Reference
reference_at (word n) place = Inline place 8
reference_at (words ns) place = Inline place (8 * length ns)
reference_at (stream b) place = Inline place (length b)
reference_at (text_index index) place = Index index
reference_at (thread_index index) place = Index index
reference_at (text_inline b) place = Inline place (length b)
reference_at (thread_inline t) place = Inline place 16

-- the references of parts, each right behind the one before
abbrev pub references_at : Format → List Encoded → ℕ → List Reference
references_at f [] place = []
references_at f (w ∷ ws) place = reference_at w place ∷ references_at f ws (place + length (part_bytes f w))

-- what can be written: a word of 64 bits, an index that fits its reference, a text that is short enough, a thread of two words
abbrev pub Fine : Format → Encoded → Type 0
Fine f (word n) = n < 256 ^ 8
Fine f (words ns) = AllWords ns
Fine f (stream b) = length b ≤ f.longest
Fine f (text_index index) = (0 < index) × (index < 0x8000)
Fine f (thread_index index) = (0 < index) × (index < 256)
Fine f (text_inline b) = (length b ≤ f.longest) × (length b < 0x8000)
Fine f (thread_inline (thread p t)) = (p < 256 ^ 8) × (t < 256 ^ 8)

-- parts that can all be written
abbrev pub AllFine : Format → List Encoded → Type 0
AllFine f [] = Unit {0}
AllFine f (w ∷ ws) = Fine f w × AllFine f ws

-- ---- lengths

-- the words that a part takes in the body
abbrev pub part_words : Encoded → ℕ
part_words (word n) = 1
part_words (words ns) = length ns
part_words (stream b) = stream_words (length b)
part_words (text_index index) = 0
part_words (thread_index index) = 0
part_words (text_inline b) = stream_words (length b)
part_words (thread_inline t) = 2

-- the words of parts together
abbrev pub parts_words : List Encoded → ℕ
parts_words [] = 0
parts_words (w ∷ ws) = part_words w + parts_words ws

-- so many words
pub length-words : (f : Format) (ns : List ℕ) → length (words_bytes f ns) ≡ 8 * length ns
length-words f [] = refl
length-words f (n ∷ ns) = omega (arith, length-append (word_bytes f.order n) (words_bytes f ns), length-word_bytes f.order n, length-words f ns)

-- a part is as long as its words
pub length_part : (f : Format) (w : Encoded) → length (part_bytes f w) ≡ 8 * part_words w
length_part f (word n) = length-word_bytes f.order n
length_part f (words ns) = length-words f ns
length_part f (stream b) = length-padded b
length_part f (text_index index) = refl
length_part f (thread_index index) = refl
length_part f (text_inline b) = length-padded b
length_part f (thread_inline (thread p t)) =
    omega (arith, length-append (word_bytes f.order p) (word_bytes f.order t), length-word_bytes f.order p, length-word_bytes f.order t)

-- parts are as long as their words
pub length_parts : (f : Format) (ws : List Encoded) → length (parts_bytes f ws) ≡ 8 * parts_words ws
length_parts f [] = refl
length_parts f (w ∷ ws) = omega (arith, length-append (part_bytes f w) (parts_bytes f ws), length_part f w, length_parts f ws)

-- ---- reading takes what is written

-- a stream that is short enough, and ends inside its record, is taken
pub stream_read : (f : Format) (n place : ℕ) (source : List ℕ) (start : ℕ) → n ≤ f.longest → place + 8 * stream_words n ≤ (start + length source)
    → take_stream f n place source start ≡ taken (Inline place n) (place + 8 * stream_words n)
unfolding take_stream
stream_read f n place source start short inside = rw (le-ltb f.longest n short, le-ltb (start + length source) (place + 8 * stream_words n) inside)

-- words that end inside their record are taken
pub words_read_lem : (n place : ℕ) (source : List ℕ) (start : ℕ) → place + 8 * n ≤ (start + length source) → take_words n place source start ≡ taken (Inline place (8 * n)) (place + 8 * n)
unfolding take_words
words_read_lem n place source start inside = rw (le-ltb (start + length source) (place + 8 * n) inside)

text_read : (f : Format) (b : List ℕ) (place : ℕ) (source : List ℕ) (start : ℕ) → length b ≤ f.longest → place + 8 * stream_words (length b) ≤ (start + length source)
    → take_text f (reference_of (text_inline b)) place source start ≡ taken (Inline place (length b)) (place + 8 * stream_words (length b))
unfolding take_text
text_read f [] place source start short inside = rw (add-zero place)
text_read f (c ∷ b) place source start short inside =
    let n = length (c ∷ b) in
    rw (ne_eqb (0x8000 + n) 0 (omega arith), le-ltb (0x8000 + n) 0x8000 (omega arith), add-sub_cancel_left 0x8000 n)
    (stream_read f n place source start short inside)

part_read : (f : Format) (w : Encoded) (place : ℕ) (source : List ℕ) (start : ℕ) → Fine f w → place + 8 * part_words w ≤ (start + length source)
    → take_part f (part_of w) place source start ≡ taken (reference_at w place) (place + 8 * part_words w)
unfolding take_part take_text take_thread
part_read f (word n) place source start fine inside = words_read_lem 1 place source start inside
part_read f (words ns) place source start fine inside = words_read_lem (length ns) place source start inside
part_read f (stream b) place source start fine inside = stream_read f (length b) place source start fine inside
part_read f (text_index index) place source start fine inside =
    rw (ne_eqb index 0 (omega arith), lt-ltb index 0x8000 fine.1, add-zero place)
part_read f (thread_index index) place source start fine inside = rw (ne_eqb index 0 (omega arith), add-zero place)
part_read f (text_inline b) place source start fine inside = text_read f b place source start fine.0 inside
part_read f (thread_inline t) place source start fine inside = words_read_lem 2 place source start inside

-- reading takes the parts that are written, one right behind the other
pub parts_read : (f : Format) (ws : List Encoded) (place : ℕ) (source : List ℕ) (start : ℕ) → AllFine f ws → place + length (parts_bytes f ws) ≤ (start + length source)
    → take_parts f (map part_of ws) place source start ≡ body (references_at f ws place) (place + length (parts_bytes f ws))
unfolding take_parts
parts_read f [] place source start fine inside = rw (add-zero place)
parts_read f (w ∷ ws) place source start fine inside =
    let both = length-append (part_bytes f w) (parts_bytes f ws) in
    rw (
      part_read f w place source start fine.0 (omega (arith, both, length_part f w)),
      ← length_part f w,
      parts_read f ws (place + length (part_bytes f w)) source start fine.1 (omega (arith, both)),
      both,
      add_assoc place,
    )

-- ---- what is taken is what was written

-- these words stand one behind the other from a place on
abbrev pub WordsAre : Format → List ℕ → ℕ → List ℕ → Type 0
WordsAre f bytes place [] = Unit {0}
WordsAre f bytes place (n ∷ ns) = (word_at f.order bytes place ≡ n) × WordsAre f bytes (place + 8) ns

-- in these bytes, whose places count from their start, the reference that is read is the part that was written
abbrev pub Spells : Format → List ℕ → Reference → Encoded → Type 0
Spells f bytes (Inline place n) (word value) = word_at f.order bytes place ≡ value
Spells f bytes (Inline place n) (words ns) = WordsAre f bytes place ns
Spells f bytes (Inline place n) (stream b) = (n ≡ length b) × (take n (drop place bytes) ≡ b)
Spells f bytes (Inline place n) (text_index index) = ⊥
Spells f bytes (Inline place n) (thread_index index) = ⊥
Spells f bytes (Inline place n) (text_inline b) = (n ≡ length b) × (take n (drop place bytes) ≡ b)
Spells f bytes (Inline place n) (thread_inline (thread p t)) = (word_at f.order bytes place ≡ p) × (word_at f.order bytes (place + 8) ≡ t)
Spells f bytes (Index i) (word value) = ⊥
Spells f bytes (Index i) (words ns) = ⊥
Spells f bytes (Index i) (stream b) = ⊥
Spells f bytes (Index i) (text_index index) = i ≡ index
Spells f bytes (Index i) (thread_index index) = i ≡ index
Spells f bytes (Index i) (text_inline b) = ⊥
Spells f bytes (Index i) (thread_inline t) = ⊥

-- the references that are read are the parts that were written, one by one
abbrev pub AllSpell : Format → List ℕ → List Reference → List Encoded → Type 0
AllSpell f bytes [] [] = Unit {0}
AllSpell f bytes [] (w ∷ ws) = ⊥
AllSpell f bytes (r ∷ rs) [] = ⊥
AllSpell f bytes (r ∷ rs) (w ∷ ws) = Spells f bytes r w × AllSpell f bytes rs ws

-- where the two words of a thread stand, they are read
pub thread-is : (f : Format) (bytes : List ℕ) (place p t : ℕ) → p < 256 ^ 8 → t < 256 ^ 8 → At bytes place (part_bytes f (thread_inline (thread p t)))
    → (word_at f.order bytes place ≡ p) × (word_at f.order bytes (place + 8) ≡ t)
thread-is f bytes place p t hp ht at =
    let second = at_right bytes place (word_bytes f.order p) (word_bytes f.order t) at in (
      word-is f.order bytes place p hp (at_left bytes place (word_bytes f.order p) (word_bytes f.order t) at),
      word-is f.order bytes (place + 8) t ht (rw (length-word_bytes f.order p) at second),
    )

-- where words stand, they are read
pub words_are : (f : Format) (bytes : List ℕ) (place : ℕ) (ns : List ℕ) → AllWords ns → At bytes place (words_bytes f ns) → WordsAre f bytes place ns
words_are f bytes place [] small at = tt
words_are f bytes place (n ∷ ns) small at =
    let behind = at_right bytes place (word_bytes f.order n) (words_bytes f ns) at in (
      word-is f.order bytes place n small.0 (at_left bytes place (word_bytes f.order n) (words_bytes f ns) at),
      words_are f bytes (place + 8) ns small.1 (rw (length-word_bytes f.order n) at behind),
    )

-- where a part stands, its reference spells it
pub spelled : (f : Format) (bytes : List ℕ) (place : ℕ) (w : Encoded) → Fine f w → At bytes place (part_bytes f w)
    → Spells f bytes (reference_at w place) w
spelled f bytes place (word n) fine at = word-is f.order bytes place n fine at
spelled f bytes place (words ns) fine at = words_are f bytes place ns fine at
spelled f bytes place (stream b) fine at = (refl, stream-is bytes place b at)
spelled f bytes place (text_index index) fine at = refl
spelled f bytes place (thread_index index) fine at = refl
spelled f bytes place (text_inline b) fine at = (refl, stream-is bytes place b at)
spelled f bytes place (thread_inline (thread p t)) fine at = thread-is f bytes place p t fine.0 fine.1 at

-- where parts stand, their references spell them
pub all_spelled : (f : Format) (bytes : List ℕ) (place : ℕ) (ws : List Encoded) → AllFine f ws → At bytes place (parts_bytes f ws)
    → AllSpell f bytes (references_at f ws place) ws
all_spelled f bytes place [] fine at = tt
all_spelled f bytes place (w ∷ ws) fine at = (
  spelled f bytes place w fine.0 (at_left bytes place (part_bytes f w) (parts_bytes f ws) at),
  all_spelled f bytes (place + length (part_bytes f w)) ws fine.1 (at_right bytes place (part_bytes f w) (parts_bytes f ws) at),
)
