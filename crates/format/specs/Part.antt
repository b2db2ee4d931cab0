-- The body of a record, and of an argument, as a list of parts: "its fields in written order, a stream where it stands" (document 01).
-- A part is read at a place of its record, whose bytes are `source` and start at the place `start`. Places are byte places of the archive.
use Rattle.std.specs.Prelude.{ℕ, ◌+◌, ◌-◌, ◌*◌, [], List, ◌∷◌, Bool, true, length, take, drop, get_or, Result, Ok, Err, eqb, ltb}
use Rattle.words.specs.Word.{pick}
use Rattle.words.specs.Stream.{stream_words, padding_of, all_zero}
use Rattle.format.specs.declared.Format.{Format}
use Rattle.format.specs.declared.Reference.{Reference}
use Rattle.format.specs.declared.Reference.TheVariants.{Inline, Index}
use Rattle.format.specs.declared.Part.{Part}
use Rattle.format.specs.declared.Part.TheVariants.{Words as words, Stream as stream, Text as text, Thread as thread}
use Rattle.format.specs.declared.Taken.{Taken}
use Rattle.format.specs.declared.Reason.{Reason}
use Rattle.format.specs.declared.Reason.TheVariants.{Malformed, LongText}

-- a part that is taken, with the place right behind it
abbrev pub taken : Reference → ℕ → Result Taken Reason
taken reference next = Ok (record { reference = reference; next = next })

-- n words: the record is "too small for its content" where it has fewer left
unfoldable pub take_words : (n place : ℕ) → List ℕ → ℕ → Result Taken Reason
take_words n place source start = pick (ltb (start + length source) (place + 8 * n)) (Err Malformed) (taken (Inline place (8 * n)) (place + 8 * n))

-- a stream of n bytes: "7 before 6"
unfoldable pub take_stream : Format → (n place : ℕ) → List ℕ → ℕ → Result Taken Reason
take_stream f n place source start =
    pick (ltb f.longest n) (Err LongText)
    (pick (ltb (start + length source) (place + 8 * stream_words n)) (Err Malformed)
    (taken (Inline place n) (place + 8 * stream_words n)))

-- "String reference, 16 bits: 0 is the empty string; top bit 0, an index; top bit 1, the low 15 bits are the length of an inline stream."
unfoldable pub take_text : Format → (reference place : ℕ) → List ℕ → ℕ → Result Taken Reason
take_text f reference place source start =
    pick (eqb reference 0) (taken (Inline place 0) place)
    (pick (ltb reference 0x8000) (taken (Index reference) place)
    (take_stream f (reference - 0x8000) place source start))

-- "Thread reference, 8 bits: 0 means process and thread words are inline; otherwise an index."
unfoldable pub take_thread : (reference place : ℕ) → List ℕ → ℕ → Result Taken Reason
take_thread reference place source start = pick (eqb reference 0) (take_words 2 place source start) (taken (Index reference) place)

-- the table that a part is looked up in, by the type of its records: 3 for a thread, 2 for a text and for what is looked up in none
unfoldable pub table_of : Part → ℕ
table_of (words n) = 2
table_of (stream n) = 2
table_of (text reference) = 2
table_of (thread reference) = 3

-- a part of a body: so many words, a stream of so many bytes, what a string reference or a thread reference has inline
unfoldable pub take_part : Format → Part → ℕ → List ℕ → ℕ → Result Taken Reason
take_part f (words n) place source start = take_words n place source start
take_part f (stream n) place source start = take_stream f n place source start
take_part f (text reference) place source start = take_text f reference place source start
take_part f (thread reference) place source start = take_thread reference place source start

-- a body that is read: what stands for each of its parts, and the place right behind them
pub data Body : Type 0 where
  refused : Reason → Body
  body : List Reference → ℕ → Body

abbrev pub prepend : Reference → Body → Body
prepend reference (refused reason) = refused reason
prepend reference (body references next) = body (reference ∷ references) next

abbrev pub on_taken : Result Taken Reason → (Reference → ℕ → Body) → Body
on_taken (Err reason) k = refused reason
on_taken (Ok t) k = k t.reference t.next

unfoldable pub take_parts : Format → List Part → ℕ → List ℕ → ℕ → Body
take_parts f [] place source start = body [] place
take_parts f (p ∷ ps) place source start = on_taken (take_part f p place source start) (λ reference next. prepend reference (take_parts f ps next source start))

abbrev pub on_body : {A : Type 0} → Body → (Reason → A) → (List Reference → ℕ → A) → A
on_body (refused reason) refuse then = refuse reason
on_body (body references next) refuse then = then references next

-- the n-th part of a body, from 0
abbrev pub part : ℕ → List Reference → Reference
part n references = get_or references n (Inline 0 0)

-- where the bytes of a part stand
abbrev pub place_of : Reference → ℕ
place_of (Inline place length) = place
place_of (Index index) = 0

-- the bytes that a reference has inline
abbrev pub inline_bytes : Reference → ℕ
inline_bytes (Inline place length) = 8 * stream_words length
inline_bytes (Index index) = 0

-- whether the padding behind a part is zero; the bytes that it is looked for in start at the place `start`
unfoldable pub padding_zero : List ℕ → ℕ → Reference → Bool
padding_zero source start (Inline place length) = all_zero (take (padding_of length) (drop (place + length - start) source))
padding_zero source start (Index index) = true
