-- Records by the layouts of their items: how long they are, which of them can be written, and what of them is read, whatever the item.
-- Assumes nothing.
use Prim.Native.Nat.{ℕ, ◌+◌, ◌*◌, ◌^◌, ◌<◌, ◌≤◌}
use mathlib.Core.Path.{◌≡◌, refl, ◌∙◌}
use mathlib.Core.List.{List, [], ◌∷◌, ◌++◌, map}
use native.Mathlib.Omega.{arith}
use borrow.Author.Tests.{eqb-false}
use lib.Dec.{eqb}
use lib.ListN.{length, length-append}
use Rattle.words.proofs.Tests.{cases}
use Rattle.words.specs.Stream.{stream_words}
use Rattle.words.proofs.Words.{At, at_left, at_right}
use Rattle.format.specs.declared.Format.{Format}
use Rattle.format.specs.declared.Part.TheVariants.{Thread as thread_part}
use Rattle.format.specs.Part.{table_of, body, take_parts}
use Rattle.records.specs.Item.{Shown, known, unresolved, Thread, thread, Referent, text_referent, thread_referent, Report, own_layout, Item, magic}
use Rattle.records.specs.Item.{provider_info, section, provider_event, initialization, report, skipped, Piece, words, stream, refers, ItemLayout, layout_of_item, Key, text_key, thread_key}
use Rattle.records.proofs.Bounds.{OwnSuits, Absent, AllWords}
use Rattle.encoding.specs.Models.Part.{referent_table}
use Rattle.encoding.specs.Encoded.{Encoded, words_bytes, reference_of, parts_bytes, encoded_thread, encoded_referent, arguments_records, encoded_pieces, layout_header, layout_body, layout_record}
use Rattle.encoding.proofs.EncodedParts.{part_of, references_at, Fine, AllFine, part_words, parts_words, length-words, length_parts, parts_read, AllSpell, all_spelled}
use Rattle.encoding.proofs.EncodedRecords.{length_record, body_at}
use Rattle.encoding.proofs.EncodedArguments.{TextFits, AsText, AllFit, arguments_words, text_encoded, length-arguments}

-- ---- lengths

-- the words of a record, where these are the indexes of its keys
abbrev pub layout_words : (Key → ℕ) → ItemLayout → ℕ
layout_words index l = 1 + parts_words (encoded_pieces index l.pieces) + arguments_words index l.arguments + length l.last

-- the bytes behind its pieces: the arguments and the last words
abbrev pub behind_pieces : Format → (Key → ℕ) → ItemLayout → List ℕ
behind_pieces f index l = arguments_records f index l.arguments ++ words_bytes f l.last

-- its body is a word shorter
pub length-body : (f : Format) (index : Key → ℕ) (l : ItemLayout) → 8 + length (layout_body f index l) ≡ 8 * layout_words index l
length-body f index l =
    omega (
      arith,
      length-append (parts_bytes f (encoded_pieces index l.pieces)) (behind_pieces f index l),
      length-append (arguments_records f index l.arguments) (words_bytes f l.last),
      length_parts f (encoded_pieces index l.pieces),
      length-arguments f index l.arguments,
      length-words f l.last,
    )

-- a record is as long as its words
pub length_layout : (f : Format) (index : Key → ℕ) (l : ItemLayout) → length (layout_record f index l) ≡ 8 * layout_words index l
length_layout f index l = length_record f l.type (layout_header index l) (layout_body f index l) ∙ length-body f index l

-- ---- what can be written

-- a thread whose words fit, with an index or none; an unresolved one is never written
abbrev pub ThreadFits : (Key → ℕ) → Shown Thread → Type 0
ThreadFits index (known (thread p t)) = (p < 2 ^ 64) × (t < 2 ^ 64) × (index (thread_key (thread p t)) < 2 ^ 8)
ThreadFits index (unresolved i) = ⊥

-- a part that a thread reference of the header stands for
pub record AsThread (f : Format) (w : Encoded) : Type 0 where
  pub fine : Fine f w
  pub part : part_of w ≡ thread_part (reference_of w)
  pub bits : reference_of w < 2 ^ 8
  pub words : part_words w ≤ 2

-- every thread that fits is written as such a part
pub thread_encoded : (f : Format) (index : Key → ℕ) (t : Shown Thread) → ThreadFits index t → AsThread f (encoded_thread index t)
thread_encoded f index (known (thread p t)) fit =
    let i = index (thread_key (thread p t)) in
    cases (eqb i 0) (λ e. rw e (record { fine = (fit.0, fit.1); part = refl; bits = omega arith; words = omega arith }))
    (λ e. let some = eqb-false i 0 e in
    rw e (record { fine = (omega arith, fit.2); part = refl; bits = fit.2; words = omega arith }))
thread_encoded f index (unresolved i) fit = absurd fit

-- a referent that fits
abbrev pub ReferentFits : Format → (Key → ℕ) → Referent → Type 0
ReferentFits f index (text_referent t) = TextFits f index t
ReferentFits f index (thread_referent t) = ThreadFits index t

-- by its table it is written as a thread or as a text
pub referent_thread : (f : Format) (index : Key → ℕ) (x : Referent) → referent_table x ≡ 3 → ReferentFits f index x
    → AsThread f (encoded_referent index x)
referent_thread f index (text_referent t) is fit = absurd (omega (arith, is))
referent_thread f index (thread_referent t) is fit = thread_encoded f index t fit

pub referent_text : (f : Format) (index : Key → ℕ) (x : Referent) → referent_table x ≡ 2 → ReferentFits f index x → AsText f (encoded_referent index x)
referent_text f index (text_referent t) is fit = text_encoded f index t fit
referent_text f index (thread_referent t) is fit = absurd (omega (arith, is))

-- and is looked up there
pub referent_table_lem : (f : Format) (index : Key → ℕ) (x : Referent) → ReferentFits f index x → table_of (part_of (encoded_referent index x)) ≡ referent_table x
unfolding table_of
referent_table_lem f index (text_referent t) fit = rw (text_encoded f index t fit).part
referent_table_lem f index (thread_referent t) fit = rw (thread_encoded f index t fit).part

-- pieces that fit
abbrev pub PieceFits : Format → (Key → ℕ) → Piece → Type 0
PieceFits f index (words ns) = AllWords ns
PieceFits f index (stream b) = length b ≤ f.longest
PieceFits f index (refers x) = ReferentFits f index x

abbrev pub PiecesFit : Format → (Key → ℕ) → List Piece → Type 0
PiecesFit f index [] = Unit {0}
PiecesFit f index (p ∷ ps) = PieceFits f index p × PiecesFit f index ps

-- a record whose pieces, arguments and last words fit, and that is small enough for one record
pub record LayoutFits (f : Format) (index : Key → ℕ) (l : ItemLayout) : Type 0 where
  pub pieces : PiecesFit f index l.pieces
  pub arguments : AllFit f index l.arguments
  pub last : AllWords l.last
  pub size : layout_words index l ≤ 4095

-- what is asked of a record that refers to texts and threads, whatever the indexes are
pub record ReportSuits (r : Report) : Type 0 where
  pub own : OwnSuits r.own (referent_table r.first) (referent_table r.second) (referent_table r.third) (length r.stream) (length r.arguments)
  pub absent : Absent r.own (r.first ≡ text_referent (known [])) (r.second ≡ text_referent (known [])) (r.third ≡ text_referent (known []))
  pub no_last : (own_layout r.own).behind ≡ 0 → r.last ≡ 0

-- what is asked of an item's header, whatever the indexes are; a skipped record is never written
abbrev pub KindSuits : Item → Type 0
KindSuits magic = Unit {0}
KindSuits (provider_info id name) = (id < 2 ^ 32) × (length name < 2 ^ 8)
KindSuits (section id) = id < 2 ^ 32
KindSuits (provider_event id e) = (id < 2 ^ 32) × (e < 2 ^ 4)
KindSuits (initialization rate) = Unit {0}
KindSuits (report r) = ReportSuits r
KindSuits (skipped type size) = ⊥

-- an item whose values fit their fields, where these are the indexes of its keys; the empty text has none
pub record ItemFits (f : Format) (index : Key → ℕ) (i : Item) : Type 0 where
  pub suits : KindSuits i
  pub empty : index (text_key []) ≡ 0
  pub layout : LayoutFits f index (layout_of_item i)

-- the words of a referent are at most those of a text or of a thread
pub referent_words : (f : Format) (index : Key → ℕ) (x : Referent) → ReferentFits f index x
    → part_words (encoded_referent index x) ≤ 2 + stream_words f.longest
referent_words f index (text_referent t) fit = omega (arith, (text_encoded f index t fit).words)
referent_words f index (thread_referent t) fit = omega (arith, (thread_encoded f index t fit).words)

-- ---- reading

-- pieces that fit can be written
piece_fine : (f : Format) (index : Key → ℕ) (x : Referent) → ReferentFits f index x → Fine f (encoded_referent index x)
piece_fine f index (text_referent t) fit = (text_encoded f index t fit).fine
piece_fine f index (thread_referent t) fit = (thread_encoded f index t fit).fine

pub pieces_fine : (f : Format) (index : Key → ℕ) (ps : List Piece) → PiecesFit f index ps → AllFine f (encoded_pieces index ps)
pieces_fine f index [] fit = tt
pieces_fine f index (words ns ∷ ps) fit = (fit.0, pieces_fine f index ps fit.1)
pieces_fine f index (stream b ∷ ps) fit = (fit.0, pieces_fine f index ps fit.1)
pieces_fine f index (refers x ∷ ps) fit = (piece_fine f index x fit.0, pieces_fine f index ps fit.1)

module _ (f : Format) (index : Key → ℕ) (l : ItemLayout) where
  abbrev pieces : List Encoded
  pieces = encoded_pieces index l.pieces

  -- where a record stands, its pieces stand behind its header
  pub pieces_at : (bytes : List ℕ) (place : ℕ) → At bytes place (layout_record f index l) → At bytes (place + 8) (parts_bytes f pieces)
  pieces_at bytes place at =
      at_left bytes (place + 8) (parts_bytes f pieces) (behind_pieces f index l)
      (body_at f l.type (layout_header index l) (layout_body f index l) bytes place at)

  -- and its arguments and last words behind these
  pub behind_at : (bytes : List ℕ) (place : ℕ) → At bytes place (layout_record f index l)
      → At bytes (place + 8 + length (parts_bytes f pieces)) (behind_pieces f index l)
  behind_at bytes place at =
      at_right bytes (place + 8) (parts_bytes f pieces) (behind_pieces f index l)
      (body_at f l.type (layout_header index l) (layout_body f index l) bytes place at)

  -- the references of its pieces spell them
  pub pieces-spelled : (bytes : List ℕ) (place : ℕ) → PiecesFit f index l.pieces → At bytes place (layout_record f index l)
      → AllSpell f bytes (references_at f pieces (place + 8)) pieces
  pieces-spelled bytes place fit at =
      all_spelled f bytes (place + 8) pieces (pieces_fine f index l.pieces fit) (pieces_at bytes place at)

  -- a record has its header, its pieces and what stands behind them
  pub length_all : length (layout_record f index l) ≡ 8 + length (parts_bytes f pieces) + length (behind_pieces f index l)
  length_all =
      omega (
        arith,
        length_record f l.type (layout_header index l) (layout_body f index l),
        length-append (parts_bytes f pieces) (behind_pieces f index l),
      )

  -- reading takes its pieces
  pub pieces_read : (place : ℕ) → PiecesFit f index l.pieces
      → take_parts f (map part_of pieces) (place + 8) (layout_record f index l) place
      ≡ body (references_at f pieces (place + 8)) (place + 8 + length (parts_bytes f pieces))
  pieces_read place fit =
      parts_read f pieces (place + 8) (layout_record f index l) place (pieces_fine f index l.pieces fit) (omega (arith, length_all))
