-- Items as they are written read back: every item's record is read as all of its bytes, and each that refers to nothing as itself.
-- Assumes nothing.
use Prim.Native.Nat.{ℕ, ◌+◌, ◌<◌, ◌≤◌}
use mathlib.Core.Path.{◌≡◌, refl, ◌∙◌}
use mathlib.Core.List.{List, [], ◌∷◌, append-nil}
use native.Mathlib.Omega.{arith}
use lib.ListN.{length}
use Rattle.words.specs.declared.Order.{Order}
use Rattle.words.specs.declared.Order.TheVariants.{Little}
use Rattle.words.specs.Word.{little, little_at, bytes_of, word_at, word_bytes, ◌of◌, pack}
use Rattle.words.specs.Stream.{padded, magic as magic_bytes, starts_with_magic}
use Rattle.words.proofs.Words.{At}
use Rattle.format.specs.declared.Format.{Format}
use Rattle.format.specs.Limits.{small_format}
use Rattle.format.specs.Part.{take_part, take_parts}
use Rattle.records.specs.declared.Content.TheVariants.{Magic, ProviderInfo, Section, ProviderEvent, Initialization}
use Rattle.records.specs.Layout.{is_event, event_layout, layout_of}
use Rattle.records.specs.Record.{provider_info_of, metadata_of, initialization_of, content_of, record_at}
use Rattle.records.specs.Item.{Item, magic, provider_info, section, provider_event, initialization, report, skipped, layout_of_item, stream, words, Key, text_key}
use Rattle.encoding.specs.Encoded.{parts_bytes, encoded_pieces, record_bytes, layout_header, layout_body, item_record}
use Rattle.encoding.proofs.EncodedParts.{words_read_lem, stream_read}
use Rattle.encoding.proofs.EncodedRecords.{RecordFits, at_start, own-field, record_at_lem}
use Rattle.encoding.proofs.EncodedArguments.{AllFit}
use Rattle.encoding.proofs.EncodedLayouts.{layout_words, length-body, length_layout, PiecesFit, KindSuits, ItemFits, pieces-spelled}
use Rattle.encoding.proofs.EncodedReports.{own_encoded, small_report}

-- ---- any item

-- the record of an item can be written: its values fit their fields, and its type is none of a large record
pub record ItemRecordFits (f : Format) (index : Key → ℕ) (i : Item) : Type 0 where
  pub known : (layout_of_item i).type < 15
  pub fits : RecordFits (layout_of_item i).type (layout_header index (layout_of_item i)) (layout_body f index (layout_of_item i))

-- it can where the item fits
pub item_fits : (f : Format) (index : Key → ℕ) (i : Item) → ItemFits f index i → ItemRecordFits f index i
item_fits f index magic fit = record { known = omega arith; fits = record { fits = omega arith; full = refl; whole = refl } }
item_fits f index (provider_info id name) fit =
    let size = length-body f index (layout_of_item (provider_info id name)) in
    record { known = omega arith; fits = record { fits = omega (arith, size, fit.layout.size, fit.suits); full = refl; whole = omega (arith, size) } }
item_fits f index (section id) fit =
    record { known = omega arith; fits = record { fits = omega (arith, fit.suits); full = refl; whole = refl } }
item_fits f index (provider_event id e) fit =
    record { known = omega arith; fits = record { fits = omega (arith, fit.suits); full = refl; whole = refl } }
item_fits f index (initialization rate) fit =
    let size = length-body f index (layout_of_item (initialization rate)) in
    record { known = omega arith; fits = record { fits = omega (arith, size); full = refl; whole = omega (arith, size) } }
item_fits f index (report r) fit = let own = own_encoded f index r fit in record { known = own.known; fits = own.fits }
item_fits f index (skipped type size) fit = absurd fit.suits

-- an item's record has a word at least
pub item_long : (f : Format) (index : Key → ℕ) (i : Item) → 8 ≤ length (item_record f index i)
item_long f index i = omega (arith, length_layout f index (layout_of_item i))

-- where an item's record stands, it is read as all of its bytes
pub item_stands : (f : Format) (index : Key → ℕ) (archive : List ℕ) (place : ℕ) (i : Item) → ItemFits f index i
    → At archive place (item_record f index i)
    → record_at f archive place ≡ record { content = content_of f (item_record f index i) place; next = place + length (item_record f index i) }
item_stands f index archive place i fit at = let h = item_fits f index i fit in record_at_lem f h.fits h.known archive place at

-- with strings of at most 256 bytes every item is small enough for one record
pub small_item : (index : Key → ℕ) (i : Item) → KindSuits i → PiecesFit small_format index (layout_of_item i).pieces
    → AllFit small_format index (layout_of_item i).arguments → layout_words index (layout_of_item i) ≤ 4095
small_item index magic suits pieces fit = omega arith
small_item index (provider_info id name) suits pieces fit = omega (arith, pieces.0)
small_item index (section id) suits pieces fit = omega arith
small_item index (provider_event id e) suits pieces fit = omega arith
small_item index (initialization rate) suits pieces fit = omega arith
small_item index (report r) suits pieces fit = small_report index r suits pieces fit
small_item index (skipped type size) suits pieces fit = absurd suits

-- ---- items that refer to nothing

-- the magic fits
pub magic-fits : (f : Format) (index : Key → ℕ) → index (text_key []) ≡ 0 → ItemFits f index magic
magic-fits f index none = record { suits = tt; empty = none; layout = record { pieces = tt; arguments = tt; last = tt; size = omega arith } }

-- the magic as a word, in each order
abbrev magic_word : ℕ
magic_word = pack (0 of 4 ∷ 1 of 12 ∷ 4 of 4 ∷ 0 of 4 ∷ 0x16547846 of 32 ∷ 0 of 8 ∷ [])

magic_bytes_lem : (o : Order) → word_bytes o magic_word ≡ magic_bytes
unfolding magic_bytes word_bytes bytes_of
magic_bytes_lem Little = refl

magic-word : (o : Order) → word_at o magic_bytes 0 ≡ magic_word
unfolding magic_bytes word_at little_at little
magic-word Little = refl

-- the magic is its eight bytes
pub magic_record : (f : Format) (index : Key → ℕ) → item_record f index magic ≡ magic_bytes
magic_record f index = append-nil (word_bytes f.order magic_word) ∙ magic_bytes_lem f.order

-- a provider info is a header and a name, an initialization a header and a rate
pub provider_info_record : (f : Format) (index : Key → ℕ) (id : ℕ) (name : List ℕ)
    → item_record f index (provider_info id name) ≡ record_bytes f 0 (1 of 4 ∷ id of 32 ∷ length name of 8 ∷ 0 of 4 ∷ []) (padded name)
provider_info_record f index id name =
    rw (append-nil (parts_bytes f (encoded_pieces index (stream name ∷ []))), append-nil (padded name))

pub initialization_record : (f : Format) (index : Key → ℕ) (rate : ℕ)
    → item_record f index (initialization rate) ≡ record_bytes f 1 (0 of 48 ∷ []) (word_bytes f.order rate)
initialization_record f index rate =
    rw (append-nil (parts_bytes f (encoded_pieces index (words (rate ∷ []) ∷ []))), append-nil (word_bytes f.order rate), append-nil (word_bytes f.order rate))

module _ (f : Format) (index : Key → ℕ) (place : ℕ) where
  -- the magic is read as the magic
  pub magic_read : content_of f (item_record f index magic) place ≡ Magic
  unfolding content_of layout_of event_layout is_event metadata_of magic_bytes starts_with_magic
  magic_read = rw (magic_record f index, magic-word f.order)

  -- a provider info is read as its id and its name, which stands behind the header
  pub provider_info_read : (id : ℕ) (name : List ℕ) → ItemFits f index (provider_info id name)
      → content_of f (item_record f index (provider_info id name)) place ≡ ProviderInfo id (place + 8) (length name)
  unfolding content_of layout_of event_layout is_event metadata_of provider_info_of take_parts take_part
  provider_info_read id name fit =
      let i = provider_info id name in
      let fits = (item_fits f index i fit).fits in
      rw (
        own-field f fits 0,
        own-field f fits 2,
        own-field f fits 3,
        own-field f fits 4,
        stream_read f (length name) (place + 8) (item_record f index i) place fit.layout.pieces.0
            (omega (arith, length_layout f index (layout_of_item i))),
      )

  -- a section is read as its id
  pub section_read : (id : ℕ) → ItemFits f index (section id) → content_of f (item_record f index (section id)) place ≡ Section id
  unfolding content_of layout_of event_layout is_event metadata_of
  section_read id fit =
      let fits = (item_fits f index (section id) fit).fits in rw (own-field f fits 0, own-field f fits 2, own-field f fits 3)

  -- a provider event is read as its id and its event
  pub provider_event_read : (id e : ℕ) → ItemFits f index (provider_event id e)
      → content_of f (item_record f index (provider_event id e)) place ≡ ProviderEvent id e
  unfolding content_of layout_of event_layout is_event metadata_of
  provider_event_read id e fit =
      let fits = (item_fits f index (provider_event id e) fit).fits in
      rw (own-field f fits 0, own-field f fits 2, own-field f fits 3, own-field f fits 4)

  -- an initialization is read as its rate
  pub initialization_read : (rate : ℕ) → ItemFits f index (initialization rate)
      → content_of f (item_record f index (initialization rate)) place ≡ Initialization rate
  unfolding content_of layout_of event_layout is_event initialization_of take_parts take_part
  initialization_read rate fit =
      let i = initialization rate in
      let fits = (item_fits f index i fit).fits in
      let source = item_record f index i in
      rw (
        own-field f fits 0,
        words_read_lem 1 (place + 8) source place (omega (arith, length_layout f index (layout_of_item i))),
        (pieces-spelled f index (layout_of_item i) source 0 fit.layout.pieces (at_start source)).0.0,
      )
