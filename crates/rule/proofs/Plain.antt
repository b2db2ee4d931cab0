-- Items whose values fit their fields: at the small size they can be written with any indexes that the tables hold.
-- Assumes nothing.
use Prim.Native.Nat.{ℕ, ◌^◌, ◌≤◌, ◌<◌}
use mathlib.Core.Path.{◌≡◌}
use mathlib.Core.List.{[], List, ◌∷◌, ◌++◌}
use mathlib.Core.Option.{Option}
use native.Mathlib.Omega.{arith}
use lib.ListN.{length}
use Rattle.format.specs.declared.Format.{Format}
use Rattle.format.specs.Limits.{small_format}
use Rattle.records.specs.Item.{Shown, known, unresolved, Thread, thread, Text, Value, scalar, text, Argument, Referent, text_referent, thread_referent, Item, Piece}
use Rattle.records.specs.Item.{words, stream, refers, layout_of_item, Key, text_key, thread_key, Use, text_uses, thread_uses, referent_uses, value_uses, arguments_uses, pieces_uses, uses_of}
use Rattle.arguments.proofs.Bounds.{ScalarFits}
use Rattle.records.proofs.Bounds.{AllWords}
use Rattle.encoding.proofs.EncodedArguments.{TextFits, ValueFits, AllFit}
use Rattle.encoding.proofs.EncodedLayouts.{ThreadFits, ReferentFits, PiecesFit, KindSuits, ItemFits}
use Rattle.encoding.proofs.EncodedItems.{small_item}
use Rattle.rule.specs.Refusal.{limit_of}
use Rattle.rule.proofs.Entries.{KeyFits}

-- ---- items that fit whatever their indexes are

-- a text that is known and short enough
abbrev pub TextPlain : Format → Text → Type 0
TextPlain f (known b) = length b ≤ f.longest
TextPlain f (unresolved index) = ⊥

-- a thread that is known, of two words
abbrev pub ThreadPlain : Shown Thread → Type 0
ThreadPlain (known (thread p t)) = (p < 2 ^ 64) × (t < 2 ^ 64)
ThreadPlain (unresolved index) = ⊥

-- a scalar that fits its field, or such a text
abbrev pub ValuePlain : Format → Value → Type 0
ValuePlain f (scalar s) = ScalarFits s
ValuePlain f (text t) = TextPlain f t

-- arguments whose names and values are so
abbrev pub ArgumentsPlain : Format → List Argument → Type 0
ArgumentsPlain f [] = Unit {0}
ArgumentsPlain f (a ∷ l) = TextPlain f a.name × ValuePlain f a.value × ArgumentsPlain f l

-- what a record refers to is so
abbrev pub ReferentPlain : Format → Referent → Type 0
ReferentPlain f (text_referent t) = TextPlain f t
ReferentPlain f (thread_referent t) = ThreadPlain t

-- pieces whose values fit
abbrev pub PiecesPlain : Format → List Piece → Type 0
PiecesPlain f [] = Unit {0}
PiecesPlain f (words ns ∷ ps) = AllWords ns × PiecesPlain f ps
PiecesPlain f (stream b ∷ ps) = (length b ≤ f.longest) × PiecesPlain f ps
PiecesPlain f (refers x ∷ ps) = ReferentPlain f x × PiecesPlain f ps

-- an item whose values fit
pub record ItemPlain (f : Format) (i : Item) : Type 0 where
  pub suits : KindSuits i
  pub pieces : PiecesPlain f (layout_of_item i).pieces
  pub arguments : ArgumentsPlain f (layout_of_item i).arguments
  pub last : AllWords (layout_of_item i).last

-- ---- so they are written, at the small size

-- indexes that the tables hold, none of the empty text
pub record Low (index : Key → ℕ) : Type 0 where
  pub limited : (key : Key) → index key ≤ limit_of small_format key
  pub empty : index (text_key []) ≡ 0

text-fits : (index : Key → ℕ) (t : Text) → Low index → TextPlain small_format t → TextFits small_format index t
text-fits index (known b) low h = (h, omega arith, omega (arith, low.limited (text_key b)))
text-fits index (unresolved i) low h = h

thread-fits : (index : Key → ℕ) (t : Shown Thread) → Low index → ThreadPlain t → ThreadFits index t
thread-fits index (known (thread p t)) low h = (h.0, h.1, omega (arith, low.limited (thread_key (thread p t))))
thread-fits index (unresolved i) low h = h

referent_fits : (index : Key → ℕ) (s : Referent) → Low index → ReferentPlain small_format s → ReferentFits small_format index s
referent_fits index (text_referent t) low h = text-fits index t low h
referent_fits index (thread_referent t) low h = thread-fits index t low h

value-fits : (index : Key → ℕ) (v : Value) → Low index → ValuePlain small_format v → ValueFits small_format index v
value-fits index (scalar s) low h = h
value-fits index (text t) low h = text-fits index t low h

arguments_fit : (index : Key → ℕ) (l : List Argument) → Low index → ArgumentsPlain small_format l → AllFit small_format index l
arguments_fit index [] low h = tt
arguments_fit index (a ∷ l) low h =
    (record { name = text-fits index a.name low h.0; value = value-fits index a.value low h.1 }, arguments_fit index l low h.2)

pieces_fit : (index : Key → ℕ) (ps : List Piece) → Low index → PiecesPlain small_format ps → PiecesFit small_format index ps
pieces_fit index [] low h = tt
pieces_fit index (words ns ∷ ps) low h = (h.0, pieces_fit index ps low h.1)
pieces_fit index (stream b ∷ ps) low h = (h.0, pieces_fit index ps low h.1)
pieces_fit index (refers x ∷ ps) low h = (referent_fits index x low h.0, pieces_fit index ps low h.1)

-- a plain item fits with any indexes that the tables hold
pub plain_fits : (index : Key → ℕ) (i : Item) → Low index → ItemPlain small_format i → ItemFits small_format index i
plain_fits index i low h =
    let pieces = pieces_fit index (layout_of_item i).pieces low h.pieces in
    let arguments = arguments_fit index (layout_of_item i).arguments low h.arguments in
    record {
      suits = h.suits;
      empty = low.empty;
      layout = record { pieces = pieces; arguments = arguments; last = h.last; size = small_item index i h.suits pieces arguments };
    }

-- ---- and so are their keys

-- a key that is not the empty text
abbrev pub SomeKey : Key → Type 0
SomeKey (text_key []) = ⊥
SomeKey (text_key (b ∷ bs)) = Unit {0}
SomeKey (thread_key t) = Unit {0}

-- the keys of these uses fit under every index of their table, and none is the empty text
abbrev pub KeysPlain : List Use → Type 0
KeysPlain [] = Unit {0}
KeysPlain (u ∷ us) =
    ((index : ℕ) → 0 < index → index ≤ limit_of small_format u.key → KeyFits small_format index u.key) × SomeKey u.key × KeysPlain us

keys_both : (us vs : List Use) → KeysPlain us → KeysPlain vs → KeysPlain (us ++ vs)
keys_both [] vs h k = k
keys_both (u ∷ us) vs h k = (h.0, h.1, keys_both us vs h.2 k)

text-keys : (provider : Option ℕ) (t : Text) → TextPlain small_format t → KeysPlain (text_uses provider t)
text-keys provider (known []) h = tt
text-keys provider (known (b ∷ bs)) h = (
  λ index some low. record {
    some = some;
    low = low;
    index_bits = omega arith;
    short = h;
    length_bits = omega arith;
    size_bits = omega arith;
  },
  tt,
  tt,
)
text-keys provider (unresolved i) h = tt

thread-keys : (provider : Option ℕ) (t : Shown Thread) → ThreadPlain t → KeysPlain (thread_uses provider t)
thread-keys provider (known (thread p t)) h = (λ index some low. (some, omega arith, h.0, h.1), tt, tt)
thread-keys provider (unresolved i) h = tt

referent_keys : (provider : Option ℕ) (s : Referent) → ReferentPlain small_format s → KeysPlain (referent_uses provider s)
referent_keys provider (text_referent t) h = text-keys provider t h
referent_keys provider (thread_referent t) h = thread-keys provider t h

value-keys : (provider : Option ℕ) (v : Value) → ValuePlain small_format v → KeysPlain (value_uses provider v)
value-keys provider (scalar s) h = tt
value-keys provider (text t) h = text-keys provider t h

arguments-keys : (provider : Option ℕ) (l : List Argument) → ArgumentsPlain small_format l → KeysPlain (arguments_uses provider l)
arguments-keys provider [] h = tt
arguments-keys provider (a ∷ l) h =
    keys_both (text_uses provider a.name) (value_uses provider a.value ++ arguments_uses provider l) (text-keys provider a.name h.0)
    (keys_both (value_uses provider a.value) (arguments_uses provider l) (value-keys provider a.value h.1) (arguments-keys provider l h.2))

-- the keys of a plain item do
pieces-keys : (provider : Option ℕ) (ps : List Piece) (more : List Use) → PiecesPlain small_format ps → KeysPlain more → KeysPlain (pieces_uses provider ps more)
pieces-keys provider [] more h k = k
pieces-keys provider (words ns ∷ ps) more h k = pieces-keys provider ps more h.1 k
pieces-keys provider (stream b ∷ ps) more h k = pieces-keys provider ps more h.1 k
pieces-keys provider (refers x ∷ ps) more h k =
    keys_both (referent_uses provider x) (pieces_uses provider ps more) (referent_keys provider x h.0) (pieces-keys provider ps more h.1 k)

pub plain-keys : (i : Item) → ItemPlain small_format i → KeysPlain (uses_of i)
plain-keys i h =
    let l = layout_of_item i in
    pieces-keys l.provider l.pieces (arguments_uses l.provider l.arguments) h.pieces
    (arguments-keys l.provider l.arguments h.arguments)
