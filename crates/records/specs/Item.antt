-- The items that an archive is read as, after "The list of items" of document 01: texts as bytes, threads as two words, no places.
-- How each item's record is laid out; from that its uses of texts and threads, the words that it takes without them, and whether it is unresolved.
use Rattle.std.specs.Prelude.{ℕ, ◌-◌, [], List, ◌∷◌, ◌++◌, Bool, true, false, ◌||◌, eqb, length, replicate}
use Rattle.std.proofs.Math.Option.{Option, none}
use Rattle.words.specs.Word.{pick, Field, ◌of◌}
use Rattle.words.specs.Stream.{stream_words}
use Rattle.arguments.specs.declared.Scalar.{Scalar}
use Rattle.records.specs.declared.Event.{Event}
use Rattle.records.specs.declared.Log.{Log}
use Rattle.records.specs.declared.Own.{Own}
use Rattle.records.specs.declared.Own.TheVariants.{Event as EventOwn, Log as LogOwn}
use Rattle.records.specs.Layout.{extra_words}

-- what a reference is shown as: what it stands for, or "unresolved with its index"
pub data Shown (A : Type 0) : Type 0 where
  known : A → Shown A
  unresolved : ℕ → Shown A

-- "threads by their two words"
pub data Thread : Type 0 where
  thread : (process thread : ℕ) → Thread

abbrev pub Text : Type 0
Text = Shown (List ℕ)

pub data Value : Type 0 where
  scalar : Scalar → Value
  text : Text → Value

pub record Argument : Type 0 where
  pub name : Text
  pub value : Value

-- what a record refers to, as it is shown
pub data Referent : Type 0 where
  text_referent : Text → Referent
  thread_referent : Shown Thread → Referent

-- "An event item holds its provider id or none, type, timestamp, the rate in force, process and thread (or unresolved), category, name,
-- arguments, and extra word": type and timestamp are its own, its references are thread, category and name, its last word is the extra word,
-- 0 where the type has none, and it has no stream. A log's own is its timestamp, its reference is the thread, its stream is the message
-- ("provider or none, timestamp, rate in force, process and thread or unresolved, message"). A reference that a kind has not is the empty text.
pub record Report : Type 0 where
  pub provider : Option ℕ
  pub rate : ℕ
  pub own : Own
  pub first : Referent
  pub second : Referent
  pub third : Referent
  pub stream : List ℕ
  pub arguments : List Argument
  pub last : ℕ

-- "Each magic, provider info (id, name), section (id), provider event (id, event), initialization (rate), event and
-- skipped record (record type, size in words) is one item, in order."
pub data Item : Type 0 where
  magic : Item
  provider_info : (id : ℕ) (name : List ℕ) → Item
  section : (id : ℕ) → Item
  provider_event : (id event : ℕ) → Item
  initialization : (rate : ℕ) → Item
  report : Report → Item
  skipped : (type size : ℕ) → Item

-- ---- how a record is laid out

-- a piece of a body before its arguments: words, a stream that is no reference, or what the record refers to
pub data Piece : Type 0 where
  words stream : List ℕ → Piece
  refers : Referent → Piece

-- the record of an item: its type, the context whose indexes it uses, its header behind type and size, given what stands there for a piece
-- (a reference, or the length of a stream), its body up to the arguments, these, and the words behind them
pub record ItemLayout : Type 0 where
  pub type : ℕ
  pub provider : Option ℕ
  pub fields : (Piece → ℕ) → List Field
  pub pieces : List Piece
  pub arguments : List Argument
  pub last : List ℕ

-- what is particular to a kind, as it is laid out: the type of its records, their header behind that and the size, from the count of arguments,
-- the three references and the length of the stream, their leading words, and how many words stand behind the arguments
pub record OwnLayout : Type 0 where
  pub type : ℕ
  pub header : (count first second third long : ℕ) → List Field
  pub words : List ℕ
  pub behind : ℕ

-- an event
abbrev pub event_fields : (type count first second third : ℕ) → List Field
event_fields type count first second third = type of 4 ∷ count of 4 ∷ first of 8 ∷ second of 16 ∷ third of 16 ∷ []

abbrev pub event_own_layout : Event → OwnLayout
event_own_layout e =
    record {
      type = 4;
      header = λ count first second third long. event_fields e.variant count first second third;
      words = e.timestamp ∷ [];
      behind = extra_words e.variant;
    }

-- a log
abbrev pub log_fields : (long first : ℕ) → List Field
log_fields long first = long of 15 ∷ 0 of 1 ∷ first of 8 ∷ 0 of 24 ∷ []

abbrev pub log_own_layout : Log → OwnLayout
log_own_layout l =
    record {
      type = 9;
      header = λ count first second third long. log_fields long first;
      words = l.timestamp ∷ [];
      behind = 0;
    }

abbrev pub own_layout : Own → OwnLayout
own_layout (EventOwn e) = event_own_layout e
own_layout (LogOwn l) = log_own_layout l

abbrev pub last_words : ℕ → ℕ → List ℕ
last_words behind last = pick (eqb behind 0) [] (last ∷ [])

-- a record that refers to texts and threads
abbrev pub report_layout : Report → ItemLayout
report_layout r =
    record {
      type = (own_layout r.own).type;
      provider = r.provider;
      fields = λ given. (own_layout r.own).header (length r.arguments) (given (refers r.first)) (given (refers r.second))
          (given (refers r.third)) (given (stream r.stream));
      pieces = words (own_layout r.own).words ∷ refers r.first ∷ refers r.second ∷ refers r.third ∷ stream r.stream ∷ [];
      arguments = r.arguments;
      last = last_words (own_layout r.own).behind r.last;
    }

-- a record that refers to nothing
abbrev pub bare_layout : ℕ → List Field → List Piece → ItemLayout
bare_layout type fields pieces =
    record { type = type; provider = none; fields = λ given. fields; pieces = pieces; arguments = []; last = [] }

-- every item's record; a skipped one is never written, since repacking refuses it: what stands here for it has its size
abbrev pub layout_of_item : Item → ItemLayout
layout_of_item magic = bare_layout 0 (4 of 4 ∷ 0 of 4 ∷ 0x16547846 of 32 ∷ 0 of 8 ∷ []) []
layout_of_item (provider_info id name) = bare_layout 0 (1 of 4 ∷ id of 32 ∷ length name of 8 ∷ 0 of 4 ∷ []) (stream name ∷ [])
layout_of_item (section id) = bare_layout 0 (2 of 4 ∷ id of 32 ∷ 0 of 12 ∷ []) []
layout_of_item (provider_event id e) = bare_layout 0 (3 of 4 ∷ id of 32 ∷ e of 4 ∷ 0 of 8 ∷ []) []
layout_of_item (initialization rate) = bare_layout 1 (0 of 48 ∷ []) (words (rate ∷ []) ∷ [])
layout_of_item (report r) = report_layout r
layout_of_item (skipped type size) = bare_layout type (0 of 48 ∷ []) (words (replicate (size - 1) 0) ∷ [])

-- the context whose indexes an item's record uses
abbrev pub item_provider : Item → Option ℕ
item_provider i = (layout_of_item i).provider

-- ---- keys

-- what a string or thread record registers
pub data Key : Type 0 where
  text_key : List ℕ → Key
  thread_key : Thread → Key

-- the words that a key takes inline
abbrev pub key_words : Key → ℕ
key_words (text_key bytes) = stream_words (length bytes)
key_words (thread_key t) = 2

-- a use of a key, in the context of a provider or of none
pub record Use : Type 0 where
  pub provider : Option ℕ
  pub key : Key

-- an empty text is no use, and neither is an unresolved reference
abbrev pub text_uses : Option ℕ → Text → List Use
text_uses provider (known []) = []
text_uses provider (known (b ∷ bs)) = record { provider = provider; key = text_key (b ∷ bs) } ∷ []
text_uses provider (unresolved index) = []

abbrev pub thread_uses : Option ℕ → Shown Thread → List Use
thread_uses provider (known t) = record { provider = provider; key = thread_key t } ∷ []
thread_uses provider (unresolved index) = []

abbrev pub referent_uses : Option ℕ → Referent → List Use
referent_uses provider (text_referent t) = text_uses provider t
referent_uses provider (thread_referent t) = thread_uses provider t

abbrev pub value_uses : Option ℕ → Value → List Use
value_uses provider (scalar s) = []
value_uses provider (text t) = text_uses provider t

abbrev pub arguments_uses : Option ℕ → List Argument → List Use
arguments_uses provider [] = []
arguments_uses provider (a ∷ l) = text_uses provider a.name ++ (value_uses provider a.value ++ arguments_uses provider l)

-- ---- uses

abbrev pub piece_uses : Option ℕ → Piece → List Use
piece_uses provider (words ns) = []
piece_uses provider (stream b) = []
piece_uses provider (refers x) = referent_uses provider x

-- the uses of pieces, and more behind them
abbrev pub pieces_uses : Option ℕ → List Piece → List Use → List Use
pieces_uses provider [] more = more
pieces_uses provider (p ∷ ps) more = piece_uses provider p ++ pieces_uses provider ps more

-- "thread, then strings by first use in that record": the uses of a record in the order of registration
abbrev pub layout_uses : ItemLayout → List Use
layout_uses l = pieces_uses l.provider l.pieces (arguments_uses l.provider l.arguments)

abbrev pub uses_of : Item → List Use
uses_of i = layout_uses (layout_of_item i)

-- ---- unresolved references

abbrev pub is_unresolved : {A : Type 0} → Shown A → Bool
is_unresolved (known a) = false
is_unresolved (unresolved index) = true

abbrev pub referent_unresolved : Referent → Bool
referent_unresolved (text_referent t) = is_unresolved t
referent_unresolved (thread_referent t) = is_unresolved t

abbrev pub value_unresolved : Value → Bool
value_unresolved (scalar s) = false
value_unresolved (text t) = is_unresolved t

abbrev pub arguments_unresolved : List Argument → Bool
arguments_unresolved [] = false
arguments_unresolved (a ∷ l) = is_unresolved a.name || (value_unresolved a.value || arguments_unresolved l)

abbrev pub piece_unresolved : Piece → Bool
piece_unresolved (words ns) = false
piece_unresolved (stream b) = false
piece_unresolved (refers x) = referent_unresolved x

abbrev pub pieces_unresolved : List Piece → Bool → Bool
pieces_unresolved [] more = more
pieces_unresolved (p ∷ ps) more = piece_unresolved p || pieces_unresolved ps more

-- whether an item has an unresolved reference
abbrev pub unresolved_in : Item → Bool
unresolved_in i = pieces_unresolved (layout_of_item i).pieces (arguments_unresolved (layout_of_item i).arguments)
