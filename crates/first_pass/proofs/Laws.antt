-- Laws of the first pass that the code's proofs go by: the room taken apart, references counted one after the other, the walks over arguments,
-- and records that refer to nothing. Assumes nothing.
use Rattle.std.specs.Prelude.{Some}
use Prim.Native.Nat.{ℕ, zero, suc, ◌+◌, ◌-◌, ◌*◌, ◌/◌, ◌≤◌, ◌<◌}
use mathlib.Core.Path.{◌≡◌, refl, sym, ap, subst, ◌∙◌}
use mathlib.Core.List.{List, [], ◌∷◌, ◌++◌}
use mathlib.Core.Bool.{Bool, true, false, ◌&&◌, ◌||◌, and-true, and_assoc}
use mathlib.Core.Logic.{inl, inr}
use native.Mathlib.Omega.{arith}
use borrow.Author.Tests.{eqb-true}
use lib.Dec.{eqb, ltb}
use lib.ListN.{length, take, drop, length-append, length-drop, take-append-drop}
use lib.Seq.{length-take-le, take_at, drop_at}
use Rattle.records.specs.Models.Bounds.{ContentInside}
use Rattle.arguments.specs.Models.Reading.{texts, texts_of}
use Rattle.format.specs.Models.Bounds.{Inside}
use Rattle.format.specs.declared.Format.{Format}
use Rattle.words.specs.Word.{word_at}
use Rattle.words.proofs.Tests.{both_true}
use Rattle.format.specs.Part.{inline_bytes, padding_zero}
use Rattle.format.specs.declared.Reference.{Reference}
use Rattle.format.specs.declared.Reference.TheVariants.{Inline, Index}
use Rattle.arguments.specs.declared.Scalar.{Scalar}
use Rattle.arguments.specs.declared.Scalar.TheVariants.{Null, Signed32, Unsigned32, Signed64, Unsigned64, Double, Pointer, KernelObject, Boolean, Unknown}
use Rattle.arguments.specs.declared.Value.{Value}
use Rattle.arguments.specs.declared.Value.TheVariants.{Scalar as ScalarValue, Text}
use Rattle.arguments.specs.declared.Argument.{Argument}
use Rattle.arguments.specs.declared.Argued.{Argued}
use Rattle.format.specs.declared.Reason.{Reason}
use Rattle.std.specs.Prelude.{Result, Ok, Err}
use Rattle.arguments.specs.declared.Texts.{Texts}
use Rattle.arguments.specs.Argument.{argument_type, scalar_words, argued, argument_of, on_argued, text_in, arguments_read}
use Rattle.arguments.specs.Loss.{value_bytes, argument_bytes, reserved_bits, value_padding_zero, argument_keeps, arguments_keep}
use Rattle.arguments.proofs.Arguments.{argument_read, texts_read, keep_turn}
use Rattle.records.specs.declared.Lookup.{Lookup}
use Rattle.records.specs.declared.Report.{Report}
use Rattle.records.specs.declared.Content.TheVariants.{Report as ReportRead}
use Rattle.records.specs.Layout.{layout_of}
use Rattle.records.specs.Record.{record_at}
use Rattle.records.specs.Loss.{report_keeps, record_keeps}
use Rattle.contexts.specs.declared.State.{State}
use Rattle.records.specs.Lookups.{text_lookup, argument_lookups, report_lookups}
use Rattle.records.proofs.Lookups.{on_texts, lookups_turn}
use Rattle.tables.specs.Table.{table_words, resolved}
use Rattle.views.proofs.Lookups.{record_whole, part-behind}
use Rattle.reader.proofs.Changes.{IsTable}
use Rattle.format.proofs.Headers.{part_from}
use Rattle.passes.specs.Models.Memory.{recalled}
use Rattle.passes.proofs.Memory.{recalled-is}
use Rattle.passes.proofs.Rooms.{slots_back}
use Rattle.passes.proofs.Places.{LookupStands, LookupsStand, report_stands, arguments_stand}
use Rattle.first_pass.proofs.Memory.{can_stand, stands_can, recalled-low, recalled-counts, remembers_lookup, remembers_lookups}
use Rattle.tally.specs.Models.Slots.{used_again}
use Rattle.tally.specs.Models.Tally.{Wide}
use Rattle.first_pass.specs.Models.Count.{tables_in, slots_in, CanCount, Recalls, CanStand, AllKept, words_in, words_read, unresolved_in, any_unresolved, lookup_good, lookup_slots, lookups_good, lookups_slots, keeps_to}

-- ---- the room

-- a room whose first n words, the tables, stayed, and behind which these slots stand
pub record RoomAfter (n : ℕ) (room slots after : List ℕ) : Type 0 where
  pub tables : take n after ≡ take n room
  pub stand : drop n after ≡ slots
  pub wide : n ≤ length after

-- so is what a call that changes the slots leaves
pub room_after : (n : ℕ) (room slots after : List ℕ) → n ≤ length room → after ≡ take n room ++ slots → RoomAfter n room slots after
room_after n room slots after h e =
    let l = length-take-le n room h in
    record {
      tables = rw e (take_at (take n room) slots n l);
      stand = rw e (drop_at (take n room) slots n l);
      wide = rw (e, length-append (take n room) slots, l) (omega arith);
    }

-- slots that are lent on twice: the second call finds what the first left, and the room has what the second left
pub lent_twice : (n : ℕ) (room first second : List ℕ) → n ≤ length room
    → (drop n (take n room ++ (first ++ drop (length room - n) (drop n room))) ≡ first)
    × (take n (take n room ++ (first ++ drop (length room - n) (drop n room)))
    ++ (second ++ drop (length (take n room ++ (first ++ drop (length room - n) (drop n room))) - n)
    (drop n (take n room ++ (first ++ drop (length room - n) (drop n room)))))
    ≡ take n room ++ second)
lent_twice n room first second h =
    let back = slots_back n room first in
    let l = length-take-le n room h in
    let tables : take n (take n room ++ first) ≡ take n room = take_at (take n room) first n l in
    rw back (
      drop_at (take n room) first n l,
      slots_back n (take n room ++ first) second ∙ ap (λ (x : List ℕ). x ++ second) tables,
    )

-- ---- references that are counted

-- what is counted of references in a room: whether all is well, and the room after it
abbrev pub Counted : Format → List ℕ → List ℕ → ℕ → ℕ → List Lookup → Bool → List ℕ → Type 0
Counted f archive room context until ls good after =
    (good ≡ lookups_good f archive (tables_in f room) (slots_in f room) context until ls)
    × (after ≡ tables_in f room ++ lookups_slots f archive (tables_in f room) (slots_in f room) context until ls)

-- no references
pub counted_none : (f : Format) (archive room : List ℕ) (context until : ℕ) → Counted f archive room context until [] true room
unfolding lookups_good lookups_slots
counted_none f archive room context until = (refl, sym (take-append-drop (table_words f) room))

-- one, and then others
pub counted_then : (f : Format) (archive room : List ℕ) (context until : ℕ) (l : Lookup) (more : List Lookup) → table_words f ≤ length room
    → (good others : Bool) (after last : List ℕ)
    → (good ≡ lookup_good f archive (tables_in f room) (slots_in f room) context until l)
    × (after ≡ tables_in f room ++ lookup_slots f archive (tables_in f room) (slots_in f room) context until l)
    → Counted f archive after context until more others last → Counted f archive room context until (l ∷ more) (good && others) last
unfolding lookups_good lookups_slots
counted_then f archive room context until l more wide good others after last x y =
    let r = room_after (table_words f) room _ after wide x.1 in
    let y' = rw (r.tables, r.stand) at y in
    (rw (x.0, y'.0), y'.1)

module _ (f : Format) (archive tables : List ℕ) (context until : ℕ) where
  -- references in two parts are counted one part after the other
  goods_both : (slots : List ℕ) (a b : List Lookup)
      → lookups_good f archive tables slots context until (a ++ b)
      ≡ (lookups_good f archive tables slots context until a
      && lookups_good f archive tables (lookups_slots f archive tables slots context until a) context until b)
  unfolding lookups_good lookups_slots
  goods_both slots [] b = refl
  goods_both slots (l ∷ a) b =
      rw (goods_both (lookup_slots f archive tables slots context until l) a b)
      (sym (and_assoc (lookup_good f archive tables slots context until l) _ _))

  slots_both : (slots : List ℕ) (a b : List Lookup)
      → lookups_slots f archive tables slots context until (a ++ b)
      ≡ lookups_slots f archive tables (lookups_slots f archive tables slots context until a) context until b
  unfolding lookups_slots
  slots_both slots [] b = refl
  slots_both slots (l ∷ a) b = slots_both (lookup_slots f archive tables slots context until l) a b

  -- one turn of the walk over arguments that asks for unresolved references
  pub unresolved_turn : (n : ℕ) (rest : List ℕ) (place : ℕ) → 0 < n
      → any_unresolved f archive tables context until (argument_lookups (arguments_read f n rest place))
      ≡ on_texts (texts_of f rest place) false
      (λ name value size. unresolved_in (resolved f archive tables context 2 until name)
      || (unresolved_in (resolved f archive tables context 2 until value)
      || any_unresolved f archive tables context until (argument_lookups (arguments_read f (n - 1) (drop size rest) (place + size)))))
  unfolding any_unresolved
  unresolved_turn n rest place h = ap (any_unresolved f archive tables context until) (lookups_turn f n rest place h) ∙ go (texts_of f rest place)
    where
      go : (x : Result Texts Reason)
          → any_unresolved f archive tables context until
          (on_texts x [] (λ name value size.
          text_lookup name ∷ text_lookup value ∷ argument_lookups (arguments_read f (n - 1) (drop size rest) (place + size))))
          ≡ on_texts x false
          (λ name value size. unresolved_in (resolved f archive tables context 2 until name)
          || (unresolved_in (resolved f archive tables context 2 until value)
          || any_unresolved f archive tables context until (argument_lookups (arguments_read f (n - 1) (drop size rest) (place + size)))))
      go (Err reason) = refl
      go (Ok read) = refl

-- ---- the words of arguments

-- a scalar takes one word at most
scalar-words-few : (s : Scalar) → scalar_words s ≤ 1
scalar-words-few Null = omega arith
scalar-words-few (Signed32 n) = omega arith
scalar-words-few (Unsigned32 n) = omega arith
scalar-words-few (Signed64 n) = omega arith
scalar-words-few (Unsigned64 n) = omega arith
scalar-words-few (Double n) = omega arith
scalar-words-few (Pointer n) = omega arith
scalar-words-few (KernelObject n) = omega arith
scalar-words-few (Boolean b) = omega arith
scalar-words-few (Unknown type) = omega arith

-- and so does the value of an argument
words_in_few : (v : Value) → words_in v ≤ 1
unfolding words_in
words_in_few (ScalarValue s) = scalar-words-few s
words_in_few (Text reference) = omega arith

-- so many arguments take two words each at most
pub words-few : (f : Format) (n : ℕ) (rest : List ℕ) (place : ℕ) → words_read (arguments_read f n rest place) ≤ 2 * n
unfolding arguments_read words_read
words-few f zero rest place = omega arith
words-few f (suc n) rest place = go (λ more at. words-few f n more at) (argument_of f rest place)
  where
    go : ((more : List ℕ) (at : ℕ) → words_read (arguments_read f n more at) ≤ 2 * n) → (x : Result Argued Reason)
        → words_read (on_argued x (λ reason. []) (λ a size. a ∷ arguments_read f n (drop size rest) (place + size))) ≤ 2 * suc n
    go few (Err reason) = omega arith
    go few (Ok read) = omega (arith, words_in_few read.argument.value, few (drop read.size rest) (place + read.size))

-- ---- the walk that counts so many arguments

-- one turn of it: the first argument, then the rest
read_turn : (f : Format) (n : ℕ) (rest : List ℕ) (place : ℕ) → 0 < n
    → arguments_read f n rest place
    ≡ on_argued (argument_of f rest place) (λ reason. []) (λ a size. a ∷ arguments_read f (n - 1) (drop size rest) (place + size))
unfolding arguments_read
read_turn f zero rest place h = absurd (omega arith)
read_turn f (suc n) rest place h = let e : suc n - 1 ≡ n = omega arith in rw e

-- where all arguments lose nothing, the first of them does not, nor do those behind it
kept_turn : (f : Format) (n : ℕ) (rest : List ℕ) (place : ℕ) (a : Argument) (size : ℕ) → 0 < n → argument_of f rest place ≡ argued a size
    → AllKept f n rest place → (argument_keeps f rest place a size ≡ true) × AllKept f (n - 1) (drop size rest) (place + size)
kept_turn f n rest place a size h e (extra, k) =
    let turn = rw (keep_turn f n rest place extra h, e) at k in
    let both = both_true (argument_keeps f rest place a size) (arguments_keep f (n - 1) (drop size rest) (place + size) extra) turn in
    (both.0, (extra, both.1))

-- the bytes of an argument that loses nothing, but for its texts, are the words of its header and its value
kept-words : (f : Format) (rest : List ℕ) (place : ℕ) (a : Argument) (size : ℕ) → argument_keeps f rest place a size ≡ true
    → (size - (inline_bytes a.name + inline_bytes (text_in a.value))) / 8 ≡ 1 + words_in a.value
unfolding argument_keeps value_bytes words_in
kept-words f rest place a size k =
    let header = word_at f.order rest 0 in
    let paddings = padding_zero rest place a.name && value_padding_zero rest place a.value in
    let k0 = (both_true (ltb (argument_type header) 10) (eqb (reserved_bits header) 0 && (eqb size (argument_bytes a) && paddings)) k).1 in
    let k1 = (both_true (eqb (reserved_bits header) 0) (eqb size (argument_bytes a) && paddings) k0).1 in
    go a.value (eqb-true size (argument_bytes a) (both_true (eqb size (argument_bytes a)) paddings k1).0)
  where
    go : (v : Value) → size ≡ 8 + inline_bytes a.name + value_bytes v
        → (size - (inline_bytes a.name + inline_bytes (text_in v))) / 8 ≡ 1 + words_in v
    go (ScalarValue s) is = omega (arith, is)
    go (Text r) is = omega (arith, is)

-- the text of a value is no longer than the value
texts_short : (more name : ℕ) (v : Value) (size : ℕ) → more + value_bytes v ≤ size → name ≤ more → name + inline_bytes (text_in v) ≤ size
unfolding value_bytes
texts_short more name (ScalarValue s) size l h = omega (arith, l, h)
texts_short more name (Text r) size l h = omega (arith, l, h)

-- where the walk stands: what is to be counted in all is what was counted and what is left
pub record Walk (f : Format) (archive start : List ℕ) (context until : ℕ) (all : List Argument) (end : ℕ) (room : List ℕ) (left : ℕ) (rest : List ℕ)
    (at : ℕ) (good : Bool) (words most : ℕ)
    : Type 0 where
  pub tables : tables_in f room ≡ tables_in f start
  pub long : length room ≡ length start
  pub goods : lookups_good f archive (tables_in f start) (slots_in f start) context until (argument_lookups all)
      ≡ (good && lookups_good f archive (tables_in f start) (slots_in f room) context until (argument_lookups (arguments_read f left rest at)))
  pub slots : lookups_slots f archive (tables_in f start) (slots_in f start) context until (argument_lookups all)
      ≡ lookups_slots f archive (tables_in f start) (slots_in f room) context until (argument_lookups (arguments_read f left rest at))
  pub sum : words_read all ≡ words + words_read (arguments_read f left rest at)
  pub inside : at + length rest ≡ end
  pub behind : 0 < at
  pub recalls : Recalls f archive room until
  pub few : words + 2 * left ≤ 2 * most
  pub kept : AllKept f left rest at

module _ (f : Format) (archive start : List ℕ) (context until : ℕ) (all : List Argument) (end : ℕ) (room : List ℕ) (left : ℕ) (rest : List ℕ) (at : ℕ)
    (good : Bool) (words most : ℕ) (w : Walk f archive start context until all end room left rest at good words most) where
  -- where nothing is left to read, all was counted
  pub walk_ends : arguments_read f left rest at ≡ []
      → (good ≡ lookups_good f archive (tables_in f start) (slots_in f start) context until (argument_lookups all))
      × ((words ≡ words_read all)
      × (room ≡ tables_in f start ++ lookups_slots f archive (tables_in f start) (slots_in f start) context until (argument_lookups all)))
  unfolding lookups_good lookups_slots words_read
  walk_ends none = (
    sym (w.goods ∙ rw none (and-true good)),
    (sym (w.sum ∙ rw none (omega arith)), rw (w.slots, none, ← w.tables) (sym (take-append-drop (table_words f) room))),
  )

  -- that is so behind the last argument
  pub none_left : left ≡ 0 → arguments_read f left rest at ≡ []
  unfolding arguments_read
  none_left z = rw z

  -- and at one that is refused
  pub none_read : (reason : Reason) → 0 < left → argument_of f rest at ≡ Err reason → arguments_read f left rest at ≡ []
  none_read reason h e = read_turn f left rest at h ∙ rw e

  -- an argument is counted, and the walk goes on behind it
  pub walk_turns : (a : Argument) (size : ℕ) (counted : Bool) (after : List ℕ) → 0 < left → argument_of f rest at ≡ argued a size
      → table_words f ≤ length room → length after ≡ length room → Counted f archive room context until (argument_lookups (a ∷ [])) counted after
      → Recalls f archive after until
      → Walk f archive start context until all end after (left - 1) (drop size rest) (at + size) (good && counted) (words + (1 + words_in a.value)) most
  unfolding words_read
  walk_turns a size counted after h e wide long x recalls =
      let own = argument_lookups (a ∷ []) in
      let more = arguments_read f (left - 1) (drop size rest) (at + size) in
      let turn : arguments_read f left rest at ≡ a ∷ more = read_turn f left rest at h ∙ rw e in
      let r = room_after (table_words f) room _ after wide x.1 in
      let x' = rw w.tables at x in
      let stand = rw w.tables at r.stand in
      record {
        tables = r.tables ∙ w.tables;
        long = long ∙ w.long;
        goods = w.goods
            ∙ (rw (turn, goods_both f archive (tables_in f start) context until (slots_in f room) own (argument_lookups more), ← x'.0, ← stand)
            (sym (and_assoc good counted _)));
        slots = w.slots ∙ rw (turn, slots_both f archive (tables_in f start) context until (slots_in f room) own (argument_lookups more), ← stand);
        sum = let s = rw turn at w.sum in omega (arith, s);
        inside = omega (arith, w.inside, (argument_read f rest at a size e).inside, length-drop size rest);
        behind = omega (arith, w.behind);
        recalls = recalls;
        few = omega (arith, w.few, words_in_few a.value);
        kept = (kept_turn f left rest at a size h e w.kept).1;
      }

  -- the same by the texts of the argument, and by its size
  pub walk_turns_texts : (name value : Reference) (size : ℕ) (counted : Bool) (after : List ℕ) → 0 < left
      → texts_of f rest at ≡ texts name value size → table_words f ≤ length room → length after ≡ length room
      → Counted f archive room context until (text_lookup name ∷ text_lookup value ∷ []) counted after → Recalls f archive after until
      → Walk f archive start context until all end after (left - 1) (drop size rest) (at + size) (good && counted)
      (words + (size - (inline_bytes name + inline_bytes value)) / 8) most
  walk_turns_texts name value size counted after h read wide long x recalls =
      let q = texts_read f rest at name value size read in
      go q.0 q.1 q.2 q.3 x
    where
      go : (a : Argument) → argument_of f rest at ≡ argued a size → a.name ≡ name → text_in a.value ≡ value
          → Counted f archive room context until (text_lookup name ∷ text_lookup value ∷ []) counted after
          → Walk f archive start context until all end after (left - 1) (drop size rest) (at + size) (good && counted)
          (words + (size - (inline_bytes name + inline_bytes value)) / 8) most
      go a e named valued =
          rw (← named, ← valued, kept-words f rest at a size (kept_turn f left rest at a size h e w.kept).0)
          (λ x. walk_turns a size counted after h e wide long x recalls)

  -- the texts of the argument stand in it, it stands in what is left, and one word at most stands beside its header
  pub turn_few : (name value : Reference) (size : ℕ) → 0 < left → texts_of f rest at ≡ texts name value size
      → (inline_bytes name + inline_bytes value ≤ size) × (size ≤ length rest) × ((size - (inline_bytes name + inline_bytes value)) / 8 ≤ 2)
  turn_few name value size h read =
      let q = texts_read f rest at name value size read in
      go q.0 q.1 q.2 q.3
    where
      go : (a : Argument) → argument_of f rest at ≡ argued a size → a.name ≡ name → text_in a.value ≡ value
          → (inline_bytes name + inline_bytes value ≤ size) × (size ≤ length rest) × ((size - (inline_bytes name + inline_bytes value)) / 8 ≤ 2)
      go a e named valued =
          let fits = argument_read f rest at a size e in
          let words = kept-words f rest at a size (kept_turn f left rest at a size h e w.kept).0 in
          rw (← named, ← valued) (
            texts_short (8 + inline_bytes a.name) (inline_bytes a.name) a.value size fits.enough (omega arith),
            fits.inside,
            omega (arith, words, words_in_few a.value),
          )

-- ---- records

-- the stream of a record that was read stands in the archive
pub stream-inside : (f : Format) (archive : List ℕ) (place : ℕ) (r : Report) (next : ℕ)
    → record_at f archive place ≡ record { content = ReportRead r; next = next } → Inside place next r.stream
stream-inside f archive place r next k =
    let i : ContentInside place next (ReportRead r) = rw k at (record_whole f archive place).inside in i.stream

-- so it has fewer bytes than the archive
pub stream-few : (from to : ℕ) (r : Reference) → Inside from to r → inline_bytes r ≤ to
stream-few from to (Inline place long) i = omega (arith, i.1)
stream-few from to (Index index) i = omega arith

-- a reference that can be counted: its table is one of the two, and its bytes stand in the archive
pub record Countable (archive : List ℕ) (l : Lookup) : Type 0 where
  pub least : 2 ≤ l.table
  pub most : l.table ≤ 3
  pub stands : CanStand archive l.reference

-- one that stands in the archive is
pub lookup_countable : (archive : List ℕ) (l : Lookup) → LookupStands archive l → Countable archive l
lookup_countable archive l h = go h.table
  where
    go : IsTable l.table → Countable archive l
    go (inl k) = record { least = omega (arith, k); most = omega (arith, k); stands = stands_can archive l.reference h.stands }
    go (inr k) = record { least = omega (arith, k); most = omega (arith, k); stands = stands_can archive l.reference h.stands }

-- the references of a record that was read, and does not begin the archive, stand in it
pub report_countable : (f : Format) (archive : List ℕ) (place : ℕ) (r : Report) (next : ℕ) → 0 < place
    → record_at f archive place ≡ record { content = ReportRead r; next = next } → LookupsStand archive (report_lookups f archive r next)
report_countable f archive place r next behind k =
    let stands = report_stands f archive place r behind (ap (λ x. x.content) k) in rw k at stands

-- its arguments start behind the archive's first byte
pub arguments-behind : (f : Format) (archive : List ℕ) (place : ℕ) (r : Report) (next : ℕ) → 0 < place
    → record_at f archive place ≡ record { content = ReportRead r; next = next } → 0 < r.arguments
arguments-behind f archive place r next behind k =
    let i : ContentInside place next (ReportRead r) = rw k at (record_whole f archive place).inside in omega (arith, i.behind)

-- the arguments of a record that loses nothing lose nothing
pub report-kept : (f : Format) (archive : List ℕ) (s : State) (r : Report) (next : ℕ)
    → record_at f archive s.place ≡ record { content = ReportRead r; next = next } → keeps_to f archive s (ReportRead r) next ≡ true
    → AllKept f r.count (take (next - r.arguments) (drop r.arguments archive)) r.arguments
unfolding record_keeps report_keeps
report-kept f archive s r next is keeps =
    let source = take (next - s.place) (drop s.place archive) in
    let l = layout_of (word_at f.order source 0) in
    let inside : ContentInside s.place next (ReportRead r) = rw is at (record_whole f archive s.place).inside in
    let tail = arguments_keep f r.count (drop (r.arguments - s.place) source) r.arguments (8 * l.behind) in
    let one = padding_zero source s.place r.first.reference in
    let two = padding_zero source s.place r.second.reference in
    let three = padding_zero source s.place r.third.reference in
    let stream = padding_zero source s.place r.stream in
    let k0 = both_true (eqb l.reserved 0) (one && (two && (three && (stream && tail)))) keeps in
    let k1 = both_true one (two && (three && (stream && tail))) k0.1 in
    let k2 = both_true two (three && (stream && tail)) k1.1 in
    let k3 = both_true three (stream && tail) k2.1 in
    (8 * l.behind, rw (part-behind archive s.place r.arguments next inside.behind) at (both_true stream tail k3.1).1)

-- so do those of an argument that was read behind the archive's first byte
pub argument_countable : (f : Format) (archive rest : List ℕ) (place : ℕ) (a : Argument) (size : ℕ) → 0 < place → place + length rest ≤ length archive
    → argument_of f rest place ≡ argued a size → LookupsStand archive (argument_lookups (a ∷ []))
unfolding arguments_read
argument_countable f archive rest place a size behind inside e =
    let stands = arguments_stand f archive 1 rest place behind inside in rw e at stands

-- so do the texts of an argument by themselves
pub texts_countable : (f : Format) (archive rest : List ℕ) (place : ℕ) (name value : Reference) (size : ℕ) → 0 < place
    → place + length rest ≤ length archive → texts_of f rest place ≡ texts name value size
    → LookupsStand archive (text_lookup name ∷ text_lookup value ∷ [])
texts_countable f archive rest place name value size behind inside read =
    let q = texts_read f rest place name value size read in
    let stands = argument_countable f archive rest place q.0 size behind inside q.1 in
    subst (λ (x : Reference). LookupsStand archive (text_lookup x ∷ text_lookup value ∷ [])) q.2
    (subst (λ (x : Reference). LookupsStand archive (text_lookup q.0.name ∷ text_lookup x ∷ [])) q.3 stands)

-- ---- rooms that are counted in one after the other

-- the slots of a room that can be counted in are wide
slots_wide : (f : Format) (archive room : List ℕ) (context : ℕ) → CanCount f archive room context → Wide (table_words f) (slots_in f room)
slots_wide f archive room context can =
    record { some = omega arith; low = omega (arith, can.fits.indexes); long = omega (arith, can.wide, length-drop (table_words f) room) }

module _ (f : Format) (archive room : List ℕ) (context until : ℕ) (can : CanCount f archive room context) (after : List ℕ)
    (long : length after ≡ length room) where
  -- a room as long can be counted in
  pub can_after : CanCount f archive after context
  can_after = record { fits = can.fits; short = can.short; wide = omega (arith, can.wide, long); low = can.low }

  -- what is remembered in it may be used, where a reference that stands in the archive was counted
  pub recalls_after_one : (l : Lookup) → 2 ≤ l.table → l.table ≤ 3 → CanStand archive l.reference → Recalls f archive room until
      → after ≡ tables_in f room ++ lookup_slots f archive (tables_in f room) (slots_in f room) context until l → Recalls f archive after until
  recalls_after_one l least most stands recalls e =
      let q = room_after (table_words f) room _ after (omega (arith, can.wide)) e in
      rw (q.tables, q.stand)
      (remembers_lookup f archive (tables_in f room) context until can.short can.low (slots_in f room) l (slots_wide f archive room context can) least most
      (can_stand archive l.reference stands) recalls)

  -- and where several were
  pub recalls_after : (ls : List Lookup) → LookupsStand archive ls → Recalls f archive room until
      → after ≡ tables_in f room ++ lookups_slots f archive (tables_in f room) (slots_in f room) context until ls → Recalls f archive after until
  recalls_after ls stands recalls e =
      let q = room_after (table_words f) room _ after (omega (arith, can.wide)) e in
      rw (q.tables, q.stand)
      (remembers_lookups f archive (tables_in f room) context until can.short can.low ls stands (slots_in f room) (slots_wide f archive room context can) recalls)

-- ---- a slot that is remembered, whose room is lent from its n-th word on

module _ (f : Format) (archive room : List ℕ) (context until : ℕ) (l : Lookup) (n s : ℕ) (can : CanCount f archive room context)
    (recalls : Recalls f archive room until) (least : 2 ≤ l.table) (most : l.table ≤ 3) (words : n ≡ table_words f)
    (told : Some s ≡ recalled f (take (length room - n) (drop n room)) context l.table l.reference) where
  -- what is told of the slots that are lent is told of the room's
  told_in : recalled f (slots_in f room) context l.table l.reference ≡ Some s
  told_in = sym (rw (part_from n room, words) at told)

  -- the slots are wide, and the one that is remembered is one of them
  pub again_fits : Wide n (take (length room - n) (drop n room)) × (s < n - 18)
  again_fits =
      let wide = slots_wide f archive room context can in (
        rw (part_from n room, words) wide,
        omega (
          arith,
          words,
          recalled-low f archive (tables_in f room) (slots_in f room) context l.table until l.reference s wide recalls can.low least most told_in,
        ),
      )

  -- one use more of its key counts the reference, and the room has the slots back
  pub again_counts : (slots : List ℕ) → slots ≡ used_again n (take (length room - n) (drop n room)) s
      → (true ≡ lookup_good f archive (tables_in f room) (slots_in f room) context until l)
      × (take n room ++ (slots ++ drop (length room - n) (drop n room))
      ≡ tables_in f room ++ lookup_slots f archive (tables_in f room) (slots_in f room) context until l)
  again_counts slots used =
      let r = recalled-is f archive (tables_in f room) (slots_in f room) context l.table until l.reference s recalls can.low least most told_in in
      let q = recalled-counts f archive (tables_in f room) context until (slots_in f room) l s (slots_wide f archive room context can) r told_in in
      let used-in = rw (part_from n room, words) at used in
      (sym q.0, slots_back n room slots ∙ rw words (ap (λ (x : List ℕ). tables_in f room ++ x) (used-in ∙ sym q.1)))
