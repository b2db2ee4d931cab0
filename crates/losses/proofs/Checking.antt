-- The walk that reads arguments and finds what they lose is the two definitions: what they are, and what they lose. Assumes nothing.
use Prim.Native.Nat.{ℕ, ◌+◌, ◌-◌, ◌*◌, ◌≤◌, ◌<◌}
use mathlib.Core.Path.{◌≡◌, refl, sym, ap, subst, ◌∙◌}
use mathlib.Core.List.{List}
use mathlib.Core.Bool.{Bool, true, false, ◌&&◌, true≢false}
use native.Mathlib.Omega.{arith}
use borrow.Author.Tests.{eq-eqb, le-ltb}
use lib.Dec.{eqb}
use lib.ListN.{length, drop, length-drop}
use Rattle.std.proofs.Common.{Result, Ok, Err}
use Rattle.words.specs.Word.{pick, word_at}
use Rattle.words.proofs.Tests.{cases}
use Rattle.format.specs.declared.Format.{Format}
use Rattle.format.specs.declared.Reason.{Reason}
use Rattle.format.specs.declared.Reference.{Reference}
use Rattle.format.specs.Part.{inline_bytes, padding_zero}
use Rattle.format.specs.Models.Bounds.{Inside}
use Rattle.format.proofs.Parts.{inside_wider}
use Rattle.arguments.specs.declared.Argument.{Argument}
use Rattle.arguments.specs.declared.Argued.{Argued}
use Rattle.arguments.specs.declared.Value.{Value}
use Rattle.arguments.specs.declared.Value.TheVariants.{Scalar as ScalarValue, Text}
use Rattle.arguments.specs.Argument.{argument_type, argued, on_argued, text_in, argument_of, arguments_of, walked}
use Rattle.arguments.specs.Loss.{value_bytes, value_padding_zero, argument_keeps, arguments_keep}
use Rattle.arguments.specs.Models.Bounds.{ValueInside}
use Rattle.arguments.specs.Models.Reading.{texts, texts_of, held_bytes}
use Rattle.arguments.proofs.Arguments.{texts_read, texts_refused, argument_read, walk_turn, keep_turn}
use Rattle.arguments.proofs.Shown.{ValueShown, value_read}
use Rattle.records.specs.declared.Layout.{Layout}
use Rattle.records.specs.Layout.{layout_of, fields, take_fields, last_word, report_of, refused_by}
use Rattle.records.specs.Loss.{report_keeps, record_keeps}
use Rattle.records.proofs.Layouts.{Stand, fields_read}
use Rattle.losses.specs.declared.CheckedArgument.{CheckedArgument}
use Rattle.losses.specs.declared.CheckedEnd.{CheckedEnd}
use Rattle.losses.specs.Models.Checking.{texts_keep, checked, checked_argument, ended, end_of, checked_arguments, with_last, fields_keep}
use Rattle.losses.proofs.Kept.{kept_end}

-- ---- one argument

-- the bytes of a value are those of its text, and those of its word
value_bytes_lem : (type : ℕ) (v : Value) → ValueShown type v → value_bytes v ≡ inline_bytes (text_in v) + held_bytes type
unfolding value_bytes
value_bytes_lem type (ScalarValue s) shown = omega (arith, shown.1)
value_bytes_lem type (Text r) shown = omega (arith, shown.1)

-- the padding of a value is that of its text, where its type says that it has one
value_padding : (rest : List ℕ) (place type : ℕ) (v : Value) → ValueShown type v
    → value_padding_zero rest place v ≡ pick (eqb type 6) (padding_zero rest place (text_in v)) true
unfolding value_padding_zero
value_padding rest place type (ScalarValue s) shown = rw shown.0
value_padding rest place type (Text r) shown = rw shown.0

-- a value's text stands where the value does
text-inside : (from to type : ℕ) (v : Value) → ValueShown type v → ValueInside from to v → type ≡ 6 → Inside from to (text_in v)
text-inside from to type (ScalarValue s) shown inside six = absurd (true≢false (sym (eq-eqb type 6 six) ∙ shown.0))
text-inside from to type (Text r) shown inside six = inside

-- what an argument loses is seen from its texts and its header
keeps_by_texts : (f : Format) (rest : List ℕ) (place : ℕ) (a : Argument) (size : ℕ) → ValueShown (argument_type (word_at f.order rest 0)) a.value
    → argument_keeps f rest place a size ≡ texts_keep f rest place a.name (text_in a.value) size
unfolding argument_keeps texts_keep
keeps_by_texts f rest place a size shown =
    let type = argument_type (word_at f.order rest 0) in
    let bytes : 8 + inline_bytes a.name + value_bytes a.value ≡ 8 + (inline_bytes a.name + inline_bytes (text_in a.value)) + held_bytes type =
    omega (arith, value_bytes_lem type a.value shown) in
    rw (bytes, value_padding rest place type a.value shown)

-- the texts of an argument, and its word, stand inside what is left of its record
pub record TextsStand (f : Format) (rest : List ℕ) (place : ℕ) (name value : Reference) (size : ℕ) : Type 0 where
  pub some : 8 ≤ length rest
  pub enough : 8 + inline_bytes name + inline_bytes value + held_bytes (argument_type (word_at f.order rest 0)) ≤ length rest
  pub name-inside : Inside place (place + length rest) name
  pub value-inside : argument_type (word_at f.order rest 0) ≡ 6 → Inside place (place + length rest) value

-- those of an argument that is read do
argument_stands : (f : Format) (rest : List ℕ) (place : ℕ) (a : Argument) (size : ℕ) → argument_of f rest place ≡ argued a size
    → TextsStand f rest place a.name (text_in a.value) size
argument_stands f rest place a size e =
    let type = argument_type (word_at f.order rest 0) in
    let fits = argument_read f rest place a size e in
    let shown = value_read f rest place a size e in
    record {
      some = omega (arith, fits.some, fits.inside);
      enough = omega (arith, fits.enough, fits.inside, value_bytes_lem type a.value shown);
      name-inside = inside_wider place (place + length rest) a.name (omega arith) (omega (arith, fits.inside)) fits.name;
      value-inside = λ six.
          inside_wider place (place + length rest) (text_in a.value) (omega arith) (omega (arith, fits.inside))
          (text-inside place (place + size) type a.value shown fits.value six);
    }

-- and texts that are known to be taken
pub texts_stand : (f : Format) (rest : List ℕ) (place : ℕ) (name value : Reference) (size : ℕ) → texts_of f rest place ≡ texts name value size
    → TextsStand f rest place name value size
texts_stand f rest place name value size e =
    let q = texts_read f rest place name value size e in
    subst (λ (x : Reference). TextsStand f rest place x value size) q.2
    (subst (λ (x : Reference). TextsStand f rest place q.0.name x size) q.3 (argument_stands f rest place q.0 size q.1))

-- an argument whose texts are read, as it is checked
pub checked_texts : (f : Format) (rest : List ℕ) (place : ℕ) (name value : Reference) (size : ℕ) → texts_of f rest place ≡ texts name value size
    → checked_argument f rest place ≡ checked size (texts_keep f rest place name value size)
unfolding checked_argument
checked_texts f rest place name value size e =
    let q = texts_read f rest place name value size e in
    let shown = value_read f rest place q.0 size q.1 in
    rw (q.1, keeps_by_texts f rest place q.0 size shown, q.2, q.3)

-- one whose texts are refused
pub checked_reason : (f : Format) (rest : List ℕ) (place : ℕ) (reason : Reason) → texts_of f rest place ≡ Err reason
    → checked_argument f rest place ≡ Err reason
unfolding checked_argument
checked_reason f rest place reason e = rw (texts_refused f rest place reason e)

-- ---- all arguments of a record

-- the argument behind what is checked of it
argument_checked : (f : Format) (rest : List ℕ) (place size : ℕ) (kept : Bool) → checked_argument f rest place ≡ checked size kept
    → (a : Argument) × (argument_of f rest place ≡ argued a size) × (argument_keeps f rest place a size ≡ kept)
unfolding checked_argument
argument_checked f rest place size kept = go (argument_of f rest place) refl
  where
    go : (x : Result Argued Reason) → argument_of f rest place ≡ x
        → on_argued x Err (λ a size. checked size (argument_keeps f rest place a size)) ≡ checked size kept
        → (a : Argument) × (argument_of f rest place ≡ argued a size) × (argument_keeps f rest place a size ≡ kept)
    go (Err reason) q e = cc
    go (Ok x) q e =
        let here : CheckedArgument = record { size = x.size; keeps = argument_keeps f rest place x.argument x.size } in
        let same : ◌≡◌ {A = CheckedArgument} here (record { size = size; keeps = kept }) = cc in
        let long : x.size ≡ size = ap (λ (c : CheckedArgument). c.size) same in
        let keeps : argument_keeps f rest place x.argument x.size ≡ kept = ap (λ (c : CheckedArgument). c.keeps) same in
        (x.argument, q ∙ ap (argued x.argument) long, rw long at keeps)

-- an argument that is refused as it is checked, is refused
argument_refused : (f : Format) (rest : List ℕ) (place : ℕ) (reason : Reason) → checked_argument f rest place ≡ Err reason
    → argument_of f rest place ≡ Err reason
unfolding checked_argument
argument_refused f rest place reason = go (argument_of f rest place) refl
  where
    go : (x : Result Argued Reason) → argument_of f rest place ≡ x
        → on_argued x Err (λ a size. checked size (argument_keeps f rest place a size)) ≡ Err reason
        → argument_of f rest place ≡ Err reason
    go (Err by) q e = let z : by ≡ reason = cc in q ∙ ap Err z
    go (Ok x) q e = cc

-- an argument that is checked stands inside what is left of its record
pub checked_inside : (f : Format) (rest : List ℕ) (place size : ℕ) (kept : Bool) → checked_argument f rest place ≡ checked size kept
    → size ≤ length rest
checked_inside f rest place size kept e =
    let q = argument_checked f rest place size kept e in
    (argument_read f rest place q.0 size q.1).inside

-- what the walk comes to from here, where all before keeps or not
abbrev pub end_from : Format → (sofar : Bool) (count : ℕ) → List ℕ → (place extra : ℕ) → Result CheckedEnd Reason
end_from f sofar count rest place extra = end_of (walked (arguments_of f count rest place)) (sofar && arguments_keep f count rest place extra)

-- three tests together, grouped otherwise
regrouped : (a b c : Bool) → (a && (b && c)) ≡ ((a && b) && c)
regrouped true b c = refl
regrouped false b c = refl

-- one turn of the walk: the argument is checked, and the rest is behind it
pub check_turn : (f : Format) (sofar : Bool) (n : ℕ) (rest : List ℕ) (place extra size : ℕ) (kept : Bool) → 0 < n
    → checked_argument f rest place ≡ checked size kept
    → end_from f sofar n rest place extra ≡ end_from f (sofar && kept) (n - 1) (drop size rest) (place + size) extra
check_turn f sofar n rest place extra size kept some e =
    let q = argument_checked f rest place size kept e in
    let others = arguments_keep f (n - 1) (drop size rest) (place + size) extra in
    rw (walk_turn f n rest place some, keep_turn f n rest place extra some, q.1, q.2)
    (ap (end_of (walked (arguments_of f (n - 1) (drop size rest) (place + size)))) (regrouped sofar kept others))

-- an argument that is refused ends it
pub check_refused : (f : Format) (sofar : Bool) (n : ℕ) (rest : List ℕ) (place extra : ℕ) (reason : Reason) → 0 < n
    → checked_argument f rest place ≡ Err reason → end_from f sofar n rest place extra ≡ Err reason
check_refused f sofar n rest place extra reason some e =
    rw (walk_turn f n rest place some, argument_refused f rest place reason e)

-- with no argument left, the bytes behind them are as many as they are to be, or not
pub check_end : (f : Format) (sofar : Bool) (n : ℕ) (rest : List ℕ) (place extra : ℕ) → n ≡ 0
    → end_from f sofar n rest place extra ≡ ended place (sofar && eqb (length rest) extra)
unfolding arguments_of arguments_keep
check_end f sofar n rest place extra e = rw e

-- the walk in two: where the arguments end, and whether they lose nothing
pub checked_ended : (f : Format) (count : ℕ) (rest : List ℕ) (place extra at : ℕ) (keeps : Bool)
    → checked_arguments f count rest place extra ≡ ended at keeps
    → (walked (arguments_of f count rest place) ≡ Ok at) × (arguments_keep f count rest place extra ≡ keeps)
unfolding checked_arguments
checked_ended f count rest place extra at keeps = go (walked (arguments_of f count rest place))
  where
    go : (w : Result ℕ Reason) → end_of w (arguments_keep f count rest place extra) ≡ ended at keeps
        → (w ≡ Ok at) × (arguments_keep f count rest place extra ≡ keeps)
    go (Err reason) e = cc
    go (Ok at') e =
        let here : CheckedEnd = record { at = at'; keeps = arguments_keep f count rest place extra } in
        let same : ◌≡◌ {A = CheckedEnd} here (record { at = at; keeps = keeps }) = cc in
        (ap (λ (c : CheckedEnd). Ok c.at) same, ap (λ (c : CheckedEnd). c.keeps) same)

-- a walk that is refused
pub checked_refused : (f : Format) (count : ℕ) (rest : List ℕ) (place extra : ℕ) (reason : Reason) → checked_arguments f count rest place extra ≡ Err reason
    → walked (arguments_of f count rest place) ≡ Err reason
unfolding checked_arguments
checked_refused f count rest place extra reason = go (walked (arguments_of f count rest place))
  where
    go : (w : Result ℕ Reason) → end_of w (arguments_keep f count rest place extra) ≡ Err reason → w ≡ Err reason
    go (Err by) e = let same : by ≡ reason = cc in ap Err same
    go (Ok at) e = cc

-- ---- records that refer to texts and threads

-- the tests of a record, grouped as its definition groups them
fields_grouped : (r a b c s keeps : Bool) → (r && (a && (b && (c && (s && keeps))))) ≡ ((r && ((a && b) && (c && s))) && keeps)
fields_grouped false a b c s keeps = refl
fields_grouped true false b c s keeps = refl
fields_grouped true true false c s keeps = refl
fields_grouped true true true false s keeps = refl
fields_grouped true true true true s keeps = refl

-- a test that does not hold does not hold with another
and_false : (a b : Bool) → b ≡ false → (a && b) ≡ false
and_false true b e = e
and_false false b e = refl

-- where a last word is refused, it starts behind where it could
last-refused : (f : Format) (source : List ℕ) (place at behind : ℕ) (reason : Reason) → at + 8 * behind ≤ place + length source
    → last_word f source place at behind ≡ Err reason → ⊥
unfolding last_word
last-refused f source place at behind reason room e =
    cases (eqb behind 0)
    (λ q. let w = rw (le-ltb (place + length source) (at + 8 * behind) room, q) at e in cc)
    (λ q. let w = rw (le-ltb (place + length source) (at + 8 * behind) room, q) at e in cc)

-- the parts of a record stand inside it
pub fields-inside : (l : Layout) (place end : ℕ) (a b c s : Reference) (next : ℕ) → Stand l (place + 8) end a b c s next
    → Inside place end a × Inside place end b × Inside place end c × Inside place end s
fields-inside l place end a b c s next stands = (
  inside_wider {from = place + 8} {to = end} place end a (omega arith) (omega arith) stands.in_first,
  inside_wider {from = place + 8} {to = end} place end b (omega arith) (omega arith) stands.in_second,
  inside_wider {from = place + 8} {to = end} place end c (omega arith) (omega arith) stands.in_third,
  inside_wider {from = place + 8} {to = end} place end s (omega arith) (omega arith) stands.in_stream,
)

-- a record whose parts are read and whose arguments end there: what stands in it, and whether it loses nothing
checked_here : (f : Format) (source : List ℕ) (place : ℕ) (a b c s : Reference) (first at : ℕ) (keeps : Bool) → 8 ≤ length source
    → (let l = layout_of (word_at f.order source 0) in
    take_fields f l source place ≡ fields a b c s first
    → walked (arguments_of f l.count (drop (first - place) source) first) ≡ Ok at
    → arguments_keep f l.count (drop (first - place) source) first (8 * l.behind) ≡ keeps
    → (report_of f source place ≡ with_last f l source a b c s first (last_word f source place at l.behind))
    × (record_keeps f source place (with_last f l source a b c s first (last_word f source place at l.behind))
    ≡ (fields_keep source place l.reserved a b c s && keeps)))
unfolding report_of record_keeps report_keeps fields_keep
checked_here f source place a b c s first at keeps some e walk kept =
    (rw (e, walk), of_last (last_word f source place at l.behind) refl)
  where
    l : Layout
    l = layout_of (word_at f.order source 0)

    part : List ℕ
    part = drop (first - place) source

    all : Bool
    all = fields_keep source place l.reserved a b c s && keeps

    same_end : (m n : ℕ) → ◌≡◌ {A = Result ℕ Reason} (Ok m) (Ok n) → m ≡ n
    same_end m n q = cc

    room : keeps ≡ true → at + 8 * l.behind ≤ place + length source
    room k =
        let ends = kept_end f l.count part first (8 * l.behind) (kept ∙ k) in
        let is = same_end at (first + (length part - 8 * l.behind)) (sym walk ∙ ends.1) in
        let stands = fields_read f l source place a b c s first some e in
        omega (arith, is, ends.0, stands.starts, stands.ends, length-drop (first - place) source)

    of_last : (x : Result ℕ Reason) → last_word f source place at l.behind ≡ x → record_keeps f source place (with_last f l source a b c s first x) ≡ all
    of_last (Err reason) q =
        cases keeps (λ k. absurd (last-refused f source place at l.behind reason (room k) q))
        (λ k. sym (and_false (fields_keep source place l.reserved a b c s) keeps k))
    of_last (Ok last) q =
        rw kept
        (fields_grouped (eqb l.reserved 0) (padding_zero source place a) (padding_zero source place b) (padding_zero source place c)
        (padding_zero source place s) keeps)

-- the same by the walk that finds both, for a layout that is known to be the record's
pub checked_report : (f : Format) (source : List ℕ) (place : ℕ) (l : Layout) (a b c s : Reference) (first at : ℕ) (keeps : Bool) → 8 ≤ length source
    → layout_of (word_at f.order source 0) ≡ l → take_fields f l source place ≡ fields a b c s first
    → checked_arguments f l.count (drop (first - place) source) first (8 * l.behind) ≡ ended at keeps
    → (report_of f source place ≡ with_last f l source a b c s first (last_word f source place at l.behind))
    × (record_keeps f source place (report_of f source place) ≡ (fields_keep source place l.reserved a b c s && keeps))
checked_report f source place l a b c s first at keeps some is = subst P is here
  where
    P : Layout → Type 0
    P l =
        take_fields f l source place ≡ fields a b c s first
        → checked_arguments f l.count (drop (first - place) source) first (8 * l.behind) ≡ ended at keeps
        → (report_of f source place ≡ with_last f l source a b c s first (last_word f source place at l.behind))
        × (record_keeps f source place (report_of f source place) ≡ (fields_keep source place l.reserved a b c s && keeps))

    own : Layout
    own = layout_of (word_at f.order source 0)

    here : P own
    here e w =
        let q = checked_ended f own.count (drop (first - place) source) first (8 * own.behind) at keeps w in
        let k = checked_here f source place a b c s first at keeps some e q.0 q.1 in
        (k.0, ap (record_keeps f source place) k.0 ∙ k.1)

-- a record whose arguments are refused
pub report-refused : (f : Format) (source : List ℕ) (place : ℕ) (l : Layout) (a b c s : Reference) (first : ℕ) (reason : Reason)
    → layout_of (word_at f.order source 0) ≡ l → take_fields f l source place ≡ fields a b c s first
    → checked_arguments f l.count (drop (first - place) source) first (8 * l.behind) ≡ Err reason
    → report_of f source place ≡ refused_by reason
unfolding report_of
report-refused f source place l a b c s first reason is e w =
    rw (is, e, checked_refused f l.count (drop (first - place) source) first (8 * l.behind) reason w)

-- one whose fields are
pub fields-refused : (f : Format) (source : List ℕ) (place : ℕ) (l : Layout) (reason : Reason) → layout_of (word_at f.order source 0) ≡ l
    → take_fields f l source place ≡ Err reason → report_of f source place ≡ refused_by reason
unfolding report_of
fields-refused f source place l reason is e = rw (is, e)
