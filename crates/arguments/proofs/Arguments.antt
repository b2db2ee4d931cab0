-- Laws of arguments: the name and then the value, where they stand, and what they cost. Assumes nothing.
use Prim.Native.Nat.{ℕ, zero, suc, ◌+◌, ◌-◌, ◌%◌, ◌≤◌, ◌<◌}
use mathlib.Core.Path.{◌≡◌, refl, sym, subst, ap, ◌∙◌}
use mathlib.Core.List.{[], List, ◌∷◌}
use mathlib.Core.Bool.{false, ◌&&◌}
use mathlib.Core.Logic.{◌⊎◌, inl, inr}
use native.Mathlib.Omega.{arith}
use borrow.Author.Tests.{ltb-true, ltb-false, eqb-false, lt-ltb, le-ltb}
use lib.Dec.{eqb, ltb}
use lib.ListN.{length, take, drop, length-drop}
use lib.Seq.{length-take-le, drop-drop}
use Rattle.std.proofs.Common.{Result, Ok, Err}
use Rattle.words.specs.Word.{pick, word_at, field}
use Rattle.words.proofs.Tests.{cases, on-pick}
use Rattle.format.specs.declared.Format.{Format}
use Rattle.format.specs.declared.Reference.{Reference}
use Rattle.format.specs.declared.Reference.TheVariants.{Inline}
use Rattle.format.specs.declared.Taken.{Taken}
use Rattle.format.specs.declared.Reason.{Reason}
use Rattle.format.specs.declared.Reason.TheVariants.{Malformed}
use Rattle.format.specs.declared.Part.TheVariants.{Words as words}
use Rattle.format.specs.Part.{taken, take_part, take_text, take_words, Body, refused as body_refused, body, prepend as prepend_part, on_taken, on_body, take_parts, part, place_of}
use Rattle.format.proofs.Parts.{inside_wider, Moves, text_moves}
use Rattle.arguments.specs.declared.Value.{Value}
use Rattle.arguments.specs.declared.Value.TheVariants.{Scalar as ScalarValue, Text}
use Rattle.arguments.specs.declared.Argument.{Argument}
use Rattle.arguments.specs.declared.Argued.{Argued}
use Rattle.arguments.specs.declared.Sought.{Sought}
use Rattle.arguments.specs.declared.Texts.{Texts}
use Rattle.arguments.specs.Argument.{argument_type, argument_size, scalar_words, header_scalar, holds_word, word_scalar, value_parts, value_of, argued, argument_body, argument_of, Arguments, refused, arguments, prepend, on_argued, text_in, arguments_of, walked, numbered_of}
use Rattle.arguments.specs.Models.Reading.{take_value, texts, texts_of, value_text, start_of, sought, sought_at, sought_of}
use Rattle.arguments.specs.Loss.{value_bytes, argument_bytes, argument_keeps, arguments_keep}
use Rattle.arguments.specs.Models.Bounds.{ValueInside, Fits}

-- ---- the name, and then the value

-- an argument whose name is read, by what its value is
abbrev pub named : Reference → ℕ → Result Value Reason → Result Argued Reason
named name size (Err reason) = Err reason
named name size (Ok v) = argued (record { name = name; value = v }) size

abbrev pub on_name : Result Taken Reason → (Reference → ℕ → Result Argued Reason) → Result Argued Reason
on_name (Err reason) then = Err reason
on_name (Ok name) then = then name.reference name.next

value-behind : (f : Format) (header : ℕ) (rest : List ℕ) (place size : ℕ) (name : Reference) (b : Body)
    → on_body (prepend_part name b) Err (λ rs next. argued (record { name = part 0 rs; value = value_of f header rest place (part 1 rs) }) size)
    ≡ named name size (on_body b Err (λ rs next. Ok (value_of f header rest place (part 0 rs))))
value-behind f header rest place size name (body_refused reason) = refl
value-behind f header rest place size name (body rs next) = refl

-- an argument's body is its name, and then its value
pub name_then_value : (f : Format) (rest : List ℕ) (place : ℕ)
    → argument_body f rest place
    ≡ on_name (take_text f (field 16 31 (word_at f.order rest 0)) (place + 8) (take (argument_size (word_at f.order rest 0)) rest) place)
    (λ name next. named name (argument_size (word_at f.order rest 0)) (take_value f (word_at f.order rest 0) next (take (argument_size (word_at f.order rest 0)) rest) place))
unfolding argument_body take_parts take_part take_value
name_then_value f rest place = go (take_text f (field 16 31 h) (place + 8) own place)
  where
    h : ℕ
    h = word_at f.order rest 0

    own : List ℕ
    own = take (argument_size h) rest

    go : (t : Result Taken Reason)
        → on_body (on_taken t (λ x next. prepend_part x (take_parts f (value_parts h) next own place))) Err
        (λ rs next. argued (record { name = part 0 rs; value = value_of f h own place (part 1 rs) }) (argument_size h))
        ≡ on_name t (λ name next. named name (argument_size h)
        (on_body (take_parts f (value_parts h) next own place) Err (λ rs last. Ok (value_of f h own place (part 0 rs)))))
    go (Err reason) = refl
    go (Ok t) = value-behind f h own place (argument_size h) t.reference (take_parts f (value_parts h) t.next own place)

-- ---- the texts alone

-- an argument's texts whose name is read, by what its value's text is
abbrev pub texts_named : Reference → ℕ → Result Reference Reason → Result Texts Reason
texts_named name size (Err reason) = Err reason
texts_named name size (Ok value) = texts name value size

abbrev pub on_name_texts : Result Taken Reason → (Reference → ℕ → Result Texts Reason) → Result Texts Reason
on_name_texts (Err reason) then = Err reason
on_name_texts (Ok name) then = then name.reference name.next

-- the texts of an argument that is read, or its refusal
abbrev pub texts_in : Result Argued Reason → Result Texts Reason
texts_in r = on_argued r Err (λ a size. texts a.name (text_in a.value) size)

text_of_value : (f : Format) (header : ℕ) (rest : List ℕ) (place : ℕ) (r : Reference)
    → text_in (value_of f header rest place r) ≡ pick (eqb (argument_type header) 6) r (Inline 0 0)
text_of_value f header rest place r =
    cases (eqb (argument_type header) 6) (λ e. rw e) (λ e. cases (holds_word (argument_type header)) (λ e'. rw (e, e')) (λ e'. rw (e, e')))

-- the same texts, by the name and then the value's text
pub name_then_text : (f : Format) (rest : List ℕ) (place : ℕ)
    → texts_of f rest place
    ≡ pick (ltb (length rest) 8) (Err Malformed)
    (pick (eqb (argument_size (word_at f.order rest 0)) 0) (Err Malformed)
    (pick (ltb (length rest) (argument_size (word_at f.order rest 0))) (Err Malformed)
    (on_name_texts (take_text f (field 16 31 (word_at f.order rest 0)) (place + 8) (take (argument_size (word_at f.order rest 0)) rest) place)
    (λ name next. texts_named name (argument_size (word_at f.order rest 0)) (value_text f (word_at f.order rest 0) next (take (argument_size (word_at f.order rest 0)) rest) place)))))
unfolding texts_of argument_of take_value value_text
name_then_text f rest place =
    cases (ltb (length rest) 8) (λ e. rw e)
    (λ e₁. cases (eqb size 0) (λ e. rw (e₁, e))
    (λ e₂. cases (ltb (length rest) size) (λ e. rw (e₁, e₂, e))
    (λ e₃. rw (e₁, e₂, e₃, name_then_value f rest place) (of_name (take_text f (field 16 31 hd) (place + 8) (take size rest) place)))))
  where
    hd : ℕ
    hd = word_at f.order rest 0

    size : ℕ
    size = argument_size hd

    of_body : (name : Reference) (b : Body)
        → texts_in (named name size (on_body b Err (λ rs next. Ok (value_of f hd (take size rest) place (part 0 rs)))))
        ≡ texts_named name size (on_body b Err (λ rs next. Ok (pick (eqb (argument_type hd) 6) (part 0 rs) (Inline 0 0))))
    of_body name (body_refused reason) = refl
    of_body name (body rs next) = ap (λ r. texts name r size) (text_of_value f hd (take size rest) place (part 0 rs))

    of_name : (t : Result Taken Reason)
        → texts_in (on_name t (λ name next. named name size (take_value f hd next (take size rest) place)))
        ≡ on_name_texts t (λ name next. texts_named name size (value_text f hd next (take size rest) place))
    of_name (Err reason) = refl
    of_name (Ok name) = of_body name.reference (take_parts f (value_parts hd) name.next (take size rest) place)

-- the argument behind its texts, and behind their refusal
pub texts_read : (f : Format) (rest : List ℕ) (place : ℕ) (name value : Reference) (size : ℕ) → texts_of f rest place ≡ texts name value size
    → (a : Argument) × (argument_of f rest place ≡ argued a size) × (a.name ≡ name) × (text_in a.value ≡ value)
unfolding texts_of
texts_read f rest place name value size e = go (argument_of f rest place) refl e
  where
    go : (r : Result Argued Reason) → argument_of f rest place ≡ r → texts_in r ≡ texts name value size
        → (a : Argument) × (argument_of f rest place ≡ argued a size) × (a.name ≡ name) × (text_in a.value ≡ value)
    go (Err reason) q e = cc
    go (Ok r) q e =
        let same : ◌≡◌ {A = Texts} (record { name = r.argument.name; value = text_in r.argument.value; size = r.size }) (record { name = name; value = value; size = size }) = cc in
        (r.argument, q ∙ ap (λ t. argued r.argument t.size) same, ap (λ t. t.name) same, ap (λ t. t.value) same)

pub texts_refused : (f : Format) (rest : List ℕ) (place : ℕ) (reason : Reason) → texts_of f rest place ≡ Err reason → argument_of f rest place ≡ Err reason
unfolding texts_of
texts_refused f rest place reason e = go (argument_of f rest place) refl e
  where
    go : (r : Result Argued Reason) → argument_of f rest place ≡ r → texts_in r ≡ Err reason → argument_of f rest place ≡ Err reason
    go (Err by) q e = let z : by ≡ reason = cc in q ∙ ap Err z
    go (Ok r) q e = cc

-- ---- where they stand, and what they cost

-- a value that is read fits between two places
abbrev pub ValueFits : ℕ → ℕ → Result Value Reason → Type 0
ValueFits at end (Err reason) = Unit {0}
ValueFits at end (Ok v) = (at + value_bytes v ≤ end) × ValueInside at end v

-- the scalars that take a word, and those that take none
pub word-scalar-words : (type word : ℕ) → scalar_words (word_scalar type word) ≡ 1
unfolding word_scalar
word-scalar-words type word =
    on-pick (λ s. scalar_words s ≡ 1) (eqb type 3) _ _ (λ e. refl)
    (λ e. on-pick (λ s. scalar_words s ≡ 1) (eqb type 4) _ _ (λ e. refl)
    (λ e. on-pick (λ s. scalar_words s ≡ 1) (eqb type 5) _ _ (λ e. refl)
    (λ e. on-pick (λ s. scalar_words s ≡ 1) (eqb type 7) _ _ (λ e. refl) (λ e. refl))))

pub header-scalar-words : (header : ℕ) → scalar_words (header_scalar header) ≡ 0
unfolding header_scalar
header-scalar-words header =
    on-pick (λ s. scalar_words s ≡ 0) (eqb (argument_type header) 0) _ _ (λ e. refl)
    (λ e. on-pick (λ s. scalar_words s ≡ 0) (eqb (argument_type header) 1) _ _ (λ e. refl)
    (λ e. on-pick (λ s. scalar_words s ≡ 0) (eqb (argument_type header) 2) _ _ (λ e. refl)
    (λ e. on-pick (λ s. scalar_words s ≡ 0) (eqb (argument_type header) 9) _ _ (λ e. refl) (λ e. refl))))

-- every value fits so
pub value-fits : (f : Format) (hd at : ℕ) (own : List ℕ) (place : ℕ) → at ≤ place + length own
    → ValueFits at (place + length own) (take_value f hd at own place)
unfolding take_value take_parts take_part take_words value_bytes
value-fits f hd at own place h =
    cases (eqb (argument_type hd) 6) (λ e. rw e (of_text (take_text f (field 32 47 hd) at own place) (text_moves f (field 32 47 hd) at own place h)))
    (λ e. cases (holds_word (argument_type hd)) (λ e'. rw (e, e') of_word) (λ e'. rw (e, e', header-scalar-words hd) (omega arith, tt)))
  where
    end : ℕ
    end = place + length own

    of_text : (t : Result Taken Reason) → Moves at end t
        → ValueFits at end (on_body (on_taken t (λ x next. prepend_part x (body [] next))) Err (λ rs next. Ok (Text (part 0 rs))))
    of_text (Err reason) m = tt
    of_text (Ok t) m = (omega (arith, m.0, m.1), m.2)

    of_word : ValueFits at end (on_body (take_parts f (words 1 ∷ []) at own place) Err
        (λ rs next. Ok (ScalarValue (word_scalar (argument_type hd) (word_at f.order own (place_of (part 0 rs) - place))))))
    of_word =
        cases (ltb end (at + 8)) (λ q. rw q tt)
        (λ q. let l = ltb-false end (at + 8) q in rw (q, word-scalar-words (argument_type hd) (word_at f.order own (at - place))) (omega arith, tt))

-- what is said of an argument that is read, of any answer
abbrev pub ArgumentFits : List ℕ → ℕ → Result Argued Reason → Type 0
ArgumentFits rest place (Err reason) = Unit {0}
ArgumentFits rest place (Ok r) = Fits rest place r.argument r.size

-- a value's text that stands between two places stands between wider ones
pub value-inside_wider : {from to : ℕ} (from' to' : ℕ) (v : Value) → from' ≤ from → to ≤ to' → ValueInside from to v → ValueInside from' to' v
value-inside_wider from' to' (ScalarValue s) h k i = tt
value-inside_wider from' to' (Text r) h k i = inside_wider from' to' r h k i

-- every argument fits so
pub argument_fits : (f : Format) (rest : List ℕ) (place : ℕ) → ArgumentFits rest place (argument_of f rest place)
unfolding argument_of
argument_fits f rest place =
    on-pick (ArgumentFits rest place) (ltb (length rest) 8) _ _ (λ e. tt)
    (λ e₁. on-pick (ArgumentFits rest place) (eqb size 0) _ _ (λ e. tt)
    (λ e₂. on-pick (ArgumentFits rest place) (ltb (length rest) size) _ _ (λ e. tt)
    (λ e₃. rw (name_then_value f rest place)
    (of_name (eqb-false size 0 e₂) (ltb-false (length rest) size e₃) (take_text f (field 16 31 hd) (place + 8) (take size rest) place)
    (text_moves f (field 16 31 hd) (place + 8) (take size rest) place)))))
  where
    hd : ℕ
    hd = word_at f.order rest 0

    size : ℕ
    size = argument_size hd

    end : ℕ
    end = place + length (take size rest)

    of_value : (size ≡ 0 → ⊥) → size ≤ length rest → (name : Reference) (next : ℕ) → Moves (place + 8) end (taken name next)
        → (v : Result Value Reason) → ValueFits next end v → ArgumentFits rest place (named name size v)
    of_value z l name next m (Err reason) k = tt
    of_value z l name next m (Ok v) k =
        let long = length-take-le size rest l in
        record {
          some = omega arith;
          whole = omega arith;
          inside = l;
          enough = omega (arith, long, m.0, k.0);
          name = inside_wider place (place + size) name (omega arith) (omega (arith, long)) m.2;
          value = value-inside_wider place (place + size) v (omega (arith, m.0)) (omega (arith, long)) k.1;
        }

    of_name : (size ≡ 0 → ⊥) → size ≤ length rest → (t : Result Taken Reason) → (place + 8 ≤ end → Moves (place + 8) end t)
        → ArgumentFits rest place (on_name t (λ name next. named name size (take_value f hd next (take size rest) place)))
    of_name z l (Err reason) m = tt
    of_name z l (Ok name) m =
        let m' = m (omega (arith, length-take-le size rest l)) in
        of_value z l name.reference name.next m' (take_value f hd name.next (take size rest) place) (value-fits f hd name.next (take size rest) place m'.1)

-- the same of an argument that is known to be read
pub argument_read : (f : Format) (rest : List ℕ) (place : ℕ) (a : Argument) (size : ℕ) → argument_of f rest place ≡ argued a size → Fits rest place a size
argument_read f rest place a size e = subst (ArgumentFits rest place) e (argument_fits f rest place)

-- and by its texts alone
pub texts_inside : (f : Format) (rest : List ℕ) (place : ℕ) (name value : Reference) (size : ℕ) → texts_of f rest place ≡ texts name value size
    → size ≤ length rest
texts_inside f rest place name value size e = let q = texts_read f rest place name value size e in (argument_read f rest place q.0 size q.1).inside

-- ---- all arguments of an event

abbrev pub arguments_bytes : List Argument → ℕ
arguments_bytes [] = 0
arguments_bytes (a ∷ l) = argument_bytes a + arguments_bytes l

-- arguments that are read are as many as asked for, and end inside what is left of the event, behind what they cost
abbrev pub ArgumentsFit : ℕ → List ℕ → ℕ → Arguments → Type 0
ArgumentsFit count rest place (refused reason) = Unit {0}
ArgumentsFit count rest place (arguments l next) =
    (length l ≡ count) × (place + arguments_bytes l ≤ next) × (next ≤ place + length rest) × ((next - place) % 8 ≡ 0)

pub arguments_fit : (f : Format) (count : ℕ) (rest : List ℕ) (place : ℕ) → ArgumentsFit count rest place (arguments_of f count rest place)
unfolding arguments_of
arguments_fit f zero rest place = (refl, omega arith, omega arith, omega arith)
arguments_fit f (suc count) rest place =
    of_argument (λ more at. arguments_fit f count more at) (argument_of f rest place) (argument_fits f rest place)
  where
    of_rest : (a : Argument) (size : ℕ) → Fits rest place a size → (q : Arguments) → ArgumentsFit count (drop size rest) (place + size) q
        → ArgumentsFit (suc count) rest place (prepend a q)
    of_rest a size s (refused reason) k = tt
    of_rest a size s (arguments l next) k = (
      ap suc k.0,
      omega (arith, s.enough, k.1),
      omega (arith, s.inside, k.2, length-drop size rest),
      omega (arith, s.whole, k.1, k.3),
    )

    of_argument : ((more : List ℕ) (at : ℕ) → ArgumentsFit count more at (arguments_of f count more at)) → (r : Result Argued Reason) → ArgumentFits rest place r
        → ArgumentsFit (suc count) rest place (on_argued r refused (λ a size. prepend a (arguments_of f count (drop size rest) (place + size))))
    of_argument fit (Err reason) s = tt
    of_argument fit (Ok r) s =
        of_rest r.argument r.size s (arguments_of f count (drop r.size rest) (place + r.size)) (fit (drop r.size rest) (place + r.size))

-- one turn of the walk over arguments
pub walk_turn : (f : Format) (n : ℕ) (rest : List ℕ) (place : ℕ) → 0 < n
    → walked (arguments_of f n rest place)
    ≡ on_argued (argument_of f rest place) Err (λ a size. walked (arguments_of f (n - 1) (drop size rest) (place + size)))
unfolding arguments_of
walk_turn f zero rest place h = absurd (omega arith)
walk_turn f (suc n) rest place h = let e : suc n - 1 ≡ n = omega arith in rw e (go (argument_of f rest place))
  where
    behind : (a : Argument) (q : Arguments) → walked (prepend a q) ≡ walked q
    behind a (refused reason) = refl
    behind a (arguments l next) = refl

    go : (r : Result Argued Reason)
        → walked (on_argued r refused (λ a size. prepend a (arguments_of f n (drop size rest) (place + size))))
        ≡ on_argued r Err (λ a size. walked (arguments_of f n (drop size rest) (place + size)))
    go (Err reason) = refl
    go (Ok r) = behind r.argument (arguments_of f n (drop r.size rest) (place + r.size))

-- one turn of the same walk for what the arguments keep
pub keep_turn : (f : Format) (n : ℕ) (rest : List ℕ) (place extra : ℕ) → 0 < n
    → arguments_keep f n rest place extra
    ≡ on_argued (argument_of f rest place) (λ reason. false)
    (λ a size. argument_keeps f rest place a size && arguments_keep f (n - 1) (drop size rest) (place + size) extra)
unfolding arguments_keep
keep_turn f zero rest place extra h = absurd (omega arith)
keep_turn f (suc n) rest place extra h = let e : suc n - 1 ≡ n = omega arith in rw e

-- ---- the walk that remembers where the argument of a number starts

-- where that is: known when `asked` arguments were left, and to be found in what is left before
abbrev pub start_from : Format → (n asked start : ℕ) → List ℕ → ℕ → ℕ
start_from f n asked start rest place = pick (ltb n asked) start (start_of f (n - asked) rest place)

-- one turn of the walk: the place is taken where so many arguments are left, and kept where not
pub start_turn : {A B : Type 0} (f : Format) (n asked start start' : ℕ) (rest : List ℕ) (place : ℕ) (a : Argument) (size : ℕ) → 0 < n → 0 < asked
    → argument_of f rest place ≡ argued a size → (A → n ≡ asked) → (B → n ≡ asked → ⊥) → (A × (start' ≡ place)) ⊎ (B × (start' ≡ start))
    → start_from f n asked start rest place ≡ start_from f (n - 1) asked start' (drop size rest) (place + size)
unfolding start_of
start_turn f n asked start start' rest place a size h k e taken left (inl p) =
    let here = taken p.0 in
    let none : n - asked ≡ 0 = omega arith in
    rw (le-ltb n asked (omega arith), lt-ltb (n - 1) asked (omega arith), none) (sym p.1)
start_turn f n asked start start' rest place a size h k e taken left (inr p) =
    cases (ltb n asked)
    (λ b. let l = ltb-true n asked b in rw (b, lt-ltb (n - 1) asked (omega arith)) (sym p.1))
    (λ b.
    let l = ltb-false n asked b in
    let more : n - asked ≡ suc (n - 1 - asked) = omega (arith, left p.0) in
    rw (b, le-ltb (n - 1) asked (omega (arith, left p.0)), more, e))

-- an argument of a number starts at the first of them or behind, and inside what is left of their event
pub start_inside : (f : Format) (number : ℕ) (rest : List ℕ) (place : ℕ)
    → (place ≤ start_of f number rest place) × (start_of f number rest place ≤ place + length rest)
unfolding start_of
start_inside f zero rest place = (omega arith, omega arith)
start_inside f (suc number) rest place =
    go (λ more at. start_inside f number more at) (argument_of f rest place) (argument_fits f rest place)
  where
    go : ((more : List ℕ) (at : ℕ) → (at ≤ start_of f number more at) × (start_of f number more at ≤ at + length more))
        → (r : Result Argued Reason) → ArgumentFits rest place r
        → let start = on_argued r (λ reason. place) (λ a size. start_of f number (drop size rest) (place + size)) in
        (place ≤ start) × (start ≤ place + length rest)
    go inside (Err reason) s = (omega arith, omega arith)
    go inside (Ok r) s =
        let i = inside (drop r.size rest) (place + r.size) in
        (omega (arith, i.0), omega (arith, i.1, s.inside, length-drop r.size rest))

-- the argument of a number is the one that starts there
pub numbered_start : (f : Format) (number : ℕ) (rest : List ℕ) (place : ℕ)
    → numbered_of f number rest place ≡ argument_of f (drop (start_of f number rest place - place) rest) (start_of f number rest place)
unfolding numbered_of start_of
numbered_start f zero rest place = let none : place - place ≡ 0 = omega arith in rw none
numbered_start f (suc number) rest place = go (λ more at. numbered_start f number more at) (argument_of f rest place) refl
  where
    go : ((more : List ℕ) (at : ℕ) → numbered_of f number more at ≡ argument_of f (drop (start_of f number more at - at) more) (start_of f number more at))
        → (r : Result Argued Reason) → argument_of f rest place ≡ r
        → let start = on_argued r (λ reason. place) (λ a size. start_of f number (drop size rest) (place + size)) in
        on_argued r Err (λ a size. numbered_of f number (drop size rest) (place + size)) ≡ argument_of f (drop (start - place) rest) start
    go same (Err reason) q = let none : place - place ≡ 0 = omega arith in rw none (sym q)
    go same (Ok r) q =
        let next : ℕ = place + r.size in
        let start = start_of f number (drop r.size rest) next in
        let there : r.size + (start - next) ≡ start - place = omega (arith, (start_inside f number (drop r.size rest) next).0) in
        same (drop r.size rest) next ∙ rw (drop-drop (start - next) r.size rest, there)

-- what such a walk comes to
pub sought_refused : (f : Format) (count number : ℕ) (rest : List ℕ) (place : ℕ) (reason : Reason) → sought_of f count number rest place ≡ Err reason
    → walked (arguments_of f count rest place) ≡ Err reason
unfolding sought_of
sought_refused f count number rest place reason = go (walked (arguments_of f count rest place))
  where
    go : (w : Result ℕ Reason) → sought_at w (start_of f number rest place) ≡ Err reason → w ≡ Err reason
    go (Err by) e = let z : by ≡ reason = cc in rw z
    go (Ok at) e = cc

pub sought_ended : (f : Format) (count number : ℕ) (rest : List ℕ) (place at start : ℕ) → sought_of f count number rest place ≡ sought at start
    → (walked (arguments_of f count rest place) ≡ Ok at) × (start_of f number rest place ≡ start)
unfolding sought_of
sought_ended f count number rest place at start = go (walked (arguments_of f count rest place))
  where
    go : (w : Result ℕ Reason) → sought_at w (start_of f number rest place) ≡ sought at start → (w ≡ Ok at) × (start_of f number rest place ≡ start)
    go (Err by) e = cc
    go (Ok at') e =
        let same : ◌≡◌ {A = Sought} (record { at = at'; start = start_of f number rest place }) (record { at = at; start = start }) = cc in
        (ap (λ t. Ok t.at) same, ap (λ t. t.start) same)
