-- What is read of an argument of bytes fits the fields that it is read from: lengths of texts, and every value.
-- Assumes nothing.
use Prim.Native.Nat.{ℕ, zero, suc, ◌+◌, ◌-◌, ◌^◌, ◌≤◌, ◌<◌}
use mathlib.Core.Path.{◌≡◌}
use mathlib.Core.List.{[], List, ◌∷◌}
use mathlib.Core.Bool.{true, false, ◌&&◌}
use native.Mathlib.Omega.{arith}
use borrow.Author.Tests.{ltb-true, ltb-false, eqb-false}
use lib.Dec.{eqb, ltb}
use lib.ListN.{length, take, drop}
use Rattle.std.proofs.Common.{Result, Ok, Err}
use Rattle.words.specs.Word.{word_at, field}
use Rattle.words.proofs.Words.{AllBytes, bytes_left, bytes_before, word_at_lt}
use Rattle.words.proofs.Signed.{SignedFits, signed-fits}
use Rattle.words.proofs.Tests.{both_true, on-pick, cases}
use Rattle.format.specs.declared.Format.{Format}
use Rattle.format.specs.declared.Reference.{Reference}
use Rattle.format.specs.declared.Reference.TheVariants.{Inline, Index}
use Rattle.format.specs.declared.Taken.{Taken}
use Rattle.format.specs.declared.Reason.{Reason}
use Rattle.format.specs.declared.Part.TheVariants.{Words as words}
use Rattle.format.specs.Part.{take_words, take_stream, take_text, take_part, body, prepend, on_taken, take_parts, on_body, part, place_of}
use Rattle.arguments.specs.declared.Scalar.{Scalar}
use Rattle.arguments.specs.declared.Scalar.TheVariants.{Null, Signed32, Unsigned32, Signed64, Unsigned64, Double, Pointer, KernelObject, Boolean, Unknown}
use Rattle.arguments.specs.declared.Value.{Value}
use Rattle.arguments.specs.declared.Value.TheVariants.{Scalar as ScalarValue, Text as TextValue}
use Rattle.arguments.specs.declared.Argument.{Argument}
use Rattle.arguments.specs.declared.Argued.{Argued}
use Rattle.arguments.specs.Argument.{argument_type, argument_size, header_scalar, holds_word, word_scalar, argument_of, on_argued, numbered_of}
use Rattle.arguments.specs.Models.Reading.{take_value}
use Rattle.arguments.specs.Loss.{argument_keeps, arguments_keep}
use Rattle.arguments.proofs.Arguments.{named, on_name, name_then_value}

-- ---- parts

-- a text that is read inline is short enough
abbrev pub TextShort : Format → Reference → Type 0
TextShort f (Inline place long) = long ≤ f.longest
TextShort f (Index index) = Unit {0}

-- what is taken is so
abbrev pub TakenShort : Format → Result Taken Reason → Type 0
TakenShort f (Err reason) = Unit {0}
TakenShort f (Ok t) = TextShort f t.reference

stream-short : (f : Format) (n place : ℕ) (source : List ℕ) (start : ℕ) → TakenShort f (take_stream f n place source start)
unfolding take_stream
stream-short f n place source start =
    on-pick (TakenShort f) (ltb f.longest n) _ _ (λ e. tt)
    (λ e. on-pick (TakenShort f) (ltb (start + length source) _) _ _ (λ q. tt) (λ q. ltb-false f.longest n e))

-- what a string reference has inline is short enough
pub text-short : (f : Format) (r place : ℕ) (source : List ℕ) (start : ℕ) → TakenShort f (take_text f r place source start)
unfolding take_text
text-short f r place source start =
    on-pick (TakenShort f) (eqb r 0) _ _ (λ e. omega arith)
    (λ e. on-pick (TakenShort f) (ltb r 0x8000) _ _ (λ q. tt) (λ q. stream-short f (r - 0x8000) place source start))

-- ---- values

-- a scalar that fits its field; an unknown one is never written
abbrev pub ScalarFits : Scalar → Type 0
ScalarFits Null = Unit {0}
ScalarFits (Signed32 z) = SignedFits 32 z
ScalarFits (Unsigned32 n) = n < 2 ^ 32
ScalarFits (Signed64 z) = SignedFits 64 z
ScalarFits (Unsigned64 n) = n < 2 ^ 64
ScalarFits (Double n) = n < 2 ^ 64
ScalarFits (Pointer n) = n < 2 ^ 64
ScalarFits (KernelObject n) = n < 2 ^ 64
ScalarFits (Boolean b) = Unit {0}
ScalarFits (Unknown type) = ⊥

-- a value's text is short enough, a scalar fits its field
abbrev pub ValueBound : Format → Value → Type 0
ValueBound f (ScalarValue s) = ScalarFits s
ValueBound f (TextValue r) = TextShort f r

word_bound : (type word : ℕ) → word < 2 ^ 64 → ScalarFits (word_scalar type word)
unfolding word_scalar
word_bound type word h =
    on-pick ScalarFits (eqb type 3) _ _ (λ e. signed-fits 64 word (omega arith) h)
    (λ e. on-pick ScalarFits (eqb type 4) _ _ (λ e. h)
    (λ e. on-pick ScalarFits (eqb type 5) _ _ (λ e. h) (λ e. on-pick ScalarFits (eqb type 7) _ _ (λ e. h) (λ e. h))))

-- a known type that holds no text and no word has its value in the header
header_bound : (header : ℕ) → argument_type header < 10 → eqb (argument_type header) 6 ≡ false → holds_word (argument_type header) ≡ false
    → ScalarFits (header_scalar header)
unfolding header_scalar holds_word
header_bound header known no_text no_word =
    on-pick ScalarFits (eqb t 0) _ _ (λ e. tt)
    (λ e0. on-pick ScalarFits (eqb t 1) _ _ (λ e. signed-fits 32 (field 32 63 header) (omega arith) (omega arith))
    (λ e1. on-pick ScalarFits (eqb t 2) _ _ (λ e. omega arith)
    (λ e2. on-pick ScalarFits (eqb t 9) _ _ (λ e. tt)
    (λ e9. cases (ltb t 3) (λ q. omega (arith, ltb-true t 3 q, eqb-false t 0 e0, eqb-false t 1 e1, eqb-false t 2 e2))
    (λ q. let below : ltb t 9 ≡ false = rw q at no_word in
    omega (arith, ltb-false t 9 below, eqb-false t 9 e9))))))
  where
    t : ℕ
    t = argument_type header

abbrev ValuedBound : Format → Result Value Reason → Type 0
ValuedBound f (Err reason) = Unit {0}
ValuedBound f (Ok v) = ValueBound f v

value_bound : (f : Format) (hd at : ℕ) (own : List ℕ) (place : ℕ) → AllBytes own → argument_type hd < 10
    → ValuedBound f (take_value f hd at own place)
unfolding take_value take_parts take_part take_words
value_bound f hd at own place bytes known =
    cases (eqb (argument_type hd) 6) (λ e. rw e (of_text (take_text f (field 32 47 hd) at own place) (text-short f (field 32 47 hd) at own place)))
    (λ e. cases (holds_word (argument_type hd)) (λ e'. rw (e, e') of_word) (λ e'. rw (e, e') (header_bound hd known e e')))
  where
    of_text : (t : Result Taken Reason) → TakenShort f t
        → ValuedBound f (on_body (on_taken t (λ x next. prepend x (body [] next))) Err (λ rs next. Ok (TextValue (part 0 rs))))
    of_text (Err reason) m = tt
    of_text (Ok t) m = m

    of_word : ValuedBound f (on_body (take_parts f (words 1 ∷ []) at own place) Err
        (λ rs next. Ok (ScalarValue (word_scalar (argument_type hd) (word_at f.order own (place_of (part 0 rs) - place))))))
    of_word =
        cases (ltb (place + length own) (at + 8)) (λ q. rw q tt)
        (λ q. rw q (word_bound (argument_type hd) (word_at f.order own (at - place)) (word_at_lt f.order own (at - place) bytes)))

-- ---- arguments

-- an argument whose name is short enough, and whose value fits
pub record ArgumentBound (f : Format) (a : Argument) : Type 0 where
  pub name : TextShort f a.name
  pub value : ValueBound f a.value

-- what is said of an argument that is read, of any answer
abbrev pub ArguedBound : Format → Result Argued Reason → Type 0
ArguedBound f (Err reason) = Unit {0}
ArguedBound f (Ok r) = ArgumentBound f r.argument

-- an argument of a known type that is read is so
pub argument_bound : (f : Format) (rest : List ℕ) (place : ℕ) → AllBytes rest → argument_type (word_at f.order rest 0) < 10
    → ArguedBound f (argument_of f rest place)
unfolding argument_of
argument_bound f rest place bytes known =
    on-pick (ArguedBound f) (ltb (length rest) 8) _ _ (λ e. tt)
    (λ e. on-pick (ArguedBound f) (eqb size 0) _ _ (λ e. tt)
    (λ e. on-pick (ArguedBound f) (ltb (length rest) size) _ _ (λ e. tt)
    (λ e. rw (name_then_value f rest place)
    (of_name (take_text f (field 16 31 hd) (place + 8) (take size rest) place) (text-short f (field 16 31 hd) (place + 8) (take size rest) place)))))
  where
    hd : ℕ
    hd = word_at f.order rest 0

    size : ℕ
    size = argument_size hd

    of_value : (name : Reference) → TextShort f name → (v : Result Value Reason) → ValuedBound f v → ArguedBound f (named name size v)
    of_value name m (Err reason) k = tt
    of_value name m (Ok v) k = record { name = m; value = k }

    of_name : (t : Result Taken Reason) → TakenShort f t
        → ArguedBound f (on_name t (λ name next. named name size (take_value f hd next (take size rest) place)))
    of_name (Err reason) m = tt
    of_name (Ok name) m =
        of_value name.reference m (take_value f hd name.next (take size rest) place)
        (value_bound f hd name.next (take size rest) place (bytes_before size rest bytes) known)

-- where nothing of the arguments is lost, the argument of every number is so
pub number_bound : (f : Format) (n count : ℕ) (rest : List ℕ) (place extra : ℕ) → AllBytes rest → n < count
    → arguments_keep f count rest place extra ≡ true → ArguedBound f (numbered_of f n rest place)
unfolding numbered_of arguments_keep argument_keeps
number_bound f n zero rest place extra bytes low keep = absurd (omega arith)
number_bound f zero (suc count) rest place extra bytes low keep =
    go (argument_of f rest place) keep (argument_bound f rest place bytes)
  where
    go : (x : Result Argued Reason)
        → on_argued x (λ reason. false) (λ a size. argument_keeps f rest place a size && arguments_keep f count (drop size rest) (place + size) extra) ≡ true
        → (argument_type (word_at f.order rest 0) < 10 → ArguedBound f x) → ArguedBound f x
    go (Err reason) k b = tt
    go (Ok r) k b =
        let keeps = (both_true (argument_keeps f rest place r.argument r.size) (arguments_keep f count (drop r.size rest) (place + r.size) extra) k).0 in
        b (ltb-true (argument_type (word_at f.order rest 0)) 10 (both_true (ltb (argument_type (word_at f.order rest 0)) 10) _ keeps).0)
number_bound f (suc n) (suc count) rest place extra bytes low keep =
    go (argument_of f rest place) keep
    (λ more at b k. number_bound f n count more at extra b (omega arith) k)
  where
    go : (x : Result Argued Reason)
        → on_argued x (λ reason. false) (λ a size. argument_keeps f rest place a size && arguments_keep f count (drop size rest) (place + size) extra) ≡ true
        → ((more : List ℕ) (at : ℕ) → AllBytes more → arguments_keep f count more at extra ≡ true → ArguedBound f (numbered_of f n more at))
        → ArguedBound f (on_argued x Err (λ a size. numbered_of f n (drop size rest) (place + size)))
    go (Err reason) k b = tt
    go (Ok r) k b =
        b (drop r.size rest) (place + r.size) (bytes_left r.size rest bytes)
        (both_true (argument_keeps f rest place r.argument r.size) (arguments_keep f count (drop r.size rest) (place + r.size) extra) k).1
