-- What an argument's type says of its value: whether it is a text, and whether a word stands behind the name. Assumes nothing.
use Prim.Native.Nat.{ℕ, ◌+◌, ◌-◌, ◌*◌}
use mathlib.Core.Path.{◌≡◌, subst}
use mathlib.Core.List.{List}
use mathlib.Core.Bool.{true, false}
use lib.Dec.{eqb, ltb}
use lib.ListN.{length, take}
use Rattle.std.proofs.Common.{Result, Ok, Err}
use Rattle.words.specs.Word.{word_at, field}
use Rattle.words.proofs.Tests.{on-pick}
use Rattle.format.specs.declared.Format.{Format}
use Rattle.format.specs.declared.Reference.{Reference}
use Rattle.format.specs.declared.Taken.{Taken}
use Rattle.format.specs.declared.Reason.{Reason}
use Rattle.format.specs.Part.{take_text, Body, refused as body_refused, body, on_body, take_parts, part, place_of}
use Rattle.arguments.specs.declared.Value.{Value}
use Rattle.arguments.specs.declared.Value.TheVariants.{Scalar as ScalarValue, Text}
use Rattle.arguments.specs.declared.Argument.{Argument}
use Rattle.arguments.specs.declared.Argued.{Argued}
use Rattle.arguments.specs.Argument.{argument_type, argument_size, scalar_words, holds_word, value_parts, value_of, argued, argument_of}
use Rattle.arguments.specs.Models.Reading.{take_value, held_bytes}
use Rattle.arguments.proofs.Arguments.{named, on_name, name_then_value, word-scalar-words, header-scalar-words}

-- a value by its argument's type: a text where that is 6, otherwise a scalar that takes a word or none
abbrev pub ValueShown : ℕ → Value → Type 0
ValueShown type (ScalarValue s) = (eqb type 6 ≡ false) × (8 * scalar_words s ≡ held_bytes type)
ValueShown type (Text reference) = (eqb type 6 ≡ true) × (held_bytes type ≡ 0)

-- of a value that is read or refused
abbrev ValuedShown : ℕ → Result Value Reason → Type 0
ValuedShown type (Err reason) = Unit {0}
ValuedShown type (Ok v) = ValueShown type v

-- of the value of an argument
abbrev ArguedShown : ℕ → Result Argued Reason → Type 0
ArguedShown type (Err reason) = Unit {0}
ArguedShown type (Ok r) = ValueShown type r.argument.value

-- every value is so
value_shown_lem : (f : Format) (hd at : ℕ) (own : List ℕ) (place : ℕ) → ValuedShown (argument_type hd) (take_value f hd at own place)
unfolding take_value held_bytes
value_shown_lem f hd at own place = go (take_parts f (value_parts hd) at own place)
  where
    type : ℕ
    type = argument_type hd

    go : (b : Body) → ValuedShown type (on_body b Err (λ rs next. Ok (value_of f hd own place (part 0 rs))))
    go (body_refused reason) = tt
    go (body rs next) =
        on-pick (ValueShown type) (eqb type 6) _ _ (λ e. (e, rw e))
        (λ e. on-pick (ValueShown type) (holds_word type) _ _
        (λ e'. (e, rw (e, e', word-scalar-words type (word_at f.order own (place_of (part 0 rs) - place)))))
        (λ e'. (e, rw (e, e', header-scalar-words hd))))

-- so is that of every argument
argument_shown : (f : Format) (rest : List ℕ) (place : ℕ) → ArguedShown (argument_type (word_at f.order rest 0)) (argument_of f rest place)
unfolding argument_of
argument_shown f rest place =
    on-pick (ArguedShown type) (ltb (length rest) 8) _ _ (λ e. tt)
    (λ e. on-pick (ArguedShown type) (eqb size 0) _ _ (λ e. tt)
    (λ e. on-pick (ArguedShown type) (ltb (length rest) size) _ _ (λ e. tt)
    (λ e. rw (name_then_value f rest place) (of_name (take_text f (field 16 31 hd) (place + 8) (take size rest) place)))))
  where
    hd : ℕ
    hd = word_at f.order rest 0

    type : ℕ
    type = argument_type hd

    size : ℕ
    size = argument_size hd

    of_value : (name : Reference) (v : Result Value Reason) → ValuedShown type v → ArguedShown type (named name size v)
    of_value name (Err reason) k = tt
    of_value name (Ok v) k = k

    of_name : (t : Result Taken Reason) → ArguedShown type (on_name t (λ name next. named name size (take_value f hd next (take size rest) place)))
    of_name (Err reason) = tt
    of_name (Ok name) =
        of_value name.reference (take_value f hd name.next (take size rest) place) (value_shown_lem f hd name.next (take size rest) place)

-- the value of an argument that is known to be read is so
pub value_read : (f : Format) (rest : List ℕ) (place : ℕ) (a : Argument) (size : ℕ) → argument_of f rest place ≡ argued a size
    → ValueShown (argument_type (word_at f.order rest 0)) a.value
value_read f rest place a size e = subst (ArguedShown (argument_type (word_at f.order rest 0))) e (argument_shown f rest place)
