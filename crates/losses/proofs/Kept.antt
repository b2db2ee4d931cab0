-- Laws of records that lose nothing: where their arguments end. Assumes nothing.
use Prim.Native.Nat.{ℕ, zero, suc, ◌+◌, ◌-◌, ◌*◌, ◌≤◌}
use mathlib.Core.Path.{◌≡◌, refl, sym, ap, subst, ◌∙◌}
use mathlib.Core.List.{List}
use mathlib.Core.Bool.{true, false, ◌&&◌, true≢false}
use native.Mathlib.Omega.{arith}
use borrow.Author.Tests.{eqb-true}
use lib.Dec.{eqb}
use lib.ListN.{length, drop, length-drop}
use Rattle.std.proofs.Common.{Result, Ok, Err}
use Rattle.words.specs.Word.{word_at}
use Rattle.words.proofs.Tests.{both_true}
use Rattle.format.specs.declared.Format.{Format}
use Rattle.format.specs.declared.Reason.{Reason}
use Rattle.format.specs.declared.Reference.{Reference}
use Rattle.format.specs.Part.{padding_zero}
use Rattle.arguments.specs.declared.Argument.{Argument}
use Rattle.arguments.specs.declared.Argued.{Argued}
use Rattle.arguments.specs.Argument.{Arguments, refused, arguments, prepend, on_argued, argument_of, arguments_of, walked}
use Rattle.arguments.specs.Loss.{argument_keeps, arguments_keep}
use Rattle.arguments.proofs.Arguments.{ArgumentFits, argument_fits}
use Rattle.records.specs.declared.Layout.{Layout}
use Rattle.records.specs.declared.Content.{Content}
use Rattle.records.specs.Layout.{layout_of, fields, take_fields, last_word, on_number, report_of, refused_by}
use Rattle.records.specs.Loss.{report_keeps, record_keeps}
use Rattle.records.proofs.Layouts.{fields_read}
use Rattle.losses.specs.Models.Checking.{with_last}

-- ---- where arguments end

-- one argument before others does not change where they end
walked-behind : (a : Argument) (q : Arguments) → walked (prepend a q) ≡ walked q
walked-behind a (refused reason) = refl
walked-behind a (arguments l next) = refl

-- arguments that lose nothing are read, and end so many bytes before the end of what is left of their record
pub kept_end : (f : Format) (count : ℕ) (rest : List ℕ) (place extra : ℕ) → arguments_keep f count rest place extra ≡ true
    → (extra ≤ length rest) × (walked (arguments_of f count rest place) ≡ Ok (place + (length rest - extra)))
unfolding arguments_keep arguments_of
kept_end f zero rest place extra k =
    let e = eqb-true (length rest) extra k in
    let here : place ≡ place + (length rest - extra) = omega (arith, e) in
    (omega (arith, e), ap Ok here)
kept_end f (suc count) rest place extra k =
    go (λ more at. kept_end f count more at extra) (argument_of f rest place) (argument_fits f rest place) k
  where
    go : ((more : List ℕ) (at : ℕ) → arguments_keep f count more at extra ≡ true
        → (extra ≤ length more) × (walked (arguments_of f count more at) ≡ Ok (at + (length more - extra))))
        → (x : Result Argued Reason) → ArgumentFits rest place x
        → on_argued x (λ reason. false)
        (λ a size. argument_keeps f rest place a size && arguments_keep f count (drop size rest) (place + size) extra) ≡ true
        → (extra ≤ length rest)
        × (walked (on_argued x refused (λ a size. prepend a (arguments_of f count (drop size rest) (place + size))))
        ≡ Ok (place + (length rest - extra)))
    go ends (Err reason) s k = absurd (true≢false (sym k))
    go ends (Ok x) s k =
        let others = (both_true (argument_keeps f rest place x.argument x.size) (arguments_keep f count (drop x.size rest) (place + x.size) extra) k).1 in
        let r = ends (drop x.size rest) (place + x.size) others in
        let long = length-drop x.size rest in
        let same : place + x.size + (length (drop x.size rest) - extra) ≡ place + (length rest - extra) = omega (arith, r.0, s.inside, long) in
        (omega (arith, r.0, s.inside, long), walked-behind x.argument (arguments_of f count (drop x.size rest) (place + x.size)) ∙ r.1 ∙ ap Ok same)

-- ---- records that refer to texts and threads

-- one whose parts are read: its arguments end where its last words start
kept_here : (f : Format) (source : List ℕ) (place : ℕ) (a b c s : Reference) (first : ℕ) → 8 ≤ length source
    → (let l = layout_of (word_at f.order source 0) in
    take_fields f l source place ≡ fields a b c s first
    → record_keeps f source place (report_of f source place) ≡ true
    → report_of f source place
    ≡ with_last f l source a b c s first (last_word f source place (place + length source - 8 * l.behind) l.behind))
unfolding report_of record_keeps report_keeps
kept_here f source place a b c s first some e keeps = rw e (of_walk (walked (arguments_of f l.count part first)) refl (rw e at keeps))
  where
    l : Layout
    l = layout_of (word_at f.order source 0)

    part : List ℕ
    part = drop (first - place) source

    end : ℕ
    end = place + length source - 8 * l.behind

    then : Result ℕ Reason → Content
    then x = with_last f l source a b c s first x

    same_end : (a b : ℕ) → ◌≡◌ {A = Result ℕ Reason} (Ok a) (Ok b) → a ≡ b
    same_end a b e = cc

    of_last : (at : ℕ) → walked (arguments_of f l.count part first) ≡ Ok at → (x : Result ℕ Reason) → record_keeps f source place (then x) ≡ true → at ≡ end
    of_last at w (Err reason) k = absurd (true≢false (sym k))
    of_last at w (Ok last) k =
        let tail = arguments_keep f l.count part first (8 * l.behind) in
        let one = padding_zero source place a in
        let two = padding_zero source place b in
        let three = padding_zero source place c in
        let stream = padding_zero source place s in
        let k0 = both_true (eqb l.reserved 0) (one && (two && (three && (stream && tail)))) k in
        let k1 = both_true one (two && (three && (stream && tail))) k0.1 in
        let k2 = both_true two (three && (stream && tail)) k1.1 in
        let k3 = both_true three (stream && tail) k2.1 in
        let ends = kept_end f l.count part first (8 * l.behind) (both_true stream tail k3.1).1 in
        let stands = fields_read f l source place a b c s first some e in
        let is = same_end at (first + (length part - 8 * l.behind)) (sym w ∙ ends.1) in
        omega (arith, is, ends.0, stands.starts, stands.ends, length-drop (first - place) source)

    of_walk : (w : Result ℕ Reason) → walked (arguments_of f l.count part first) ≡ w
        → record_keeps f source place (on_number w refused_by (λ at. then (last_word f source place at l.behind))) ≡ true
        → on_number w refused_by (λ at. then (last_word f source place at l.behind)) ≡ then (last_word f source place end l.behind)
    of_walk (Err reason) q k = absurd (true≢false (sym k))
    of_walk (Ok at) q k =
        let is = of_last at q (last_word f source place at l.behind) k in
        ap (λ (n : ℕ). then (last_word f source place n l.behind)) is

-- the same for a layout that is known to be the record's
pub kept-report : (f : Format) (source : List ℕ) (place : ℕ) (l : Layout) (a b c s : Reference) (first : ℕ) → 8 ≤ length source
    → layout_of (word_at f.order source 0) ≡ l → take_fields f l source place ≡ fields a b c s first
    → record_keeps f source place (report_of f source place) ≡ true
    → report_of f source place
    ≡ with_last f l source a b c s first (last_word f source place (place + length source - 8 * l.behind) l.behind)
kept-report f source place l a b c s first some is = subst P is (kept_here f source place a b c s first some)
  where
    P : Layout → Type 0
    P l =
        take_fields f l source place ≡ fields a b c s first
        → record_keeps f source place (report_of f source place) ≡ true
        → report_of f source place
        ≡ with_last f l source a b c s first (last_word f source place (place + length source - 8 * l.behind) l.behind)
