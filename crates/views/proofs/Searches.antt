-- Laws of the walk over the arguments of a record whose entries are looked up. Assumes nothing.
use Prim.Native.Nat.{ℕ, zero, suc, ◌+◌, ◌-◌, ◌<◌}
use mathlib.Core.Path.{◌≡◌, refl, sym, ap}
use mathlib.Core.List.{List}
use mathlib.Core.Bool.{Bool, true, false}
use mathlib.Core.Logic.{◌⊎◌, inl, inr}
use native.Mathlib.Omega.{arith}
use lib.ListN.{drop}
use Rattle.std.proofs.Common.{Result, Ok, Err}
use Rattle.words.specs.Word.{pick}
use Rattle.words.proofs.Tests.{on-pick}
use Rattle.format.specs.declared.Format.{Format}
use Rattle.format.specs.declared.Reason.{Reason}
use Rattle.tables.specs.Table.{resolved}
use Rattle.format.specs.declared.Reference.{Reference}
use Rattle.records.specs.Lookups.{argument_lookups}
use Rattle.arguments.specs.declared.Argument.{Argument}
use Rattle.arguments.specs.declared.Argued.{Argued}
use Rattle.arguments.specs.Argument.{argument_of, on_argued, text_in, arguments_of, arguments_read, walked, Arguments, refused, arguments, prepend}
use Rattle.arguments.specs.Models.Reading.{texts, texts_of, listed}
use Rattle.arguments.specs.declared.Texts.{Texts}
use Rattle.views.specs.declared.Searched.{Searched}
use Rattle.views.specs.Models.Seen.{searched, searched_of}
use Rattle.views.specs.Shown.{is_bad, none_bad}
use Rattle.records.proofs.Lookups.{AllRead, read_listed}

-- a walk in which entries before were found, or not
abbrev pub keeping : Bool → Result Searched Reason → Result Searched Reason
keeping before (Err reason) = Err reason
keeping before (Ok x) = searched x.at (pick before x.found false)

-- where they were, it is as it is
pub keeping_found : (x : Result Searched Reason) → keeping true x ≡ x
keeping_found (Err reason) = refl
keeping_found (Ok x) = refl

-- at the end of a walk it is what was found before
pub keeping_end : (found : Bool) (at : ℕ) → keeping found (searched at true) ≡ searched at found
keeping_end true at = refl
keeping_end false at = refl

-- the entries of one more argument, its name's and its value's, are found or not
pub keeping_turn : (was name value : Bool) (x : Result Searched Reason)
    → keeping was (keeping (pick name false (pick value false true)) x) ≡ keeping (pick value false (pick name false was)) x
keeping_turn was name value (Err reason) = refl
keeping_turn true true value (Ok x) = on-pick (λ b. searched x.at false ≡ searched x.at (pick b x.found false)) value _ _ (λ e. refl) (λ e. refl)
keeping_turn false true value (Ok x) = on-pick (λ b. searched x.at false ≡ searched x.at (pick b x.found false)) value _ _ (λ e. refl) (λ e. refl)
keeping_turn true false true (Ok x) = refl
keeping_turn false false true (Ok x) = refl
keeping_turn was false false (Ok x) = refl

-- a mark that is taken away where an entry is bad, and stays where it is not
pub marked : {A B : Type 0} {bad now was : Bool} → (A → bad ≡ true) → (B → bad ≡ false) → (A × (now ≡ false)) ⊎ (B × (now ≡ was))
    → now ≡ pick bad false was
marked t e (inl p) = rw (t p.0) p.1
marked t e (inr p) = rw (e p.0) p.1

-- what is made of an argument's texts, or of their refusal
abbrev pub on_texts_read : {A : Type 0} → Result Texts Reason → (Reason → A) → (Reference → Reference → ℕ → A) → A
on_texts_read (Err reason) refuse then = refuse reason
on_texts_read (Ok t) refuse then = then t.name t.value t.size

-- one turn of the walk
pub search_turn : (f : Format) (archive tables : List ℕ) (context until n : ℕ) (rest : List ℕ) (place : ℕ) → 0 < n
    → searched_of f archive tables context until (arguments_of f n rest place)
    ≡ on_texts_read (texts_of f rest place) Err
    (λ name value size.
    keeping (pick (is_bad (resolved f archive tables context 2 until name)) false (pick (is_bad (resolved f archive tables context 2 until value)) false true))
    (searched_of f archive tables context until (arguments_of f (n - 1) (drop size rest) (place + size))))
unfolding arguments_of texts_of searched_of none_bad
search_turn f archive tables context until zero rest place h = absurd (omega arith)
search_turn f archive tables context until (suc n) rest place h = let e : suc n - 1 ≡ n = omega arith in rw e (go (argument_of f rest place))
  where
    bad : Reference → Bool
    bad r = is_bad (resolved f archive tables context 2 until r)

    first : (a : Argument) (x : Arguments) → searched_of f archive tables context until (prepend a x)
        ≡ keeping (pick (bad a.name) false (pick (bad (text_in a.value)) false true)) (searched_of f archive tables context until x)
    first a (refused reason) = refl
    first a (arguments l next) = split (bad a.name) (bad (text_in a.value))
      where
        split : (x y : Bool) → searched next (pick x false (pick y false (none_bad f archive tables context until (argument_lookups l))))
            ≡ keeping (pick x false (pick y false true)) (searched next (none_bad f archive tables context until (argument_lookups l)))
        split true y = refl
        split false true = refl
        split false false = refl

    go : (x : Result Argued Reason)
        → searched_of f archive tables context until
        (on_argued x refused (λ a size. prepend a (arguments_of f n (drop size rest) (place + size))))
        ≡ on_texts_read (on_argued x Err (λ a size. texts a.name (text_in a.value) size)) Err
        (λ name value size.
        keeping (pick (bad name) false (pick (bad value) false true)) (searched_of f archive tables context until (arguments_of f n (drop size rest) (place + size))))
    go (Err reason) = refl
    go (Ok r) = first r.argument (arguments_of f n (drop r.size rest) (place + r.size))

-- a walk that is refused, and one that comes to its end: whether every entry was found
pub search_refused : (f : Format) (archive tables : List ℕ) (context until count : ℕ) (rest : List ℕ) (place : ℕ) (reason : Reason)
    → searched_of f archive tables context until (arguments_of f count rest place) ≡ Err reason
    → walked (arguments_of f count rest place) ≡ Err reason
unfolding searched_of
search_refused f archive tables context until count rest place reason = go (arguments_of f count rest place)
  where
    go : (x : Arguments) → searched_of f archive tables context until x ≡ Err reason → walked x ≡ Err reason
    go (refused by) e = let z : by ≡ reason = cc in rw z
    go (arguments l next) e = cc

pub search_ended : (f : Format) (archive tables : List ℕ) (context until count : ℕ) (rest : List ℕ) (place at : ℕ) (found : Bool)
    → searched_of f archive tables context until (arguments_of f count rest place) ≡ searched at found
    → (walked (arguments_of f count rest place) ≡ Ok at)
    × (found ≡ none_bad f archive tables context until (argument_lookups (arguments_read f count rest place)))
unfolding searched_of
search_ended f archive tables context until count rest place at found = go (arguments_of f count rest place) (read_listed f count rest place)
  where
    go : (x : Arguments) → (AllRead x → arguments_read f count rest place ≡ listed x)
        → searched_of f archive tables context until x ≡ searched at found
        → (walked x ≡ Ok at) × (found ≡ none_bad f archive tables context until (argument_lookups (arguments_read f count rest place)))
    go (refused reason) read e = cc
    go (arguments l next) read e =
        let same : ◌≡◌ {A = Searched} (record { at = next; found = none_bad f archive tables context until (argument_lookups l) }) (record { at = at; found = found }) = cc in
        (ap (λ (x : Searched). Ok x.at) same, rw (read tt) (sym (ap (λ (x : Searched). x.found) same)))
