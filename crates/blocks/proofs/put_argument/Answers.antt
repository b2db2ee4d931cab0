-- `put_argument` meets its contract: four numbers, a value's and zeros are one writing (onward), and they are the argument's (argument_numbers).
use Prim.Native.Nat.{ℕ}
use native.Mathlib.Omega.{arith}
use mathlib.Core.Path.{◌≡◌, refl, ap, ◌∙◌}
use mathlib.Core.List.{List, [], ◌∷◌, ◌++◌}
use lib.ListN.{get_or, replicate, length-append}
use Rattle.words.specs.Stream.{overwritten}
use Rattle.views.specs.declared.ShownText.{ShownText}
use Rattle.views.specs.declared.ShownText.TheVariants.{At, Unresolved}
use Rattle.views.specs.declared.ShownValue.{ShownValue}
use Rattle.views.specs.declared.ShownValue.TheVariants.{Scalar, Text}
use Rattle.std.specs.Prelude.{Ok}
use Rattle.reader.specs.Numbers.{text_values, value_values}
use Rattle.blocks.specs.Block.{asked_numbers}
use Rattle.blocks.proofs.Blocks.{length-text, length-value, triple, zeros_written, onward}
use Rattle.blocks.proofs.put_argument.Goals as goal

-- an argument's numbers, with those of its name written out
argument_numbers : (t : ShownText) (v : ShownValue) (n1 n2 n3 : ℕ) → n1 ∷ n2 ∷ n3 ∷ [] ≡ text_values t
    → ((10 ∷ n1 ∷ n2 ∷ n3 ∷ []) ++ value_values v) ++ replicate 12 0 ≡ asked_numbers (Ok (record { name = t; value = v }))
unfolding asked_numbers
argument_numbers t (Scalar s) n1 n2 n3 n = rw (← n)
argument_numbers t (Text (At place long)) n1 n2 n3 n = rw (← n)
argument_numbers t (Text (Unresolved index)) n1 n2 n3 n = rw (← n)

pub returns : goal.returns
returns c =
    let out = c.args.out.now in
    let n = c.text_values-name.result in
    let name : List ℕ = 10 ∷ get_or n 0 0 ∷ get_or n 1 0 ∷ get_or n 2 0 ∷ [] in
    let value = value_values c.args.argument.value in
    let rest = zeros_written c.put_value.new.out 8 12 c.fill.new.self (omega arith) (c.fill.ensures.after (λ y h. h)) in
    let eight = onward out 0 4 name value (omega arith) refl c.put_four.ensures c.put_value.ensures in
    onward out 0 8 (name ++ value) (replicate 12 0) (omega arith) (omega (arith, length-append name value, length-value c.args.argument.value)) eight rest
    ∙ ap (overwritten out 0) (argument_numbers c.args.argument.name c.args.argument.value _ _ _
    (triple (text_values c.args.argument.name) c.text_values-name.ensures (length-text c.args.argument.name)))
