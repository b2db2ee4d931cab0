-- `put_value` meets its contract: a value that is no text, or a text, by its numbers.
use Prim.Native.Nat.{ℕ}
use mathlib.Core.Path.{ap, ◌∙◌}
use mathlib.Core.List.{List, ◌∷◌}
use Rattle.words.specs.Stream.{overwritten}
use Rattle.reader.specs.Numbers.{text_values}
use Rattle.blocks.proofs.Blocks.{length-text, triple}
use Rattle.blocks.proofs.put_value.Goals as goal

pub returns-in-Scalar : goal.returns-in-Scalar
returns-in-Scalar c =
    rw (c.in-Scalar.is, ← c.argument_type.ensures, ← c.scalar_value.ensures) c.put_four.ensures

pub returns-in-Text : goal.returns-in-Text
returns-in-Text c =
    let t = c.in-Text.t in
    let text = triple (text_values t) c.text_values-text.ensures (length-text t) in
    rw c.in-Text.is (c.put_four-in-Text.ensures ∙ ap (λ (l : List ℕ). overwritten c.args.out.now 4 (6 ∷ l)) text)
