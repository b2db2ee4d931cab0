-- `little_word` meets its contract: the first word of the part that starts at the place is the word there (little_at-take, little_at-drop).
use Prim.Native.Nat.{◌+◌, ◌-◌}
use mathlib.Core.Path.{◌∙◌}
use native.Mathlib.Nat.{add-zero}
use native.Mathlib.Omega.{arith}
use lib.ListN.{drop}
use Rattle.words.proofs.Words.{little_at-take, little_at-drop}
use Rattle.words.proofs.little_word.Goals as goal

pub returns : goal.returns
returns c =
    c.first_word.ensures
    ∙ little_at-take (drop c.args.place c.args.bytes.now) 0 (c.args.place + 8 - c.args.place) (omega arith)
    ∙ little_at-drop c.args.bytes.now c.args.place 0
    ∙ rw (add-zero c.args.place)
