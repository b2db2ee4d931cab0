-- `with_field` meets its contract: a field put in by a shift and `|` above the bits of a word is a sum (placed).
use Prim.Native.Nat.{◌+◌, ◌-◌}
use native.Mathlib.Omega.{arith}
use Rattle.words.proofs.Fields.{placed}
use Rattle.words.proofs.with_field.Goals as goal

pub returns : goal.returns
returns c =
    placed (c.args.high + 1 - c.args.low) c.args.low c.args.word c.args.value c.requires.2 c.requires.3 (omega arith)
