-- `put_double` meets its contract: 64 bits have 16 hexadecimal digits at most, so `io::hex` makes just so many (hex_digits).
use Rattle.lines.proofs.Numbers.{hex_digits}
use Prim.Native.Nat.{ℕ}
use mathlib.Core.Path.{ap, ◌∙◌}
use mathlib.Core.List.{List, ◌++◌}
use Rattle.lines.specs.Shown.{space, double_shown}
use Rattle.lines.proofs.Puts.{adds_same, ◌then◌}
use native.Mathlib.Omega.{arith}
use Rattle.lines.proofs.Cursor.put_double.Goals as goal

pub returns : goal.returns
unfolding double_shown
returns c =
    let made = c.hex-k.ensures.digits ∙ hex_digits 16 c.hex-k.result c.args.bits (omega arith) c.hex-k.ensures.len in
    adds_same (c.put_bytes.ensures then c.put_bytes-2.ensures) (ap (λ (l : List ℕ). space ++ l) made)
