-- `put_hex_byte` meets its contract: a byte has two hexadecimal digits at most, so `io::hex` makes just so many (hex_digits).
use mathlib.Core.Path.{ap, ◌∙◌}
use native.Mathlib.Omega.{arith}
use Rattle.io.specs.Digits.{last_digits}
use Rattle.lines.proofs.Numbers.{hex_digits}
use Rattle.lines.proofs.Puts.{adds_same}
use Rattle.lines.proofs.Cursor.put_hex_byte.Goals as goal

pub returns : goal.returns
returns c =
    let digits = hex_digits 2 c.hex-k.result c.from.result (omega arith) c.hex-k.ensures.len in
    adds_same c.put_bytes.ensures (c.hex-k.ensures.digits ∙ digits ∙ ap (last_digits 16 2) c.from.ensures)
