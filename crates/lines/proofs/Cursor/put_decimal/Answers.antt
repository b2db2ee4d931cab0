-- `put_decimal` meets its contract: what `io::decimal` makes are the digits of the definition (decimal_digits).
use native.Mathlib.Omega.{arith}
use Rattle.lines.proofs.Numbers.{decimal_digits}
use Rattle.lines.proofs.Cursor.put_decimal.Goals as goal

pub returns : goal.returns
returns c =
    rw (← decimal_digits c.decimal-k.result c.args.n (omega arith) c.decimal-k.ensures.len, ← c.decimal-k.ensures.digits) c.put_bytes.ensures
