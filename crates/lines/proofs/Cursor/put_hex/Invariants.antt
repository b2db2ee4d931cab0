use lib.ListN.{drop}
use Rattle.lines.specs.Shown.{hex_shown}
use Rattle.lines.proofs.Puts.{Leaves}
use Rattle.lines.proofs.Cursor.put_hex.Given as goal

abbrev pub invariant-loop-byte : goal.invariant-loop-byte
invariant-loop-byte l = Leaves l.initial.self (hex_shown l.bytes) l.self (hex_shown (drop l.byte-index l.bytes))
