-- `put_hex` meets its contract: each turn puts one byte more (leaves_less).
use Prim.Native.Nat.{ℕ, ◌<◌}
use mathlib.Core.Path.{◌≡◌, ap, ◌∙◌}
use lib.ListN.{length, drop}
use lib.Seq.{drop-cons, drop-length}
use native.Mathlib.Omega.{arith}
use native.Mathlib.Numerals.{add-one}
use Rattle.lines.specs.Shown.{hex_shown}
use Rattle.lines.proofs.Puts.{leaves_less, leaves_none, leaves_same}
use Rattle.lines.proofs.Cursor.put_hex.Goals as goal

pub loop-byte-preserved : goal.loop-byte-preserved
unfolding hex_shown
loop-byte-preserved c =
    let here = c.loop-byte in
    let test : here.byte-index < length c.args.bytes.now = omega arith in
    let left = leaves_same here.invariant (ap hex_shown (drop-cons c.args.bytes.now here.byte-index 0 test)) in
    rw (add-one here.byte-index) (leaves_less left c.put_hex_byte.ensures)

pub returns : goal.returns
unfolding hex_shown
returns c =
    let all : c.loop-byte.byte-index ≡ length c.args.bytes.now = omega arith in
    let none-left = ap (λ (i : ℕ). hex_shown (drop i c.args.bytes.now)) all ∙ ap hex_shown (drop-length c.args.bytes.now) in
    leaves_none (leaves_same c.loop-byte.invariant none-left)
