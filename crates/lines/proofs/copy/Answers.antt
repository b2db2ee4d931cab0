-- `copy` meets its contract: as many bytes as fit are copied (puts_copied).
use Prim.Native.Nat.{◌+◌, ◌-◌, min}
use mathlib.Core.Path.{◌≡◌}
use lib.ListN.{length, take, length-take}
use native.Mathlib.Omega.{arith}
use Rattle.words.proofs.Streams.{part_written}
use Rattle.lines.proofs.Puts.{puts_past, puts_copied}
use Rattle.lines.proofs.copy.Goals as goal

pub returns-then-buffer-place : goal.returns-then-buffer-place
returns-then-buffer-place c = puts_past c.args.buffer.now c.args.place c.args.bytes.now c.if-buffer-place.true

pub returns : goal.returns
returns c =
    let out = c.args.buffer.now in
    let at = c.args.place in
    let n = c.min-n.result in
    let bytes = take n c.args.bytes.now in
    let fits : n ≡ min (length out - at) (length c.args.bytes.now) = omega (arith, c.min-n.ensures) in
    let long : length bytes ≡ at + n - at = omega (arith, length-take n c.args.bytes.now, fits) in
    puts_copied out at c.args.bytes.now n fits
    (part_written out at (at + n - at) c.copy_from_slice.new.self bytes c.copy_from_slice.ensures.after long)
