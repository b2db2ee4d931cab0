-- `put_stream` meets its contract: each turn writes one byte more (more_written), and right behind the bytes the padding, which is one
-- writing with them (overwritten_twice).
use Prim.Native.Nat.{ℕ, ◌+◌, ◌-◌, ◌*◌}
use mathlib.Core.Path.{◌≡◌, refl, ap, ◌∙◌}
use mathlib.Core.List.{List}
use native.Mathlib.Omega.{arith}
use lib.ListN.{length, set, get_or, drop, replicate, length-drop, length-replicate}
use lib.Seq.{length-take-le}
use Rattle.words.specs.Stream.{padding_of, overwritten}
use Rattle.words.proofs.Streams.{none-overwritten, more_written, all_written, part_written, overwritten_twice, length-overwritten}
use Rattle.words.proofs.put_stream.Goals as goal

pub loop-i-init : goal.loop-i-init
loop-i-init c = none-overwritten c.args.out.now c.args.place c.args.bytes.now

pub loop-i-preserved : goal.loop-i-preserved
loop-i-preserved c =
    ap (λ (out : List ℕ). set out (c.args.place + c.loop-i.i) (get_or c.args.bytes.now c.loop-i.i 0)) c.loop-i.invariant
    ∙ more_written c.args.out.now c.args.place c.args.bytes.now c.loop-i.i (omega arith) (omega arith)

pub returns : goal.returns
returns c =
    let out = c.args.out.now in
    let place = c.args.place in
    let bytes = c.args.bytes.now in
    let end = place + length bytes in
    let k = padding_of (length bytes) in
    let rest : place + 8 * c.stream_words.result - end ≡ k = omega (arith, c.stream_words.ensures) in
    let written = c.loop-i.invariant ∙ all_written out place bytes c.loop-i.i (omega arith) in
    let long : length (overwritten out place bytes) ≡ length out = length-overwritten out place bytes (omega arith) in
    rw (c.fill.ensures.after (λ y h. h), written, rest, length-take-le k (drop end (overwritten out place bytes)) (omega (arith, length-drop end (overwritten out place bytes))))
    (part_written (overwritten out place bytes) end k (replicate k 0) (replicate k 0) refl (length-replicate k 0)
    ∙ overwritten_twice out place bytes (replicate k 0) (omega arith))
