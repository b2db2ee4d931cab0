-- `put_short` meets its contract: zeros right behind four numbers are one writing with them (onward).
use Prim.Native.Nat.{ℕ, ◌-◌}
use native.Mathlib.Omega.{arith}
use mathlib.Core.Path.{◌≡◌, sym, ap, ◌∙◌}
use mathlib.Core.List.{◌++◌}
use lib.ListN.{length, replicate}
use Rattle.words.specs.Stream.{overwritten}
use Rattle.blocks.proofs.Blocks.{zeros_written, onward}
use borrow.Author.Rules.{rules}
use Rattle.blocks.proofs.put_short.Goals as goal

pub returns : goal.returns
returns c =
    let out = c.args.out.now in
    let long : length c.args.values ≡ 4 = search rules in
    let rest = zeros_written c.put_four.new.out 4 16 c.fill.new.self (omega arith) (c.fill.ensures.after (λ y h. h)) in
    onward out 0 4 c.args.values (replicate 16 0) (omega arith) (omega (arith, long)) c.put_four.ensures rest
    ∙ ap (λ (n : ℕ). overwritten out 0 (c.args.values ++ replicate (20 - n) 0)) (sym long)
