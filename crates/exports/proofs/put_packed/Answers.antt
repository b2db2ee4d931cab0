-- `put_packed` meets its contract: the block is put where the words are enough (put_all), and otherwise nothing is (put-none).
use Prim.Native.Nat.{◌<◌, ◌≤◌}
use lib.ListN.{length}
use native.Mathlib.Omega.{arith}
use mathlib.Core.Path.{◌∙◌}
use borrow.Author.Tests.{lt-ltb, le-ltb}
use Rattle.std.specs.Prelude.{Ok, Err}
use Rattle.packer.specs.Pack.{Packed}
use Rattle.exports.specs.Block.{packed_numbers}
use Rattle.blocks.proofs.Blocks.{put-none, put_all}
use Rattle.exports.proofs.Blocks.{length_packed}
use Rattle.exports.proofs.put_packed.Goals as goal

-- the clauses, of their product
by_clause : {A B : Type 0} → A × B → record { value : A; out_after : B }
by_clause w = record { value = w.0; out_after = w.1 }

pub returns-then-out-lt4 : goal.returns-then-out-lt4
returns-then-out-lt4 c = by_clause (let few : length c.args.out.now < 4 = omega (arith, c.if-out-lt4.true) in
    (rw (lt-ltb _ _ few), put-none c.args.out.now (packed_numbers c.args.packed) 4 (length_packed c.args.packed) few))

pub returns-in-Err : goal.returns-in-Err
unfolding packed_numbers
returns-in-Err c = by_clause (let enough : 4 ≤ length c.args.out.now = omega (arith, c.if-out-lt4.false) in
    let refused : Packed = Err c.in-Err.refused in
    let put = c.put_four.ensures ∙ put_all c.args.out.now (packed_numbers refused) 4 (length_packed refused) enough in
    (rw (le-ltb _ _ enough), rw c.in-Err.is put))

pub returns-in-Ok : goal.returns-in-Ok
unfolding packed_numbers
returns-in-Ok c = by_clause (let enough : 4 ≤ length c.args.out.now = omega (arith, c.if-out-lt4.false) in
    let long : Packed = Ok c.in-Ok.length in
    let put = c.put_four-in-Ok.ensures ∙ put_all c.args.out.now (packed_numbers long) 4 (length_packed long) enough in
    (rw (le-ltb _ _ enough), rw c.in-Ok.is put))
