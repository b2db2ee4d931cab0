-- `put_asked` meets its contract: the block is put where the words are enough (put_all), and otherwise nothing is (put-none).
use Prim.Native.Nat.{ℕ, ◌<◌, ◌≤◌}
use lib.ListN.{length}
use native.Mathlib.Omega.{arith}
use mathlib.Core.Path.{ap, ◌∙◌}
use borrow.Author.Tests.{lt-ltb, le-ltb}
use Rattle.words.specs.Stream.{overwritten}
use Rattle.std.specs.Prelude.{Ok, Err}
use Rattle.reader.specs.Ask.{Asked}
use Rattle.blocks.specs.Block.{asked_numbers}
use Rattle.blocks.proofs.Blocks.{length_asked, put-none, put_all}
use Rattle.blocks.proofs.put_asked.Goals as goal

pub returns-then-out-lt20 : goal.returns-then-out-lt20
returns-then-out-lt20 c =
    let few : length c.args.out.now < 20 = omega (arith, c.if-out-lt20.true) in
    record {
      value = rw (lt-ltb _ _ few);
      out_after = put-none c.args.out.now (asked_numbers c.args.asked) 20 (length_asked c.args.asked) few;
    }

pub returns-in-Err : goal.returns-in-Err
unfolding asked_numbers
returns-in-Err c =
    let enough : 20 ≤ length c.args.out.now = omega (arith, c.if-out-lt20.false) in
    let refused : Asked = Err c.in-Err.refused in
    let block = ap (λ (n : ℕ). overwritten c.args.out.now 0 (asked_numbers (Err (record { number = n; place = c.in-Err.refused.place })))) c.from.ensures in
    let put = c.put_short.ensures ∙ block ∙ put_all c.args.out.now (asked_numbers refused) 20 (length_asked refused) enough in
    record { value = rw (le-ltb _ _ enough); out_after = rw c.in-Err.is put }

pub returns-in-Ok : goal.returns-in-Ok
returns-in-Ok c =
    let enough : 20 ≤ length c.args.out.now = omega (arith, c.if-out-lt20.false) in
    let argument : Asked = Ok c.in-Ok.argument in
    let put = c.put_argument.ensures ∙ put_all c.args.out.now (asked_numbers argument) 20 (length_asked argument) enough in
    record { value = rw (le-ltb _ _ enough); out_after = rw c.in-Ok.is put }
