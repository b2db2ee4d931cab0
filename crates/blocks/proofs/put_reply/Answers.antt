-- `put_reply` meets its contract: a state's numbers right behind an answer's are one writing (onward), where the words are enough.
use Prim.Native.Nat.{◌<◌, ◌≤◌}
use lib.ListN.{length}
use mathlib.Core.Path.{◌∙◌}
use mathlib.Core.List.{◌++◌}
use native.Mathlib.Omega.{arith}
use borrow.Author.Tests.{lt-ltb, le-ltb}
use Rattle.blocks.specs.Block.{answer_numbers, state_numbers}
use Rattle.blocks.proofs.Blocks.{length-answer, length_reply, onward, put-none, put_all}
use Rattle.blocks.proofs.put_reply.Goals as goal

pub returns-then-out-lt40 : goal.returns-then-out-lt40
returns-then-out-lt40 c =
    let few : length c.args.out.now < 40 = omega (arith, c.if-out-lt40.true) in
    let numbers = answer_numbers c.args.reply.answer ++ state_numbers c.args.reply.state in
    record {
      value = rw (lt-ltb _ _ few);
      out_after = put-none c.args.out.now numbers 40 (length_reply c.args.reply.answer c.args.reply.state) few;
    }

pub returns : goal.returns
returns c =
    let enough : 40 ≤ length c.args.out.now = omega (arith, c.if-out-lt40.false) in
    let answer = answer_numbers c.args.reply.answer in
    let state = state_numbers c.args.reply.state in
    let long = length-answer c.args.reply.answer in
    let whole = onward c.args.out.now 0 20 answer state (omega arith) (omega (arith, long)) c.put_answer.ensures c.put_state.ensures in
    record {
      value = rw (le-ltb _ _ enough);
      out_after = whole ∙ put_all c.args.out.now (answer ++ state) 40 (length_reply c.args.reply.answer c.args.reply.state) enough;
    }
