-- `put_word` meets its contract: a word is eight bytes.
use mathlib.Core.Path.{refl, ap, ◌∙◌}
use native.Mathlib.Omega.{arith}
use lib.ListN.{length}
use Rattle.words.specs.Word.{word_bytes}
use Rattle.words.proofs.Words.{length-word_bytes}
use Rattle.words.proofs.Streams.{length-overwritten}
use Rattle.encoding.proofs.Output.put_word.Goals as goal

pub put_word-requires : goal.put_word-requires
put_word-requires c = omega (arith, length-word_bytes c.args.self.now.format.order c.args.word)

pub returns : goal.returns
returns c =
    let now = c.args.self.now in
    let long = length-word_bytes now.format.order c.args.word in
    let kept = length-overwritten now.buffer.now now.place (word_bytes now.format.order c.args.word) c.requires in
    record { same = record { buffer = refl; long = ap length c.put_word.ensures ∙ kept; format = refl }; place = omega (arith, long); buffer = c.put_word.ensures }
