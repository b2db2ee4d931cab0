-- `put_initialization` meets its contract: a header, and behind it the rate (record_joined).
use native.Mathlib.Omega.{arith}
use mathlib.Core.Path.{sym, ◌∙◌}
use mathlib.Core.List.{[], ◌∷◌}
use Rattle.words.specs.Word.{◌of◌, word_bytes}
use Rattle.words.proofs.Words.{length-word_bytes}
use Rattle.records.specs.Item.{initialization}
use Rattle.encoding.proofs.EncodedItems.{initialization_record}
use Rattle.encoding.proofs.Headers.{record_joined, length-plain}
use Rattle.encoding.proofs.Writing.{◌then◌, writes_same}
use Rattle.encoding.proofs.Output.put_initialization.Goals as goal

pub put_word-requires : goal.put_word-requires
put_word-requires c =
    let f = c.args.self.now.format in
    omega (arith, length-plain f (initialization c.args.rate), length-word_bytes f.order c.header.result)

pub put_word-requires-2 : goal.put_word-requires-2
put_word-requires-2 c =
    let f = c.args.self.now.format in
    let rate = length-word_bytes c.put_word.new.self.format.order c.args.rate in
    omega (arith, length-plain f (initialization c.args.rate), length-word_bytes f.order c.header.result, rate)

pub returns : goal.returns
returns c =
    let f = c.args.self.now.format in
    let rate = word_bytes f.order c.args.rate in
    writes_same (c.put_word.ensures then c.put_word-2.ensures)
    (record_joined f 1 1 c.header.result (0 of 48 ∷ []) rate (length-word_bytes f.order c.args.rate) (omega (arith, c.header.ensures))
    ∙ sym (initialization_record f (λ key. 0) c.args.rate))
