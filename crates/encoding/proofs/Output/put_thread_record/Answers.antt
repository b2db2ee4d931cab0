-- `put_thread_record` meets its contract: its fields are packed into one word, and two words follow (record_joined).
use native.Mathlib.Omega.{arith}
use mathlib.Core.List.{[], ◌∷◌}
use Rattle.words.specs.Word.{◌of◌}
use Rattle.words.proofs.Words.{length-word_bytes}
use Rattle.records.specs.Item.{thread}
use Rattle.encoding.specs.Encoded.{thread_inline, part_bytes}
use Rattle.encoding.proofs.EncodedParts.{length_part}
use Rattle.encoding.proofs.Headers.{record_joined, length-thread}
use Rattle.encoding.proofs.Writing.{◌then◌, writes_same}
use Rattle.encoding.proofs.Output.put_thread_record.Goals as goal

pub put_word-requires : goal.put_word-requires
put_word-requires c =
    let f = c.args.self.now.format in
    omega (arith, length-thread f c.args.index (thread c.args.process c.args.thread), length-word_bytes f.order c.with_field.result)

pub put_word-requires-2 : goal.put_word-requires-2
put_word-requires-2 c =
    let f = c.args.self.now.format in
    omega (
      arith,
      length-thread f c.args.index (thread c.args.process c.args.thread),
      length-word_bytes f.order c.with_field.result,
      length-word_bytes c.put_word.new.self.format.order c.args.process,
    )

pub put_word-requires-3 : goal.put_word-requires-3
put_word-requires-3 c =
    let f = c.args.self.now.format in
    omega (
      arith,
      length-thread f c.args.index (thread c.args.process c.args.thread),
      length-word_bytes f.order c.with_field.result,
      length-word_bytes c.put_word.new.self.format.order c.args.process,
      length-word_bytes c.put_word-2.new.self.format.order c.args.thread,
    )

pub returns : goal.returns
returns c =
    let f = c.args.self.now.format in
    let words = thread_inline (thread c.args.process c.args.thread) in
    writes_same (c.put_word.ensures then c.put_word-2.ensures then c.put_word-3.ensures)
    (record_joined f 3 2 c.with_field.result (c.args.index of 8 ∷ 0 of 40 ∷ []) (part_bytes f words) (length_part f words)
    (omega (arith, c.with_field.ensures, c.header.ensures)))
