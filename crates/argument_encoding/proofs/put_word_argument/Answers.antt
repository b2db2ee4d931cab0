-- `put_word_argument` meets its contract: the word follows the start (argument_joined).
use native.Mathlib.Omega.{arith}
use Rattle.words.proofs.Words.{length-word_bytes}
use Rattle.encoding.specs.Encoded.{word}
use Rattle.encoding.specs.Models.Part.{text_part}
use Rattle.encoding.proofs.Parts.{length_start, length_argument_one, argument_joined}
use Rattle.encoding.proofs.Writing.{◌then◌, writes_same}
use Rattle.argument_encoding.proofs.put_word_argument.Goals as goal

pub put_argument_start-requires-clause-more_len_bound : goal.put_argument_start-requires-clause-more_len_bound
put_argument_start-requires-clause-more_len_bound c =
    let f = c.args.out.now.format in
    let part = text_part c.args.index c.args.name.now in
    omega (
      arith,
      length_start f c.args.variant 1 0 part,
      length_argument_one f c.args.variant 0 part (word c.args.word),
      length-word_bytes f.order c.args.word,
    )

pub put_word-requires : goal.put_word-requires
put_word-requires c =
    let f = c.args.out.now.format in
    let part = text_part c.args.index c.args.name.now in
    omega (
      arith,
      length_start f c.args.variant 1 0 part,
      length_argument_one f c.args.variant 0 part (word c.args.word),
      length-word_bytes f.order c.args.word,
      length-word_bytes c.put_argument_start.new.out.format.order c.args.word,
    )

pub returns : goal.returns
returns c =
    let f = c.args.out.now.format in
    let part = text_part c.args.index c.args.name.now in
    writes_same (c.put_argument_start.ensures then c.put_word.ensures)
    (argument_joined f c.args.variant 1 0 part (word c.args.word) (length-word_bytes f.order c.args.word))
