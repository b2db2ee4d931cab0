-- `put_string_record` meets its contract: its fields are packed into one word, and the stream follows (record_joined).
use native.Mathlib.Omega.{arith}
use mathlib.Core.List.{[], ◌∷◌}
use lib.ListN.{length}
use Rattle.words.specs.Word.{◌of◌}
use Rattle.words.specs.Stream.{padded}
use Rattle.words.proofs.Streams.{length-padded}
use Rattle.encoding.proofs.Headers.{record_joined}
use Rattle.encoding.proofs.Writing.{◌then◌, writes_same}
use Rattle.encoding.proofs.Output.put_string_record.Goals as goal

pub returns : goal.returns
returns c =
    let bytes = c.args.bytes.now in
    let fields = c.args.index of 15 ∷ 0 of 1 ∷ length bytes of 15 ∷ 0 of 17 ∷ [] in
    writes_same (c.put_word.ensures then c.put_stream.ensures)
    (record_joined c.args.self.now.format 2 c.stream_words-size.result c.with_field.result fields (padded bytes)
    (omega (arith, length-padded bytes, c.stream_words-size.ensures)) (omega (arith, c.with_field.ensures, c.with_field-indexed.ensures, c.header.ensures)))
