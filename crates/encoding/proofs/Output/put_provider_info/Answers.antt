-- `put_provider_info` meets its contract: its fields are packed into one word, and the name follows (record_joined).
use native.Mathlib.Omega.{arith}
use mathlib.Core.Path.{sym, ◌∙◌}
use mathlib.Core.List.{[], ◌∷◌}
use lib.ListN.{length}
use Rattle.words.specs.Word.{◌of◌}
use Rattle.words.specs.Stream.{padded}
use Rattle.words.proofs.Streams.{length-padded}
use Rattle.encoding.proofs.EncodedItems.{provider_info_record}
use Rattle.encoding.proofs.Headers.{record_joined}
use Rattle.encoding.proofs.Writing.{◌then◌, writes_same}
use Rattle.encoding.proofs.Output.put_provider_info.Goals as goal

pub returns : goal.returns
returns c =
    let f = c.args.self.now.format in
    let name = c.args.name.now in
    let fields = 1 of 4 ∷ c.args.id of 32 ∷ length name of 8 ∷ 0 of 4 ∷ [] in
    writes_same (c.put_word.ensures then c.put_stream.ensures)
    (record_joined f 0 c.stream_words-size.result c.with_field.result fields (padded name)
    (omega (arith, length-padded name, c.stream_words-size.ensures))
    (omega (arith, c.with_field.ensures, c.with_field-named.ensures, c.with_field-metadata.ensures, c.header.ensures))
    ∙ sym (provider_info_record f (λ key. 0) c.args.id name))
