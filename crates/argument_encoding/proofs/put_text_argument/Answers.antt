-- `put_text_argument` meets its contract: the text follows the start (argument_joined).
use mathlib.Core.Path.{sym, ap, ◌∙◌}
use mathlib.Core.List.{List, ◌++◌}
use Prim.Native.Nat.{ℕ}
use lib.ListN.{length}
use Rattle.encoding.specs.Encoded.{reference_of}
use Rattle.encoding.specs.Models.Part.{text_part, text_bytes, argument_start}
use Rattle.encoding.proofs.Parts.{text_bytes_lem, argument_joined}
use Rattle.encoding.proofs.Writing.{◌then◌, writes_same}
use Rattle.argument_encoding.proofs.put_text_argument.Goals as goal

pub returns : goal.returns
returns c =
    let f = c.args.out.now.format in
    let part = text_part c.args.index c.args.name.now in
    let text = text_part c.args.key c.args.text.now in
    let inside = text_bytes_lem f c.args.key c.args.text.now in
    let more = c.text_words-more.result in
    writes_same (c.put_argument_start.ensures then c.put_text.ensures)
    (ap (λ (n : ℕ). argument_start f 6 more n part ++ text_bytes c.args.key c.args.text.now) c.text_reference.ensures
    ∙ ap (λ (b : List ℕ). argument_start f 6 more (reference_of text) part ++ b) (sym inside)
    ∙ argument_joined f 6 more (reference_of text) part text (sym (c.text_words-more.ensures ∙ ap length (sym inside))))
