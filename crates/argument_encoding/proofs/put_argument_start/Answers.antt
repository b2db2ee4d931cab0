-- `put_argument_start` meets its contract: its fields are packed into one word, and the name follows (start_joined).
use native.Mathlib.Omega.{arith}
use mathlib.Core.Path.{sym, ap, ◌∙◌}
use mathlib.Core.List.{List, ◌++◌}
use Prim.Native.Nat.{ℕ}
use lib.ListN.{length}
use Rattle.words.specs.Word.{word_bytes}
use Rattle.encoding.specs.Models.Part.{text_part}
use Rattle.encoding.proofs.Parts.{text_bytes_lem, reference_lt, length_start, start_joined}
use Rattle.encoding.proofs.Writing.{◌then◌, writes_same}
use Rattle.argument_encoding.proofs.put_argument_start.Goals as goal

pub header-requires : goal.header-requires
header-requires c =
    let f = c.args.out.now.format in
    let part = text_part c.args.index c.args.name.now in
    let name = c.text_words.ensures ∙ ap length (sym (text_bytes_lem f c.args.index c.args.name.now)) in
    (omega arith, omega (arith, length_start f c.args.variant c.args.more c.args.half part, name))

pub with_field-named-requires : goal.with_field-named-requires
with_field-named-requires c =
    let f = c.args.out.now.format in
    let part = text_part c.args.index c.args.name.now in
    let name = c.text_words.ensures ∙ ap length (sym (text_bytes_lem f c.args.index c.args.name.now)) in (
      omega arith,
      omega arith,
      omega (arith, length_start f c.args.variant c.args.more c.args.half part, name, c.header.ensures),
      omega (arith, c.text_reference.ensures, reference_lt c.args.index c.args.name.now (omega arith) (omega arith)),
    )

pub returns : goal.returns
returns c =
    let f = c.args.out.now.format in
    let part = text_part c.args.index c.args.name.now in
    let name = text_bytes_lem f c.args.index c.args.name.now in
    writes_same (c.put_word.ensures then c.put_text.ensures)
    (ap (λ (b : List ℕ). word_bytes f.order c.with_field.result ++ b) (sym name)
    ∙ start_joined f c.args.variant c.args.more c.args.half c.text_words.result c.with_field.result part (c.text_words.ensures ∙ ap length (sym name))
    (omega (arith, c.with_field.ensures, c.with_field-named.ensures, c.header.ensures, c.text_reference.ensures)))
