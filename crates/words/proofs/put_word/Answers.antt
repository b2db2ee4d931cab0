-- `put_word` meets its contract: std's bytes of a word are its fields (bytes_of-fields), in its order (bytes_little), written at their place (part_written).
use Prim.Native.Nat.{◌+◌, ◌-◌}
use mathlib.Core.Path.{◌∙◌}
use native.Mathlib.Nat.{div-one}
use native.Mathlib.Omega.{arith}
use Rattle.words.specs.Word.{bytes_of}
use Rattle.words.proofs.Words.{length-bytes_of, bytes_of-fields, bytes_little}
use Rattle.words.proofs.Streams.{part_written}
use Rattle.words.proofs.put_word.Goals as goal

pub returns : goal.returns
returns c =
    let a = c.args in
    rw (bytes_little a.order a.word)
    (part_written a.out.now a.place (a.place + 8 - a.place) c.copy_from_slice.new.self (bytes_of 8 a.word)
    (c.copy_from_slice.ensures.after ∙ c.to_le_bytes.ensures ∙ simp (bytes_of-fields, div-one))
    (omega (arith, length-bytes_of 8 a.word)))
