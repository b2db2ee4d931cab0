-- `records::take_fields` meets its contract: each answer is what the leading words and the two pairs give. Assumes nothing.
use native.Mathlib.Omega.{arith}
use mathlib.Core.Path.{sym, ◌∙◌}
use Prim.Native.Nat.{◌+◌}
use Rattle.std.proofs.lemmas.Result.{err_from_is_err_and}
use Rattle.records.proofs.Layouts.{reference-fits, words_taken, fields_by_pairs, pair_moves}
use Rattle.records.proofs.take_fields.Goals as goal

pub take_pair-requires : goal.take_pair-requires
take_pair-requires c =
    let leading = c.in_ok-leading.leading in
    let moved = words_taken c.args.f c.args.layout.words (c.args.place + 8) c.args.source.now c.args.place leading.reference leading.next
    (omega (arith, c.requires.1)) (sym c.take_words.ensures ∙ c.in_ok-leading.was) in (
      reference-fits c.args.layout.first c.requires.0.first,
      reference-fits c.args.layout.second c.requires.0.second,
      omega (arith, moved.1),
      c.requires.2,
    )

pub take_tail-requires : goal.take_tail-requires
take_tail-requires c =
    let leading = c.in_ok-leading.leading in
    let pair = c.in_ok-pair.pair in
    let moved = words_taken c.args.f c.args.layout.words (c.args.place + 8) c.args.source.now c.args.place leading.reference leading.next
    (omega (arith, c.requires.1)) (sym c.take_words.ensures ∙ c.in_ok-leading.was) in
    let behind = pair_moves c.args.f c.args.layout.first c.args.layout.second leading.next c.args.source.now c.args.place
    pair.first pair.second pair.next (omega (arith, moved.1)) (sym c.take_pair.ensures ∙ c.in_ok-pair.was) in
    (reference-fits c.args.layout.third c.requires.0.third, c.requires.0.stream, behind, c.requires.2)

pub returns-in_err-leading : goal.returns-in_err-leading
returns-in_err-leading c =
    let by = err_from_is_err_and c.from_residual.result c.from_residual.ensures.1 in
    rw (by.1, by.2) simp (fields_by_pairs, ← c.take_words.ensures, c.in_err-leading.was)

pub returns-in_err-pair : goal.returns-in_err-pair
returns-in_err-pair c =
    let by = err_from_is_err_and c.from_residual-in_err-pair.result c.from_residual-in_err-pair.ensures.1 in
    rw (by.1, by.2) simp (fields_by_pairs, ← c.take_words.ensures, c.in_ok-leading.was, ← c.take_pair.ensures, c.in_err-pair.was)

pub returns-in_err-tail : goal.returns-in_err-tail
returns-in_err-tail c =
    let by = err_from_is_err_and c.from_residual-in_err-tail.result c.from_residual-in_err-tail.ensures.1 in
    rw (by.1, by.2) simp (
      fields_by_pairs,
      ← c.take_words.ensures,
      c.in_ok-leading.was,
      ← c.take_pair.ensures,
      c.in_ok-pair.was,
      ← c.take_tail.ensures,
      c.in_err-tail.was,
    )

pub returns : goal.returns
returns c =
    simp (
      fields_by_pairs,
      ← c.take_words.ensures,
      c.in_ok-leading.was,
      ← c.take_pair.ensures,
      c.in_ok-pair.was,
      ← c.take_tail.ensures,
      c.in_ok-tail.was,
    )
