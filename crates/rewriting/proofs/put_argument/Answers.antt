-- `put_argument` meets its contract: what is written for the name and the value as they are spelled is the argument (scalar_argument_lem, text_argument_lem).
use native.Mathlib.Omega.{arith}
use mathlib.Core.Path.{sym, ap}
use lib.ListN.{length}
use Rattle.rewriting.specs.Models.Write.{tables_in, slots_in}
use Rattle.encoding.proofs.Writing.{writes_same}
use Rattle.rewriting.proofs.Spelling.{scalar_argument_lem, text_argument_lem}
use Rattle.rewriting.proofs.put_argument.Goals as goal

pub put_scalar_argument-requires-clause-scalar_len_bound : goal.put_scalar_argument-requires-clause-scalar_len_bound
put_scalar_argument-requires-clause-scalar_len_bound c =
    let f = c.args.out.now.format in
    let whole = scalar_argument_lem f c.args.archive.now (tables_in f c.args.room.now) (slots_in f c.args.room.now) c.args.context c.args.until
    c.args.argument c.spell_text-named.result c.text-bytes.result.now c.in-Scalar.scalar c.spell_text-named.ensures c.text-bytes.ensures c.in-Scalar.is in
    omega (arith, ap length whole, c.requires.room_fits.1.size, c.requires.argument_in_bounds)

pub put_text_argument-requires-clause-text_len_bound : goal.put_text_argument-requires-clause-text_len_bound
put_text_argument-requires-clause-text_len_bound c =
    let f = c.args.out.now.format in
    let whole = text_argument_lem f c.args.archive.now (tables_in f c.args.room.now) (slots_in f c.args.room.now) c.args.context c.args.until
    c.args.argument c.spell_text-named.result c.spell_text-held.result c.text-bytes.result.now c.text-content.result.now c.in-Text.inside
    c.spell_text-named.ensures c.text-bytes.ensures c.spell_text-held.ensures c.text-content.ensures c.in-Text.is in
    omega (arith, ap length whole, c.requires.room_fits.1.size, c.requires.argument_in_bounds)

pub returns-in-Scalar : goal.returns-in-Scalar
returns-in-Scalar c =
    let f = c.args.out.now.format in
    writes_same c.put_scalar_argument.ensures
    (sym (scalar_argument_lem f c.args.archive.now (tables_in f c.args.room.now) (slots_in f c.args.room.now) c.args.context c.args.until c.args.argument
    c.spell_text-named.result c.text-bytes.result.now c.in-Scalar.scalar c.spell_text-named.ensures c.text-bytes.ensures c.in-Scalar.is))

pub returns-in-Text : goal.returns-in-Text
returns-in-Text c =
    let f = c.args.out.now.format in
    writes_same c.put_text_argument.ensures
    (sym (text_argument_lem f c.args.archive.now (tables_in f c.args.room.now) (slots_in f c.args.room.now) c.args.context c.args.until c.args.argument
    c.spell_text-named.result c.spell_text-held.result c.text-bytes.result.now c.text-content.result.now c.in-Text.inside c.spell_text-named.ensures
    c.text-bytes.ensures c.spell_text-held.ensures c.text-content.ensures c.in-Text.is))
