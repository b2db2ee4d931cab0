-- `fail` meets its contract: what each write gave stands behind what was given before, and behind a part that was not all written nothing stands
-- (said_name, said_part, said_text).
use Rattle.std.proofs.lemmas.Result.{err_from_is_err_and}
use Rattle.files.proofs.Given.{said_name, said_part, said_text}
use Rattle.files.proofs.failure.fail.Goals as goal

pub returns-in_err-write-2 : goal.returns-in_err-write-2
returns-in_err-write-2 g c =
    let held = g.W.Write.contents in
    let failed = err_from_is_err_and c.from_residual-in_err-write-2.result c.from_residual-in_err-write-2.ensures.1 in
    rw failed.1
    (said_name (held c.args.errors.now) (held c.write-2.new.writer) (held c.write-3.new.writer) c.args.what.now c.in_ok-write.ensures.gives
    c.in_err-write-2.ensures.gives)

pub returns-in_err-write-3 : goal.returns-in_err-write-3
returns-in_err-write-3 g c =
    let held = g.W.Write.contents in
    let failed = err_from_is_err_and c.from_residual-in_err-write-3.result c.from_residual-in_err-write-3.ensures.1 in
    rw failed.1
    (said_part (held c.args.errors.now) (held c.write-2.new.writer) (held c.write-3.new.writer) (held c.write-4.new.writer) c.args.what.now _ _
    c.text_length-length.ensures c.in_ok-write.ensures.gives c.in_ok-write-2.ensures.gives c.in_err-write-3.ensures.gives)

pub returns : goal.returns
returns g c =
    let held = g.W.Write.contents in
    said_text (held c.args.errors.now) (held c.write-2.new.writer) (held c.write-3.new.writer) (held c.write-4.new.writer) c.args.what.now _ _
    c.text_length-length.ensures c.in_ok-write.ensures.gives c.in_ok-write-2.ensures.gives (held c.write-5.new.writer) _
    c.in_ok-write-3.ensures.gives c.write-5.ensures.gives
