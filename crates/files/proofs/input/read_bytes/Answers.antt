-- What came before a read failed stands at the start of the part of the buffer that was lent.
use Rattle.std.proofs.Common.{rules, subst, sym}
use Rattle.std.proofs.lemmas.List.{take-append-le}
use Rattle.std.specs.Io.KnownBytes.{Consumes}
use Rattle.files.proofs.input.read_bytes.Goals as goal

pub returns-in_default-clause-takes : goal.returns-in_default-clause-takes
returns-in_default-clause-takes g c =
    let (came, fits, took) = c.in_default.ensures.takes in
    (came, search rules, subst (Consumes _ _) (sym (take-append-le came _ _ fits)) took)
