-- `hashing::half` meets its contract: the first four bytes of the part that starts at the place are those there (half_part). Assumes nothing.
use Rattle.std.proofs.Common.{◌+◌, ◌-◌, ◌∙◌, arith}
use Rattle.hashing.proofs.Laws.{half_part}
use Rattle.hashing.proofs.half.Goals as goal

pub returns : goal.returns
returns c =
    (c.first_half.ensures.0 ∙ half_part c.args.bytes.now c.args.place (c.args.place + 4 - c.args.place) (omega arith), c.first_half.ensures.1)
