-- The loop's invariant holds after a read: its bytes stand behind those that came before (more_consumed).
use Rattle.std.proofs.Common.{rules}
use Rattle.files.proofs.Known.{more_consumed}
use Rattle.files.proofs.input.read.Goals as goal

pub loop-n-preserved : goal.loop-n-preserved
loop-n-preserved g c =
    (search rules, search rules, more_consumed _ _ _ _ _ _ _ _ (search rules) c.in-Ok.ensures.bound.0 c.loop-n.invariant.2 c.in-Ok.ensures.bytes.0)
