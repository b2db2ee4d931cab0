-- The loop's invariant holds after a write: its bytes stand behind those that were taken before (more_appended).
use Rattle.std.proofs.Common.{rules}
use Rattle.files.proofs.Known.{more_appended}
use Rattle.files.proofs.output.write.Goals as goal

pub loop-done-preserved : goal.loop-done-preserved
loop-done-preserved g c =
    (search rules, more_appended _ _ _ _ _ _ _ (search rules) c.loop-done.invariant.1 c.in-Ok.ensures.bytes)
