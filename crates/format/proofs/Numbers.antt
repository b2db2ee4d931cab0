-- Laws of the numbers that a trace is refused by. Assumes nothing.
use Rattle.std.specs.Prelude.{◌<◌}
use native.Mathlib.Omega.{arith}
use Rattle.format.specs.declared.Reason.{Reason}
use Rattle.format.specs.declared.Reason.TheVariants.{NoTrace, LongArchive, ShortTables, ForeignState, Cut, Malformed, LongText, HighIndex, NinthProvider, Loss, Unregistered, ManyKeys, ShortRoom, ShortOutput}
use Rattle.format.specs.Limits.{number_of}

-- no number is 0, which stands for no refusal
pub number_some : (reason : Reason) → 0 < number_of reason
number_some NoTrace = omega arith
number_some LongArchive = omega arith
number_some ShortTables = omega arith
number_some ForeignState = omega arith
number_some Cut = omega arith
number_some Malformed = omega arith
number_some LongText = omega arith
number_some HighIndex = omega arith
number_some NinthProvider = omega arith
number_some Loss = omega arith
number_some Unregistered = omega arith
number_some ManyKeys = omega arith
number_some ShortRoom = omega arith
number_some ShortOutput = omega arith
