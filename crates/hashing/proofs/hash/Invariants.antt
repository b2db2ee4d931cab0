use Rattle.std.proofs.Common.{◌≡◌}
use Rattle.hashing.specs.Models.Hash.{blocks_of}
use Rattle.hashing.proofs.hash.Given as goal

abbrev pub invariant-loop-i : goal.invariant-loop-i
invariant-loop-i l = l.hash ≡ blocks_of l.bytes l.seed l.i
