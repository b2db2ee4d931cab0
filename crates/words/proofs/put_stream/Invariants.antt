-- So many bytes as there were turns are written.
use Rattle.std.proofs.Common.{◌≡◌, take}
use Rattle.words.specs.Stream.{overwritten}
use Rattle.words.proofs.put_stream.Given as goal

abbrev pub invariant-loop-i : goal.invariant-loop-i
invariant-loop-i l = l.out ≡ overwritten l.initial.out l.place (take l.i l.bytes)
