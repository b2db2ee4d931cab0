-- `starts_with_magic` meets its contract: an archive of less than eight bytes has no eight bytes to be the magic (same_length); else it is what `same_bytes` ensures.
use mathlib.Core.Path.{sym}
use native.Mathlib.Omega.{arith}
use lib.ListN.{take, length-take}
use lib.Seq.{length-take-le}
use Rattle.words.specs.Stream.{magic, starts_with_magic}
use Rattle.words.proofs.Same.{same_length}
use Rattle.words.proofs.starts_with_magic.Goals as goal

pub returns-then-archive-lt8 : goal.returns-then-archive-lt8
unfolding magic starts_with_magic
returns-then-archive-lt8 c =
    sym (same_length (take 8 c.args.archive.now) magic (λ e. omega (arith, length-take 8 c.args.archive.now)))

pub slice_bounds-same_bytes-end : goal.slice_bounds-same_bytes-end
slice_bounds-same_bytes-end c = sym (length-take-le 8 c.args.archive.now (omega arith))

pub returns : goal.returns
unfolding magic starts_with_magic
returns c = c.same_bytes.ensures
