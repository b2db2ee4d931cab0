-- How many numbers a repack has. Assumes nothing.
use mathlib.Core.Path.{◌≡◌, refl}
use lib.ListN.{length}
use Rattle.std.specs.Prelude.{Ok, Err}
use Rattle.packer.specs.Pack.{Packed}
use Rattle.exports.specs.Block.{packed_numbers}

-- the block of a repack has the length that it is said to have
pub length_packed : (p : Packed) → length (packed_numbers p) ≡ 4
unfolding packed_numbers
length_packed (Err refused) = refl
length_packed (Ok long) = refl
