-- What a repack answers as numbers in lent words. The values are document 01's.
use Rattle.std.specs.Prelude.{ℕ, List}
use Rattle.blocks.specs.Block.{block}
use Rattle.packer.specs.Pack.{Packed}
use Rattle.packer.specs.Numbers.{packed_values}

-- what a repack answers has four numbers
unfoldable pub packed_numbers : Packed → List ℕ
packed_numbers p = block 4 (packed_values p)
