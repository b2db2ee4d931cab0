-- Document 01's number and values for each case of what a repack answers.
use Rattle.std.specs.Prelude.{ℕ, List, [], ◌∷◌, Ok, Err}
use Rattle.std.proofs.Math.Option.{Option, none, some}
use Rattle.packer.specs.Pack.{Packed}

-- the number of a refusal; an archive that was repacked has none. It is 1, 2 or 5 to 14 (proofs `Numbers.repack_numbers`)
abbrev pub packed_number : Packed → Option ℕ
packed_number (Err refused) = some refused.number
packed_number (Ok long) = none

-- which case it is, then its values: 1 with number and place, or 11 with the written length
abbrev pub packed_values : Packed → List ℕ
packed_values (Err refused) = 1 ∷ refused.number ∷ refused.place ∷ []
packed_values (Ok long) = 11 ∷ long ∷ []
