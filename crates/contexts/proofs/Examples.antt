-- Rates of contexts, request W2: computed of the definitions. Assumes nothing.
use mathlib.Core.Path.{◌≡◌, refl}
use mathlib.Core.List.{[], ◌∷◌}
use Rattle.std.specs.Prelude.{option_map, option_and_then, Some}
use Rattle.contexts.specs.declared.State.{State}
use Rattle.contexts.specs.Context.{find_id, rated, entering, rate_of}

-- a handmade state in the context of its one id, 7, with a rate of its own in every slot
abbrev handmade : State
handmade =
    record { place = 8; rates = 10 ∷ 11 ∷ 12 ∷ 13 ∷ 14 ∷ 15 ∷ 16 ∷ 17 ∷ 18 ∷ []; ids = 7 ∷ 0 ∷ 0 ∷ 0 ∷ 0 ∷ 0 ∷ 0 ∷ 0 ∷ []; count = 1; current = 1 }

pub record Table : Type 0 where
  -- the rate in force is that of the current context
  pub in_force : rate_of handmade ≡ 11
  -- an initialization record sets it, and no other
  pub set : (rated handmade 5 16).rates ≡ 10 ∷ 5 ∷ 12 ∷ 13 ∷ 14 ∷ 15 ∷ 16 ∷ 17 ∷ 18 ∷ []
  -- an id that is new has its slot written, whatever stood there
  pub opened : option_map (λ s. s.rates) (entering handmade 9 16) ≡ Some (10 ∷ 11 ∷ 1000000000 ∷ 13 ∷ 14 ∷ 15 ∷ 16 ∷ 17 ∷ 18 ∷ [])
  -- an id that is met again keeps its own
  pub again : option_map rate_of (option_and_then (λ s. entering s 7 24) (entering handmade 9 16)) ≡ Some 11

pub table : Table
unfolding find_id entering
table = record { in_force = refl; set = refl; opened = refl; again = refl }
