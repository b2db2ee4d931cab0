-- The state of a reading and its contexts, after "Contexts" and number 4 of document 01.
use Rattle.std.specs.Prelude.{ℕ, ◌+◌, ◌-◌, ◌%◌, [], List, ◌∷◌, Bool, ◌&&◌, Option, Some, None, take, get_or, set, replicate, eqb, leb}
use Rattle.words.specs.Word.{pick}
use Rattle.contexts.specs.declared.State.{State}

-- request W2: "Each context has its own rate, held in the state value, 1,000,000,000 from opening the archive or the context until its own
-- initialization record"
abbrev pub default_rate : ℕ
default_rate = 1000000000

-- "Its state has no ids (all eight places 0), no provider current" and that rate in all nine contexts; it "stands at byte 0"
abbrev pub opening : State
opening = record { place = 0; rates = replicate 9 default_rate; ids = replicate 8 0; count = 0; current = 0 }

-- number 4's opposite for a state: "the place is not a multiple of 8 or is past the end; more than 8 ids; the current context is not open"
unfoldable pub belongs_to : State → ℕ → Bool
belongs_to s n = eqb (s.place % 8) 0 && (leb s.place n && (leb s.count 8 && leb s.current s.count))

-- where an id first stands in a list, counted from i
abbrev pub find_from : ℕ → List ℕ → ℕ → Option ℕ
find_from i [] id = None
find_from i (x ∷ xs) id = pick (eqb x id) (Some i) (find_from (i + 1) xs id)

-- "Of equal ids the first counts."
unfoldable pub find_id : List ℕ → ℕ → ℕ → Option ℕ
find_id ids count id = find_from 0 (take count ids) id

-- the state at another place; with another rate of the current context; in another context; with one id more, whose context is opened
abbrev pub moved : State → ℕ → State
moved s place = record { place = place; rates = s.rates; ids = s.ids; count = s.count; current = s.current }

abbrev pub rated : State → ℕ → ℕ → State
rated s rate place = record { place = place; rates = set s.rates s.current rate; ids = s.ids; count = s.count; current = s.current }

abbrev pub in_context : State → ℕ → ℕ → State
in_context s current place = record { place = place; rates = s.rates; ids = s.ids; count = s.count; current = current }

abbrev pub with_id : State → ℕ → ℕ → State
with_id s id place =
    record {
      place = place;
      rates = set s.rates (s.count + 1) default_rate;
      ids = set s.ids s.count id;
      count = s.count + 1;
      current = s.count + 1;
    }

abbrev pub on_found : Option ℕ → (ℕ → Option State) → Option State → Option State
on_found (Some i) found missing = found i
on_found None found missing = missing

-- "provider info or a section makes its id current, and opens a context if the id is new; an id met again keeps its tables". None is a ninth id
unfoldable pub entering : State → ℕ → ℕ → Option State
entering s id place =
    on_found (find_id s.ids s.count id) (λ i. Some (in_context s (i + 1) place)) (pick (eqb s.count 8) None (Some (with_id s id place)))

-- the provider of the current context: none, or the id of its slot
unfoldable pub provider_of : State → Option ℕ
provider_of s = pick (eqb s.current 0) None (Some (get_or s.ids (s.current - 1) 0))

-- the rate in force: that of the current context
abbrev pub rate_of : State → ℕ
rate_of s = get_or s.rates s.current 0
