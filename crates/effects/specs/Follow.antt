-- What the effect of a record makes of the state and of the tables, after "Contexts" of document 01. The record ends at `next`.
use Rattle.std.specs.Prelude.{ℕ, List, Result, Ok, Err, ok_or, set, eqb}
use Rattle.words.specs.Word.{pick}
use Rattle.format.specs.declared.Format.{Format}
use Rattle.records.specs.declared.Effect.{Effect}
use Rattle.records.specs.declared.Effect.TheVariants.{Stop, Pass, Enter, SetRate, Register}
use Rattle.contexts.specs.declared.State.{State}
use Rattle.contexts.specs.Context.{moved, rated, entering}
use Rattle.tables.specs.Table.{position}
use Rattle.effects.specs.declared.Change.{Change}
use Rattle.effects.specs.declared.Change.TheVariants.{Keep, Set}

-- a record that is refused stops the reading by its number; 0 is no number that a record is refused by, and stops nothing
unfoldable pub stopped : State → ℕ → Result State ℕ
stopped s number = pick (eqb number 0) (Ok s) (Err number)

-- the state to go on from, or the number that the reading is stopped by: 9, "a ninth provider id", too
unfoldable pub followed : State → Effect → ℕ → Result State ℕ
followed s (Stop number) next = stopped s number
followed s Pass next = Ok (moved s next)
followed s (Enter id) next = ok_or (entering s id next) 9
followed s (SetRate rate) next = Ok (rated s rate next)
followed s (Register table index place long) next = Ok (moved s next)

-- what is made of such a number, or of the state to go on from
abbrev pub on_followed : {A : Type 0} → Result State ℕ → (ℕ → A) → (State → A) → A
on_followed (Err number) stop then = stop number
on_followed (Ok state) stop then = then state

-- "A string or thread record sets one entry of the current context's table, replacing what stood there."
unfoldable pub change_of : Format → State → Effect → Change
change_of f s (Stop number) = Keep
change_of f s Pass = Keep
change_of f s (Enter id) = Keep
change_of f s (SetRate rate) = Keep
change_of f s (Register table index place long) = Set (position f s.current table index) s.place

-- the tables after a change
unfoldable pub changed : List ℕ → Change → List ℕ
changed tables Keep = tables
changed tables (Set position entry) = set tables position entry
