-- The room of a pass: the reading tables, and behind them the slots of the tally, which are lent on and come back changed.
-- Assumes nothing.
use Prim.Native.Nat.{ℕ, ◌-◌, ◌≤◌}
use mathlib.Core.Path.{◌≡◌}
use mathlib.Core.List.{[], List, ◌++◌, append-nil}
use native.Mathlib.Omega.{arith}
use lib.ListN.{length, take, drop, length-drop, drop_of_length-le}
use lib.Seq.{length-take-le, take_at, drop_at}

-- where the slots behind the tables are changed, the tables stay
pub tables_stay : (n : ℕ) (room slots after : List ℕ) → n ≤ length room → after ≡ take n room ++ slots → take n after ≡ take n room
tables_stay n room slots after h e = rw e (take_at (take n room) slots n (length-take-le n room h))

-- and behind them stand the slots as they were changed
pub slots_stand : (n : ℕ) (room slots after : List ℕ) → n ≤ length room → after ≡ take n room ++ slots → drop n after ≡ slots
slots_stand n room slots after h e = rw e (drop_at (take n room) slots n (length-take-le n room h))

-- slots that were lent to the end of the room come back to it
pub slots_back : (n : ℕ) (room slots : List ℕ) → take n room ++ (slots ++ drop (length room - n) (drop n room)) ≡ take n room ++ slots
slots_back n room slots =
    let e : drop (length room - n) (drop n room) ≡ [] = drop_of_length-le (drop n room) {i = length room - n} (omega (arith, length-drop n room)) in
    rw (e, append-nil slots)
