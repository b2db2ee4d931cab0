-- Laws of the number that a record stops the reading by: it is more than 0, and any such number stops it. Assumes nothing.
use Prim.Native.Nat.{ℕ, ◌<◌}
use mathlib.Core.Path.{◌≡◌, refl, sym}
use native.Mathlib.Omega.{arith}
use borrow.Author.Tests.{ne_eqb, eqb-true, eqb-false}
use lib.Dec.{eqb}
use Rattle.std.specs.Prelude.{Option, Some, None, Result, Ok, Err, ok_or}
use Rattle.words.proofs.Tests.{on-pick, cases}
use Rattle.contexts.specs.declared.State.{State}
use Rattle.contexts.specs.Context.{entering}
use Rattle.records.specs.declared.Effect.{Effect}
use Rattle.records.specs.declared.Effect.TheVariants.{Stop, Pass, Enter, SetRate, Register}
use Rattle.effects.specs.Follow.{stopped, followed, on_followed}

-- what stops the reading, stops it by a number more than 0
abbrev pub Above : Result State ℕ → Type 0
Above (Err number) = 0 < number
Above (Ok state) = Unit {0}

-- whatever the effect of a record
pub followed_above : (s : State) (e : Effect) (next : ℕ) → Above (followed s e next)
unfolding followed stopped
followed_above s (Stop number) next = on-pick Above (eqb number 0) _ _ (λ q. tt) (λ q. let z = eqb-false number 0 q in omega (arith, z))
followed_above s Pass next = tt
followed_above s (Enter id) next = go (entering s id next)
  where
    go : (x : Option State) → Above (ok_or x 9)
    go None = omega arith
    go (Some state) = tt
followed_above s (SetRate rate) next = tt
followed_above s (Register table index place long) next = tt

-- so a record stops it by no other
pub stop_above : (s : State) (e : Effect) (next number : ℕ) → followed s e next ≡ Err number → 0 < number
stop_above s e next number h = rw h at (followed_above s e next)

-- and a record that is refused by such a number stops it
pub stops_above : (s : State) (number : ℕ) → 0 < number → stopped s number ≡ Err number
unfolding stopped
stops_above s number h = rw (ne_eqb number 0 (λ z. omega (arith, z, h)))

-- a record that is refused gives its number, also 0, and leaves the state as it is
pub stopped_is : (s : State) (number : ℕ) → (on_followed (stopped s number) (λ number. number) (λ state. 0) ≡ number)
    × (on_followed (stopped s number) (λ number. s) (λ state. state) ≡ s)
unfolding stopped
stopped_is s number = cases (eqb number 0) (λ e. rw e (sym (eqb-true number 0 e), refl)) (λ e. rw e (refl, refl))
