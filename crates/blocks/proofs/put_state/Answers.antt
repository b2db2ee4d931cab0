-- `put_state` meets its contract: five times four numbers are one writing (twenty), and they are the state's (state-numbers).
use Prim.Native.Nat.{ℕ}
use mathlib.Core.Path.{◌≡◌, refl, ap, ◌∙◌}
use mathlib.Core.List.{List, [], ◌∷◌}
use native.Mathlib.Omega.{arith}
use lib.ListN.{get_or}
use Rattle.words.specs.Stream.{overwritten}
use Rattle.contexts.specs.declared.State.{State}
use Rattle.blocks.specs.Block.{state_numbers}
use Rattle.blocks.proofs.Blocks.{twenty}
use Rattle.blocks.proofs.put_state.Goals as goal

-- a state's numbers, with its ids written out
state-numbers : (s : State) (a b c d e f g h : ℕ) → a ≡ get_or s.ids 0 0 → b ≡ get_or s.ids 1 0 → c ≡ get_or s.ids 2 0 → d ≡ get_or s.ids 3 0
    → e ≡ get_or s.ids 4 0 → f ≡ get_or s.ids 5 0 → g ≡ get_or s.ids 6 0 → h ≡ get_or s.ids 7 0
    → s.place ∷ get_or s.rates 0 0 ∷ get_or s.rates 1 0 ∷ get_or s.rates 2 0 ∷ get_or s.rates 3 0 ∷ get_or s.rates 4 0 ∷ get_or s.rates 5 0
    ∷ get_or s.rates 6 0 ∷ get_or s.rates 7 0 ∷ get_or s.rates 8 0 ∷ a ∷ b ∷ c ∷ d ∷ e ∷ f ∷ g ∷ h ∷ s.count ∷ s.current ∷ []
    ≡ state_numbers s
unfolding state_numbers
state-numbers s a b c d e f g h ea eb ec ed ee ef eg eh = rw (ea, eb, ec, ed, ee, ef, eg, eh)

pub returns : goal.returns
returns c =
    let one : List ℕ = c.args.s.place ∷ get_or c.args.s.rates 0 0 ∷ get_or c.args.s.rates 1 0 ∷ get_or c.args.s.rates 2 0 ∷ [] in
    let two : List ℕ = get_or c.args.s.rates 3 0 ∷ get_or c.args.s.rates 4 0 ∷ get_or c.args.s.rates 5 0 ∷ get_or c.args.s.rates 6 0 ∷ [] in
    let three : List ℕ = get_or c.args.s.rates 7 0 ∷ get_or c.args.s.rates 8 0 ∷ c.into.result ∷ c.into-2.result ∷ [] in
    let four : List ℕ = c.into-3.result ∷ c.into-4.result ∷ c.into-5.result ∷ c.into-6.result ∷ [] in
    let five : List ℕ = c.into-7.result ∷ c.into-8.result ∷ c.args.s.count ∷ c.args.s.current ∷ [] in
    twenty c.args.out.now 20 one two three four five (omega (arith, c.requires)) refl refl refl refl c.put_four.ensures
    c.put_four-2.ensures c.put_four-3.ensures c.put_four-4.ensures c.put_four-5.ensures
    ∙ ap (overwritten c.args.out.now 20)
    (state-numbers c.args.s _ _ _ _ _ _ _ _
    c.into.ensures c.into-2.ensures c.into-3.ensures c.into-4.ensures c.into-5.ensures c.into-6.ensures c.into-7.ensures c.into-8.ensures)
