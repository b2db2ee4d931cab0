-- `put_event` meets its contract: five times four numbers are one writing (twenty), and they are the event's (event-numbers).
use Prim.Native.Nat.{ℕ}
use mathlib.Core.List.{List, [], ◌∷◌}
use mathlib.Core.Path.{◌≡◌, refl, ap, ◌∙◌}
use native.Mathlib.Omega.{arith}
use lib.ListN.{get_or}
use Rattle.words.specs.Stream.{overwritten}
use Rattle.records.specs.declared.Event.{Event}
use Rattle.views.specs.declared.ShownReport.{ShownReport}
use Rattle.reader.specs.Numbers.{referent_values, provider_values, event_values}
use Rattle.blocks.specs.Block.{block}
use Rattle.blocks.proofs.Blocks.{length_referent, length-provider, pair, triple, twenty}
use Rattle.blocks.proofs.put_event.Goals as goal

-- an event's numbers, with those of its provider and of what it refers to written out
event-numbers : (e : Event) (r : ShownReport) (v p1 p2 a1 a2 a3 b1 b2 b3 c1 c2 c3 : ℕ) → v ≡ e.variant → p1 ∷ p2 ∷ [] ≡ provider_values r.provider
    → a1 ∷ a2 ∷ a3 ∷ [] ≡ referent_values r.first → b1 ∷ b2 ∷ b3 ∷ [] ≡ referent_values r.second
    → c1 ∷ c2 ∷ c3 ∷ [] ≡ referent_values r.third
    → 8 ∷ r.place ∷ p1 ∷ p2 ∷ v ∷ e.timestamp ∷ r.rate ∷ a1 ∷ a2 ∷ a3 ∷ b1 ∷ b2 ∷ b3 ∷ c1 ∷ c2 ∷ c3 ∷ r.count ∷ r.last ∷ 0 ∷ 0 ∷ []
    ≡ block 20 (event_values e r)
event-numbers e r v p1 p2 a1 a2 a3 b1 b2 b3 c1 c2 c3 same p a b c = rw (same, ← p, ← a, ← b, ← c)

pub returns : goal.returns
returns c =
    let r = c.args.report in
    let p = c.provider_values-p.result in
    let a1 = c.referent_values-a.result in
    let a2 = c.referent_values-b.result in
    let a3 = c.referent_values-c.result in
    let one : List ℕ = 8 ∷ r.place ∷ get_or p 0 0 ∷ get_or p 1 0 ∷ [] in
    let two : List ℕ = c.from.result ∷ c.args.event.timestamp ∷ r.rate ∷ get_or a1 0 0 ∷ [] in
    let three : List ℕ = get_or a1 1 0 ∷ get_or a1 2 0 ∷ get_or a2 0 0 ∷ get_or a2 1 0 ∷ [] in
    let four : List ℕ = get_or a2 2 0 ∷ get_or a3 0 0 ∷ get_or a3 1 0 ∷ get_or a3 2 0 ∷ [] in
    let five : List ℕ = r.count ∷ r.last ∷ 0 ∷ 0 ∷ [] in
    twenty c.args.out.now 0 one two three four five (omega arith) refl refl refl refl
    c.put_four.ensures c.put_four-2.ensures c.put_four-3.ensures
    c.put_four-4.ensures c.put_four-5.ensures
    ∙ ap (overwritten c.args.out.now 0) (event-numbers c.args.event r _ _ _ _ _ _ _ _ _ _ _ _ c.from.ensures
    (pair (provider_values r.provider) c.provider_values-p.ensures (length-provider r.provider))
    (triple (referent_values r.first) c.referent_values-a.ensures (length_referent r.first))
    (triple (referent_values r.second) c.referent_values-b.ensures (length_referent r.second))
    (triple (referent_values r.third) c.referent_values-c.ensures (length_referent r.third)))
