-- `put_log` meets its contract: three times four numbers and zeros behind them are one writing (onward), and they are the log's (log-numbers).
use Prim.Native.Nat.{ℕ}
use mathlib.Core.List.{List, [], ◌∷◌, ◌++◌}
use native.Mathlib.Omega.{arith}
use mathlib.Core.Path.{◌≡◌, refl, ap, ◌∙◌}
use lib.ListN.{get_or, replicate}
use Rattle.words.specs.Stream.{overwritten}
use Rattle.records.specs.declared.Log.{Log}
use Rattle.views.specs.declared.ShownReport.{ShownReport}
use Rattle.reader.specs.Numbers.{referent_values, provider_values, log_values}
use Rattle.blocks.specs.Block.{block}
use Rattle.blocks.proofs.Blocks.{length_referent, length-provider, pair, triple, zeros_written, onward}
use Rattle.blocks.proofs.put_log.Goals as goal

-- a log's numbers, with those of its provider and of its thread written out
log-numbers : (l : Log) (r : ShownReport) (p1 p2 a1 a2 a3 : ℕ) → p1 ∷ p2 ∷ [] ≡ provider_values r.provider → a1 ∷ a2 ∷ a3 ∷ [] ≡
    referent_values r.first
    → 12 ∷ r.place ∷ p1 ∷ p2 ∷ l.timestamp ∷ r.rate ∷ a1 ∷ a2 ∷ a3 ∷ r.stream.place ∷ r.stream.length ∷ 0 ∷ replicate 8 0
    ≡ block 20 (log_values l r)
log-numbers l r p1 p2 a1 a2 a3 p a = rw (← p, ← a)

pub returns : goal.returns
returns c =
    let out = c.args.out.now in
    let r = c.args.report in
    let p = c.provider_values-p.result in
    let a = c.referent_values-a.result in
    let one : List ℕ = 12 ∷ r.place ∷ get_or p 0 0 ∷ get_or p 1 0 ∷ [] in
    let two : List ℕ = c.args.log.timestamp ∷ r.rate ∷ get_or a 0 0 ∷ get_or a 1 0 ∷ [] in
    let three : List ℕ = get_or a 2 0 ∷ r.stream.place ∷ r.stream.length ∷ 0 ∷ [] in
    let rest = zeros_written c.put_four-3.new.out 12 8 c.fill.new.self (omega arith) (c.fill.ensures.after (λ y h. h)) in
    let eight = onward out 0 4 one two (omega arith) refl c.put_four.ensures c.put_four-2.ensures in
    let twelve = onward out 0 8 (one ++ two) three (omega arith) refl eight c.put_four-3.ensures in
    onward out 0 12 ((one ++ two) ++ three) (replicate 8 0) (omega arith) refl twelve rest
    ∙ ap (overwritten out 0) (log-numbers c.args.log r _ _ _ _ _
    (pair (provider_values r.provider) c.provider_values-p.ensures (length-provider r.provider))
    (triple (referent_values r.first) c.referent_values-a.ensures (length_referent r.first)))
