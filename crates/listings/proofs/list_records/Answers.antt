-- `list_records` meets its contract: each turn puts the lines of one step more (lines_turn), up to the first that ends.
use Prim.Native.Nat.{ℕ, ◌+◌, ◌-◌, ◌<◌}
use mathlib.Core.Path.{◌≡◌, sym, ap, ◌∙◌}
use native.Mathlib.Omega.{arith}
use Rattle.format.specs.Limits.{small_format}
use Rattle.reader.specs.Step.{step_reply}
use Rattle.listings.specs.Listing.{lines_from, tables_from, steps_of}
use Rattle.lines.proofs.Puts.{leaves_less, leaves_none, leaves_same}
use Rattle.listings.proofs.Turns.{none_next, some_next, lines_turn, tables_turn}
use Rattle.listings.proofs.list_records.Goals as goal

-- where the step is the last, its lines are the last ones
pub returns-in_default : goal.returns-in_default
returns-in_default c =
    let archive = c.args.archive.now in
    let here = c.loop in
    let left = steps_of archive - here.counter in
    let test : 0 < left = omega arith in
    let said = c.list_record.ensures in
    let ended = none_next (step_reply small_format archive here.tables here.state) (sym c.in_default.is ∙ said.value) in
    let lines = leaves_less (leaves_same here.invariant.1 (lines_turn small_format archive left here.state here.tables test)) said.puts in
    let after = tables_turn small_format archive left here.state here.tables test in
    record {
      puts = leaves_none (leaves_same lines (rw ended));
      tables_after = said.tables_after ∙ sym (here.invariant.0 ∙ after ∙ rw ended);
    }

-- where it is not, the lines of the steps behind it are left
pub loop-preserved : goal.loop-preserved
loop-preserved c =
    let archive = c.args.archive.now in
    let here = c.loop in
    let left = steps_of archive - here.counter in
    let test : 0 < left = omega arith in
    let less : left - 1 ≡ steps_of archive - (here.counter + 1) = omega arith in
    let said = c.list_record.ensures in
    let on = some_next (step_reply small_format archive here.tables here.state) c.in-Some.next (sym c.in-Some.is ∙ said.value) in
    let lines = leaves_less (leaves_same here.invariant.1 (lines_turn small_format archive left here.state here.tables test)) said.puts in
    let after = tables_turn small_format archive left here.state here.tables test in
    (here.invariant.0 ∙ after ∙ rw (on.0, on.1, said.tables_after, less), leaves_same lines (rw (on.0, on.1, said.tables_after, less)))

-- with no turn left no line is left
pub returns : goal.returns
unfolding lines_from tables_from
returns c =
    let archive = c.args.archive.now in
    let here = c.loop in
    let none : steps_of archive - here.counter ≡ 0 = omega arith in
    let lines = ap (λ (n : ℕ). lines_from small_format archive n here.state here.tables) none in
    let after = ap (λ (n : ℕ). tables_from small_format archive n here.state here.tables) none in
    record {
      puts = leaves_none (leaves_same here.invariant.1 lines);
      tables_after = sym (here.invariant.0 ∙ after);
    }
