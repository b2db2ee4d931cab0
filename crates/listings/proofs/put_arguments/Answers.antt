-- `put_arguments` meets its contract: each turn puts the line of one argument more (arguments_turn).
use Prim.Native.Nat.{◌<◌, ◌-◌, ◌+◌}
use mathlib.Core.Path.{◌≡◌, ap}
use native.Mathlib.Omega.{arith}
use Rattle.format.specs.Limits.{small_format}
use Rattle.item_lines.specs.Line.{asked_line}
use Rattle.listings.specs.Listing.{argument_lines}
use Rattle.lines.proofs.Puts.{adds_same, leaves_all, leaves_less, leaves_none, leaves_same}
use Rattle.listings.proofs.Turns.{arguments_turn}
use Rattle.listings.proofs.put_arguments.Goals as goal

pub loop-number-init : goal.loop-number-init
loop-number-init c =
    let lines = argument_lines small_format c.args.archive.now c.args.tables.now c.args.state c.args.place 0 in
    let all : c.args.count ≡ c.args.count - 0 = omega arith in
    leaves_same (leaves_all c.args.out.now (lines c.args.count)) (ap lines all)

pub loop-number-preserved : goal.loop-number-preserved
loop-number-preserved c =
    let archive = c.args.archive.now in
    let here = c.loop-number in
    let lines = argument_lines small_format archive c.args.tables.now c.args.state c.args.place in
    let test : 0 < c.args.count - here.number = omega arith in
    let less : c.args.count - here.number - 1 ≡ c.args.count - (here.number + 1) = omega arith in
    let turn = arguments_turn small_format archive c.args.tables.now c.args.state c.args.place here.number (c.args.count - here.number) test in
    let line = adds_same c.put_asked.ensures (ap (asked_line archive) c.argument-asked.ensures) in
    let left = leaves_less (leaves_same here.invariant turn) line in
    leaves_same left (ap (lines (here.number + 1)) less)

pub returns : goal.returns
unfolding argument_lines
returns c =
    let here = c.loop-number in
    let lines = argument_lines small_format c.args.archive.now c.args.tables.now c.args.state c.args.place here.number in
    let none : c.args.count - here.number ≡ 0 = omega arith in
    leaves_none (leaves_same here.invariant (ap lines none))
