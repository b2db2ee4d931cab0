-- `hashing::hash` meets its contract: each turn takes one block more (blocks_turn), and the last block ends with the bytes. Assumes nothing.
use Rattle.std.proofs.Common.{◌≡◌, ◌-◌, ◌/◌, length, refl, arith, le-ltb, lt-ltb}
use Rattle.hashing.specs.Models.Hash.{blocks_of, hash_of}
use Rattle.hashing.proofs.Laws.{blocks_turn}
use Rattle.hashing.proofs.hash.Goals as goal

pub returns-then-n-lt8 : goal.returns-then-n-lt8
unfolding hash_of
returns-then-n-lt8 c = rw (lt-ltb _ _ c.if-n-lt8.true, ← c.few.ensures)

pub loop-i-init : goal.loop-i-init
unfolding blocks_of
loop-i-init c = refl

pub loop-i-preserved : goal.loop-i-preserved
loop-i-preserved c =
    blocks_turn c.args.bytes.now c.args.seed c.loop-i.i c.loop-i.hash c.block-hash.result c.loop-i.invariant c.block-hash.ensures

pub returns : goal.returns
unfolding hash_of
returns c =
    let e : c.loop-i.i ≡ (length c.args.bytes.now - 1) / 32 = omega arith in
    rw (le-ltb _ _ c.if-n-lt8.false, ← c.min.ensures, ← e, ← c.loop-i.invariant) c.block.ensures
