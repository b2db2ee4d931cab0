-- `hashing::few` meets its contract: each answer is what the definition gives for so many bytes. Assumes nothing.
use Rattle.std.proofs.Common.{le-ltb, lt-ltb, eq-eqb, ne_eqb}
use Rattle.hashing.specs.Models.Hash.{few_of}
use Rattle.hashing.proofs.few.Goals as goal

pub returns-then-n-eq0 : goal.returns-then-n-eq0
unfolding few_of
returns-then-n-eq0 c = simp (eq-eqb _ _ c.if-n-eq0.true)

pub returns-then-n-lt4 : goal.returns-then-n-lt4
unfolding few_of
returns-then-n-lt4 c =
    simp (
      ne_eqb _ _ c.if-n-eq0.false,
      lt-ltb _ _ c.if-n-lt4.true,
      ← c.byte.ensures.0,
      ← c.byte-then-n-lt4.ensures.0,
      ← c.byte-then-n-lt4-2.ensures.0,
    )

pub returns : goal.returns
unfolding few_of
returns c =
    simp (ne_eqb _ _ c.if-n-eq0.false, le-ltb _ _ c.if-n-lt4.false, ← c.half.ensures.0, ← c.half-2.ensures.0)
