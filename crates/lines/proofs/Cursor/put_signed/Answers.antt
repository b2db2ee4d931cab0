-- `put_signed` meets its contract: a sign where the number is below zero, and its magnitude.
use mir.Syntax.{w64}
use Rattle.lines.proofs.Signs.{negative_shown, positive_shown}
use mathlib.Core.Path.{ap, ◌∙◌}
use mathlib.Core.List.{[], ◌∷◌, ◌++◌}
use Prim.Native.Nat.{ℕ}
use Rattle.lines.specs.Shown.{decimal}
use Rattle.lines.proofs.Puts.{◌then◌, adds_same}
use Rattle.lines.proofs.Cursor.put_signed.Goals.{then-n-lt0, else-n-lt0}
use Rattle.lines.proofs.Cursor.put_signed.Goals as goal

pub returns : goal.returns
returns c =
    elim c.if-n-lt0.branch [
      | then-n-lt0 w ↦
          let digits = ap (λ (k : ℕ). (32 ∷ 45 ∷ []) ++ decimal k) c.unsigned_abs.ensures.value in
          adds_same (w.put_bytes.ensures then (rw w.self-is at c.put_decimal.ensures))
          (digits ∙ negative_shown w64 c.args.n c.ranges.n w.if-n-lt0.true)
      | else-n-lt0 w ↦
          let digits = ap (λ (k : ℕ). (32 ∷ []) ++ decimal k) c.unsigned_abs.ensures.value in
          adds_same (w.put_bytes-else-n-lt0.ensures then (rw w.self-is at c.put_decimal.ensures))
          (digits ∙ positive_shown w64 c.args.n c.ranges.n w.if-n-lt0.false)
    ]
