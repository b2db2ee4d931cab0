-- `put_scalar` meets its contract: what is put is the definition's for each case of a value that is no text.
use native.Mathlib.Omega.{arith}
use mathlib.Core.Path.{ap, ◌∙◌}
use mir.Syntax.{w32, w64}
use Rattle.lines.proofs.Puts.{adds_same}
use Rattle.lines.proofs.Signs.{handed_on}
use Rattle.lines.specs.Shown.{signed_shown, scalar_shown}
use Rattle.lines.proofs.Cursor.put_scalar.Goals as goal

pub returns-in-Null : goal.returns-in-Null
unfolding scalar_shown
returns-in-Null c = rw c.in-Null.is c.put_bytes.ensures

pub returns-in-Signed32 : goal.returns-in-Signed32
unfolding scalar_shown
returns-in-Signed32 c =
    let half = handed_on w32 c.in-Signed32.n (record { sfits = omega arith }) in
    let wide = handed_on w64 c.from.result (record { sfits = omega (arith, c.from.type_inv) }) in
    rw c.in-Signed32.is (adds_same c.put_signed.ensures (wide ∙ ap signed_shown c.from.ensures ∙ half))

pub returns-in-Unsigned32 : goal.returns-in-Unsigned32
unfolding scalar_shown
returns-in-Unsigned32 c =
    rw (c.in-Unsigned32.is, ← c.from-in-Unsigned32.ensures) c.put_number.ensures

pub returns-in-Signed64 : goal.returns-in-Signed64
unfolding scalar_shown
returns-in-Signed64 c =
    rw c.in-Signed64.is (adds_same c.put_signed-in-Signed64.ensures (handed_on w64 c.in-Signed64.n (record { sfits = omega arith })))

pub returns-in-Unsigned64 : goal.returns-in-Unsigned64
unfolding scalar_shown
returns-in-Unsigned64 c =
    rw c.in-Unsigned64.is c.put_number-in-Unsigned64.ensures

pub returns-in-Double : goal.returns-in-Double
unfolding scalar_shown
returns-in-Double c =
    rw c.in-Double.is c.put_double.ensures

pub returns-in-Pointer : goal.returns-in-Pointer
unfolding scalar_shown
returns-in-Pointer c =
    rw c.in-Pointer.is c.put_number-in-Pointer.ensures

pub returns-in-KernelObject : goal.returns-in-KernelObject
unfolding scalar_shown
returns-in-KernelObject c =
    rw c.in-KernelObject.is c.put_number-in-KernelObject.ensures

pub returns-in-Boolean : goal.returns-in-Boolean
unfolding scalar_shown
returns-in-Boolean c =
    rw c.in-Boolean.is c.put_boolean.ensures

pub returns-in-Unknown : goal.returns-in-Unknown
unfolding scalar_shown
returns-in-Unknown c =
    rw c.in-Unknown.is c.put_bytes-in-Unknown.ensures
