-- Reading to the first bytes of a buffer. Assumes nothing.
use Prim.Native.Nat.{ℕ, ◌≤◌}
use mathlib.Core.Path.{◌≡◌, ◌∙◌}
use mathlib.Core.List.{List, ◌++◌}
use native.Mathlib.Omega.{arith}
use lib.ListN.{length, take, drop, length-append, length-drop}
use lib.Seq.{length-take-le, drop_at}
use Rattle.std.specs.Prelude.{Result, Ok}
use Rattle.files.specs.declared.input.ReadError.{ReadError}
use Rattle.files.specs.Input.{ReadsBytes}

-- the first n bytes were lent, and came back as any others of their number
pub reads_first : (before part : List ℕ) (n : ℕ) (reply : Result (Unit {0}) ReadError) → n ≤ length before → length part ≡ length (take n before)
    → (n ≡ 0 → reply ≡ Ok tt) → ReadsBytes before n reply (part ++ drop n before)
reads_first before part n reply h same none =
    let long : length part ≡ n = same ∙ length-take-le n before h in
    record {
      holds = λ e. h;
      short = λ s. absurd (omega arith);
      none = none;
      kept = drop_at part (drop n before) n long;
      long = rw (length-append part, length-drop n before) (omega arith);
    }
