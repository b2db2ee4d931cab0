-- Bytes that are written one part after another, up to the first that is not all written. Assumes nothing.
use Rattle.std.proofs.Common.{◌≡◌, ℕ, ◌+◌, ◌≤◌, List, [], ◌∷◌, ◌++◌, Bool, true, false, Option, refl, sym, subst, arith, length-append}
use Rattle.std.proofs.lemmas.List.{take-append-le, take-take, take_all, length-take-le}
use Rattle.std.proofs.Math.ListN.{length, take}
use Rattle.std.proofs.Math.Seq.{take-append-add}
use Rattle.std.specs.Io.KnownBytes.{Appends}
use Rattle.files.specs.Output.{Gives, Says}
use Rattle.files.proofs.Known.{both_appended}

-- a part that was all written, and what is given of the next one
pub more_given : (u v w : Option (List ℕ)) (a b : List ℕ) (reply : Bool) → Gives u v (length a) true a → Gives v w (length b) reply b
    → Gives u w (length (a ++ b)) reply (a ++ b)
more_given u v w a b reply p q =
    let whole : take p.0 a ≡ a = take_all p.0 a (omega (arith, p.2 refl)) in
    let first : Appends u v a = subst (Appends u v) whole p.3 in (
      length a + q.0,
      omega (arith, length-append a b, q.1),
      λ e. omega (arith, length-append a b, q.2 e),
      subst (Appends u w) (sym (take-append-add a b q.0)) (both_appended u v w a (take q.0 b) first q.3),
    )

-- a part that was not all written, and nothing of what stands behind it
pub given_less : (u v : Option (List ℕ)) (a behind : List ℕ) → Gives u v (length a) false a → Gives u v (length (a ++ behind)) false (a ++ behind)
given_less u v a behind p = (
  p.0,
  omega (arith, length-append a behind, p.1),
  λ e. absurd (cc),
  subst (Appends u v) (sym (take-append-le p.0 a behind p.1)) p.3,
)

-- the first n bytes of a buffer are a part of their own
pub given_start : (u v : Option (List ℕ)) (n : ℕ) (reply : Bool) (buffer : List ℕ) → n ≤ length buffer → Gives u v n reply buffer
    → Gives u v (length (take n buffer)) reply (take n buffer)
given_start u v n reply buffer h p =
    let long = length-take-le n buffer h in (
      p.0,
      omega (arith, long, p.1),
      λ e. omega (arith, long, p.2 e),
      subst (Appends u v) (sym (take-take p.0 n buffer p.1)) p.3,
    )

-- a line that ends inside the colon and the space behind the name
pub said_name : (u v w : Option (List ℕ)) (what : List ℕ) → Gives u v (length what) true what → Gives v w 2 false (0x3a ∷ 0x20 ∷ []) → Says u w false what
said_name u v w what named parted =
    let behind : List ℕ = 0x0a ∷ [] in
    ([], more_given u v w what ((0x3a ∷ 0x20 ∷ []) ++ behind) false named (given_less v w (0x3a ∷ 0x20 ∷ []) behind parted))

module _ (u v w x : Option (List ℕ)) (what : List ℕ) (n : ℕ) (buffer : List ℕ) (h : n ≤ length buffer) (named : Gives u v (length what) true what)
    (parted : Gives v w 2 true (0x3a ∷ 0x20 ∷ [])) where
  -- the text, which stands at the start of a buffer
  abbrev text : List ℕ
  text = take n buffer

  -- a line that ends inside its text
  pub said_part : Gives w x n false buffer → Says u x false what
  said_part told =
      let line = given_less w x text (0x0a ∷ []) (given_start w x n false buffer h told) in
      (text, more_given u v x what _ false named (more_given v w x (0x3a ∷ 0x20 ∷ []) (text ++ 0x0a ∷ []) false parted line))

  -- a line whose text was all written
  pub said_text : (y : Option (List ℕ)) (reply : Bool) → Gives w x n true buffer → Gives x y 1 reply (0x0a ∷ []) → Says u y reply what
  said_text y reply told ended =
      let line = more_given w x y text (0x0a ∷ []) reply (given_start w x n true buffer h told) ended in
      (text, more_given u v y what _ reply named (more_given v w y (0x3a ∷ 0x20 ∷ []) (text ++ 0x0a ∷ []) reply parted line))
