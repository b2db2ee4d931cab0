-- Known bytes that are read or written one part of a buffer after another. Assumes nothing.
use Rattle.std.proofs.Common.{◌≡◌, ℕ, ◌+◌, ◌-◌, ◌≤◌, List, ◌++◌, Option, Some, None, sym, ap, ◌∙◌, subst, append_assoc, le_refl}
use Rattle.std.proofs.lemmas.List.{take-append-le, take-take, drop_at, length-take-le}
use Rattle.std.proofs.lemmas.Slice.{take-put_mid_below}
use Rattle.std.proofs.Math.ListN.{length, take, drop}
use Rattle.std.proofs.Math.Seq.{take-add}
use Rattle.std.specs.Io.KnownBytes.{Appends, Consumes}
use Rattle.std.specs.List.{slice_range}
use borrow.Rule.Slice.PartMut.{put_mid, post_of}

-- what a reader gave first and then stood behind one another
both_consumed : (u v w : Option (List ℕ)) (a b : List ℕ) → Consumes u v a → Consumes v w b → Consumes u w (a ++ b)
both_consumed None v w a b x y = tt
both_consumed (Some xs) None w a b x y = absurd x
both_consumed (Some xs) (Some ys) None a b x y = absurd y
both_consumed (Some xs) (Some ys) (Some zs) a b x y = x ∙ ap (λ (t : List ℕ). a ++ t) y ∙ sym (append_assoc a b zs)

-- what a writer took first and then stands behind one another
pub both_appended : (u v w : Option (List ℕ)) (a b : List ℕ) → Appends u v a → Appends v w b → Appends u w (a ++ b)
both_appended None v w a b x y = tt
both_appended (Some xs) None w a b x y = absurd x
both_appended (Some xs) (Some ys) None a b x y = absurd y
both_appended (Some xs) (Some ys) (Some zs) a b x y = y ∙ ap (λ (t : List ℕ). t ++ b) x ∙ append_assoc xs a b

-- a part of a buffer that was lent from a place on came back with n bytes at its start
take_grown : (place long n : ℕ) (before part : List ℕ) → place ≤ length before → n ≤ length part
    → take (place + n) (put_mid place long before part) ≡ take place before ++ take n part
take_grown place long n before part within fits =
    let behind = post_of place long before in
    let rest = drop_at (take place before) (part ++ behind) place (length-take-le place before within) in
    take-add place n (put_mid place long before part)
    ∙ ap (λ (t : List ℕ). t ++ take n (drop place (put_mid place long before part))) (take-put_mid_below place long before part place (le_refl _) within)
    ∙ ap (λ (t : List ℕ). take place before ++ take n t) rest
    ∙ ap (λ (t : List ℕ). take place before ++ t) (take-append-le n part behind fits)

-- what the reader gave before and what it gave now stand behind one another in the buffer
pub more_consumed : (u v w : Option (List ℕ)) (place long n : ℕ) (before part : List ℕ) → place ≤ length before → n ≤ length part
    → Consumes u v (take place before) → Consumes v w (take n part) → Consumes u w (take (place + n) (put_mid place long before part))
more_consumed u v w place long n before part within fits x y =
    subst (Consumes u w) (sym (take_grown place long n before part within fits)) (both_consumed u v w _ _ x y)

-- what the writer took before and what it took now stand behind one another in the buffer
pub more_appended : (u v w : Option (List ℕ)) (place n end : ℕ) (buffer : List ℕ) → n ≤ end - place
    → Appends u v (take place buffer) → Appends v w (take n (slice_range buffer place end)) → Appends u w (take (place + n) buffer)
more_appended u v w place n end buffer fits x y =
    let part = take-take n (end - place) (drop place buffer) fits in
    let both = take-add place n buffer in
    subst (Appends u w) (ap (λ (t : List ℕ). take place buffer ++ t) part ∙ sym both) (both_appended u v w _ _ x y)
