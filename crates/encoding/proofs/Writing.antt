-- Bytes written into an output, one behind the other. Assumes nothing.
use Prim.Native.Nat.{ℕ, ◌+◌, ◌≤◌, ◌<◌}
use mathlib.Core.Path.{◌≡◌, refl, sym, ap, ◌∙◌}
use mathlib.Core.List.{List, [], ◌++◌, append_assoc, append-nil}
use mathlib.Core.Bool.{Bool, true, false}
use native.Mathlib.Omega.{arith}
use lib.ListN.{length, take, drop, length-append}
use lib.Dec.{leb}
use lib.Seq.{take_all, length-take-le, take-take, take-append-le, drop_at}
use native.Mathlib.Nat.{add_assoc}
use lib.ListN.{drop_of_length-le}
use borrow.Author.Tests.{leb-true, leb-false}
use Rattle.words.specs.Stream.{overwritten}
use Rattle.words.proofs.Streams.{overwritten_twice}
use Rattle.format.specs.declared.Format.{Format}
use Rattle.encoding.specs.declared.Output.{Output}
use Rattle.encoding.specs.Models.Output.{Writes, Heads}
use Rattle.encoding.proofs.Parts.{nothing_written}

-- behind a buffer's end bytes are put to its own
past_end : (out : List ℕ) (place : ℕ) (bytes : List ℕ) → length out < place → overwritten out place bytes ≡ out ++ bytes
past_end out place bytes h =
    let behind : length out ≤ place + length bytes = omega arith in
    rw (take_all place out (omega arith), drop_of_length-le out behind, append-nil bytes)

-- writing a, and right behind it b, is writing a ++ b, wherever the place is
twice : (out : List ℕ) (place : ℕ) (a b : List ℕ) → overwritten (overwritten out place a) (place + length a) b ≡ overwritten out place (a ++ b)
twice out place a b = go (leb place (length out)) refl
  where
    go : (q : Bool) → leb place (length out) ≡ q → overwritten (overwritten out place a) (place + length a) b ≡ overwritten out place (a ++ b)
    go true e = overwritten_twice out place a b (leb-true place (length out) e)
    go false e =
        let past = leb-false place (length out) e in
        ap (λ (l : List ℕ). overwritten l (place + length a) b) (past_end out place a past)
        ∙ past_end (out ++ a) (place + length a) b (omega (arith, length-append out a))
        ∙ append_assoc out a b
        ∙ sym (past_end out place (a ++ b) past)

-- a body behind the place of a header, and then the header, are one writing of both
header_last : (out : List ℕ) (place : ℕ) (header body : List ℕ) → length header ≡ 8 → place + 8 ≤ length out
    → overwritten (overwritten out (place + 8) body) place header ≡ overwritten out place (header ++ body)
header_last out place header body eight h =
    let front = take (place + 8) out in
    let behind = body ++ drop (place + 8 + length body) out in
    let long : length front ≡ place + 8 = length-take-le (place + 8) out h in
    rw (
      length-append header body,
      eight,
      take-append-le place front behind (omega arith),
      take-take place (place + 8) out (omega arith),
      drop_at front behind (place + 8) long,
      ← add_assoc place 8 (length body),
      append_assoc header body,
    )

-- where nothing is written all stays
pub writes_none : (output : Output) → Writes output (λ f. []) output
writes_none output =
    record {
      same = record { buffer = refl; long = refl; format = refl };
      place = omega arith;
      buffer = nothing_written output.buffer.now output.place;
    }

-- the same bytes, said otherwise
pub writes_same : {start : Output} {a b : Format → List ℕ} {last : Output} → Writes start a last → a start.format ≡ b start.format → Writes start b last
writes_same {start} p e =
    record {
      same = p.same;
      place = p.place ∙ ap (λ (l : List ℕ). start.place + length l) e;
      buffer = p.buffer ∙ ap (overwritten start.buffer.now start.place) e;
    }

-- writing a and then b is writing a ++ b
infixr 60 ◌then◌
pub ◌then◌ : {start : Output} {a : Format → List ℕ} {between : Output} {b : Format → List ℕ} {last : Output}
    → Writes start a between → Writes between b last → Writes start (λ f. a f ++ b f) last
◌then◌ {start} {a} {between} {b} p q =
    record {
      same = record { buffer = q.same.buffer ∙ p.same.buffer; long = q.same.long ∙ p.same.long; format = q.same.format ∙ p.same.format };
      place = q.place ∙ rw (p.place, p.same.format, length-append (a start.format)) (omega arith);
      buffer = q.buffer ∙ rw (p.place, p.buffer, p.same.format) (twice start.buffer.now start.place (a start.format) (b start.format));
    }

-- a header that was left out, once what is behind it is written
pub headed : (start : Output) {body header : Format → List ℕ} {behind last : Output} → start.place + 8 ≤ length start.buffer.now
    → Writes (record { format = start.format; buffer = start.buffer; place = start.place + 8 }) body behind → length (header start.format) ≡ 8
    → Heads behind start.place header last → Writes start (λ f. header f ++ body f) last
headed start {body} {header} space w long h =
    record {
      same = record { buffer = h.same.buffer ∙ w.same.buffer; long = h.same.long ∙ w.same.long; format = h.same.format ∙ w.same.format };
      place = h.place ∙ w.place ∙ rw (length-append (header start.format), long) (omega arith);
      buffer = h.buffer ∙ rw (w.buffer, w.same.format) (header_last start.buffer.now start.place (header start.format) (body start.format) long space);
    }

-- of a whole that is written part by part, these bytes are still to be written
pub record Writing (start : Output) (whole : List ℕ) (here : Output) (left : List ℕ) : Type 0 where
  pub done : List ℕ
  pub written : Writes start (λ f. done) here
  pub parts : whole ≡ done ++ left

-- at the start all are
pub writing_starts : (start : Output) (whole : List ℕ) → Writing start whole start whole
writing_starts start whole = record { done = []; written = writes_none start; parts = refl }

-- the same bytes, said otherwise
pub writing_as : {start here : Output} {whole left left' : List ℕ} → Writing start whole here left → left ≡ left' → Writing start whole here left'
writing_as g e = rw e at g

-- the first part fits where the whole does
pub writing_fits : {start here : Output} {whole : List ℕ} (part left : List ℕ) → Writing start whole here (part ++ left)
    → start.place + length whole ≤ length start.buffer.now → here.place + length part ≤ length here.buffer.now
writing_fits part left g h =
    omega (arith, h, ap length g.parts, length-append g.done (part ++ left), length-append part left, g.written.place, g.written.same.long)

-- once it is written the others are left
pub writing_goes_on : {start here next : Output} {whole : List ℕ} {part : Format → List ℕ} {left : List ℕ} → Writes here part next
    → Writing start whole here (part start.format ++ left) → Writing start whole next left
writing_goes_on {start} {part = part} {left} w g =
    record {
      done = g.done ++ part start.format;
      written = g.written then (writes_same w (ap part g.written.same.format));
      parts = g.parts ∙ sym (append_assoc g.done (part start.format) left);
    }

-- once none are left the whole is written
pub writing_ends : {start here : Output} {whole : List ℕ} → Writing start whole here [] → Writes start (λ f. whole) here
writing_ends g = writes_same g.written (sym (g.parts ∙ append-nil g.done))
