-- Putting bytes into a buffer, one behind the other. Assumes nothing.
use Prim.Native.Nat.{ℕ, ◌+◌, ◌-◌, ◌≤◌, ◌<◌, min}
use mathlib.Core.Path.{◌≡◌, refl, sym, ap, ◌∙◌}
use mathlib.Core.List.{List, [], ◌++◌, append-nil}
use mathlib.Core.Bool.{Bool, true, false}
use native.Mathlib.Nat.{add-zero}
use native.Mathlib.Omega.{arith}
use lib.ListN.{length, take, length-take, length-append}
use lib.Dec.{leb}
use borrow.Rule.Slice.PartMut.{put_mid}
use lib.Seq.{length-take-le, take-nil, take_all, take-append-le, take-append-add, drop-drop}
use borrow.Author.Tests.{leb-true, leb-false}
use Rattle.words.specs.Stream.{overwritten}
use Rattle.words.proofs.Streams.{none-overwritten, overwritten_twice, length-overwritten}
use Rattle.lines.specs.declared.Cursor.{Cursor}
use Rattle.lines.specs.Put.{fitting, put, behind, Puts, Adds}

-- a test decides between two cases
pub by_test : {P : Type 0} (m n : ℕ) → (m ≤ n → P) → (n < m → P) → P
by_test {P} m n within over = go (leb m n) refl
  where
    go : (b : Bool) → leb m n ≡ b → P
    go true e = within (leb-true m n e)
    go false e = over (leb-false m n e)

-- the first of two lists joined
take_joined : (m : ℕ) (a b : List ℕ) → take m (a ++ b) ≡ take m a ++ take (m - length (take m a)) b
take_joined m a b =
    by_test m (length a)
    (λ h. let e : m - length (take m a) ≡ 0 = omega (arith, length-take-le m a h) in
    rw (e, append-nil (take m a)) (take-append-le m a b h))
    (λ h. let e : m ≡ length a + (m - length a) = omega arith in
    rw (take_all m a (omega arith)) (ap (λ (k : ℕ). take k (a ++ b)) e ∙ take-append-add a b (m - length a)))

-- writing no bytes changes nothing
overwritten-none : (out : List ℕ) (at : ℕ) → overwritten out at [] ≡ out
overwritten-none out at = sym (none-overwritten out at [])

-- where the place is past the buffer's end, nothing fits
fitting-none : (out : List ℕ) (at : ℕ) (bytes : List ℕ) → length out < at → fitting out at bytes ≡ []
unfolding fitting
fitting-none out at bytes h = let e : length out - at ≡ 0 = omega arith in rw e

-- putting keeps the buffer's length
pub put-length : (out : List ℕ) (at : ℕ) (bytes : List ℕ) → length (put out at bytes) ≡ length out
unfolding put fitting
put-length out at bytes =
    by_test at (length out)
    (λ h. length-overwritten out at (take (length out - at) bytes) (omega (arith, length-take (length out - at) bytes)))
    (λ h. ap (λ (l : List ℕ). length (overwritten out at l)) (fitting-none out at bytes h) ∙ ap length (overwritten-none out at))

-- putting a, and right behind it b, is putting a ++ b: the buffer
pub put-put : (out : List ℕ) (at : ℕ) (a b : List ℕ) → put (put out at a) (behind out at a) b ≡ put out at (a ++ b)
unfolding put behind fitting
put-put out at a b =
    let m = length out - at in
    by_test at (length out)
    (λ h. let e : length (overwritten out at (take m a)) - (at + length (take m a)) ≡ m - length (take m a) =
    omega (arith, length-overwritten out at (take m a) (omega (arith, length-take m a))) in
    rw e (overwritten_twice out at (take m a) (take (m - length (take m a)) b) h ∙ ap (overwritten out at) (sym (take_joined m a b))))
    (λ h.
    ap (λ (l : List ℕ). overwritten (overwritten out at l) (at + length l) (take (length (overwritten out at l) - (at + length l)) b)) (fitting-none out at a h)
    ∙ ap (λ (l : List ℕ). overwritten l (at + 0) (take (length l - (at + 0)) b)) (overwritten-none out at)
    ∙ ap (λ (k : ℕ). overwritten out k (take (length out - k) b)) (add-zero at)
    ∙ ap (overwritten out at) (fitting-none out at b h ∙ sym (fitting-none out at (a ++ b) h)))

-- the place
pub behind-behind : (out : List ℕ) (at : ℕ) (a b : List ℕ) → behind (put out at a) (behind out at a) b ≡ behind out at (a ++ b)
unfolding behind fitting
behind-behind out at a b =
    let m = length out - at in
    let e : length (put out at a) - (at + length (take m a)) ≡ m - length (take m a) = omega (arith, put-length out at a) in
    rw (e, take_joined m a b, length-append (take m a)) (omega arith)

-- where nothing is put all stays
puts-none : (out : List ℕ) (at : ℕ) → Puts out at [] at out
unfolding put behind fitting
puts-none out at =
    record {
      place = rw (take-nil {A = ℕ} (length out - at)) (omega arith);
      buffer = rw (take-nil {A = ℕ} (length out - at)) (sym (overwritten-none out at));
    }

-- a function that puts nothing
pub adds_none : (c : Cursor) → Adds c [] c
adds_none c = record { same_buffer = refl; puts = puts-none c.buffer.now c.place }

-- a function that puts a and then b puts a ++ b
infixl 60 ◌then◌
pub ◌then◌ : {start : Cursor} {a : List ℕ} {between : Cursor} {b : List ℕ} {last : Cursor}
    → Adds start a between → Adds between b last → Adds start (a ++ b) last
◌then◌ {start} {a} {between} {b} p q =
    record {
      same_buffer = q.same_buffer ∙ p.same_buffer;
      puts = record {
        place = q.puts.place ∙ rw (p.puts.place, p.puts.buffer) (behind-behind start.buffer.now start.place a b);
        buffer = q.puts.buffer ∙ rw (p.puts.place, p.puts.buffer) (put-put start.buffer.now start.place a b);
      };
    }

-- the first of some bytes, counted up to their number
take-least : (m : ℕ) (bytes : List ℕ) → take (min m (length bytes)) bytes ≡ take m bytes
take-least m bytes =
    by_test m (length bytes)
    (λ h. let e : min m (length bytes) ≡ m = omega arith in rw e)
    (λ h. let e : min m (length bytes) ≡ length bytes = omega arith in
    rw (e, take_all m bytes (omega arith)) (take_all (length bytes) bytes (omega arith)))

-- a copy of as many bytes as fit puts them
pub puts_copied : (out : List ℕ) (at : ℕ) (bytes : List ℕ) (n : ℕ) {after : List ℕ} → n ≡ min (length out - at) (length bytes)
    → after ≡ overwritten out at (take n bytes) → Puts out at bytes (at + n) after
unfolding put behind fitting
puts_copied out at bytes n fits copied =
    record {
      place = rw (length-take (length out - at) bytes) (omega arith);
      buffer = copied ∙ rw fits (ap (overwritten out at) (take-least (length out - at) bytes));
    }

-- past the buffer's end nothing is put
pub puts_past : (out : List ℕ) (at : ℕ) (bytes : List ℕ) → length out ≤ at → Puts out at bytes at out
unfolding put behind fitting
puts_past out at bytes h =
    let full : length out - at ≡ 0 = omega arith in
    record { place = rw full (omega arith); buffer = rw full (sym (overwritten-none out at)) }

-- the same bytes, said otherwise
pub adds_same : {start : Cursor} {a : List ℕ} {b : List ℕ} {last : Cursor} → Adds start a last → a ≡ b → Adds start b last
adds_same p e = rw e at p

-- a loop that puts bytes: of all that is to be put from a cursor on, the rest is still to be put
pub record Leaves (start : Cursor) (all : List ℕ) (here : Cursor) (rest : List ℕ) : Type 0 where
  pub same_buffer : here.buffer.ghost_name ≡ start.buffer.ghost_name
  pub place : behind start.buffer.now start.place all ≡ behind here.buffer.now here.place rest
  pub buffer : put start.buffer.now start.place all ≡ put here.buffer.now here.place rest

-- before the first turn all is left
pub leaves_all : (c : Cursor) (all : List ℕ) → Leaves c all c all
leaves_all c all = record { same_buffer = refl; place = refl; buffer = refl }

-- a turn that puts what comes first leaves what comes behind it
pub leaves_less : {start : Cursor} {all : List ℕ} {here : Cursor} {a : List ℕ} {b : List ℕ} {next : Cursor}
    → Leaves start all here (a ++ b) → Adds here a next → Leaves start all next b
leaves_less {here = here} {a} {b} l p =
    record {
      same_buffer = p.same_buffer ∙ l.same_buffer;
      place = l.place ∙ rw (p.puts.place, p.puts.buffer) (sym (behind-behind here.buffer.now here.place a b));
      buffer = l.buffer ∙ rw (p.puts.place, p.puts.buffer) (sym (put-put here.buffer.now here.place a b));
    }

-- once nothing is left all is put
pub leaves_none : {start : Cursor} {all : List ℕ} {last : Cursor} → Leaves start all last [] → Adds start all last
leaves_none {last = last} l =
    let none = puts-none last.buffer.now last.place in
    record { same_buffer = l.same_buffer; puts = record { place = none.place ∙ sym l.place; buffer = none.buffer ∙ sym l.buffer } }

-- the same rest, said otherwise
pub leaves_same : {start : Cursor} {all : List ℕ} {here : Cursor} {a : List ℕ} {b : List ℕ} → Leaves start all here a → a ≡ b → Leaves start all here b
leaves_same l e = rw e at l
