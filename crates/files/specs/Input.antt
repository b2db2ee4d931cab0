-- What is known of reading from a reader. How many bytes come, and whether a read fails, the reader alone decides; which bytes come is
-- known where the reader says what it has left.
use Rattle.std.specs.Prelude.{ℕ, ◌≤◌, ◌<◌, ◌≡◌, List, [], length, take, drop, Option, Result, Ok, Err}
use Rattle.std.specs.Io.KnownBytes.{Consumes, IsAtEnd}
use Rattle.files.specs.declared.input.ReadError.{ReadError}
use Rattle.files.specs.declared.input.ReadError.TheVariants.{End, Failed}

-- no more bytes came than the buffer holds
abbrev pub Within : {E : Type 0} → ℕ → Result ℕ E → Type 0
Within long (Ok n) = n ≤ long
Within long (Err e) = Unit {0}

-- reading until the buffer is full or the input ends
pub record Reads {E : Type 0} (before : List ℕ) (reply : Result ℕ E) (after : List ℕ) : Type 0 where
  pub within : Within (length before) reply
  pub none : length before ≡ 0 → reply ≡ Ok 0
  pub long : length after ≡ length before

-- of what the reader had left before, the bytes at the buffer's start are gone; they do not fill the buffer only where the input ended
abbrev pub Takes : {E : Type 0} → Option (List ℕ) → Option (List ℕ) → Result ℕ E → List ℕ → Type 0
Takes before after (Ok n) buffer = Consumes before after (take n buffer) × (n < length buffer → IsAtEnd after)
Takes before after (Err e) buffer = (n : ℕ) × (n ≤ length buffer) × Consumes before after (take n buffer)

-- reading n bytes: all came only where the buffer holds them, and those from the n-th on stay
pub record ReadsBytes (before : List ℕ) (n : ℕ) (reply : Result (Unit {0}) ReadError) (after : List ℕ) : Type 0 where
  pub holds : reply ≡ Ok tt → n ≤ length before
  pub short : length before < n → (reply ≡ Err Failed) × (after ≡ before)
  pub none : n ≡ 0 → reply ≡ Ok tt
  pub kept : drop n after ≡ drop n before
  pub long : length after ≡ length before

-- of what the reader had left before, the first n bytes are gone and stand at the buffer's start, or it had none, or some are gone
abbrev pub TakesBytes : Option (List ℕ) → Option (List ℕ) → ℕ → Result (Unit {0}) ReadError → List ℕ → Type 0
TakesBytes before after n (Ok done) buffer = Consumes before after (take n buffer)
TakesBytes before after n (Err End) buffer = Consumes before after [] × IsAtEnd after
TakesBytes before after n (Err Failed) buffer = (came : ℕ) × (came ≤ n) × Consumes before after (take came buffer)
