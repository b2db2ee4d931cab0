-- What is written into a lent output, in its format and from its place on.
use Rattle.std.specs.Prelude.{ℕ, ◌+◌, ◌≡◌, ◌≤◌, List, length}
use Rattle.words.specs.Stream.{overwritten}
use Rattle.format.specs.declared.Format.{Format}
use Rattle.encoding.specs.declared.Output.{Output}

-- an output holds so many bytes from its place on
abbrev pub Holds : Output → (Format → List ℕ) → Type 0
Holds output bytes = output.place + length (bytes output.format) ≤ length output.buffer.now

-- another state of the same lent output
pub record Same (old new : Output) : Type 0 where
  pub buffer : new.buffer.ghost_name ≡ old.buffer.ghost_name
  pub long : length new.buffer.now ≡ length old.buffer.now
  pub format : new.format ≡ old.format

-- bytes that are written: they stand from the place on, which is moved behind them
pub record Writes (old : Output) (bytes : Format → List ℕ) (new : Output) : Type 0 where
  pub same : Same old new
  pub place : new.place ≡ old.place + length (bytes old.format)
  pub buffer : new.buffer.now ≡ overwritten old.buffer.now old.place (bytes old.format)

-- bytes that are written at an earlier place, where they were left out: the place stays
pub record Heads (old : Output) (start : ℕ) (bytes : Format → List ℕ) (new : Output) : Type 0 where
  pub same : Same old new
  pub place : new.place ≡ old.place
  pub buffer : new.buffer.now ≡ overwritten old.buffer.now start (bytes old.format)
