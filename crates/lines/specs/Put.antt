-- Bytes put into a lent buffer from a place on. What does not fit is left out, and what stands before the place and behind the bytes stays.
use Rattle.std.specs.Prelude.{ℕ, ◌+◌, ◌-◌, ◌≡◌, List, length, take}
use Rattle.words.specs.Stream.{overwritten}
use Rattle.lines.specs.declared.Cursor.{Cursor}

-- of these bytes the first, as many as the buffer holds from the place on
unfoldable pub fitting : List ℕ → ℕ → List ℕ → List ℕ
fitting out at bytes = take (length out - at) bytes

-- the buffer afterwards
unfoldable pub put : List ℕ → ℕ → List ℕ → List ℕ
put out at bytes = overwritten out at (fitting out at bytes)

-- the place right behind what was put
unfoldable pub behind : List ℕ → ℕ → List ℕ → ℕ
behind out at bytes = at + length (fitting out at bytes)

-- bytes that are put: the reply is the place behind them, and the buffer afterwards holds them and is else as it was
pub record Puts (out : List ℕ) (at : ℕ) (bytes : List ℕ) (reply : ℕ) (after : List ℕ) : Type 0 where
  pub place : reply ≡ behind out at bytes
  pub buffer : after ≡ put out at bytes

-- what a function that puts bytes at a cursor promises: they stand from its place on, it is moved behind them, and its buffer is the same lent one
pub record Adds (old : Cursor) (bytes : List ℕ) (new : Cursor) : Type 0 where
  pub same_buffer : new.buffer.ghost_name ≡ old.buffer.ghost_name
  pub puts : Puts old.buffer.now old.place bytes new.place new.buffer.now
