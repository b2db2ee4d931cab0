-- Where the parts of an argument that was read stand: bounds that functions ask for.
use Rattle.std.specs.Prelude.{ℕ, ◌+◌, ◌%◌, ◌≤◌, ◌≡◌, List, length}
use Rattle.format.specs.Models.Bounds.{Inside}
use Rattle.arguments.specs.Loss.{argument_bytes}
use Rattle.arguments.specs.declared.Value.{Value}
use Rattle.arguments.specs.declared.Value.TheVariants.{Scalar as ScalarValue, Text}
use Rattle.arguments.specs.declared.Argument.{Argument}

-- a value's text stands between two places
abbrev pub ValueInside : ℕ → ℕ → Value → Type 0
ValueInside from to (ScalarValue s) = Unit {0}
ValueInside from to (Text reference) = Inside from to reference

-- an argument that is read: its size is a whole number of words inside what is left of its event, and holds its name and its value
pub record Fits (rest : List ℕ) (place : ℕ) (a : Argument) (size : ℕ) : Type 0 where
  pub some : 8 ≤ size
  pub whole : size % 8 ≡ 0
  pub inside : size ≤ length rest
  pub enough : argument_bytes a ≤ size
  pub name : Inside place (place + size) a.name
  pub value : ValueInside place (place + size) a.value
