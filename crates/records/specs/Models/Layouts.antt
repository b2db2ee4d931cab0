-- Bounds of a layout, and parts of it by themselves: models of code, which no promise uses.
use Rattle.std.specs.Prelude.{ℕ, ◌-◌, ◌^◌, ◌<◌, ◌≤◌, [], List, ◌∷◌, Result, Ok, Err, drop}
use Rattle.format.specs.declared.Format.{Format}
use Rattle.format.specs.declared.Reason.{Reason}
use Rattle.format.specs.declared.Reference.{Reference}
use Rattle.format.specs.declared.Part.{Part}
use Rattle.format.specs.declared.Part.TheVariants.{Words as words, Stream as stream, Text as text, Thread as thread}
use Rattle.format.specs.Part.{Body, refused, body, take_parts, part}
use Rattle.arguments.specs.declared.Argument.{Argument}
use Rattle.arguments.specs.Argument.{arguments_of}
use Rattle.arguments.specs.Models.Reading.{listed}
use Rattle.records.specs.declared.Report.{Report}
use Rattle.records.specs.declared.Layout.{Layout}
use Rattle.records.specs.declared.Pair.{Pair}

-- a part that is a reference, and fits its field of a header
abbrev pub ReferenceFits : Part → Type 0
ReferenceFits (words n) = ⊥
ReferenceFits (stream n) = ⊥
ReferenceFits (text reference) = reference < 2 ^ 16
ReferenceFits (thread reference) = reference < 2 ^ 8

-- the numbers of a layout fit the fields of a header
pub record LayoutFits (l : Layout) : Type 0 where
  pub words : l.words < 2 ^ 32
  pub first : ReferenceFits l.first
  pub second : ReferenceFits l.second
  pub third : ReferenceFits l.third
  pub stream : l.stream < 2 ^ 32
  pub few : l.count ≤ 15
  pub behind : l.behind ≤ 1

-- two parts that are read, and the place behind them
abbrev pub pair : Reference → Reference → ℕ → Result Pair Reason
pair a b next = Ok (record { first = a; second = b; next = next })

-- two parts of a body
abbrev pub pair_of : Body → Result Pair Reason
pair_of (refused reason) = Err reason
pair_of (body references next) = pair (part 0 references) (part 1 references) next

unfoldable pub take_pair : Format → Part → Part → ℕ → List ℕ → ℕ → Result Pair Reason
take_pair f one two place source start = pair_of (take_parts f (one ∷ two ∷ []) place source start)

abbrev pub on_pair : {A : Type 0} → Result Pair Reason → (Reason → A) → (Reference → Reference → ℕ → A) → A
on_pair (Err reason) refuse then = refuse reason
on_pair (Ok x) refuse then = then x.first x.second x.next

-- the arguments of a record, in order
abbrev pub report_arguments : Format → List ℕ → ℕ → Report → List Argument
report_arguments f source place r = listed (arguments_of f r.count (drop (r.arguments - place) source) r.arguments)
