-- Replies as numbers in lent words: the values of a case in a block of a fixed length, the numbers of a state, and what the words hold afterwards.
-- The values are document 01's: "Where an answer is an enum, a definition gives this paper's number and values for each of its cases."
use Rattle.std.specs.Prelude.{ℕ, ◌-◌, ◌%◌, ◌^◌, List, [], ◌∷◌, ◌++◌, length, get_or, replicate, ltb}
use Rattle.words.specs.Word.{pick}
use Rattle.words.specs.Stream.{overwritten}
use Rattle.contexts.specs.declared.State.{State}
use Rattle.reader.specs.declared.Answer.{Answer}
use Rattle.reader.specs.Ask.{Asked}
use Rattle.reader.specs.declared.Reply.{Reply}
use Rattle.reader.specs.Numbers.{answer_values, asked_values}

-- these values, and behind them zeros up to so many numbers
abbrev pub block : ℕ → List ℕ → List ℕ
block n values = values ++ replicate (n - length values) 0

-- an answer has twenty numbers, and so has what is answered for an argument
unfoldable pub answer_numbers : Answer → List ℕ
answer_numbers a = block 20 (answer_values a)

unfoldable pub asked_numbers : Asked → List ℕ
asked_numbers a = block 20 (asked_values a)

-- a state has twenty: its place, the rate of each context, "The eight provider ids, their number and the current one"
unfoldable pub state_numbers : State → List ℕ
state_numbers s =
    s.place
    ∷ get_or s.rates 0 0 ∷ get_or s.rates 1 0 ∷ get_or s.rates 2 0 ∷ get_or s.rates 3 0 ∷ get_or s.rates 4 0
    ∷ get_or s.rates 5 0 ∷ get_or s.rates 6 0 ∷ get_or s.rates 7 0 ∷ get_or s.rates 8 0
    ∷ get_or s.ids 0 0 ∷ get_or s.ids 1 0 ∷ get_or s.ids 2 0 ∷ get_or s.ids 3 0
    ∷ get_or s.ids 4 0 ∷ get_or s.ids 5 0 ∷ get_or s.ids 6 0 ∷ get_or s.ids 7 0
    ∷ s.count ∷ s.current ∷ []

-- a reply has the numbers of its answer, then those of its state
abbrev pub reply_numbers : Reply → List ℕ
reply_numbers r = answer_numbers r.answer ++ state_numbers r.state

-- an id has 32 bits: the lowest of its number
abbrev pub id_at : List ℕ → ℕ → ℕ
id_at numbers i = get_or numbers i 0 % 2 ^ 32

-- the state that a list of numbers stands for, in the same order; a number that is missing is 0, and those behind the twenty say nothing
unfoldable pub given_state : List ℕ → State
given_state numbers = record {
  place = get_or numbers 0 0;
  rates =
      get_or numbers 1 0 ∷ get_or numbers 2 0 ∷ get_or numbers 3 0 ∷ get_or numbers 4 0 ∷ get_or numbers 5 0
      ∷ get_or numbers 6 0 ∷ get_or numbers 7 0 ∷ get_or numbers 8 0 ∷ get_or numbers 9 0 ∷ [];
  ids =
      id_at numbers 10 ∷ id_at numbers 11 ∷ id_at numbers 12 ∷ id_at numbers 13
      ∷ id_at numbers 14 ∷ id_at numbers 15 ∷ id_at numbers 16 ∷ id_at numbers 17 ∷ [];
  count = get_or numbers 18 0;
  current = get_or numbers 19 0;
}

-- how many of n numbers are put into so many lent words: all, or none where the words are too few
abbrev pub put_count : ℕ → ℕ → ℕ
put_count space n = pick (ltb space n) 0 n

-- the lent words afterwards: the numbers at their start and the rest as it was, or all as it was where they are too few
abbrev pub put_numbers : List ℕ → List ℕ → List ℕ
put_numbers out numbers = pick (ltb (length out) (length numbers)) out (overwritten out 0 numbers)
