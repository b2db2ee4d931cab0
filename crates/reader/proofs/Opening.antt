-- A list is read from where `open` leaves off: `ReadsAs`, which names the opening state and tables of zeros, says the same as reading on from the
-- reply and the tables that the contract of `open` gives, whatever the tables held and however long they are. Assumes nothing.
use Prim.Native.Nat.{ℕ, ◌≤◌}
use mathlib.Core.Path.{◌≡◌, ◌∙◌}
use mathlib.Core.List.{List}
use native.Mathlib.Omega.{arith}
use borrow.Author.Tests.{eqb-true, eq-eqb}
use lib.Dec.{eqb}
use lib.ListN.{length}
use Rattle.words.proofs.Tests.{cases}
use Rattle.format.specs.declared.Format.{Format}
use Rattle.records.specs.Item.{Item}
use Rattle.tables.specs.Table.{table_words}
use Rattle.reader.specs.declared.Answer.TheVariants.{End, Nothing}
use Rattle.reader.specs.Step.{opening_number, open_reply, open_tables}
use Rattle.reader.specs.Reads.{Reads, ReadsAs}
use Rattle.reader.proofs.Behind.{opening-behind, reads_with_any}

-- opening takes an archive where it answers that there is nothing to show yet; otherwise it answers a number (`Numbers.opening_numbers`)
abbrev pub Takes : Format → List ℕ → ℕ → Type 0
Takes f archive room = (open_reply f archive room).answer ≡ Nothing

-- it takes one exactly if the first checks refuses nothing
takes_opening : (f : Format) (archive : List ℕ) (room : ℕ) → Takes f archive room → opening_number f archive room ≡ 0
takes_opening f archive room k =
    cases (eqb (opening_number f archive room) 0) (λ e. eqb-true (opening_number f archive room) 0 e)
    (λ e. let q : End (opening_number f archive room) 0 ≡ Nothing = rw e at k in let z : ◌≡◌ {A = ℕ} 0 1 = cc in absurd (omega arith))

zero_takes : (f : Format) (archive : List ℕ) (room : ℕ) → opening_number f archive room ≡ 0 → Takes f archive room
zero_takes f archive room d = rw (eq-eqb (opening_number f archive room) 0 d)

-- "opening takes it, given long enough tables": with any tables that are long enough it takes an archive exactly if the first part of `ReadsAs` holds
pub opening_takes : (f : Format) (archive : List ℕ) (room : ℕ) → table_words f ≤ room
    → (Takes f archive room → opening_number f archive (table_words f) ≡ 0) × (opening_number f archive (table_words f) ≡ 0 → Takes f archive room)
opening_takes f archive room h = (
  λ k. opening-behind f archive (table_words f) room (omega arith) h ∙ takes_opening f archive room k,
  λ d. zero_takes f archive room (opening-behind f archive room (table_words f) h (omega arith) ∙ d),
)

-- "An archive reads to its end as a list when opening takes it, given long enough tables, and the steps from there show exactly the list's items",
-- with these tables: in the words of the contracts of `open` and `step`
abbrev pub ReadsOpened : Format → List ℕ → List ℕ → List Item → Type 0
ReadsOpened f archive tables l =
    Takes f archive (length tables) × Reads f archive (open_reply f archive (length tables)).state (open_tables f archive tables) l

-- it does so with any tables that are long enough exactly if `ReadsAs` holds
pub reads_as_opened : (f : Format) (archive tables : List ℕ) (l : List Item) → table_words f ≤ length tables
    → (ReadsAs f archive l → ReadsOpened f archive tables l) × (ReadsOpened f archive tables l → ReadsAs f archive l)
reads_as_opened f archive tables l h = (
  λ r. let k = (opening_takes f archive (length tables) h).1 r.0 in
      (k, (reads_with_any f archive tables l (takes_opening f archive (length tables) k)).0 r),
  λ r. (reads_with_any f archive tables l (takes_opening f archive (length tables) r.0)).1 r.1,
)
