-- What a step sees of a record that refers to texts and threads, in the order in which its code looks: models of code, which no promise uses.
use Rattle.std.specs.Prelude.{ℕ, [], List, ◌∷◌, Bool, Option, Result, Ok, Err}
use Rattle.words.specs.Word.{pick}
use Rattle.format.specs.declared.Format.{Format}
use Rattle.format.specs.declared.Reason.{Reason}
use Rattle.arguments.specs.Argument.{Arguments, refused, arguments}
use Rattle.records.specs.declared.Report.{Report}
use Rattle.records.specs.declared.Content.{Content}
use Rattle.records.specs.declared.Effect.{Effect}
use Rattle.records.specs.declared.Effect.TheVariants.{Stop, Pass, Enter, SetRate, Register}
use Rattle.records.specs.Effect.{effect_of}
use Rattle.records.specs.Lookups.{argument_lookups, arguments_to, on_report}
use Rattle.tables.specs.Table.{looked_up}
use Rattle.views.specs.declared.Searched.{Searched}
use Rattle.views.specs.declared.ShownReport.{ShownReport}
use Rattle.views.specs.Shown.{none_bad, shown_at}

-- arguments that end there, whose entries all belong or not
abbrev pub searched : (at : ℕ) → Bool → Result Searched Reason
searched at found = Ok (record { at = at; found = found })

-- where arguments end, and whether no entry that they are looked up in is bad
unfoldable pub searched_of : Format → List ℕ → List ℕ → ℕ → ℕ → Arguments → Result Searched Reason
searched_of f archive tables context until (refused reason) = Err reason
searched_of f archive tables context until (arguments l next) = searched next (none_bad f archive tables context until (argument_lookups l))

-- a record in which this was read, the entries of whose arguments all belong if `found`
unfoldable pub seen_found : Format → List ℕ → List ℕ → (context place : ℕ) → Option ℕ → (rate : ℕ) → Report → Bool → Result ShownReport ℕ
seen_found f archive tables context place provider rate r found =
    let look = looked_up f archive tables context place in
    pick (none_bad f archive tables context place (r.first ∷ r.second ∷ r.third ∷ []))
    (pick found (Ok (shown_at f archive place provider rate r (look r.first) (look r.second) (look r.third))) (Err 4))
    (Err 4)

-- the number that a record stops the reading by; one that does not is not asked
abbrev pub stop_number : Effect → ℕ
stop_number (Stop number) = number
stop_number Pass = 0
stop_number (Enter id) = 0
stop_number (SetRate n) = 0
stop_number (Register table index at long) = 0

-- a record that ends at `next` and in which this was read; only one that is refused, or refers to texts and threads, is seen so
abbrev pub seen_of : Format → List ℕ → List ℕ → (context place : ℕ) → Option ℕ → (rate : ℕ) → Content → ℕ → Result ShownReport ℕ
seen_of f archive tables context place provider rate content next =
    on_report content (Err (stop_number (effect_of content)))
    (λ r. seen_found f archive tables context place provider rate r
    (none_bad f archive tables context place (argument_lookups (arguments_to f archive r next))))
