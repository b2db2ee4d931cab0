-- Asking for an argument and for a text, after "Numbers and replies" of document 01.
use Rattle.std.specs.Prelude.{ℕ, ◌-◌, ◌%◌, [], List, ◌∷◌, length, take, drop, eqb, leb, Result, Ok}
use Rattle.words.specs.Word.{pick}
use Rattle.format.specs.declared.Format.{Format}
use Rattle.format.specs.declared.Refused.{Refused}
use Rattle.format.specs.Limits.{refused_at}
use Rattle.arguments.specs.declared.Argument.{Argument}
use Rattle.arguments.specs.Argument.{numbered_of, on_argued}
use Rattle.records.specs.declared.Report.{Report}
use Rattle.records.specs.Record.{record_at}
use Rattle.records.specs.Lookups.{argument_lookups, on_report}
use Rattle.contexts.specs.declared.State.{State}
use Rattle.contexts.specs.Context.{belongs_to}
use Rattle.tables.specs.Table.{resolved}
use Rattle.views.specs.declared.ShownArgument.{ShownArgument}
use Rattle.views.specs.Shown.{shown_text, shown_value, none_bad}
use Rattle.reader.specs.Step.{opening_number}

-- what is answered for an argument: how it is shown, or a refusal
abbrev pub Asked : Type 0
Asked = Result ShownArgument Refused

-- an argument as it is shown in a context at a place: "the entries looked up are that argument's"
abbrev pub shown_for : Format → List ℕ → List ℕ → (context place : ℕ) → Argument → Asked
shown_for f archive tables context place a =
    pick (none_bad f archive tables context place (argument_lookups (a ∷ [])))
    (Ok (record {
      name = shown_text (resolved f archive tables context 2 place a.name);
      value = shown_value f archive tables context place a.value;
    }))
    (refused_at 4 place)

unfoldable pub shown_argument : Format → List ℕ → List ℕ → State → Argument → Asked
shown_argument f archive tables s a = shown_for f archive tables s.current s.place a

-- the argument of a number of a record that ends at the state's place; number 4 where there is "no such argument"
unfoldable pub asked_report : Format → List ℕ → List ℕ → State → Report → ℕ → Asked
asked_report f archive tables s e number =
    pick (leb e.count number) (refused_at 4 s.place)
    (on_argued (numbered_of f number (take (s.place - e.arguments) (drop e.arguments archive)) e.arguments) (λ refused. refused_at 4 s.place)
    (λ a size. shown_argument f archive tables s a))

-- "it is 4 too where no event of types 0 to 10 that passes 5 to 7 stands there, at a multiple of 8, or the state's place is not its end"
unfoldable pub asked_place : Format → List ℕ → List ℕ → State → ℕ → ℕ → Asked
asked_place f archive tables s at number =
    pick (eqb (at % 8) 0)
    (pick (eqb (record_at f archive at).next s.place)
    (on_report (record_at f archive at).content (refused_at 4 s.place) (λ e. asked_report f archive tables s e number))
    (refused_at 4 s.place))
    (refused_at 4 s.place)

-- "An argument is asked by its event's place, its number from 0 and the state right after that event; the checks are 2, 1, 3, 4"
unfoldable pub argument_reply : Format → List ℕ → List ℕ → State → ℕ → ℕ → Asked
argument_reply f archive tables s at number =
    pick (eqb (opening_number f archive (length tables)) 0)
    (pick (belongs_to s (length archive)) (asked_place f archive tables s at number) (refused_at 4 s.place))
    (refused_at (opening_number f archive (length tables)) 0)
