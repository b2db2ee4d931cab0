-- An event that was written is shown as itself: its numbers, its references, and each argument that is asked for.
-- Assumes nothing.
use Prim.Native.Nat.{ℕ, zero, suc, ◌+◌, ◌-◌, ◌%◌, ◌≤◌, ◌<◌}
use mathlib.Core.Path.{◌≡◌, refl, ap, ◌∙◌}
use mathlib.Core.List.{[], List, ◌∷◌, ◌++◌, append_assoc}
use mathlib.Core.Option.{Option, some}
use native.Mathlib.Omega.{arith}
use native.Mathlib.Nat.{add-zero}
use borrow.Author.Tests.{eq-eqb, lt-leb}
use lib.ListN.{length, take, drop}
use lib.Seq.{drop-append_seam}
use Rattle.format.specs.declared.Format.{Format}
use Rattle.arguments.specs.Argument.{argued, on_argued, numbered_of}
use Rattle.records.specs.declared.Report.{Report as ReadReport}
use Rattle.records.specs.declared.Content.TheVariants.{Report as ReportRead}
use Rattle.records.specs.Record.{record_at}
use Rattle.records.specs.Item.{Argument, Key}
use Rattle.encoding.specs.Encoded.{argument_record, arguments_records}
use Rattle.encoding.proofs.EncodedArguments.{AllFit, AllSized, SpellsArguments, argument_at, arguments_at, argument_read}
use Rattle.contexts.specs.declared.State.{State}
use Rattle.format.specs.Limits.{refused_at}
use Rattle.reader.specs.Step.{opening_number}
use Rattle.reader.specs.Ask.{shown_argument, asked_report, asked_place, argument_reply}
use Rattle.reader.specs.Reads.{argument_items}
use Rattle.reader.proofs.NeverFour.{none_bad_lem, argument_tables, sound_belongs}
use Rattle.reader.proofs.Runs.{Sound}
use Rattle.records.specs.Lookups.{argument_lookups}
use Rattle.rule.specs.Rule.{Entry, index_in}
use Rattle.rule.proofs.Tables.{Every}
use Rattle.rule.proofs.Entries.{ContextIs, Standing}
use Rattle.rule.proofs.References.{text_shown_lem, value_shown_lem}

-- ---- arguments

-- right after an event the argument of a number is read from the event's bytes and shown
pub asked_is : (f : Format) (archive tables : List ℕ) (s : State) (place number : ℕ) (e : ReadReport) → Sound f archive s tables
    → opening_number f archive (length tables) ≡ 0 → place % 8 ≡ 0 → record_at f archive place ≡ record { content = ReportRead e; next = s.place }
    → number < e.count
    → argument_reply f archive tables s place number
    ≡ on_argued (numbered_of f number (take (s.place - e.arguments) (drop e.arguments archive)) e.arguments) (λ refused. refused_at 4 s.place)
    (λ a size. shown_argument f archive tables s a)
unfolding argument_reply asked_place asked_report
asked_is f archive tables s place number e sound opens whole is l =
    rw (
      eq-eqb (opening_number f archive (length tables)) 0 opens,
      sound_belongs f archive tables s sound,
      eq-eqb (place % 8) 0 whole,
      is,
      eq-eqb s.place s.place refl,
      lt-leb e.count number l,
    )

-- arguments that stand one behind the other are read by their numbers
next_number : (f : Format) (index : Key → ℕ) (a : Argument) (l : List Argument) (more : List ℕ) (k at : ℕ)
    → numbered_of f zero (arguments_records f index (a ∷ l) ++ more) at ≡ argued (argument_at f index a at) (length (argument_record f index a))
    → numbered_of f (suc k) (arguments_records f index (a ∷ l) ++ more) at
    ≡ numbered_of f k (arguments_records f index l ++ more) (at + length (argument_record f index a))
unfolding numbered_of
next_number f index a l more k at is =
    rw (
      is,
      append_assoc (argument_record f index a) (arguments_records f index l) more,
      drop-append_seam (argument_record f index a) (arguments_records f index l ++ more),
    )

first_number : (f : Format) (index : Key → ℕ) (a : Argument) (l : List Argument) (more : List ℕ) (at : ℕ) → AllFit f index (a ∷ l)
    → AllSized index (a ∷ l)
    → numbered_of f zero (arguments_records f index (a ∷ l) ++ more) at ≡ argued (argument_at f index a at) (length (argument_record f index a))
unfolding numbered_of
first_number f index a l more at fit sized =
    rw (append_assoc (argument_record f index a) (arguments_records f index l) more)
    (argument_read f index a (arguments_records f index l ++ more) at fit.0 sized.0)

module _ (f : Format) (archive tables : List ℕ) (s : State) (entries : List Entry) (provider : Option ℕ)
    (sound : Sound f archive s tables) (own : ContextIs s provider s.current) (stands : Every (Standing f archive s tables) entries)
    (place count first : ℕ) (part more : List ℕ)
    (asks : (n : ℕ) → n < count
    → argument_reply f archive tables s place n
    ≡ on_argued (numbered_of f n part first) (λ refused. refused_at 4 s.place) (λ a size. shown_argument f archive tables s a)) where
  -- arguments that were written, from a number on, are the items asked for
  pub arguments_shown : (l : List Argument) (number at : ℕ) → AllFit f (index_in entries provider) l → AllSized (index_in entries provider) l
      → SpellsArguments f archive (index_in entries provider) (arguments_at f (index_in entries provider) l at) l → number + length l ≤ count
      → ((k : ℕ) → numbered_of f (number + k) part first ≡ numbered_of f k (arguments_records f (index_in entries provider) l ++ more) at)
      → argument_items f archive tables s place number (length l) ≡ some l
  unfolding argument_items shown_argument
  arguments_shown [] number at fit sized spelled low h = refl
  arguments_shown (a ∷ l) number at fit sized spelled low h =
      let index = index_in entries provider in
      let is = first_number f index a l more at fit sized in
      let size = length (argument_record f index a) in
      let here : numbered_of f number part first ≡ argued (argument_at f index a at) size = rw (add-zero number) at (h zero) ∙ is in
      let next : (k : ℕ) → numbered_of f (suc number + k) part first ≡ numbered_of f k (arguments_records f index l ++ more) (at + size) =
      λ k. ap (λ n. numbered_of f n part first) (omega arith) ∙ (h (suc k) ∙ next_number f index a l more k at is) in
      rw (
        asks number (omega arith),
        here,
        none_bad_lem f archive tables s (argument_lookups (argument_at f index a at ∷ [])) sound (argument_tables (argument_at f index a at ∷ [])),
        arguments_shown l (suc number) (at + size) fit.1 sized.1 spelled.1 (omega arith) next,
        text_shown_lem f archive tables s entries provider s.current s.place sound own (omega arith) stands a.name (argument_at f index a at).name fit.0.name
            spelled.0.name,
        value_shown_lem f archive tables s entries provider s.current s.place sound own (omega arith) stands a.value (argument_at f index a at).value
            fit.0.value spelled.0.value,
      )
