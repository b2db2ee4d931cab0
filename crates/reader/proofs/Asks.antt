-- Laws of asking for an argument of the record at a place. Assumes nothing.
use Prim.Native.Nat.{ℕ, ◌+◌, ◌%◌, ◌≤◌, ◌<◌}
use mathlib.Core.Path.{◌≡◌, refl}
use mathlib.Core.List.{List}
use native.Mathlib.Omega.{arith}
use native.Mathlib.Nat.{add-sub_cancel_left}
use borrow.Author.Tests.{eq-eqb}
use lib.Dec.{eqb, leb}
use lib.ListN.{length, take, drop, drop_of_length-le}
use Rattle.words.proofs.Tests.{cases, on-pick}
use Rattle.format.specs.declared.Format.{Format}
use Rattle.std.specs.Prelude.{Ok, Err}
use Rattle.format.specs.declared.Reason.{Reason}
use Rattle.format.specs.declared.Reason.TheVariants.{Cut}
use Rattle.format.specs.Header.{extent_of}
use Rattle.records.specs.declared.Content.{Content}
use Rattle.records.specs.declared.Content.TheVariants.{Refused, Magic, ProviderInfo, Section, ProviderEvent, Initialization, String, Thread, Report as ReportRead, Ignored, Skipped}
use Rattle.records.specs.Record.{content_of, record_of}
use Rattle.records.specs.Lookups.{on_report}
use Rattle.records.specs.Models.Bounds.{ContentInside}
use Rattle.contexts.specs.declared.State.{State}
use Rattle.reader.specs.Ask.{Asked}
use Rattle.format.specs.Limits.{refused_at}
use Rattle.reader.specs.Ask.{shown_argument, asked_report, asked_place}
use Rattle.views.specs.Models.Numbered.{argument_in}
use Rattle.reader.specs.Models.Replies.{asked_in}
use Rattle.views.proofs.Lookups.{record_whole, part-behind}

-- there is none behind the archive's end
pub extent_behind : (f : Format) (archive : List ℕ) (place : ℕ) → length archive < place → extent_of f (drop place archive) ≡ Err Cut
unfolding extent_of
extent_behind f archive place h = let k : length archive ≤ place = omega arith in rw (drop_of_length-le archive {i = place} k)

-- nothing is answered where there is none
pub asked_none : (f : Format) (archive tables : List ℕ) (s : State) (at number : ℕ) (by : Reason) → extent_of f (drop at archive) ≡ Err by
    → asked_place f archive tables s at number ≡ refused_at 4 s.place
unfolding asked_place record_of
asked_none f archive tables s at number by e =
    rw e (on-pick P (eqb (at % 8) 0) _ _ (λ _. on-pick P (eqb at s.place) _ _ (λ _. refl) (λ _. refl)) (λ _. refl))
  where
    P : Asked → Type 0
    P r = r ≡ refused_at 4 s.place

-- a record that ends at the state's place answers by its own bytes
pub asked_record : (f : Format) (archive tables : List ℕ) (s : State) (at number size : ℕ) → at % 8 ≡ 0 → extent_of f (drop at archive) ≡ Ok size
    → at + size ≡ s.place
    → let source = take size (drop at archive) in
    asked_place f archive tables s at number
    ≡ asked_in f archive tables s.current s.place (argument_in f source at (content_of f source at) number)
unfolding asked_place asked_report argument_in shown_argument record_of
asked_record f archive tables s at number size h e k =
    rw (eq-eqb (at % 8) 0 h, e, eq-eqb (at + size) s.place k) (go (content_of f source at) (rw e at (record_whole f archive at).inside))
  where
    source : List ℕ
    source = take size (drop at archive)

    go : (c : Content) → ContentInside at (at + size) c
        → on_report c (refused_at 4 s.place) (λ e. asked_report f archive tables s e number)
        ≡ asked_in f archive tables s.current s.place (argument_in f source at c number)
    go (Refused number) i = refl
    go Magic i = refl
    go (ProviderInfo id place long) i = refl
    go (Section id) i = refl
    go (ProviderEvent id event) i = refl
    go (Initialization rate) i = refl
    go (String index place long) i = refl
    go (Thread index place) i = refl
    go (ReportRead r) i =
        let part = rw (add-sub_cancel_left at size, k) at (part-behind archive at r.arguments (at + size) i.behind) in
        rw part (cases (leb r.count number) (λ b. rw b) (λ b. rw b))
    go Ignored i = refl
    go (Skipped type long) i = refl
