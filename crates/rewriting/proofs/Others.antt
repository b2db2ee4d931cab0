-- A record refers to texts and threads, or it is one of the other kinds, for which nothing is asked by its references.
-- Assumes nothing.
use Prim.Native.Nat.{ℕ}
use mathlib.Core.Path.{◌≡◌, refl, sym, ap, ◌∙◌}
use mathlib.Core.List.{List}
use mathlib.Core.Bool.{true, false, true≢false}
use mathlib.Core.Option.{Option, none, some}
use mathlib.Core.Logic.{◌⊎◌, inl, inr}
use Rattle.passes.specs.Models.Item.{plain_item}
use Rattle.records.specs.declared.Report.{Report}
use Rattle.records.specs.declared.Content.{Content}
use Rattle.records.specs.declared.Content.TheVariants.{Refused, Magic, ProviderInfo, Section, ProviderEvent, Initialization, String, Thread, Report as ReportRead, Ignored, Skipped}
use Rattle.records.specs.Item.{Item, magic, provider_info, section, provider_event, initialization, report, skipped}
use Rattle.records.specs.Lookups.{on_report}

-- an item that refers to nothing, or none
abbrev pub PlainOnly : Option Item → Type 0
PlainOnly none = Unit {0}
PlainOnly (some magic) = Unit {0}
PlainOnly (some (provider_info id name)) = Unit {0}
PlainOnly (some (section id)) = Unit {0}
PlainOnly (some (provider_event id e)) = Unit {0}
PlainOnly (some (initialization rate)) = Unit {0}
PlainOnly (some (report r)) = ⊥
PlainOnly (some (skipped type size)) = Unit {0}

-- a record of one of the other kinds
pub record Other (c : Content) : Type 0 where
  pub no_report : (r : Report) → c ≡ ReportRead r → ⊥
  pub bytes : (x : List ℕ) (g : Report → List ℕ) → on_report c x g ≡ x
  pub item : (x : Option Item) (g : Report → Option Item) → on_report c x g ≡ x
  pub plain : (archive : List ℕ) → PlainOnly (plain_item archive c)

other : (c : Content) → on_report c true (λ r. false) ≡ true → ((x : List ℕ) (g : Report → List ℕ) → on_report c x g ≡ x)
    → ((x : Option Item) (g : Report → Option Item) → on_report c x g ≡ x) → ((archive : List ℕ) → PlainOnly (plain_item archive c)) → Other c
other c is bytes item plain = record {
  no_report = λ r e. true≢false (sym is ∙ ap (λ (x : Content). on_report x true (λ r. false)) e);
  bytes = bytes;
  item = item;
  plain = plain;
}

-- every record is one or the other
pub report_or : (c : Content) → ((r : Report) × (c ≡ ReportRead r)) ⊎ Other c
unfolding plain_item
report_or (Refused number) = inr (other (Refused number) refl (λ x g. refl) (λ x g. refl) (λ archive. tt))
report_or Magic = inr (other Magic refl (λ x g. refl) (λ x g. refl) (λ archive. tt))
report_or (ProviderInfo id place long) = inr (other (ProviderInfo id place long) refl (λ x g. refl) (λ x g. refl) (λ archive. tt))
report_or (Section id) = inr (other (Section id) refl (λ x g. refl) (λ x g. refl) (λ archive. tt))
report_or (ProviderEvent id e) = inr (other (ProviderEvent id e) refl (λ x g. refl) (λ x g. refl) (λ archive. tt))
report_or (Initialization rate) = inr (other (Initialization rate) refl (λ x g. refl) (λ x g. refl) (λ archive. tt))
report_or (String index place long) = inr (other (String index place long) refl (λ x g. refl) (λ x g. refl) (λ archive. tt))
report_or (Thread index place) = inr (other (Thread index place) refl (λ x g. refl) (λ x g. refl) (λ archive. tt))
report_or (ReportRead r) = inl (r, refl)
report_or Ignored = inr (other Ignored refl (λ x g. refl) (λ x g. refl) (λ archive. tt))
report_or (Skipped type size) = inr (other (Skipped type size) refl (λ x g. refl) (λ x g. refl) (λ archive. tt))
