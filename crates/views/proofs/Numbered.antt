-- Laws of finding the argument of a number by one walk over the arguments of its record. Assumes nothing.
use Prim.Native.Nat.{ℕ, ◌+◌, ◌-◌, ◌≤◌, ◌<◌}
use mathlib.Core.Path.{◌≡◌, refl}
use mathlib.Core.List.{List}
use native.Mathlib.Omega.{arith}
use borrow.Author.Tests.{le-leb, lt-leb}
use lib.Dec.{leb}
use lib.ListN.{length, drop, length-drop}
use lib.Seq.{drop-drop}
use Rattle.std.proofs.Common.{Ok, Err}
use Rattle.words.specs.Word.{pick, word_at}
use Rattle.format.specs.declared.Format.{Format}
use Rattle.format.specs.declared.Reason.TheVariants.{ForeignState}
use Rattle.format.specs.declared.Reference.{Reference}
use Rattle.arguments.specs.Argument.{argument_of, numbered_of}
use Rattle.arguments.specs.Models.Reading.{sought, sought_of}
use Rattle.arguments.proofs.Arguments.{start_inside, numbered_start, sought_ended}
use Rattle.records.specs.declared.Layout.{Layout}
use Rattle.records.specs.declared.Content.{Content}
use Rattle.records.specs.Layout.{layout_of, fields, take_fields, last_word, report_of}
use Rattle.records.specs.Record.{content_of}
use Rattle.records.specs.Lookups.{on_report}
use Rattle.records.proofs.Layouts.{fields_read, walk_ends, report-is}
use Rattle.records.proofs.Contents.{ContentIs, refused as is_refused, magic as is_magic, provider_info as is_provider_info, section as is_section, provider_event as is_provider_event, initialization as is_initialization}
use Rattle.records.proofs.Contents.{string as is_string, thread as is_thread, report as is_report, ignored as is_ignored, skipped as is_skipped, content_is}
use Rattle.views.specs.Models.Numbered.{argument_in}

-- where the arguments of a record start and end, and where one of them starts
pub record Stands (place end first last start : ℕ) : Type 0 where
  pub begins : place + 8 ≤ first
  pub behind : first ≤ last
  pub ends : last ≤ end
  pub starts : first ≤ start
  pub inside : start ≤ end

-- arguments that are walked over stand so
pub sought_stands : (f : Format) (l : Layout) (source : List ℕ) (place number : ℕ) {a b c s : Reference} {first last start : ℕ} → 8 ≤ length source
    → take_fields f l source place ≡ fields a b c s first
    → sought_of f l.count number (drop (first - place) source) first ≡ sought last start
    → Stands place (place + length source) first last start
sought_stands f l source place number {a} {b} {c} {s} {first} {last} {start} h e₁ e₂ =
    let rest = drop (first - place) source in
    let read = fields_read f l source place a b c s first h e₁ in
    let w = sought_ended f l.count number rest first last start e₂ in
    let all = walk_ends f l.count rest first last w.0 in
    let one = rw w.1 at (start_inside f number rest first) in
    let long = length-drop (first - place) source in
    record {
      begins = omega (arith, read.starts);
      behind = all.0;
      ends = omega (arith, long, all.1, read.starts, read.ends);
      starts = one.0;
      inside = omega (arith, long, one.1, read.starts, read.ends);
    }

-- the argument of a number is the one that starts where the walk remembers
pub argument_sought : (f : Format) (l : Layout) (source : List ℕ) (place number : ℕ) {a b c s : Reference} {first last start word : ℕ} → 8 ≤ length source
    → layout_of (word_at f.order source 0) ≡ l → number < l.count → take_fields f l source place ≡ fields a b c s first
    → sought_of f l.count number (drop (first - place) source) first ≡ sought last start → last_word f source place last l.behind ≡ Ok word
    → argument_in f source place (report_of f source place) number ≡ argument_of f (drop (start - place) source) start
unfolding argument_in
argument_sought f l source place number {a} {b} {c} {s} {first} {last} {start} {word} h e₀ few e₁ e₂ e₃ =
    let w = sought_ended f l.count number (drop (first - place) source) first last start e₂ in
    let i = sought_stands f l source place number h e₁ e₂ in
    let there : first - place + (start - first) ≡ start - place = omega (arith, i.begins, i.starts) in
    rw (
      report-is f source place l e₀ e₁ w.0 e₃,
      lt-leb l.count number few,
      numbered_start f number (drop (first - place) source) first,
      w.1,
      drop-drop (start - first) (first - place) source,
      there,
    )

-- a record has no argument of a number that is not below their count
pub no_argument : (f : Format) (source : List ℕ) (place number : ℕ) → 8 ≤ length source → (layout_of (word_at f.order source 0)).count ≤ number
    → argument_in f source place (content_of f source place) number ≡ Err ForeignState
unfolding argument_in
no_argument f source place number h k = go (content_of f source place) (content_is f source place h)
  where
    go : (c : Content) → ContentIs f source place c
        → on_report c (Err ForeignState) (λ e. pick (leb e.count number) (Err ForeignState) (numbered_of f number (drop (e.arguments - place) source) e.arguments))
        ≡ Err ForeignState
    go _ (is_refused number n) = refl
    go _ (is_magic e) = refl
    go _ (is_provider_info t k short room) = refl
    go _ (is_section t k) = refl
    go _ (is_provider_event t k) = refl
    go _ (is_initialization t room) = refl
    go _ (is_string t some low short room) = refl
    go _ (is_thread t some room) = refl
    go _ (is_report a b c s first at last list is) = rw (le-leb (layout_of (word_at f.order source 0)).count number k)
    go _ is_ignored = refl
    go _ (is_skipped type small) = refl
