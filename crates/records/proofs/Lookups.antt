-- Laws of the references of a record: one turn of a walk over arguments, and that arguments which are all read are those of the record.
-- Assumes nothing.
use Prim.Native.Nat.{ℕ, zero, suc, ◌+◌, ◌-◌, ◌<◌, ◌≤◌}
use mathlib.Core.Path.{◌≡◌, refl, sym, ◌∙◌}
use mathlib.Core.Bool.{true≢false, false}
use mathlib.Core.List.{[], List, ◌∷◌}
use native.Mathlib.Omega.{arith}
use types.Run.{OneOf, miss}
use denote.Enum.Declared.{tag_of}
use lib.ListN.{length, drop}
use Rattle.std.proofs.Common.{Result, Ok, Err}
use Rattle.words.specs.Word.{word_at}
use Rattle.format.specs.declared.Format.{Format}
use Rattle.format.specs.declared.Reason.{Reason}
use Rattle.format.specs.declared.Reference.{Reference}
use Rattle.arguments.specs.declared.Argument.{Argument}
use Rattle.arguments.specs.declared.Argued.{Argued}
use Rattle.arguments.specs.declared.Texts.{Texts}
use Rattle.arguments.specs.Argument.{argument_of, on_argued, text_in, arguments_read, arguments_of, Arguments, refused, arguments, prepend}
use Rattle.arguments.specs.Models.Reading.{texts, texts_of, listed}
use Rattle.records.specs.declared.Report.{Report}
use Rattle.records.specs.declared.Content.{Content}
use Rattle.records.specs.declared.Content.TheVariants.{Refused, Magic, ProviderInfo, Section, ProviderEvent, Initialization, String, Thread, Report as ReportRead, Ignored, Skipped}
use Rattle.records.specs.Lookups.{text_lookup, argument_lookups, on_report}
use Rattle.records.specs.Layout.{layout_of}
use Rattle.records.specs.Record.{content_of}
use Rattle.records.specs.contracts.Content.{the_type}
use Rattle.records.proofs.Contents.{ContentIs, refused as is_refused, magic as is_magic, provider_info as is_provider_info, section as is_section, provider_event as is_provider_event, initialization as is_initialization}
use Rattle.records.proofs.Contents.{string as is_string, thread as is_thread, report as is_report, ignored as is_ignored, skipped as is_skipped, content_is}

-- what is made of an argument's texts
abbrev pub on_texts : {A : Type 0} → Result Texts Reason → A → (Reference → Reference → ℕ → A) → A
on_texts (Err reason) refuse then = refuse
on_texts (Ok t) refuse then = then t.name t.value t.size

-- one turn of a walk over arguments: the references of the first, then those of the rest
pub lookups_turn : (f : Format) (n : ℕ) (rest : List ℕ) (place : ℕ) → 0 < n
    → argument_lookups (arguments_read f n rest place)
    ≡ on_texts (texts_of f rest place) []
    (λ name value size. text_lookup name ∷ text_lookup value ∷ argument_lookups (arguments_read f (n - 1) (drop size rest) (place + size)))
unfolding arguments_read texts_of
lookups_turn f zero rest place h = absurd (omega arith)
lookups_turn f (suc n) rest place h = let e : suc n - 1 ≡ n = omega arith in rw e (go (argument_of f rest place))
  where
    go : (x : Result Argued Reason)
        → argument_lookups (on_argued x (λ reason. []) (λ a size. a ∷ arguments_read f n (drop size rest) (place + size)))
        ≡ on_texts (on_argued x Err (λ a size. texts a.name (text_in a.value) size)) []
        (λ name value size. text_lookup name ∷ text_lookup value ∷ argument_lookups (arguments_read f n (drop size rest) (place + size)))
    go (Err reason) = refl
    go (Ok r) = refl

-- every argument was read
abbrev pub AllRead : Arguments → Type 0
AllRead (refused reason) = ⊥
AllRead (arguments l next) = Unit {0}

-- so were those behind the first
pub behind_read : (a : Argument) (q : Arguments) → AllRead (prepend a q) → AllRead q
behind_read a (refused reason) r = r
behind_read a (arguments l next) r = tt

-- arguments that are all read are listed as they are read
pub read_listed : (f : Format) (count : ℕ) (rest : List ℕ) (place : ℕ) → AllRead (arguments_of f count rest place)
    → arguments_read f count rest place ≡ listed (arguments_of f count rest place)
unfolding arguments_read arguments_of
read_listed f zero rest place r = refl
read_listed f (suc count) rest place r = go (λ size. read_listed f count (drop size rest) (place + size)) (argument_of f rest place) r
  where
    prepended : (a : Argument) (q : Arguments) → AllRead (prepend a q) → a ∷ listed q ≡ listed (prepend a q)
    prepended a (refused reason) r = absurd r
    prepended a (arguments l next) r = refl

    go : ((size : ℕ) → AllRead (arguments_of f count (drop size rest) (place + size))
        → arguments_read f count (drop size rest) (place + size) ≡ listed (arguments_of f count (drop size rest) (place + size)))
        → (x : Result Argued Reason) → AllRead (on_argued x refused (λ a size. prepend a (arguments_of f count (drop size rest) (place + size))))
        → on_argued x (λ reason. []) (λ a size. a ∷ arguments_read f count (drop size rest) (place + size))
        ≡ listed (on_argued x refused (λ a size. prepend a (arguments_of f count (drop size rest) (place + size))))
    go more (Err reason) r = absurd r
    go more (Ok x) r =
        let q = arguments_of f count (drop x.size rest) (place + x.size) in
        rw (more x.size (behind_read x.argument q r)) (prepended x.argument q r)

-- the other arm of a match that names reports alone is taken for what is no report: the ninth variant is
pub other_arm : {A : Type 0} (content : Content) (other : A) (report : Report → A)
    → OneOf (0 ∷ 1 ∷ 2 ∷ 3 ∷ 4 ∷ 5 ∷ 6 ∷ 7 ∷ 9 ∷ 10 ∷ []) (tag_of the_type content) → on_report content other report ≡ other
other_arm (Refused number) other report h = refl
other_arm Magic other report h = refl
other_arm (ProviderInfo id place long) other report h = refl
other_arm (Section id) other report h = refl
other_arm (ProviderEvent id e) other report h = refl
other_arm (Initialization rate) other report h = refl
other_arm (String index place long) other report h = refl
other_arm (Thread index place) other report h = refl
other_arm (ReportRead r) other report h = absurd (miss (0 ∷ 1 ∷ 2 ∷ 3 ∷ 4 ∷ 5 ∷ 6 ∷ 7 ∷ 9 ∷ 10 ∷ []) 8 tt h)
other_arm Ignored other report h = refl
other_arm (Skipped type size) other report h = refl

-- a record that is not laid out so refers to nothing
pub plain_content : {A : Type 0} (f : Format) (source : List ℕ) (place : ℕ) (other : A) (report : Report → A) → 8 ≤ length source
    → (layout_of (word_at f.order source 0)).read ≡ false → on_report (content_of f source place) other report ≡ other
plain_content f source place other report h k = go (content_of f source place) (content_is f source place h)
  where
    go : (c : Content) → ContentIs f source place c → on_report c other report ≡ other
    go _ (is_refused number n) = refl
    go _ (is_magic e) = refl
    go _ (is_provider_info t k short room) = refl
    go _ (is_section t k) = refl
    go _ (is_provider_event t k) = refl
    go _ (is_initialization t room) = refl
    go _ (is_string t some low short room) = refl
    go _ (is_thread t some room) = refl
    go _ (is_report a b c s first at last list is) = absurd (true≢false (sym is.is-report ∙ k))
    go _ is_ignored = refl
    go _ (is_skipped type small) = refl
