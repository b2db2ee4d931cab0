-- Laws of opening and stepping that the code's proofs go by. Assumes nothing.
use Prim.Native.Nat.{ℕ, ◌+◌, ◌-◌, ◌≤◌}
use mathlib.Core.Path.{◌≡◌, refl}
use mathlib.Core.List.{[], List, ◌∷◌}
use mathlib.Core.Bool.{Bool, true, false}
use native.Mathlib.Omega.{arith}
use borrow.Author.Tests.{ltb-false, ne_eqb}
use lib.Dec.{ltb}
use lib.ListN.{length, take, drop, length-drop}
use Rattle.words.specs.Word.{pick, word_at}
use Rattle.words.specs.Stream.{starts_with_magic}
use Rattle.format.specs.declared.Format.{Format}
use Rattle.format.specs.Limits.{longest_archive, number_of}
use Rattle.format.specs.declared.Reason.{Reason}
use Rattle.std.specs.Prelude.{Result, Ok, Err}
use Rattle.format.specs.Header.{archive_number, extent_of}
use Rattle.records.specs.Effect.{effect_of}
use Rattle.effects.specs.Models.Bounds.{EffectFits}
use Rattle.records.specs.declared.Report.{Report}
use Rattle.records.specs.declared.Content.{Content}
use Rattle.records.specs.declared.Content.TheVariants.{Refused, Magic, ProviderInfo, Section, ProviderEvent, Initialization, String, Thread, Report as ReportRead, Ignored, Skipped}
use Rattle.records.specs.Record.{content_of, record_of, record_at}
use Rattle.records.specs.Models.Bounds.{ReportInside, ContentInside}
use Rattle.tables.specs.Table.{table_words, looked_up}
use Rattle.records.specs.Lookups.{argument_lookups, arguments_to, report_lookups}
use Rattle.views.specs.Models.Seen.{seen_found, seen_of}
use Rattle.reader.specs.Models.Replies.{seen_reply}
use Rattle.views.specs.Shown.{is_bad, none_bad, shown_report}
use Rattle.reader.specs.Step.{opening_number, Decision, stopping, report_answer, plain_answer, effect_decision, content_decision, reply_of}
use Rattle.views.proofs.Lookups.{ContentFits, content_fits, record_whole}
use Rattle.contexts.specs.declared.State.{State}
use Rattle.contexts.specs.Context.{provider_of, rate_of}
use Rattle.effects.specs.declared.Change.TheVariants.{Keep}
use Rattle.effects.specs.Follow.{stopped, followed, change_of}
use Rattle.records.specs.declared.Effect.TheVariants.{Pass}
use Rattle.records.specs.declared.Lookup.{Lookup}
use Rattle.records.specs.Layout.{layout_of, report_of}
use Rattle.records.proofs.Passes.{RecordNumber}
use Rattle.records.proofs.Layouts.{on-report_read}
use Rattle.records.proofs.Lookups.{plain_content}
use Rattle.views.specs.declared.ShownReport.{ShownReport}
use lib.Seq.{length-take-le}
use Rattle.format.proofs.Headers.{extent_read}

-- what the first checks lets in: an archive that is short enough, and tables that are long enough
pub record Admitted (f : Format) (archive : List ℕ) (room : ℕ) : Type 0 where
  pub short : length archive ≤ longest_archive
  pub enough : table_words f ≤ room

pub admitted : (f : Format) (archive : List ℕ) (room : ℕ) → opening_number f archive room ≡ 0 → Admitted f archive room
unfolding opening_number archive_number
admitted f archive room = go (ltb longest_archive (length archive)) refl (starts_with_magic archive) (ltb room (table_words f)) refl
  where
    go : (long : Bool) → ltb longest_archive (length archive) ≡ long → (m few : Bool) → ltb room (table_words f) ≡ few
        → ◌≡◌ {A = ℕ} (pick long 2 (pick m (pick few 3 0) 1)) 0 → Admitted f archive room
    go true e m few k z = absurd (omega arith)
    go false e true true k z = absurd (omega arith)
    go false e true false k z =
        record { short = ltb-false longest_archive (length archive) e; enough = ltb-false room (table_words f) k }
    go false e false few k z = absurd (omega arith)

-- ---- what stands at a place

-- what a record registers has an index of its table
pub index-fits : (f : Format) (source : List ℕ) (place : ℕ) (c : Content) → ContentFits f source place c → EffectFits f (effect_of c)
unfolding effect_of
index-fits f source place (Refused number) h = tt
index-fits f source place Magic h = tt
index-fits f source place (ProviderInfo id at long) h = tt
index-fits f source place (Section id) h = tt
index-fits f source place (ProviderEvent id event) h = tt
index-fits f source place (Initialization rate) h = tt
index-fits f source place (String index at long) h = h.1
index-fits f source place (Thread index at) h = h.1
index-fits f source place (ReportRead r) h = tt
index-fits f source place Ignored h = tt
index-fits f source place (Skipped type size) h = tt

-- the record at a place of the archive ends inside it, shows places of its own alone, and has an index of its table
pub record_fits : (f : Format) (archive : List ℕ) (place : ℕ) → place ≤ length archive
    → ((record_at f archive place).next ≤ length archive)
    × ContentInside place (record_at f archive place).next (record_at f archive place).content
    × EffectFits f (effect_of (record_at f archive place).content)
record_fits f archive place h =
    let r = record_whole f archive place in
    (r.before h, r.inside, index-fits f _ place (record_at f archive place).content r.holds)

-- an event that is read at a place: where it ends, and that the places it shows stand inside it
pub report_stands : (f : Format) (archive : List ℕ) (place : ℕ) (e : Report) (next : ℕ) → place ≤ length archive
    → record_at f archive place ≡ record { content = ReportRead e; next = next } → (next ≤ length archive) × ReportInside place next e
report_stands f archive place e next h k = let r = record_fits f archive place h in (rw k at r.0, rw k at r.1)

-- a string or thread record that is read at a place has an index of its table
pub index_stands : (f : Format) (archive : List ℕ) (place : ℕ) (c : Content) (next : ℕ) → place ≤ length archive
    → record_at f archive place ≡ record { content = c; next = next } → EffectFits f (effect_of c)
index_stands f archive place c next h k = let r = record_fits f archive place h in rw k at r.2

-- ---- the reply to what is seen of a record

-- looking three references up before others
three_found : (f : Format) (archive tables : List ℕ) (context until : ℕ) (a b c : Lookup) (more : List Lookup)
    → none_bad f archive tables context until (a ∷ b ∷ c ∷ more)
    ≡ pick (none_bad f archive tables context until (a ∷ b ∷ c ∷ [])) (none_bad f archive tables context until more) false
unfolding none_bad
three_found f archive tables context until a b c more = go (bad a) (bad b) (bad c)
  where
    bad : Lookup → Bool
    bad l = is_bad (looked_up f archive tables context until l)

    go : (x y z : Bool) → pick x false (pick y false (pick z false (none_bad f archive tables context until more)))
        ≡ pick (pick x false (pick y false (pick z false true))) (none_bad f archive tables context until more) false
    go true y z = refl
    go false true z = refl
    go false false true = refl
    go false false false = refl

-- the step at a record of this content, which is refused or refers to texts and threads, is the reply to what is seen of it
abbrev Replies : Format → List ℕ → List ℕ → State → Content → ℕ → Type 0
Replies f archive tables s c next =
    let d = content_decision f archive tables s c next in
    (reply_of d ≡ seen_reply s (seen_of f archive tables s.current s.place (provider_of s) (rate_of s) c next) next) × (d.change ≡ Keep)

report_replies : (f : Format) (archive tables : List ℕ) (s : State) (r : Report) (next : ℕ) → Replies f archive tables s (ReportRead r) next
unfolding content_decision effect_decision report_answer shown_report followed change_of effect_of seen_found seen_reply stopping
report_replies f archive tables s r next =
    rw (three_found f archive tables s.current s.place r.first r.second r.third (argument_lookups (arguments_to f archive r next)))
    (go (none_bad f archive tables s.current s.place (r.first ∷ r.second ∷ r.third ∷ []))
    (none_bad f archive tables s.current s.place (argument_lookups (arguments_to f archive r next))))
  where
    goes : Decision
    goes = effect_decision f s Pass next (report_answer f archive tables s r)

    shown : Result ShownReport ℕ
    shown = Ok (shown_report f archive s r (looked_up f archive tables s.current s.place r.first)
        (looked_up f archive tables s.current s.place r.second) (looked_up f archive tables s.current s.place r.third))

    go : (x y : Bool)
        → (reply_of (pick (pick x y false) goes (stopping s 4 s.place)) ≡ seen_reply s (pick x (pick y shown (Err 4)) (Err 4)) next)
        × ((pick (pick x y false) goes (stopping s 4 s.place)).change ≡ Keep)
    go true true = (refl, refl)
    go true false = (refl, refl)
    go false y = (refl, refl)

refused_replies : (f : Format) (archive tables : List ℕ) (s : State) (number next : ℕ) → RecordNumber number → Replies f archive tables s (Refused number) next
unfolding content_decision effect_decision none_bad followed stopped effect_of seen_reply stopping
refused_replies f archive tables s number next n = rw (ne_eqb number 0 (omega (arith, n.stops))) (refl, refl)

-- the step at a record that is laid out so
pub read_replies : (f : Format) (archive tables : List ℕ) (s : State) (source : List ℕ) (next : ℕ) → 8 ≤ length source
    → (layout_of (word_at f.order source 0)).read ≡ true
    → let d = content_decision f archive tables s (content_of f source s.place) next in
    (reply_of d ≡ seen_reply s (seen_of f archive tables s.current s.place (provider_of s) (rate_of s) (report_of f source s.place) next) next)
    × (d.change ≡ Keep)
unfolding content_of
read_replies f archive tables s source next h k =
    rw k (on-report_read (λ c. ContentFits f source s.place c → Replies f archive tables s c next) f source s.place
    (λ number n. refused_replies f archive tables s number next n) (λ r _. report_replies f archive tables s r next)
    (rw k at (content_fits f source s.place h)))

-- the step at any other record goes by its effect alone
pub plain_decides : (f : Format) (archive tables : List ℕ) (s : State) (source : List ℕ) (next : ℕ) → 8 ≤ length source
    → (layout_of (word_at f.order source 0)).read ≡ false
    → let c = content_of f source s.place in
    content_decision f archive tables s c next ≡ effect_decision f s (effect_of c) next (plain_answer c)
unfolding content_decision none_bad
plain_decides f archive tables s source next h k = rw (
  plain_content f source s.place [] (λ r. report_lookups f archive r next) h k,
  plain_content f source s.place (plain_answer (content_of f source s.place)) (λ r. report_answer f archive tables s r) h k,
)

-- ---- the record at a place

-- the bytes of a record that has an extent
pub record SourceHere (f : Format) (archive : List ℕ) (place size : ℕ) : Type 0 where
  pub long : length (take size (drop place archive)) ≡ size
  pub some : 8 ≤ size
  pub inside : size ≤ length archive - place
  pub is : record_at f archive place ≡ record { content = content_of f (take size (drop place archive)) place; next = place + size }

pub source_here : (f : Format) (archive : List ℕ) (place size : ℕ) → extent_of f (drop place archive) ≡ Ok size → SourceHere f archive place size
unfolding record_of
source_here f archive place size e =
    let w = extent_read f (drop place archive) size e in
    record {
      long = length-take-le size (drop place archive) w.inside;
      some = w.some;
      inside = omega (arith, w.inside, length-drop place archive);
      is = rw e;
    }

-- the step at a place that has none
pub cut_decides : (f : Format) (archive tables : List ℕ) (s : State) (reason : Reason) → extent_of f (drop s.place archive) ≡ Err reason
    → content_decision f archive tables s (record_at f archive s.place).content (record_at f archive s.place).next ≡ stopping s (number_of reason) s.place
unfolding record_of content_decision effect_decision none_bad followed stopped effect_of
cut_decides f archive tables s reason e =
    let n : RecordNumber (number_of reason) = rw e at (record_whole f archive s.place).holds in
    rw (e, ne_eqb (number_of reason) 0 (omega (arith, n.stops)))
