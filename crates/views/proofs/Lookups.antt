-- What any record holds, where it ends, and where a thread that is looked up stands. Assumes nothing.
use Prim.Native.Nat.{ℕ, zero, suc, ◌+◌, ◌-◌, ◌*◌, ◌%◌, ◌≤◌, ◌<◌}
use mathlib.Core.Path.{◌≡◌, refl, sym, ap, subst, ◌∙◌}
use mathlib.Core.List.{[], List, ◌∷◌}
use mathlib.Core.Bool.{true}
use mathlib.Core.Logic.{◌⊎◌, inl, inr}
use native.Mathlib.Omega.{arith}
use native.Mathlib.Nat.{add-sub_cancel_left}
use borrow.Author.Tests.{ltb-false}
use lib.Dec.{eqb, ltb}
use lib.ListN.{length, take, drop, get_or}
use lib.Seq.{length-take-le, drop-drop, take-nil}
use Rattle.std.proofs.Common.{Result, Ok, Err}
use Rattle.words.specs.Word.{pick, word_at}
use Rattle.words.proofs.Tests.{on-pick}
use Rattle.format.specs.declared.Format.{Format}
use Rattle.format.specs.declared.Reason.{Reason}
use Rattle.format.specs.Limits.{number_of}
use Rattle.format.specs.declared.Reference.{Reference}
use Rattle.format.specs.declared.Reference.TheVariants.{Inline, Index}
use Rattle.format.specs.Header.{record_words, extent_of}
use Rattle.format.specs.Models.Bounds.{Inside}
use Rattle.format.proofs.Headers.{extent_read}
use Rattle.arguments.specs.Argument.{arguments_of}
use Rattle.records.specs.declared.Lookup.{Lookup}
use Rattle.records.specs.declared.Report.{Report}
use Rattle.records.specs.declared.Content.{Content}
use Rattle.records.specs.declared.Content.TheVariants.{Refused, Magic, ProviderInfo, Section, ProviderEvent, Initialization, String, Thread, Report as ReportRead, Ignored, Skipped}
use Rattle.records.specs.declared.Record.{Record}
use Rattle.records.specs.Layout.{layout_of, report_of}
use Rattle.records.specs.Record.{content_of, record_of, record_at}
use Rattle.records.specs.Models.Bounds.{ContentInside}
use Rattle.records.proofs.Passes.{RecordNumber, RecordReason, reason_cut, reason_malformed, ThreadReference, is_table}
use Rattle.records.proofs.Contents.{ContentIs, refused as is_refused, magic as is_magic, provider_info as is_provider_info, section as is_section, provider_event as is_provider_event, initialization as is_initialization}
use Rattle.records.proofs.Contents.{string as is_string, thread as is_thread, report as is_report, ignored as is_ignored, skipped as is_skipped, content_is, RecordStands, record_stands}
use Rattle.tables.specs.declared.Resolved.{Resolved}
use Rattle.tables.specs.declared.Resolved.TheVariants.{Bad, Known}
use Rattle.tables.specs.Table.{highest_of, position, registration_of, on_registration, entry_at, resolved}
use Rattle.views.specs.Models.Bounds.{ThreadInside, ReferentInside}
use Rattle.records.specs.Effect.{effect_of}
use Rattle.records.proofs.Lookups.{AllRead}

-- ---- what any record holds

-- a reference of a record: its table is one of the two, and a thread's reference is an index, or 16 bytes
pub record LookupFits (s : Lookup) : Type 0 where
  pub table : (s.table ≡ 2) ⊎ (s.table ≡ 3)
  pub thread : s.table ≡ 3 → ThreadReference s.reference

-- a record that refers to texts and threads: references that fit, and arguments that are all read
pub record ReportFits (f : Format) (source : List ℕ) (place : ℕ) (r : Report) : Type 0 where
  pub first : LookupFits r.first
  pub second : LookupFits r.second
  pub third : LookupFits r.third
  pub read : AllRead (arguments_of f r.count (drop (r.arguments - place) source) r.arguments)

-- what any content of a record is: refused by a number from 5 to 8; of an index from 1 to the highest; of references and arguments so
abbrev pub ContentFits : Format → List ℕ → ℕ → Content → Type 0
ContentFits f source place (Refused number) = RecordNumber number
ContentFits f source place Magic = Unit {0}
ContentFits f source place (ProviderInfo id at long) = Unit {0}
ContentFits f source place (Section id) = Unit {0}
ContentFits f source place (ProviderEvent id event) = Unit {0}
ContentFits f source place (Initialization rate) = Unit {0}
ContentFits f source place (String index at long) = (0 < index) × (index ≤ highest_of f 2)
ContentFits f source place (Thread index at) = (0 < index) × (index ≤ highest_of f 3)
ContentFits f source place (ReportRead r) = ReportFits f source place r
ContentFits f source place Ignored = Unit {0}
ContentFits f source place (Skipped type size) = Unit {0}

is-fits : (f : Format) (source : List ℕ) (place : ℕ) (c : Content) → ContentIs f source place c → ContentFits f source place c
unfolding highest_of
is-fits f source place _ (is_refused number n) = n
is-fits f source place _ (is_magic e) = tt
is-fits f source place _ (is_provider_info t k short room) = tt
is-fits f source place _ (is_section t k) = tt
is-fits f source place _ (is_provider_event t k) = tt
is-fits f source place _ (is_initialization t room) = tt
is-fits f source place _ (is_string t some low short room) = (some, low)
is-fits f source place _ (is_thread t some room) = (some, omega arith)
is-fits f source place _ (is_report a b c s first at last list is) =
    let l = layout_of (word_at f.order source 0) in
    record {
      first = record { table = is_table l.first; thread = is.shapes.0 };
      second = record { table = is_table l.second; thread = is.shapes.1 };
      third = record { table = is_table l.third; thread = is.shapes.2 };
      read = rw is.read tt;
    }
is-fits f source place _ is_ignored = tt
is-fits f source place _ (is_skipped type small) = tt

-- every content of a record is so
pub content_fits : (f : Format) (source : List ℕ) (place : ℕ) → 8 ≤ length source → ContentFits f source place (content_of f source place)
content_fits f source place h = is-fits f source place (content_of f source place) (content_is f source place h)

-- ---- the record at a place

abbrev ExtentPasses : Result ℕ Reason → Type 0
ExtentPasses (Err reason) = RecordReason reason
ExtentPasses (Ok size) = Unit {0}

extent_passes : (f : Format) (rest : List ℕ) → ExtentPasses (extent_of f rest)
unfolding extent_of
extent_passes f rest =
    on-pick ExtentPasses (ltb (length rest) 8) _ _ (λ e. reason_cut)
    (λ e. on-pick ExtentPasses (eqb n 0) _ _ (λ e. reason_malformed)
    (λ e. on-pick ExtentPasses (ltb (length rest) (8 * n)) _ _ (λ e. reason_cut) (λ e. tt)))
  where
    n : ℕ
    n = record_words (word_at f.order rest 0)

-- a record: it ends a whole number of words behind its place and inside the archive, is refused there or has one word at least,
-- shows places of its own alone, and holds what any record holds
pub record RecordFits (f : Format) (archive : List ℕ) (place : ℕ) (r : Record) : Type 0 where
  pub behind : place ≤ r.next
  pub whole : (r.next - place) % 8 ≡ 0
  pub before : place ≤ length archive → r.next ≤ length archive
  pub some : ((number : ℕ) × (r.content ≡ Refused number)) ⊎ (place + 8 ≤ r.next)
  pub inside : ContentInside place r.next r.content
  pub holds : ContentFits f (take (r.next - place) (drop place archive)) place r.content

stands_fit : (f : Format) (archive : List ℕ) (place size : ℕ) (r : Record) → RecordStands f archive place size r
    → RecordFits f archive place r
stands_fit f archive place size r s =
    let long = length-take-le size (drop place archive) (extent_read f (drop place archive) size s.extent).inside in
    record {
      behind = omega (arith, s.next);
      whole = omega (arith, s.next, s.whole);
      before = λ h. omega (arith, s.next, s.inside);
      some = inr (omega (arith, s.next, s.some));
      inside = rw s.next s.shows;
      holds = rw (s.next, add-sub_cancel_left place size, s.content) (content_fits f (take size (drop place archive)) place (omega (arith, s.some, long)));
    }

-- every record is so
pub record_whole : (f : Format) (archive : List ℕ) (place : ℕ) → RecordFits f archive place (record_at f archive place)
unfolding record_of
record_whole f archive place = go (extent_of f (drop place archive)) refl (extent_passes f (drop place archive))
  where
    go : (x : Result ℕ Reason) → extent_of f (drop place archive) ≡ x → ExtentPasses x → RecordFits f archive place (record_at f archive place)
    go (Err reason) e h = rw e (record {
      behind = omega arith;
      whole = omega arith;
      before = λ k. k;
      some = inl (number_of reason, refl);
      inside = tt;
      holds = h;
    })
    go (Ok size) e h = stands_fit f archive place size (record_at f archive place) (record_stands f archive place size e)

-- a record that is laid out so is read so
pub report_content : (f : Format) (source : List ℕ) (place : ℕ) → (layout_of (word_at f.order source 0)).read ≡ true
    → content_of f source place ≡ report_of f source place
unfolding content_of
report_content f source place k = rw k

-- ---- threads that are looked up

-- a thread's 16 bytes, where they stand inline, stand inside the first n bytes
abbrev pub ThreadFits : ℕ → Reference → Type 0
ThreadFits n (Inline place long) = place + 16 ≤ n
ThreadFits n (Index index) = Unit {0}

thread-reference-fits : (from to n : ℕ) (r : Reference) → ThreadReference r → Inside from to r → to ≤ n → ThreadFits n r
thread-reference-fits from to n (Inline place long) h i l = let i' = rw h at i.1 in omega arith
thread-reference-fits from to n (Index index) h i l = tt

-- what a record that refers to texts and threads holds
pub report-fits : (f : Format) (archive : List ℕ) (place : ℕ) (r : Report) → (record_at f archive place).content ≡ ReportRead r
    → ReportFits f (take ((record_at f archive place).next - place) (drop place archive)) place r
report-fits f archive place r k =
    subst (ContentFits f (take ((record_at f archive place).next - place) (drop place archive)) place) k (record_whole f archive place).holds

-- an entry of a thread stands in a record that ends at or before `until`
entry_inside : (f : Format) (archive : List ℕ) (index entry until n : ℕ) → until ≤ n
    → ThreadInside n (entry_at f archive 3 index entry until)
unfolding entry_at registration_of effect_of
entry_inside f archive index entry until n h =
    on-pick (ThreadInside n) (eqb (entry % 8) 0) _ _
    (λ e. on-pick (ThreadInside n) (ltb until next) _ _ (λ e. tt)
    (λ e. of_content (record_at f archive entry).content (ltb-false until next e) (record_whole f archive entry).inside))
    (λ e. tt)
  where
    next : ℕ
    next = (record_at f archive entry).next

    known : ℕ → ℕ → ℕ → ℕ → Resolved
    known k i place long = pick (eqb k 3) (pick (eqb i index) (Known place long) Bad) Bad

    of_content : (c : Content) → next ≤ until → ContentInside entry next c → ThreadInside n (on_registration (registration_of c) Bad known)
    of_content (Refused number) l i = tt
    of_content Magic l i = tt
    of_content (ProviderInfo id at long) l i = tt
    of_content (Section id) l i = tt
    of_content (ProviderEvent id event) l i = tt
    of_content (Initialization rate) l i = tt
    of_content (String k at long) l i = tt
    of_content (Thread k at) l i = on-pick (ThreadInside n) (eqb k index) _ _ (λ e. omega (arith, i.1)) (λ e. tt)
    of_content (ReportRead r) l i = tt
    of_content Ignored l i = tt
    of_content (Skipped type size) l i = tt

-- a thread that is found stands inside the archive
pub thread-inside : (f : Format) (archive tables : List ℕ) (context until : ℕ) (reference : Reference) → until ≤ length archive
    → ThreadFits (length archive) reference → ThreadInside (length archive) (resolved f archive tables context 3 until reference)
unfolding resolved
thread-inside f archive tables context until (Inline place long) h i = i
thread-inside f archive tables context until (Index index) h i =
    on-pick P (ltb (highest_of f 3) index) _ _ (λ e. tt)
    (λ e. on-pick P (eqb entry 0) _ _ (λ e. tt) (λ e. entry_inside f archive index entry until (length archive) h))
  where
    P : Resolved → Type 0
    P = ThreadInside (length archive)

    entry : ℕ
    entry = get_or tables (position f context 3 index) 0

-- a reference that is looked up as a thread stands inside the archive
referent_inside : (f : Format) (archive tables : List ℕ) (context until from to : ℕ) (s : Lookup) → until ≤ length archive → LookupFits s
    → Inside from to s.reference → to ≤ length archive
    → ReferentInside (length archive) s.table (resolved f archive tables context s.table until s.reference)
referent_inside f archive tables context until from to s h fit i l e =
    rw e (thread-inside f archive tables context until s.reference h
    (thread-reference-fits from to (length archive) s.reference (fit.thread e) i l))

-- so do the references of a record
pub referents_inside : (f : Format) (archive tables : List ℕ) (context until place : ℕ) (r : Report) → place ≤ length archive
    → until ≤ length archive → (record_at f archive place).content ≡ ReportRead r
    → ReferentInside (length archive) r.first.table (resolved f archive tables context r.first.table until r.first.reference)
    × ReferentInside (length archive) r.second.table (resolved f archive tables context r.second.table until r.second.reference)
    × ReferentInside (length archive) r.third.table (resolved f archive tables context r.third.table until r.third.reference)
referents_inside f archive tables context until place r h l k =
    let next = (record_at f archive place).next in
    let whole = record_whole f archive place in
    let i = subst (ContentInside place next) k whole.inside in
    let fit = report-fits f archive place r k in (
      referent_inside f archive tables context until place next r.first l fit.first i.first (whole.before h),
      referent_inside f archive tables context until place next r.second l fit.second i.second (whole.before h),
      referent_inside f archive tables context until place next r.third l fit.third i.third (whole.before h),
    )

-- ---- arguments, from the bytes of their record and from the archive

-- what is left of a part behind its first elements
pub drop-take : (k n : ℕ) (l : List ℕ) → drop k (take n l) ≡ take (n - k) (drop k l)
drop-take zero n l = let e : n - 0 ≡ n = omega arith in rw e
drop-take (suc k) zero l = let e : 0 - suc k ≡ 0 = omega arith in rw e
drop-take (suc k) (suc n) [] = sym (take-nil (suc n - suc k))
drop-take (suc k) (suc n) (x ∷ xs) = let e : suc n - suc k ≡ n - k = omega arith in rw e (drop-take k n xs)

-- the part of a record from a place of it on is the part of the archive from there to the record's end
pub part-behind : (archive : List ℕ) (place at next : ℕ) → place ≤ at
    → drop (at - place) (take (next - place) (drop place archive)) ≡ take (next - at) (drop at archive)
part-behind archive place at next h =
    drop-take (at - place) (next - place) (drop place archive)
    ∙ rw (drop-drop (at - place) place archive, there, left)
  where
    there : place + (at - place) ≡ at
    there = omega arith

    left : next - place - (at - place) ≡ next - at
    left = omega arith

-- the part of a record that is `source`, whole, from a place of it on
pub source_behind : (archive source : List ℕ) (place at : ℕ) → place ≤ at → source ≡ take (length source) (drop place archive)
    → drop (at - place) source ≡ take (place + length source - at) (drop at archive)
source_behind archive source place at h e =
    let n : place + length source - place ≡ length source = omega arith in
    ap (drop (at - place)) e ∙ (rw n at (part-behind archive place at (place + length source) h))

-- the arguments of an event that is read are all read, from the part of the archive that a step and an asking take them from
pub report-arguments : (f : Format) (archive : List ℕ) (place : ℕ) (e : Report) → (record_at f archive place).content ≡ ReportRead e
    → AllRead (arguments_of f e.count (take ((record_at f archive place).next - e.arguments) (drop e.arguments archive)) e.arguments)
report-arguments f archive place e k =
    rw (part-behind archive place e.arguments next inside.behind) at holds.read
  where
    next : ℕ
    next = (record_at f archive place).next

    inside : ContentInside place next (ReportRead e)
    inside = subst (ContentInside place next) k (record_whole f archive place).inside

    holds : ReportFits f (take (next - place) (drop place archive)) place e
    holds = report-fits f archive place e k
