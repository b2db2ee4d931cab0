-- Where the bytes that a reference stands for stand: inside the archive, behind its first byte, and a thread's are 16. What is answered for such
-- a place and length, and that no event stands at the archive's first byte.
-- Assumes nothing.
use Prim.Native.Nat.{ℕ, zero, suc, ◌+◌, ◌-◌, ◌≤◌, ◌<◌}
use mathlib.Core.Path.{◌≡◌, refl, sym, ap, subst, ◌∙◌}
use mathlib.Core.List.{[], List, ◌∷◌}
use mathlib.Core.Bool.{true}
use native.Mathlib.Omega.{arith}
use borrow.Author.Tests.{le-leb}
use lib.Dec.{ltb}
use lib.ListN.{length, take, drop, get_or, length-take, length-drop, take-append-drop}
use lib.Seq.{length-take-le}
use Rattle.records.proofs.Bounds.{ContentShort, record_short, ReportShort, length_of}
use Rattle.records.proofs.Passes.{ThreadReference}
use Rattle.encoding.proofs.EncodedItems.{magic-fits, magic_read, item_stands, magic_record}
use Rattle.words.specs.Stream.{magic as magic_bytes, starts_with_magic, part_of}
use Rattle.words.proofs.Same.{same_true}
use Rattle.words.proofs.Tests.{on-pick, cases}
use Rattle.format.specs.declared.Format.{Format}
use Rattle.format.specs.declared.Reference.{Reference}
use Rattle.format.specs.declared.Reference.TheVariants.{Inline, Index}
use Rattle.format.specs.Models.Bounds.{Inside}
use Rattle.arguments.specs.declared.Value.{Value}
use Rattle.arguments.specs.declared.Value.TheVariants.{Scalar as ScalarValue, Text as TextValue}
use Rattle.arguments.specs.declared.Argued.{Argued}
use Rattle.format.specs.declared.Reason.{Reason}
use Rattle.std.specs.Prelude.{Result, Ok, Err}
use Rattle.arguments.specs.Argument.{argument_of, on_argued, text_in, arguments_read}
use Rattle.arguments.specs.Models.Bounds.{ValueInside}
use Rattle.arguments.proofs.Arguments.{argument_read}
use Rattle.records.specs.declared.Report.{Report}
use Rattle.records.specs.declared.Content.TheVariants.{Refused, Magic, Report as ReportRead}
use Rattle.records.specs.Record.{record_at}
use Rattle.records.specs.Models.Bounds.{ContentInside, ReportInside}
use Rattle.records.specs.Item.{magic}
use Rattle.tables.specs.declared.Resolved.TheVariants.{Known}
use Rattle.tables.specs.Table.{position, resolved, looked_up}
use Rattle.tables.proofs.Tables.{resolved-known}
use Rattle.reader.specs.Step.{opening_number}
use Rattle.views.proofs.Lookups.{record_whole, report-fits, LookupFits}
use Rattle.reader.proofs.Steps.{report_stands as report-inside}
use Rattle.records.specs.Lookups.{text_lookup, report_lookups, argument_lookups}
use Rattle.format.specs.Header.{archive_number}
use Rattle.format.specs.Limits.{longest_archive}
use Rattle.records.specs.declared.Lookup.{Lookup}
use mathlib.Core.Logic.{inl, inr}
use Rattle.reader.proofs.Changes.{IsTable}
use Rattle.passes.specs.Models.Known.{ReferenceFits}
use Rattle.passes.proofs.Known.{Short, read_ends, registered, thread-short, argument_short}

-- ---- what a reference stands for

-- bytes that stand in the archive, behind its first byte where there are any, and fewer than 65,536
pub record KnownStands (archive : List ℕ) (place long : ℕ) : Type 0 where
  pub inside : place + long ≤ length archive
  pub behind : 0 < long → 0 < place
  pub short : long < 65536

-- an inline reference to such bytes
abbrev pub ReferenceStands : List ℕ → Reference → Type 0
ReferenceStands archive (Inline place long) = KnownStands archive place long
ReferenceStands archive (Index index) = Unit {0}

-- an index that is known stands for such bytes, whatever the tables hold; a thread's are 16
index_stands : (f : Format) (archive tables : List ℕ) (context table index until place long : ℕ)
    → resolved f archive tables context table until (Index index) ≡ Known place long → KnownStands archive place long × (table ≡ 3 → long ≡ 16)
index_stands f archive tables context table index until place long e =
    let entry = get_or tables (position f context table index) 0 in
    let k = resolved-known f archive tables context table index until place long e in
    let r = registered f archive entry table index place long k.known.registers in
    (record { inside = r.inside; behind = λ some. omega (arith, r.behind, k.is_set); short = r.short }, r.sixteen)

-- what a reference that stands so stands for, where it is known
pub known_stands : (f : Format) (archive tables : List ℕ) (context table until : ℕ) (r : Reference) (place long : ℕ) → ReferenceStands archive r
    → resolved f archive tables context table until r ≡ Known place long → KnownStands archive place long
unfolding resolved
known_stands f archive tables context table until (Inline at n) place long h e =
    let p : at ≡ place = cc in
    let l : n ≡ long = cc in
    record { inside = omega (arith, h.inside); behind = λ some. let q = h.behind (omega arith) in omega arith; short = omega (arith, h.short) }
known_stands f archive tables context table until (Index index) place long h e =
    (index_stands f archive tables context table index until place long e).0

-- a thread that is known has 16 bytes
pub thread_sixteen : (f : Format) (archive tables : List ℕ) (context until : ℕ) (r : Reference) (place long : ℕ) → ThreadReference r
    → resolved f archive tables context 3 until r ≡ Known place long → long ≡ 16
unfolding resolved
thread_sixteen f archive tables context until (Inline at n) place long h e = let l : n ≡ long = cc in omega arith
thread_sixteen f archive tables context until (Index index) place long h e =
    (index_stands f archive tables context 3 index until place long e).1 refl

-- ---- the references of a record

-- a short reference inside a record that does not begin the archive
inside_stands : (archive : List ℕ) (from to : ℕ) (r : Reference) → Inside from to r → Short r → 0 < from → to ≤ length archive → ReferenceStands archive r
inside_stands archive from to (Inline place long) i s h l = record { inside = omega (arith, i.1); behind = λ some. omega (arith, i.0); short = s }
inside_stands archive from to (Index index) i s h l = tt

-- a reference that stands in an archive of bytes that can be counted fits a word and a label
stands_fit : (archive : List ℕ) (r : Reference) → length archive ≤ longest_archive → ReferenceStands archive r → ReferenceFits r
stands_fit archive (Inline place long) low h = (omega (arith, h.inside), h.short)
stands_fit archive (Index index) low h = tt

-- a reference of a record: its table is one of the two, its bytes stand in the archive, and a thread's are 16
pub record LookupStands (archive : List ℕ) (l : Lookup) : Type 0 where
  pub table : IsTable l.table
  pub stands : ReferenceStands archive l.reference
  pub sixteen : l.table ≡ 3 → ThreadReference l.reference

-- each of a list does
abbrev pub LookupsStand : List ℕ → List Lookup → Type 0
LookupsStand archive [] = Unit {0}
LookupsStand archive (l ∷ more) = LookupStands archive l × LookupsStand archive more

-- so it fits
pub lookup_fits : (archive : List ℕ) (l : Lookup) → length archive ≤ longest_archive → LookupStands archive l → ReferenceFits l.reference
lookup_fits archive l low h = stands_fit archive l.reference low h.stands

-- what such a reference stands for in any tables, where it is known: bytes that stand in the archive, a thread's 16
pub lookup_known : (f : Format) (archive tables : List ℕ) (context until : ℕ) (l : Lookup) (place long : ℕ) → LookupStands archive l
    → looked_up f archive tables context until l ≡ Known place long → KnownStands archive place long × (l.table ≡ 3 → long ≡ 16)
lookup_known f archive tables context until l place long h e = (
  known_stands f archive tables context l.table until l.reference place long h.stands e,
  λ k. thread_sixteen f archive tables context until l.reference place long (h.sixteen k) (rw k at e),
)

-- a record that was read ends inside the archive
pub report-ends : (f : Format) (archive : List ℕ) (place : ℕ) (r : Report) → (record_at f archive place).content ≡ ReportRead r
    → (record_at f archive place).next ≤ length archive
report-ends f archive place r k =
    read_ends f archive place (λ number q. let z : ReportRead r ≡ Refused number = sym k ∙ q in let z : ◌≡◌ {A = ℕ} 0 1 = cc in omega arith)

-- a reference of a record stands so where it stands inside the record
lookup_stands : (archive : List ℕ) (from to : ℕ) (l : Lookup) → LookupFits l → (l.table ≡ 2 → length_of l.reference < 65536)
    → Inside from to l.reference → 0 < from → to ≤ length archive → LookupStands archive l
lookup_stands archive from to l fit short i h e =
    record { table = fit.table; stands = inside_stands archive from to l.reference i (of_table fit.table) h e; sixteen = fit.thread }
  where
    of_table : IsTable l.table → Short l.reference
    of_table (inl k) = short k
    of_table (inr k) = thread-short l.reference (fit.thread k)

-- the text of a value inside such a record; a scalar has none
value_stands : (archive : List ℕ) (from to : ℕ) (v : Value) → ValueInside from to v → Short (text_in v) → 0 < from → to ≤ length archive
    → ReferenceStands archive (text_in v)
value_stands archive from to (ScalarValue a) i s h l = record { inside = omega arith; behind = λ some. absurd (omega arith); short = s }
value_stands archive from to (TextValue r) i s h l = inside_stands archive from to r i s h l

-- a text that stands so
text_stands : (archive : List ℕ) (r : Reference) → ReferenceStands archive r → LookupStands archive (text_lookup r)
text_stands archive r h = record { table = inl refl; stands = h; sixteen = λ k. absurd (omega (arith, k)) }

-- the arguments that are read from `place` on, where what is left of their record stands in the archive
pub arguments_stand : (f : Format) (archive : List ℕ) (count : ℕ) (rest : List ℕ) (place : ℕ) → 0 < place → place + length rest ≤ length archive
    → LookupsStand archive (argument_lookups (arguments_read f count rest place))
unfolding arguments_read
arguments_stand f archive zero rest place h l = tt
arguments_stand f archive (suc count) rest place h l = go (λ more at. arguments_stand f archive count more at) (argument_of f rest place) refl
  where
    go : ((more : List ℕ) (at : ℕ) → 0 < at → at + length more ≤ length archive → LookupsStand archive (argument_lookups (arguments_read f count more at)))
        → (x : Result Argued Reason) → argument_of f rest place ≡ x
        → LookupsStand archive
        (argument_lookups (on_argued x (λ reason. []) (λ a size. a ∷ arguments_read f count (drop size rest) (place + size))))
    go more (Err reason) e = tt
    go more (Ok read) e =
        let a = read.argument in
        let size = read.size in
        let k = argument_read f rest place a size e in
        let s = argument_short f rest place a size e in
        let to = place + size in (
          text_stands archive a.name (inside_stands archive place to a.name k.name s.0 h (omega (arith, k.inside))),
          (
            text_stands archive (text_in a.value) (value_stands archive place to a.value k.value s.1 h (omega (arith, k.inside))),
            more (drop size rest) to (omega arith) (omega (arith, k.inside, length-drop size rest)),
          ),
        )

-- the references of a record that was read, and does not begin the archive, stand in the archive
pub report_stands : (f : Format) (archive : List ℕ) (place : ℕ) (r : Report) → 0 < place → (record_at f archive place).content ≡ ReportRead r
    → LookupsStand archive (report_lookups f archive r (record_at f archive place).next)
report_stands f archive place r h k =
    let next = (record_at f archive place).next in
    let i : ReportInside place next r = subst (ContentInside place next) k (record_whole f archive place).inside in
    let fit = report-fits f archive place r k in
    let s : ReportShort r = subst ContentShort k (record_short f archive place) in
    let l = report-ends f archive place r k in (
      lookup_stands archive place next r.first fit.first s.first i.first h l,
      (
        lookup_stands archive place next r.second fit.second s.second i.second h l,
        (
          lookup_stands archive place next r.third fit.third s.third i.third h l,
          arguments_stand f archive r.count (take (next - r.arguments) (drop r.arguments archive)) r.arguments (omega (arith, i.behind))
              (omega (arith, l, i.before, length-take (next - r.arguments) (drop r.arguments archive))),
        ),
      ),
    )

-- a record that ends at `next`: it has 15 arguments at most, which stand behind one another up to its end
pub record ReportBounds (archive : List ℕ) (r : Report) (next : ℕ) : Type 0 where
  pub few : r.count ≤ 15
  pub first : r.arguments ≤ next
  pub last : next ≤ length archive
  pub part : r.arguments + length (take (next - r.arguments) (drop r.arguments archive)) ≡ next

-- every record that was read stands so
pub report_bounds : (f : Format) (archive : List ℕ) (place : ℕ) (r : Report) (next : ℕ) → place ≤ length archive
    → record_at f archive place ≡ record { content = ReportRead r; next = next } → ReportBounds archive r next
report_bounds f archive place r next h k =
    let s = report-inside f archive place r next h k in
    let short : ReportShort r = subst ContentShort (ap (λ x. x.content) k) (record_short f archive place) in
    record {
      few = short.few;
      first = s.1.before;
      last = s.0;
      part =
          rw (length-take-le (next - r.arguments) (drop r.arguments archive) (omega (arith, s.0, length-drop r.arguments archive)))
          (omega (arith, s.1.before));
    }

-- ---- parts of the archive

-- for a place and length inside the archive the bytes there are answered, all of them
pub part-inside : (archive : List ℕ) (place long : ℕ) → place + long ≤ length archive
    → (part_of archive place long ≡ take long (drop place archive)) × (length (part_of archive place long) ≡ long)
unfolding part_of
part-inside archive place long h =
    rw (le-leb place (length archive) (omega arith), le-leb long (length archive - place) (omega arith))
    (refl, length-take-le long (drop place archive) (omega (arith, length-drop place archive)))

-- ---- the first record

-- an archive that begins with the magic has it as its first record
pub first-magic : (f : Format) (archive : List ℕ) → starts_with_magic archive ≡ true → (record_at f archive 0).content ≡ Magic
unfolding starts_with_magic
first-magic f archive e =
    ap (λ r. r.content)
    (item_stands f (λ key. 0) archive 0 magic (magic-fits f (λ key. 0) refl)
    (drop 8 archive, sym (take-append-drop 8 archive) ∙ rw (same_true (take 8 archive) magic_bytes e, magic_record f (λ key. 0))))
    ∙ magic_read f (λ key. 0) 0

-- an archive that is let in begins with the magic
pub opening-magic : (f : Format) (archive : List ℕ) (room : ℕ) → opening_number f archive room ≡ 0 → starts_with_magic archive ≡ true
unfolding opening_number archive_number
opening-magic f archive room =
    on-pick (λ n. n ≡ 0 → starts_with_magic archive ≡ true) (ltb longest_archive (length archive)) _ _ (λ q z. absurd (omega arith))
    (λ q. cases (starts_with_magic archive) (λ m z. m) (λ m. rw m (λ z. absurd (omega arith))))

-- so no record that refers to anything stands at its first byte
pub report_later : (f : Format) (archive : List ℕ) (place : ℕ) (r : Report) → starts_with_magic archive ≡ true
    → (record_at f archive place).content ≡ ReportRead r → 0 < place
report_later f archive zero r m k =
    let q : Magic ≡ ReportRead r = sym (first-magic f archive m) ∙ k in let z : ◌≡◌ {A = ℕ} 0 1 = cc in absurd (omega arith)
report_later f archive (suc place) r m k = omega arith

-- nor in an archive that is let in
pub opening-report : (f : Format) (archive : List ℕ) (room place : ℕ) (r : Report) → opening_number f archive room ≡ 0
    → (record_at f archive place).content ≡ ReportRead r → 0 < place
opening-report f archive room place r opens k = report_later f archive place r (opening-magic f archive room opens) k
