-- What a reference that was read stands for, where it is known: its place and its length fit a word and a label, and its bytes stand in the archive.
-- Assumes nothing.
use Prim.Native.Nat.{ℕ, ◌+◌, ◌≤◌, ◌<◌}
use mathlib.Core.Path.{◌≡◌, refl, ap}
use mathlib.Core.List.{[], List, ◌∷◌}
use mathlib.Core.Logic.{◌⊎◌, inl, inr}
use native.Mathlib.Omega.{arith}
use lib.Dec.{eqb, ltb}
use lib.ListN.{length, take, get_or}
use Rattle.records.proofs.Passes.{ThreadReference}
use Rattle.words.specs.Word.{pick, word_at, field}
use Rattle.words.proofs.Tests.{on-pick, cases}
use Rattle.format.specs.declared.Format.{Format}
use Rattle.format.specs.Limits.{longest_archive}
use Rattle.format.specs.declared.Reference.{Reference}
use Rattle.format.specs.declared.Reference.TheVariants.{Inline, Index}
use Rattle.format.specs.declared.Taken.{Taken}
use Rattle.format.specs.declared.Reason.{Reason}
use Rattle.std.specs.Prelude.{Result, Ok, Err}
use Rattle.format.specs.declared.Part.TheVariants.{Words as words}
use Rattle.format.specs.Part.{take_text, take_part, Body, refused as body_refused, body, prepend, on_taken, take_parts, on_body, part}
use Rattle.arguments.specs.declared.Argument.{Argument}
use Rattle.arguments.specs.declared.Texts.{Texts}
use Rattle.arguments.specs.Argument.{argument_type, argument_size, holds_word, argued, argument_of, text_in}
use Rattle.arguments.specs.Models.Reading.{texts_of, value_text}
use Rattle.arguments.proofs.Arguments.{texts_named, on_name_texts, name_then_text}
use Rattle.records.specs.declared.Content.{Content}
use Rattle.records.specs.declared.Content.TheVariants.{Refused, Magic, ProviderInfo, Section, ProviderEvent, Initialization, String, Thread, Report as ReportRead, Ignored, Skipped}
use Rattle.records.specs.Record.{record_at}
use Rattle.records.proofs.Contents.{RecordStands, record_read}
use Rattle.tables.specs.Table.{Nothing, Entry}
use Rattle.tables.specs.declared.Resolved.{Resolved}
use Rattle.tables.specs.declared.Resolved.TheVariants.{Bad, Known, Unresolved}
use Rattle.tables.specs.Table.{position, registration_of, resolved}
use Rattle.tables.proofs.Tables.{registered_inside, resolved-known}
use Rattle.records.proofs.Bounds.{length_of, ContentShort, TakenLow, text-low, record_short}
use Rattle.passes.specs.Models.Known.{ReferenceFits, KnownFits}
use Rattle.records.specs.Effect.{effect_of}

-- ---- lengths have 16 bits at most

-- an inline reference of at most 16 bits of length
abbrev pub Short : Reference → Type 0
Short r = length_of r < 65536

-- ---- records that are read stand in the archive

-- a record that is not refused ends inside the archive
pub read_ends : (f : Format) (archive : List ℕ) (place : ℕ) → ((number : ℕ) → (record_at f archive place).content ≡ Refused number → ⊥)
    → (record_at f archive place).next ≤ length archive
read_ends f archive place h = go (record_read f archive place)
  where
    go : ((number : ℕ) × (record_at f archive place ≡ record { content = Refused number; next = place }))
        ⊎ ((size : ℕ) × RecordStands f archive place size (record_at f archive place)) → (record_at f archive place).next ≤ length archive
    go (inl (number, e)) = absurd (h number (ap (λ r. r.content) e))
    go (inr (size, s)) = omega (arith, s.next, s.inside)

-- the bytes that a record registers stand behind its place and inside the archive, and are short; a thread's are 16
pub record Registered (archive : List ℕ) (entry table place long : ℕ) : Type 0 where
  pub behind : entry ≤ place
  pub inside : place + long ≤ length archive
  pub short : long < 65536
  pub sixteen : table ≡ 3 → long ≡ 16

-- those of every string or thread record do
pub registered : (f : Format) (archive : List ℕ) (entry table index place long : ℕ)
    → registration_of (record_at f archive entry).content ≡ Entry table index place long → Registered archive entry table place long
unfolding registration_of effect_of
registered f archive entry table index place long e =
    let i = registered_inside f archive entry table index place long e in
    let l = lengths (record_at f archive entry).content (record_short f archive entry) e in
    record {
      behind = i.0;
      inside = omega (arith, i.1, read_ends f archive entry refused);
      short = l.0;
      sixteen = l.1;
    }
  where
    refused : (number : ℕ) → (record_at f archive entry).content ≡ Refused number → ⊥
    refused number q =
        let k : Nothing ≡ Entry table index place long = rw q at e in
        let z : ◌≡◌ {A = ℕ} 0 1 = cc in
        omega arith

    none : Nothing ≡ Entry table index place long → (long < 65536) × (table ≡ 3 → long ≡ 16)
    none e = let z : ◌≡◌ {A = ℕ} 0 1 = cc in absurd (omega arith)

    lengths : (c : Content) → ContentShort c → registration_of c ≡ Entry table index place long → (long < 65536) × (table ≡ 3 → long ≡ 16)
    lengths (Refused number) h e = none e
    lengths Magic h e = none e
    lengths (ProviderInfo id at l) h e = none e
    lengths (Section id) h e = none e
    lengths (ProviderEvent id event) h e = none e
    lengths (Initialization rate) h e = none e
    lengths (String i at l) h e =
        let same : l ≡ long = cc in let k : 2 ≡ table = cc in (omega arith, λ z. absurd (omega arith))
    lengths (Thread i at) h e = let same : 16 ≡ long = cc in (omega arith, λ z. omega arith)
    lengths (ReportRead r) h e = none e
    lengths Ignored h e = none e
    lengths (Skipped type size) h e = none e

-- ---- references that fit

-- a thread's 16 bytes are short
pub thread-short : (r : Reference) → ThreadReference r → Short r
thread-short (Inline place long) h = omega arith
thread-short (Index index) h = omega arith

-- what a reference that fits stands for fits, whatever the tables hold
pub reference-fits : (f : Format) (archive tables : List ℕ) (context table until : ℕ) (r : Reference) → ReferenceFits r → length archive ≤ longest_archive
    → KnownFits (resolved f archive tables context table until r)
unfolding resolved
reference-fits f archive tables context table until (Inline place long) h low = h
reference-fits f archive tables context table until (Index index) h low =
    go (resolved f archive tables context table until (Index index)) refl
  where
    go : (x : Resolved) → resolved f archive tables context table until (Index index) ≡ x → KnownFits x
    go Bad e = tt
    go (Known place long) e =
        let k = (resolved-known f archive tables context table index until place long e).known in
        let r = registered f archive (get_or tables (position f context table index) 0) table index place long k.registers in
        (omega (arith, r.inside), r.short)
    go (Unresolved number) e = tt

-- a text whose reference has 16 bits is short
abbrev TakenShort : Result Taken Reason → Type 0
TakenShort (Err reason) = Unit {0}
TakenShort (Ok taken) = Short taken.reference

low-short : (r : ℕ) (x : Result Taken Reason) → r < 65536 → TakenLow r x → TakenShort x
low-short r (Err reason) h l = tt
low-short r (Ok taken) h l = omega (arith, l)

-- the texts of an argument, both short
abbrev pub TextsShort : Result Texts Reason → Type 0
TextsShort (Err reason) = Unit {0}
TextsShort (Ok texts) = Short texts.name × Short texts.value

-- those of every argument that is read are
pub texts_short : (f : Format) (rest : List ℕ) (place : ℕ) → TextsShort (texts_of f rest place)
unfolding value_text take_parts take_part
texts_short f rest place =
    rw (name_then_text f rest place)
    (on-pick TextsShort (ltb (length rest) 8) _ _ (λ e. tt)
    (λ e. on-pick TextsShort (eqb size 0) _ _ (λ e. tt)
    (λ e. on-pick TextsShort (ltb (length rest) size) _ _ (λ e. tt)
    (λ e. of_name (take_text f (field 16 31 hd) (place + 8) own place)
    (low-short (field 16 31 hd) (take_text f (field 16 31 hd) (place + 8) own place) (omega arith) (text-low f (field 16 31 hd) (place + 8) own place))))))
  where
    hd : ℕ
    hd = word_at f.order rest 0

    size : ℕ
    size = argument_size hd

    own : List ℕ
    own = take size rest

    of_text : (name : Reference) → Short name → (x : Result Taken Reason) → TakenShort x
        → TextsShort (texts_named name size
        (on_body (on_taken x (λ r next. prepend r (body [] next))) Err (λ rs next. Ok (part 0 rs))))
    of_text name h (Err reason) k = tt
    of_text name h (Ok taken) k = (h, k)

    of_other : (name : Reference) → Short name → (b : Body)
        → TextsShort (texts_named name size (on_body b Err (λ rs next. Ok (Inline 0 0))))
    of_other name h (body_refused reason) = tt
    of_other name h (body rs next) = (h, omega arith)

    of_value : (name : Reference) (next : ℕ) → Short name → TextsShort (texts_named name size (value_text f hd next own place))
    of_value name next h =
        cases (eqb (argument_type hd) 6)
        (λ e. rw e
        (of_text name h (take_text f (field 32 47 hd) next own place)
        (low-short (field 32 47 hd) (take_text f (field 32 47 hd) next own place) (omega arith) (text-low f (field 32 47 hd) next own place))))
        (λ e. rw e (of_other name h (take_parts f (pick (holds_word (argument_type hd)) (words 1 ∷ []) []) next own place)))

    of_name : (x : Result Taken Reason) → TakenShort x → TextsShort (on_name_texts x (λ name next. texts_named name size (value_text f hd next own place)))
    of_name (Err reason) h = tt
    of_name (Ok taken) h = of_value taken.reference taken.next h

-- the name of an argument that was read, and the text of its value
pub argument_short : (f : Format) (rest : List ℕ) (place : ℕ) (a : Argument) (size : ℕ) → argument_of f rest place ≡ argued a size
    → Short a.name × Short (text_in a.value)
unfolding texts_of
argument_short f rest place a size e = rw e at (texts_short f rest place)
