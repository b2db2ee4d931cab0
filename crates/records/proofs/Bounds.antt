-- What is read of a record of bytes fits the fields that it is read from, and has the size that its layout says: ids, rates, lengths of texts, numbers
-- of arguments. What is asked of a kind of record, read or written, is `OwnSuits`. Assumes nothing.
use Prim.Native.Nat.{ℕ, ◌+◌, ◌-◌, ◌*◌, ◌^◌, ◌≤◌, ◌<◌}
use mathlib.Core.Path.{◌≡◌, refl, sym, subst, ◌∙◌}
use mathlib.Core.List.{[], List, ◌∷◌}
use mathlib.Core.Bool.{true, true≢false}
use native.Mathlib.Omega.{arith}
use borrow.Author.Tests.{ltb-false, eqb-false, leb-true}
use lib.Dec.{eqb, ltb}
use lib.ListN.{length, take, drop, length-drop}
use lib.Seq.{length-take-le}
use Rattle.std.proofs.Common.{Result, Ok, Err}
use Rattle.words.proofs.Tests.{on-pick, cases}
use Rattle.words.specs.Word.{word_at, field}
use Rattle.words.specs.Stream.{stream_words}
use Rattle.words.proofs.Words.{AllBytes, bytes_left, bytes_before, word_at_lt, word_at-drop, word_at-take}
use Rattle.format.specs.declared.Format.{Format}
use Rattle.format.specs.declared.Reason.{Reason}
use Rattle.format.specs.declared.Reference.{Reference}
use Rattle.format.specs.declared.Reference.TheVariants.{Inline, Index}
use Rattle.format.specs.declared.Taken.{Taken}
use Rattle.format.specs.Header.{record_words, extent_of}
use Rattle.format.specs.declared.Part.{Part}
use Rattle.format.specs.declared.Part.TheVariants.{Words as words, Stream as stream, Text as text, Thread as thread}
use Rattle.format.specs.Part.{take_words, take_stream, take_text, take_thread, take_part, Body, refused as body_refused, body, prepend, on_taken, take_parts, table_of}
use Rattle.format.proofs.Headers.{extent_read}
use Rattle.arguments.specs.declared.Argument.{Argument}
use Rattle.arguments.proofs.Bounds.{TextShort, TakenShort, text-short}
use Rattle.records.specs.declared.Event.{Event}
use Rattle.records.specs.declared.Log.{Log}
use Rattle.records.specs.declared.Own.{Own}
use Rattle.records.specs.declared.Own.TheVariants.{Event as EventOwn, Log as LogOwn}
use Rattle.records.specs.declared.Lookup.{Lookup}
use Rattle.records.specs.declared.Report.{Report}
use Rattle.records.specs.declared.Layout.{Layout}
use Rattle.records.specs.declared.Fields.{Fields}
use Rattle.records.specs.declared.Content.{Content}
use Rattle.records.specs.declared.Content.TheVariants.{Refused, Magic, ProviderInfo, Section, ProviderEvent, Initialization, String, Thread, Report as ReportRead, Ignored, Skipped}
use Rattle.records.specs.declared.Record.{Record}
use Rattle.records.specs.Layout.{is_event, event_layout, is_log, log_layout, layout_of, layout_parts, event_of, log_of, own_of, fields_of, take_fields, last_word, on_number, lookup_of, report_read, refused_by}
use Rattle.records.specs.Record.{content_of, record_of, record_at}
use Rattle.records.specs.Item.{own_layout}
use Rattle.records.specs.Models.Layouts.{ReferenceFits}
use Rattle.records.proofs.Layouts.{extra_few, layout_fits}
use Rattle.records.proofs.Contents.{ReportIs, ContentIs, refused as is_refused, magic as is_magic, provider_info as is_provider_info, section as is_section, provider_event as is_provider_event}
use Rattle.records.proofs.Contents.{initialization as is_initialization, string as is_string, thread as is_thread, report as is_report_read, ignored as is_ignored, skipped as is_skipped, content_is}

-- the bytes of a reference that stand inline
abbrev pub length_of : Reference → ℕ
length_of (Inline place n) = n
length_of (Index i) = 0

-- an inline text is no longer than its reference says
abbrev pub TakenLow : ℕ → Result Taken Reason → Type 0
TakenLow r (Err reason) = Unit {0}
TakenLow r (Ok t) = length_of t.reference ≤ r

pub text-low : (f : Format) (r place : ℕ) (source : List ℕ) (start : ℕ) → TakenLow r (take_text f r place source start)
unfolding take_text take_stream
text-low f r place source start =
    on-pick (TakenLow r) (eqb r 0) _ _ (λ e. omega arith)
    (λ e. on-pick (TakenLow r) (ltb r 0x8000) _ _ (λ e. omega arith)
    (λ e. on-pick (TakenLow r) (ltb f.longest (r - 0x8000)) _ _ (λ e. tt)
    (λ e. on-pick (TakenLow r) (ltb (start + length source) _) _ _ (λ e. tt) (λ e. omega arith))))

-- an empty inline text, as a reference that a kind has not
abbrev pub Empty : Reference → Type 0
Empty (Inline place n) = n ≡ 0
Empty (Index i) = ⊥

-- the reference 0 is the empty text
abbrev TakenEmpty : Result Taken Reason → Type 0
TakenEmpty (Err reason) = Unit {0}
TakenEmpty (Ok t) = Empty t.reference

text_empty : (f : Format) (r place : ℕ) (source : List ℕ) (start : ℕ) → r ≡ 0 → TakenEmpty (take_text f r place source start)
unfolding take_text
text_empty f r place source start e = rw e refl

-- a text and a stream are short enough, a reference 0 is empty, and a stream has the length that its header says
abbrev PartShort : Format → Part → Reference → Type 0
PartShort f (words n) x = Unit {0}
PartShort f (stream n) x = (length_of x ≡ n) × (n ≤ f.longest)
PartShort f (text r) x = TextShort f x × (length_of x ≤ r) × (r ≡ 0 → Empty x)
PartShort f (thread r) x = Unit {0}

abbrev TakenPart : Format → Part → Result Taken Reason → Type 0
TakenPart f p (Err reason) = Unit {0}
TakenPart f p (Ok t) = PartShort f p t.reference

part-short : (f : Format) (p : Part) (place : ℕ) (source : List ℕ) (start : ℕ) → TakenPart f p (take_part f p place source start)
unfolding take_part take_stream
part-short f (words n) place source start = go (take_words n place source start)
  where
    go : (x : Result Taken Reason) → TakenPart f (words n) x
    go (Err reason) = tt
    go (Ok t) = tt
part-short f (stream n) place source start =
    on-pick (TakenPart f (stream n)) (ltb f.longest n) _ _ (λ e. tt)
    (λ e. on-pick (TakenPart f (stream n)) (ltb (start + length source) (place + 8 * stream_words n)) _ _ (λ q. tt) (λ q. (refl, ltb-false f.longest n e)))
part-short f (text r) place source start =
    go (take_text f r place source start) (text-short f r place source start) (text-low f r place source start) (text_empty f r place source start)
  where
    go : (x : Result Taken Reason) → TakenShort f x → TakenLow r x → (r ≡ 0 → TakenEmpty x) → TakenPart f (text r) x
    go (Err reason) h l e = tt
    go (Ok t) h l e = (h, l, e)
part-short f (thread r) place source start = go (take_thread r place source start)
  where
    go : (x : Result Taken Reason) → TakenPart f (thread r) x
    go (Err reason) = tt
    go (Ok t) = tt

abbrev AllShort : Format → List Part → List Reference → Type 0
AllShort f [] [] = Unit {0}
AllShort f [] (x ∷ xs) = ⊥
AllShort f (p ∷ ps) [] = ⊥
AllShort f (p ∷ ps) (x ∷ xs) = PartShort f p x × AllShort f ps xs

abbrev BodyShort : Format → List Part → Body → Type 0
BodyShort f ps (body_refused reason) = Unit {0}
BodyShort f ps (body xs next) = AllShort f ps xs

parts_short : (f : Format) (ps : List Part) (place : ℕ) (source : List ℕ) (start : ℕ) → BodyShort f ps (take_parts f ps place source start)
unfolding take_parts
parts_short f [] place source start = tt
parts_short f (p ∷ ps) place source start = go (take_part f p place source start) (part-short f p place source start) (λ next. parts_short f ps next source start)
  where
    with_first : (x : Reference) (b : Body) → PartShort f p x → BodyShort f ps b → BodyShort f (p ∷ ps) (prepend x b)
    with_first x (body_refused reason) h k = tt
    with_first x (body xs next) h k = (h, k)

    go : (t : Result Taken Reason) → TakenPart f p t → ((next : ℕ) → BodyShort f ps (take_parts f ps next source start))
        → BodyShort f (p ∷ ps) (on_taken t (λ x next. prepend x (take_parts f ps next source start)))
    go (Err reason) h k = tt
    go (Ok t) h k = with_first t.reference (take_parts f ps t.next source start) h (k t.next)

abbrev FieldsBound : Format → Layout → Result Fields Reason → Type 0
FieldsBound f l (Err reason) = Unit {0}
FieldsBound f l (Ok x) =
    PartShort f l.first x.first × PartShort f l.second x.second × PartShort f l.third x.third × PartShort f (stream l.stream) x.stream

fields_bound : (f : Format) (l : Layout) (source : List ℕ) (place : ℕ) → FieldsBound f l (take_fields f l source place)
unfolding take_fields
fields_bound f l source place = go (take_parts f (layout_parts l) (place + 8) source place) (parts_short f (layout_parts l) (place + 8) source place)
  where
    go : (b : Body) → BodyShort f (layout_parts l) b → FieldsBound f l (fields_of b)
    go (body_refused reason) k = tt
    go (body [] next) k = absurd k
    go (body (w ∷ []) next) k = absurd k.1
    go (body (w ∷ a ∷ []) next) k = absurd k.1.1
    go (body (w ∷ a ∷ b ∷ []) next) k = absurd k.1.1.1
    go (body (w ∷ a ∷ b ∷ c ∷ []) next) k = absurd k.1.1.1.1
    go (body (w ∷ a ∷ b ∷ c ∷ s ∷ xs) next) k = (k.1.0, k.1.1.0, k.1.1.1.0, k.1.1.1.1.0)

-- the last word fits, and is 0 where there is none
abbrev LastBound : ℕ → Result ℕ Reason → Type 0
LastBound behind (Err reason) = Unit {0}
LastBound behind (Ok last) = (last < 2 ^ 64) × (behind ≡ 0 → last ≡ 0)

last_bound : (f : Format) (source : List ℕ) (place at behind : ℕ) → AllBytes source → LastBound behind (last_word f source place at behind)
unfolding last_word
last_bound f source place at behind bytes =
    on-pick (LastBound behind) (ltb (place + length source) (at + 8 * behind)) _ _ (λ e. tt)
    (λ e. on-pick (LastBound behind) (eqb behind 0) _ _ (λ q. (omega arith, λ z. refl))
    (λ q. (word_at_lt f.order source (at - place) bytes, λ z. absurd (eqb-false behind 0 q z))))

-- ---- what is asked of a kind, read or written

-- an event has a type up to 10, a thread and two texts, no stream, at most 15 arguments
pub record EventSuits (e : Event) (a b c long count : ℕ) : Type 0 where
  pub type : e.variant ≤ 10
  pub timestamp : e.timestamp < 2 ^ 64
  pub first : a ≡ 3
  pub second : b ≡ 2
  pub third : c ≡ 2
  pub stream : long ≡ 0
  pub few : count ≤ 15

-- a log has a thread, a stream whose length has 15 bits, and no arguments
pub record LogSuits (l : Log) (a long count : ℕ) : Type 0 where
  pub timestamp : l.timestamp < 2 ^ 64
  pub first : a ≡ 3
  pub stream : long < 2 ^ 15
  pub none : count ≡ 0

-- whatever the indexes are, of its own values, the tables of its three referents, the length of its stream and its number of arguments
abbrev pub OwnSuits : Own → (a b c long count : ℕ) → Type 0
OwnSuits (EventOwn e) a b c long count = EventSuits e a b c long count
OwnSuits (LogOwn l) a b c long count = LogSuits l a long count

-- how many of the three references a kind has
abbrev pub own_references : Own → ℕ
own_references (EventOwn e) = 3
own_references (LogOwn l) = 1

-- the references that a kind has not are absent, where `first`, `second` and `third` say so of each
pub record Absent (own : Own) (first second third : Type 0) : Type 0 where
  pub no_first : own_references own < 1 → first
  pub no_second : own_references own < 2 → second
  pub no_third : own_references own < 3 → third

-- every kind has at most 15 arguments
pub own-few : (own : Own) (a b c long count : ℕ) → OwnSuits own a b c long count → count ≤ 15
own-few (EventOwn e) a b c long count k = k.few
own-few (LogOwn l) a b c long count k = omega (arith, k.none)

-- words of 64 bits
abbrev pub AllWords : List ℕ → Type 0
AllWords [] = Unit {0}
AllWords (n ∷ ns) = (n < 256 ^ 8) × AllWords ns

-- and at most three words of its own, each of 64 bits
pub own-words-few : (own : Own) → length (own_layout own).words ≤ 3
own-words-few (EventOwn e) = omega arith
own-words-few (LogOwn l) = omega arith

pub own-words_fit : (own : Own) (a b c long count : ℕ) → OwnSuits own a b c long count → AllWords (own_layout own).words
own-words_fit (EventOwn e) a b c long count k = (k.timestamp, tt)
own-words_fit (LogOwn l) a b c long count k = (k.timestamp, tt)

-- and at most one word behind its arguments
pub behind-few : (own : Own) → (own_layout own).behind ≤ 1
behind-few (EventOwn e) = extra_few e.variant
behind-few (LogOwn l) = omega arith

-- what a kind has to show of a record that is read: it suits, with a stream of the length that its layout says; what it refers to not at all is the
-- reference 0; its own words, and those behind its arguments, are as many as its layout says
pub record OwnRead (f : Format) (source : List ℕ) (l : Layout) (own : Own) : Type 0 where
  pub suits : AllBytes source → (long : ℕ) → long ≡ l.stream
      → OwnSuits own (table_of l.first) (table_of l.second) (table_of l.third) long l.count
  pub absent : Absent own (l.first ≡ text 0) (l.second ≡ text 0) (l.third ≡ text 0)
  pub words : length (own_layout own).words ≡ l.words
  pub behind : (own_layout own).behind ≡ l.behind

-- an event
low-type : (header : ℕ) → is_event header ≡ true → field 16 19 header ≤ 10
unfolding is_event
low-type header e = cases (eqb (field 0 3 header) 4) (λ q. leb-true (field 16 19 header) 10 (rw q at e)) (λ q. absurd (true≢false (sym (rw q at e))))

event_read : (f : Format) (source : List ℕ) → (event_layout (word_at f.order source 0)).read ≡ true
    → OwnRead f source (event_layout (word_at f.order source 0)) (EventOwn (event_of f source))
unfolding event_layout event_of table_of
event_read f source e =
    record {
      suits = λ bytes long is. record {
        type = low-type (word_at f.order source 0) e;
        timestamp = word_at_lt f.order source 8 bytes;
        first = refl;
        second = refl;
        third = refl;
        stream = is;
        few = omega arith;
      };
      absent =
          record { no_first = λ h. absurd (omega (arith, h)); no_second = λ h. absurd (omega (arith, h)); no_third = λ h. absurd (omega (arith, h)) };
      words = refl;
      behind = refl;
    }

-- a log
log_read : (f : Format) (source : List ℕ) → OwnRead f source (log_layout (word_at f.order source 0)) (LogOwn (log_of f source))
unfolding log_layout log_of table_of
log_read f source =
    record {
      suits = λ bytes long is. record { timestamp = word_at_lt f.order source 8 bytes; first = refl; stream = omega (arith, is); none = refl };
      absent = record { no_first = λ h. absurd (omega (arith, h)); no_second = λ h. refl; no_third = λ h. refl };
      words = refl;
      behind = refl;
    }

own_read : (f : Format) (source : List ℕ) → (layout_of (word_at f.order source 0)).read ≡ true
    → OwnRead f source (layout_of (word_at f.order source 0)) (own_of f source)
unfolding layout_of own_of
own_read f source e = let header = word_at f.order source 0 in cases (is_log header) (λ q. rw q (log_read f source)) (λ q. rw q (event_read f source (rw q at e)))

-- ---- any kind

-- a reference that a kind has not, as it is read
abbrev pub LookupEmpty : Lookup → Type 0
LookupEmpty x = (x.table ≡ 2) × Empty x.reference

-- the reference 0 is read so
empty_lookup : (f : Format) (p : Part) (x : Reference) → p ≡ text 0 → PartShort f p x → LookupEmpty (lookup_of p x)
unfolding table_of
empty_lookup f p x e k = let k' : PartShort f (text 0) x = rw e at k in rw e (refl, k'.2 refl)

-- what is known of a record that refers to texts and threads
pub record ReportBound (f : Format) (r : Report) : Type 0 where
  pub suits : OwnSuits r.own r.first.table r.second.table r.third.table (length_of r.stream) r.count
  pub absent : Absent r.own (LookupEmpty r.first) (LookupEmpty r.second) (LookupEmpty r.third)
  pub first : r.first.table ≡ 2 → TextShort f r.first.reference
  pub second : r.second.table ≡ 2 → TextShort f r.second.reference
  pub third : r.third.table ≡ 2 → TextShort f r.third.reference
  pub stream : length_of r.stream ≤ f.longest
  pub last : r.last < 2 ^ 64
  pub no_last : (own_layout r.own).behind ≡ 0 → r.last ≡ 0

-- what a record holds fits the fields that it is read from
abbrev pub ContentBound : Format → Content → Type 0
ContentBound f (Refused number) = Unit {0}
ContentBound f Magic = Unit {0}
ContentBound f (ProviderInfo id at long) = (id < 2 ^ 32) × (long < 2 ^ 8) × (long ≤ f.longest)
ContentBound f (Section id) = id < 2 ^ 32
ContentBound f (ProviderEvent id e) = (id < 2 ^ 32) × (e < 2 ^ 4)
ContentBound f (Initialization rate) = rate < 2 ^ 64
ContentBound f (String index at long) = long ≤ f.longest
ContentBound f (Thread index at) = Unit {0}
ContentBound f (ReportRead r) = ReportBound f r
ContentBound f Ignored = Unit {0}
ContentBound f (Skipped type size) = Unit {0}

-- the lengths of the texts that a record refers to inline, and of a string record's text, have 16 bits; a record has 15 arguments at most
pub record ReportShort (r : Report) : Type 0 where
  pub first : r.first.table ≡ 2 → length_of r.first.reference < 65536
  pub second : r.second.table ≡ 2 → length_of r.second.reference < 65536
  pub third : r.third.table ≡ 2 → length_of r.third.reference < 65536
  pub few : r.count ≤ 15

abbrev pub ContentShort : Content → Type 0
ContentShort (Refused number) = Unit {0}
ContentShort Magic = Unit {0}
ContentShort (ProviderInfo id at long) = Unit {0}
ContentShort (Section id) = Unit {0}
ContentShort (ProviderEvent id e) = Unit {0}
ContentShort (Initialization rate) = Unit {0}
ContentShort (String index at long) = long < 65536
ContentShort (Thread index at) = Unit {0}
ContentShort (ReportRead r) = ReportShort r
ContentShort Ignored = Unit {0}
ContentShort (Skipped type size) = Unit {0}

-- a text that is read for a reference that fits has at most 16 bits
short-reference : (f : Format) (p : Part) (x : Reference) → ReferenceFits p → PartShort f p x → table_of p ≡ 2 → length_of x < 65536
unfolding table_of
short-reference f (words n) x h k e = absurd h
short-reference f (stream n) x h k e = absurd h
short-reference f (text r) x h k e = omega (arith, k.1)
short-reference f (thread r) x h k e = absurd (omega (arith, e))

is-short : (f : Format) (source : List ℕ) (place : ℕ) (c : Content) → ContentIs f source place c → ContentShort c
is-short f source place _ (is_refused number n) = tt
is-short f source place _ (is_magic e) = tt
is-short f source place _ (is_provider_info t k short room) = tt
is-short f source place _ (is_section t k) = tt
is-short f source place _ (is_provider_event t k) = tt
is-short f source place _ (is_initialization t room) = tt
is-short f source place _ (is_string t one low short room) = omega arith
is-short f source place _ (is_thread t one room) = tt
is-short f source place _ (is_report_read a b c s first at last list is) =
    let l = layout_of (word_at f.order source 0) in
    let fits = layout_fits (word_at f.order source 0) in
    let k = subst (FieldsBound f l) is.fields (fields_bound f l source place) in
    record {
      first = short-reference f l.first a fits.first k.0;
      second = short-reference f l.second b fits.second k.1;
      third = short-reference f l.third c fits.third k.2;
      few = fits.few;
    }
is-short f source place _ is_ignored = tt
is-short f source place _ (is_skipped type small) = tt

-- so is the record at every place of an archive
pub record_short : (f : Format) (archive : List ℕ) (place : ℕ) → ContentShort (record_at f archive place).content
unfolding record_of
record_short f archive place = go (extent_of f (drop place archive)) refl
  where
    go : (x : Result ℕ Reason) → extent_of f (drop place archive) ≡ x
        → ContentShort
        (on_number {A = Record} x (λ reason. record { content = refused_by reason; next = place })
        (λ size. record { content = content_of f (take size (drop place archive)) place; next = place + size })).content
    go (Err reason) e = tt
    go (Ok size) e =
        let source = take size (drop place archive) in
        let w = extent_read f (drop place archive) size e in
        is-short f source place (content_of f source place)
        (content_is f source place (omega (arith, w.some, length-take-le size (drop place archive) w.inside)))

-- a text that is read for a reference that fits is short enough
text-reference : (f : Format) (p : Part) (x : Reference) → ReferenceFits p → PartShort f p x → table_of p ≡ 2 → TextShort f x
unfolding table_of
text-reference f (words n) x h k e = absurd h
text-reference f (stream n) x h k e = absurd h
text-reference f (text r) x h k e = k.0
text-reference f (thread r) x h k e = absurd (omega (arith, e))

report_bound : (f : Format) (source : List ℕ) (place : ℕ) → AllBytes source → (a b c s : Reference) (first at last : ℕ) (list : List Argument)
    → ReportIs f source place a b c s first at last list → ReportBound f (report_read f (layout_of (word_at f.order source 0)) source a b c s first last)
report_bound f source place bytes a b c s first at last list is =
    let l = layout_of (word_at f.order source 0) in
    let fits = layout_fits (word_at f.order source 0) in
    let own = own_read f source is.is-report in
    let k = subst (FieldsBound f l) is.fields (fields_bound f l source place) in
    let z = subst (LastBound l.behind) is.last-is (last_bound f source place at l.behind bytes) in
    record {
      suits = own.suits bytes (length_of s) k.3.0;
      absent = record {
        no_first = λ h. empty_lookup f l.first a (own.absent.no_first h) k.0;
        no_second = λ h. empty_lookup f l.second b (own.absent.no_second h) k.1;
        no_third = λ h. empty_lookup f l.third c (own.absent.no_third h) k.2;
      };
      first = text-reference f l.first a fits.first k.0;
      second = text-reference f l.second b fits.second k.1;
      third = text-reference f l.third c fits.third k.2;
      stream = omega (arith, k.3);
      last = z.0;
      no_last = λ e. z.1 (sym own.behind ∙ e);
    }

-- every content of a record of bytes is so
is_bound : (f : Format) (source : List ℕ) (place : ℕ) → AllBytes source → (c : Content) → ContentIs f source place c → ContentBound f c
is_bound f source place bytes _ (is_refused number n) = tt
is_bound f source place bytes _ (is_magic e) = tt
is_bound f source place bytes _ (is_provider_info t k short room) = (omega arith, omega arith, short)
is_bound f source place bytes _ (is_section t k) = omega arith
is_bound f source place bytes _ (is_provider_event t k) = (omega arith, omega arith)
is_bound f source place bytes _ (is_initialization t room) = word_at_lt f.order source 8 bytes
is_bound f source place bytes _ (is_string t one low short room) = short
is_bound f source place bytes _ (is_thread t one room) = tt
is_bound f source place bytes _ (is_report_read a b c s first at last list is) = report_bound f source place bytes a b c s first at last list is
is_bound f source place bytes _ is_ignored = tt
is_bound f source place bytes _ (is_skipped type small) = tt

pub content_bound : (f : Format) (source : List ℕ) (place : ℕ) → AllBytes source → 8 ≤ length source → ContentBound f (content_of f source place)
content_bound f source place bytes h = is_bound f source place bytes (content_of f source place) (content_is f source place h)

-- and so is the record at every place of an archive of bytes
pub record_bound : (f : Format) (archive : List ℕ) (place : ℕ) → AllBytes archive → ContentBound f (record_at f archive place).content
unfolding record_of
record_bound f archive place bytes = go (extent_of f (drop place archive)) refl
  where
    go : (x : Result ℕ Reason) → extent_of f (drop place archive) ≡ x
        → ContentBound f
        (on_number {A = Record} x (λ reason. record { content = refused_by reason; next = place })
        (λ size. record { content = content_of f (take size (drop place archive)) place; next = place + size })).content
    go (Err reason) e = tt
    go (Ok size) e =
        let w = extent_read f (drop place archive) size e in
        content_bound f (take size (drop place archive)) place (bytes_before size (drop place archive) (bytes_left place archive bytes))
        (omega (arith, w.some, length-take-le size (drop place archive) w.inside))

-- ---- a skipped record has the size that is shown of it

-- where a content is a skipped record's, its size is that of its header; the words of a kind are those of its layout
abbrev pub SizeShown : Format → List ℕ → Content → Type 0
SizeShown f source (Refused number) = Unit {0}
SizeShown f source Magic = Unit {0}
SizeShown f source (ProviderInfo id at long) = Unit {0}
SizeShown f source (Section id) = Unit {0}
SizeShown f source (ProviderEvent id event) = Unit {0}
SizeShown f source (Initialization rate) = Unit {0}
SizeShown f source (String index at long) = Unit {0}
SizeShown f source (Thread index at) = Unit {0}
SizeShown f source (ReportRead r) =
    (length (own_layout r.own).words ≡ (layout_of (word_at f.order source 0)).words) × ((own_layout r.own).behind ≡ (layout_of (word_at f.order source 0)).behind)
SizeShown f source Ignored = Unit {0}
SizeShown f source (Skipped type size) = size ≡ record_words (word_at f.order source 0)

is-size : (f : Format) (source : List ℕ) (place : ℕ) (c : Content) → ContentIs f source place c → SizeShown f source c
is-size f source place _ (is_refused number n) = tt
is-size f source place _ (is_magic e) = tt
is-size f source place _ (is_provider_info t k short room) = tt
is-size f source place _ (is_section t k) = tt
is-size f source place _ (is_provider_event t k) = tt
is-size f source place _ (is_initialization t room) = tt
is-size f source place _ (is_string t one low short room) = tt
is-size f source place _ (is_thread t one room) = tt
is-size f source place _ (is_report_read a b c s first at last list is) =
    let own = own_read f source is.is-report in (own.words, own.behind)
is-size f source place _ is_ignored = tt
is-size f source place _ (is_skipped type small) = refl

-- every content of a record is so
pub size_shown : (f : Format) (source : List ℕ) (place : ℕ) → 8 ≤ length source → SizeShown f source (content_of f source place)
size_shown f source place h = is-size f source place (content_of f source place) (content_is f source place h)

-- a record that refers to texts and threads and is read at a place has a header there, and its own words, and those behind its arguments, are as many
-- as the layout of that header says
pub report_sizes : (f : Format) (archive : List ℕ) (place : ℕ) (r : Report) → (record_at f archive place).content ≡ ReportRead r
    → (8 ≤ length archive - place)
    × (length (own_layout r.own).words ≡ (layout_of (word_at f.order archive place)).words)
    × ((own_layout r.own).behind ≡ (layout_of (word_at f.order archive place)).behind)
unfolding record_of
report_sizes f archive place r = go (extent_of f (drop place archive)) refl
  where
    go : (x : Result ℕ Reason) → extent_of f (drop place archive) ≡ x
        → (on_number {A = Record} x (λ reason. record { content = refused_by reason; next = place })
        (λ size. record { content = content_of f (take size (drop place archive)) place; next = place + size })).content ≡ ReportRead r
        → (8 ≤ length archive - place)
        × (length (own_layout r.own).words ≡ (layout_of (word_at f.order archive place)).words)
        × ((own_layout r.own).behind ≡ (layout_of (word_at f.order archive place)).behind)
    go (Err reason) e k = cc
    go (Ok size) e k =
        let w = extent_read f (drop place archive) size e in
        let long = length-take-le size (drop place archive) w.inside in
        let header = word_at-take f.order (drop place archive) 0 size w.some ∙ word_at-drop f.order archive place 0 in
        let shown = subst (SizeShown f (take size (drop place archive))) k (size_shown f (take size (drop place archive)) place (omega (arith, w.some, long))) in
        let here : place + 0 ≡ place = omega arith in
        let sized = rw (header, here) at shown in (omega (arith, w.some, w.inside, length-drop place archive), sized.0, sized.1)
