-- Laws of what stands in a record: which content stands for which header, where it stands, what it costs, and which bytes it depends on.
-- Assumes nothing.
use Prim.Native.Nat.{ℕ, ◌+◌, ◌-◌, ◌*◌, ◌%◌, ◌<◌, ◌≤◌}
use mathlib.Core.Path.{◌≡◌, refl, sym, ap, ◌∙◌}
use mathlib.Core.List.{[], List, ◌∷◌, ◌++◌}
use mathlib.Core.Logic.{◌⊎◌, inl, inr}
use mathlib.Core.Bool.{true}
use native.Mathlib.Omega.{arith}
use borrow.Author.Tests.{ltb-false, le-ltb, ne_eqb, eqb-true, eqb-false}
use lib.Dec.{eqb, ltb}
use lib.ListN.{length, take, drop, length-take, length-drop}
use lib.Seq.{length-take-le, take-append-le}
use Rattle.std.proofs.Common.{Result, Ok, Err}
use Rattle.words.specs.Word.{word_at, field}
use Rattle.words.specs.Stream.{stream_words, starts_with_magic}
use Rattle.words.proofs.Words.{word_at-take}
use Rattle.words.proofs.Tests.{on-pick, cases}
use Rattle.format.specs.declared.Format.{Format}
use Rattle.format.specs.declared.Reason.{Reason}
use Rattle.format.specs.Limits.{number_of}
use Rattle.format.specs.declared.Reference.{Reference}
use Rattle.format.specs.declared.Part.TheVariants.{Words as words, Stream as stream}
use Rattle.format.specs.Header.{record_words, extent_of}
use Rattle.format.specs.Part.{take_words, take_stream, take_part, take_parts, on_body, inline_bytes}
use Rattle.format.proofs.Headers.{Whole, extent_read}
use Rattle.format.proofs.Parts.{inside_wider}
use Rattle.arguments.specs.declared.Argument.{Argument}
use Rattle.arguments.specs.Argument.{Arguments, refused as arguments_refused, arguments, arguments_of, walked}
use Rattle.arguments.proofs.Arguments.{arguments_bytes, ArgumentsFit, arguments_fit}
use Rattle.records.specs.declared.Layout.{Layout}
use Rattle.records.specs.declared.Fields.{Fields}
use Rattle.records.specs.declared.Content.{Content}
use Rattle.records.specs.declared.Content.TheVariants.{Refused, Magic, ProviderInfo, Section, ProviderEvent, Initialization, String, Thread, Report as ReportRead, Ignored, Skipped}
use Rattle.records.specs.declared.Record.{Record}
use Rattle.records.specs.Layout.{is_event, event_layout, layout_of, fields, take_fields, last_word, on_fields, on_number, report_read, report_of, refused_by}
use Rattle.records.specs.Models.Layouts.{report_arguments}
use Rattle.records.specs.Record.{provider_info_of, metadata_of, initialization_of, string_of, thread_of, content_of, record_of, record_at}
use Rattle.records.specs.Models.Bounds.{ContentInside}
use Rattle.records.proofs.Passes.{RecordNumber, RecordReason, reason_malformed, reason_long, reason_high, ArgumentsPass, arguments_pass, Shape, FieldsPass, fields_pass}
use Rattle.records.proofs.Layouts.{Stand, fields_stand, FieldsStand}

-- ---- which content stands for which header

-- a record that refers to texts and threads: the steps by which it was read, and where its parts stand
pub record ReportIs (f : Format) (source : List ℕ) (place : ℕ) (a b c s : Reference) (first at last : ℕ) (list : List Argument) : Type 0 where
  pub is-report : (layout_of (word_at f.order source 0)).read ≡ true
  pub fields : take_fields f (layout_of (word_at f.order source 0)) source place ≡ fields a b c s first
  pub shapes : Shape (layout_of (word_at f.order source 0)).first a × Shape (layout_of (word_at f.order source 0)).second b × Shape (layout_of (word_at f.order source 0)).third c
  pub stand : Stand (layout_of (word_at f.order source 0)) (place + 8) (place + length source) a b c s first
  pub read : arguments_of f (layout_of (word_at f.order source 0)).count (drop (first - place) source) first ≡ arguments list at
  pub fit : ArgumentsFit (layout_of (word_at f.order source 0)).count (drop (first - place) source) first (arguments list at)
  pub last-is : last_word f source place at (layout_of (word_at f.order source 0)).behind ≡ Ok last
  pub room : at + 8 * (layout_of (word_at f.order source 0)).behind ≤ place + length source

-- the contents that a record can have, each with the tests that lead to it
pub data ContentIs (f : Format) (source : List ℕ) (place : ℕ) : Content → Type 0 where
  refused : (number : ℕ) → RecordNumber number → ContentIs f source place (Refused number)
  magic : starts_with_magic source ≡ true → ContentIs f source place Magic
  provider_info : field 0 3 (word_at f.order source 0) ≡ 0 → field 16 19 (word_at f.order source 0) ≡ 1 → field 52 59 (word_at f.order source 0) ≤ f.longest
      → 8 + 8 * stream_words (field 52 59 (word_at f.order source 0)) ≤ length source
      → ContentIs f source place (ProviderInfo (field 20 51 (word_at f.order source 0)) (place + 8) (field 52 59 (word_at f.order source 0)))
  section : field 0 3 (word_at f.order source 0) ≡ 0 → field 16 19 (word_at f.order source 0) ≡ 2
      → ContentIs f source place (Section (field 20 51 (word_at f.order source 0)))
  provider_event : field 0 3 (word_at f.order source 0) ≡ 0 → field 16 19 (word_at f.order source 0) ≡ 3
      → ContentIs f source place (ProviderEvent (field 20 51 (word_at f.order source 0)) (field 52 55 (word_at f.order source 0)))
  initialization : field 0 3 (word_at f.order source 0) ≡ 1 → 16 ≤ length source → ContentIs f source place (Initialization (word_at f.order source 8))
  string : field 0 3 (word_at f.order source 0) ≡ 2 → 1 ≤ field 16 30 (word_at f.order source 0) → field 16 30 (word_at f.order source 0) ≤ f.highest
      → field 32 46 (word_at f.order source 0) ≤ f.longest → 8 + 8 * stream_words (field 32 46 (word_at f.order source 0)) ≤ length source
      → ContentIs f source place (String (field 16 30 (word_at f.order source 0)) (place + 8) (field 32 46 (word_at f.order source 0)))
  thread : field 0 3 (word_at f.order source 0) ≡ 3 → 1 ≤ field 16 23 (word_at f.order source 0) → 24 ≤ length source
      → ContentIs f source place (Thread (field 16 23 (word_at f.order source 0)) (place + 8))
  report : (a b c s : Reference) (first at last : ℕ) (list : List Argument) → ReportIs f source place a b c s first at last list
      → ContentIs f source place (ReportRead (report_read f (layout_of (word_at f.order source 0)) source a b c s first last))
  ignored : ContentIs f source place Ignored
  skipped : (type : ℕ) → type < 16 → ContentIs f source place (Skipped type (record_words (word_at f.order source 0)))

-- a body of some words, or of a stream, fits into its record or is refused
on-words : (P : Content → Type 0) (f : Format) (n place : ℕ) (source : List ℕ) (start : ℕ) (a : Content) → ((number : ℕ) → RecordNumber number → P (Refused number))
    → (place + 8 * n ≤ (start + length source) → P a) → P (on_body (take_parts f (words n ∷ []) place source start) refused_by (λ references next. a))
unfolding take_parts take_part take_words
on-words P f n place source start a r g =
    cases (ltb (start + length source) (place + 8 * n)) (λ e. rw e (r _ reason_malformed)) (λ e. rw e (g (ltb-false (start + length source) (place + 8 * n) e)))

on-stream : (P : Content → Type 0) (f : Format) (n place : ℕ) (source : List ℕ) (start : ℕ) (c : Content) → ((number : ℕ) → RecordNumber number → P (Refused number))
    → (n ≤ f.longest → place + 8 * stream_words n ≤ (start + length source) → P c) → P (on_body (take_parts f (stream n ∷ []) place source start) refused_by (λ references next. c))
unfolding take_parts take_part take_stream
on-stream P f n place source start c r g =
    cases (ltb f.longest n) (λ e. rw e (r _ reason_long))
    (λ e. cases (ltb (start + length source) (place + 8 * stream_words n)) (λ q. rw (e, q) (r _ reason_malformed))
    (λ q. rw (e, q) (g (ltb-false f.longest n e) (ltb-false (start + length source) (place + 8 * stream_words n) q))))

module _ (f : Format) (source : List ℕ) (place : ℕ) where
  abbrev Is : Content → Type 0
  Is = ContentIs f source place

  metadata_is : field 0 3 (word_at f.order source 0) ≡ 0 → Is (metadata_of f source place)
  unfolding metadata_of provider_info_of
  metadata_is t =
      let h = word_at f.order source 0 in
      on-pick Is (eqb (field 16 19 h) 1) _ _
      (λ e. on-stream Is f (field 52 59 h) (place + 8) source place _ refused
      (λ short room. provider_info t (eqb-true (field 16 19 h) 1 e) short (omega (arith, room))))
      (λ _. on-pick Is (eqb (field 16 19 h) 2) _ _ (λ e. section t (eqb-true (field 16 19 h) 2 e))
      (λ _. on-pick Is (eqb (field 16 19 h) 3) _ _ (λ e. provider_event t (eqb-true (field 16 19 h) 3 e))
      (λ _. on-pick Is (eqb (field 16 23 h) 4) _ _
      (λ _. on-pick Is (starts_with_magic source) _ _ (λ e. magic e) (λ _. refused _ reason_malformed))
      (λ _. skipped 0 (omega arith)))))

  string_is : field 0 3 (word_at f.order source 0) ≡ 2 → Is (string_of f source place)
  unfolding string_of
  string_is t =
      let h = word_at f.order source 0 in
      on-pick Is (eqb (field 16 30 h) 0) _ _ (λ _. ignored)
      (λ some. on-pick Is (ltb f.highest (field 16 30 h)) _ _ (λ _. refused _ reason_high)
      (λ low. on-stream Is f (field 32 46 h) (place + 8) source place _ refused
      (λ short room. let is = eqb-false (field 16 30 h) 0 some in
      string t (omega arith) (ltb-false f.highest (field 16 30 h) low) short (omega (arith, room)))))

  thread-is : field 0 3 (word_at f.order source 0) ≡ 3 → Is (thread_of f source place)
  unfolding thread_of
  thread-is t =
      let h = word_at f.order source 0 in
      on-pick Is (eqb (field 16 23 h) 0) _ _ (λ _. ignored)
      (λ some. on-words Is f 2 (place + 8) source place _ refused
      (λ room. let is = eqb-false (field 16 23 h) 0 some in thread t (omega arith) (omega (arith, room))))

  initialization-is : field 0 3 (word_at f.order source 0) ≡ 1 → Is (initialization_of f source place)
  unfolding initialization_of
  initialization-is t =
      on-words Is f 1 (place + 8) source place _ refused (λ room. initialization t (omega (arith, room)))

  abbrev l : Layout
  l = layout_of (word_at f.order source 0)

  abbrev LastIs : ℕ → Result ℕ Reason → Type 0
  LastIs at (Err reason) = RecordReason reason
  LastIs at (Ok last) = at + 8 * l.behind ≤ place + length source

  last_room : (at : ℕ) → LastIs at (last_word f source place at l.behind)
  unfolding last_word
  last_room at =
      on-pick (LastIs at) (ltb (place + length source) (at + 8 * l.behind)) _ _ (λ _. reason_malformed)
      (λ e. on-pick (LastIs at) (eqb l.behind 0) _ _ (λ _. ltb-false (place + length source) (at + 8 * l.behind) e)
      (λ _. ltb-false (place + length source) (at + 8 * l.behind) e))

  report_read_lem : (layout_of (word_at f.order source 0)).read ≡ true → 8 ≤ length source → Is (report_of f source place)
  unfolding report_of
  report_read_lem k h = of_fields (take_fields f l source place) refl (fields_stand f l source place (omega arith)) (fields_pass f l source place)
    where
      end : ℕ
      end = place + length source

      of_last : (a b c s : Reference) (first at : ℕ) (list : List Argument) → take_fields f l source place ≡ fields a b c s first
          → Stand l (place + 8) end a b c s first → Shape l.first a × Shape l.second b × Shape l.third c
          → arguments_of f l.count (drop (first - place) source) first ≡ arguments list at
          → ArgumentsFit l.count (drop (first - place) source) first (arguments list at)
          → (x : Result ℕ Reason) → last_word f source place at l.behind ≡ x → LastIs at x
          → Is (on_number x refused_by (λ last. ReportRead (report_read f l source a b c s first last)))
      of_last a b c s first at list e st sh q fit (Err reason) g r = refused (number_of reason) r
      of_last a b c s first at list e st sh q fit (Ok last) g r =
          report a b c s first at last list (record { is-report = k; fields = e; shapes = sh; stand = st; read = q; fit = fit; last-is = g; room = r })

      of_arguments : (a b c s : Reference) (first : ℕ) → take_fields f l source place ≡ fields a b c s first
          → Stand l (place + 8) end a b c s first → Shape l.first a × Shape l.second b × Shape l.third c → ArgumentsPass (arguments_of f l.count (drop (first - place) source) first)
          → (q : Arguments) → arguments_of f l.count (drop (first - place) source) first ≡ q
          → ArgumentsFit l.count (drop (first - place) source) first q
          → Is (on_number (walked q) refused_by
          (λ at. on_number (last_word f source place at l.behind) refused_by (λ last. ReportRead (report_read f l source a b c s first last))))
      of_arguments a b c s first e st sh p (arguments_refused reason) g fit = refused (number_of reason) (rw g at p)
      of_arguments a b c s first e st sh p (arguments list at) g fit =
          of_last a b c s first at list e st sh g fit (last_word f source place at l.behind) refl (last_room at)

      of_fields : (x : Result Fields Reason) → take_fields f l source place ≡ x → FieldsStand l (place + 8) end x → FieldsPass l x
          → Is (on_fields x refused_by
          (λ a b c s first. on_number (walked (arguments_of f l.count (drop (first - place) source) first)) refused_by
          (λ at. on_number (last_word f source place at l.behind) refused_by (λ last. ReportRead (report_read f l source a b c s first last)))))
      of_fields (Err reason) e st p = refused (number_of reason) p
      of_fields (Ok x) e st p =
          let rest = drop (x.next - place) source in
          of_arguments x.first x.second x.third x.stream x.next e st p (arguments_pass f l.count rest x.next) (arguments_of f l.count rest x.next) refl
          (arguments_fit f l.count rest x.next)

  -- every record has one of these contents
  pub content_is : 8 ≤ length source → Is (content_of f source place)
  unfolding content_of
  content_is h =
      let type = field 0 3 (word_at f.order source 0) in
      on-pick Is (layout_of (word_at f.order source 0)).read _ _ (λ k. report_read_lem k h)
      (λ _. on-pick Is (eqb type 0) _ _ (λ e. metadata_is (eqb-true type 0 e))
      (λ _. on-pick Is (eqb type 1) _ _ (λ e. initialization-is (eqb-true type 1 e))
      (λ _. on-pick Is (eqb type 2) _ _ (λ e. string_is (eqb-true type 2 e))
      (λ _. on-pick Is (eqb type 3) _ _ (λ e. thread-is (eqb-true type 3 e))
      (λ _. skipped type (omega arith))))))

-- a record of type 2 is a string record, one of type 3 a thread record
pub content_string : (f : Format) (source : List ℕ) (place : ℕ) → field 0 3 (word_at f.order source 0) ≡ 2
    → content_of f source place ≡ string_of f source place
unfolding content_of layout_of event_layout is_event
content_string f source place e = rw e

pub content_thread : (f : Format) (source : List ℕ) (place : ℕ) → field 0 3 (word_at f.order source 0) ≡ 3
    → content_of f source place ≡ thread_of f source place
unfolding content_of layout_of event_layout is_event
content_thread f source place e = rw e

-- ---- where the content of a record stands, and what it costs

-- the bytes that a record needs for what stands in it; those of a record that is refused, ignored or skipped are not counted
abbrev pub content_bytes : Format → List ℕ → ℕ → Content → ℕ
content_bytes f source place (Refused number) = 0
content_bytes f source place Magic = 8
content_bytes f source place (ProviderInfo id at long) = 8 + 8 * stream_words long
content_bytes f source place (Section id) = 8
content_bytes f source place (ProviderEvent id event) = 8
content_bytes f source place (Initialization rate) = 16
content_bytes f source place (String index at long) = 8 + 8 * stream_words long
content_bytes f source place (Thread index at) = 24
content_bytes f source place (ReportRead r) =
    8 + 8 * (layout_of (word_at f.order source 0)).words + inline_bytes r.first.reference + inline_bytes r.second.reference
    + inline_bytes r.third.reference + inline_bytes r.stream + arguments_bytes (report_arguments f source place r)
    + 8 * (layout_of (word_at f.order source 0)).behind
content_bytes f source place Ignored = 0
content_bytes f source place (Skipped type size) = 0

-- a content shows places of its own record only, and needs no more bytes than its record has
abbrev ContentStands : Format → List ℕ → ℕ → Content → Type 0
ContentStands f source place c = ContentInside place (place + length source) c × (content_bytes f source place c ≤ length source)

is_stands : (f : Format) (source : List ℕ) (place : ℕ) → 8 ≤ length source → (c : Content) → ContentIs f source place c
    → ContentStands f source place c
is_stands f source place h _ (refused number n) = (tt, omega arith)
is_stands f source place h _ (magic e) = (tt, h)
is_stands f source place h _ (provider_info t k short room) = ((omega arith, omega (arith, room)), room)
is_stands f source place h _ (section t k) = (tt, h)
is_stands f source place h _ (provider_event t k) = (tt, h)
is_stands f source place h _ (initialization t room) = (tt, room)
is_stands f source place h _ (string t some low short room) = ((omega arith, omega (arith, room)), room)
is_stands f source place h _ (thread t some room) = ((omega arith, omega (arith, room)), room)
is_stands f source place h _ (report a b c s first at last list is) =
    let st = is.stand in
    let end = place + length source in (
      record {
        first = inside_wider place end a (omega arith) (omega arith) st.in_first;
        second = inside_wider place end b (omega arith) (omega arith) st.in_second;
        third = inside_wider place end c (omega arith) (omega arith) st.in_third;
        stream = inside_wider place end s (omega arith) (omega arith) st.in_stream;
        behind = omega (arith, st.starts);
        before = st.ends;
      },
      rw is.read (omega (arith, st.starts, is.fit.1, is.room)),
    )
is_stands f source place h _ ignored = (tt, omega arith)
is_stands f source place h _ (skipped type small) = (tt, omega arith)

-- the places that a record shows stand inside it
pub content_inside : (f : Format) (source : List ℕ) (place : ℕ) → 8 ≤ length source
    → ContentInside place (place + length source) (content_of f source place)
content_inside f source place h = (is_stands f source place h (content_of f source place) (content_is f source place h)).0

-- a record has the bytes that its content needs
pub content_pays : (f : Format) (source : List ℕ) (place : ℕ) → 8 ≤ length source
    → content_bytes f source place (content_of f source place) ≤ length source
content_pays f source place h = (is_stands f source place h (content_of f source place) (content_is f source place h)).1

-- ---- the record at a place

-- what is read of a record that is all there and has so many bytes
pub record RecordStands (f : Format) (archive : List ℕ) (place size : ℕ) (r : Record) : Type 0 where
  pub extent : extent_of f (drop place archive) ≡ Ok size
  pub next : r.next ≡ place + size
  pub whole : size % 8 ≡ 0
  pub some : 8 ≤ size
  pub inside : place + size ≤ length archive
  pub content : r.content ≡ content_of f (take size (drop place archive)) place
  pub shows : ContentInside place (place + size) r.content
  pub pays : content_bytes f (take size (drop place archive)) place r.content ≤ size

stands : (f : Format) (archive : List ℕ) (place size : ℕ) → extent_of f (drop place archive) ≡ Ok size
    → RecordStands f archive place size (record { content = content_of f (take size (drop place archive)) place; next = place + size })
stands f archive place size e =
    record {
      extent = e;
      next = refl;
      whole = omega (arith, w.is);
      some = w.some;
      inside = omega (arith, w.some, w.inside, length-drop place archive);
      content = refl;
      shows = rw l at (content_inside f source place (rw l w.some));
      pays = rw l at (content_pays f source place (rw l w.some));
    }
  where
    w : Whole f (drop place archive) size
    w = extent_read f (drop place archive) size e

    source : List ℕ
    source = take size (drop place archive)

    l : length source ≡ size
    l = length-take-le size (drop place archive) w.inside

-- a record that has an extent is read so
pub record_stands : (f : Format) (archive : List ℕ) (place size : ℕ) → extent_of f (drop place archive) ≡ Ok size
    → RecordStands f archive place size (record_at f archive place)
unfolding record_of
record_stands f archive place size e = rw e (stands f archive place size e)

-- what holds of a record that its extent refuses, and of every record that stands so, holds of the record at a place
pub on_record : (P : Record → Type 0) (f : Format) (archive : List ℕ) (place : ℕ)
    → ((number : ℕ) → P (record { content = Refused number; next = place }))
    → ((size : ℕ) → RecordStands f archive place size (record_at f archive place) → P (record_at f archive place))
    → P (record_at f archive place)
unfolding record_of
on_record P f archive place r g = go (extent_of f (drop place archive)) refl
  where
    go : (x : Result ℕ Reason) → extent_of f (drop place archive) ≡ x → P (record_at f archive place)
    go (Err reason) e = rw e (r (number_of reason))
    go (Ok size) e = g size (record_stands f archive place size e)

-- the record at a place is refused there, or stands so
pub record_read : (f : Format) (archive : List ℕ) (place : ℕ)
    → ((number : ℕ) × (record_at f archive place ≡ record { content = Refused number; next = place }))
    ⊎ ((size : ℕ) × RecordStands f archive place size (record_at f archive place))
record_read f archive place =
    on_record
    (λ r. ((number : ℕ) × (r ≡ record { content = Refused number; next = place })) ⊎ ((size : ℕ) × RecordStands f archive place size r))
    f archive place (λ number. inl (number, refl)) (λ size s. inr (size, s))

-- ---- the bytes that a record depends on

-- an extent depends on the bytes of its record alone, and on whether they are all there
pub extent_local : (f : Format) (a b : List ℕ) (size : ℕ) → extent_of f a ≡ Ok size → take size a ≡ take size b → extent_of f b ≡ Ok size
unfolding extent_of
extent_local f a b size e s =
    rw (
      le-ltb (length b) 8 (omega (arith, w.some, there)),
      ← word,
      ne_eqb n 0 (omega (arith, w.some, w.is)),
      le-ltb (length b) (8 * n) (omega (arith, w.is, there)),
    )
    (ap Ok (sym w.is))
  where
    w : Whole f a size
    w = extent_read f a size e

    n : ℕ
    n = record_words (word_at f.order a 0)

    there : size ≤ length b
    there = omega (arith, w.inside, length-take size a, length-take size b, ap length s)

    word : word_at f.order a 0 ≡ word_at f.order b 0
    word = sym (word_at-take f.order a 0 size w.some) ∙ (ap (λ (l : List ℕ). word_at f.order l 0) s ∙ word_at-take f.order b 0 size w.some)

rest_local : (f : Format) (a b : List ℕ) (place size : ℕ) → extent_of f a ≡ Ok size → take size a ≡ take size b
    → record_of f a place ≡ record_of f b place
unfolding record_of
rest_local f a b place size e s = rw (e, extent_local f a b size e s, s)

-- the record at a place depends on the bytes of that record alone, and on whether they are all there
pub record_local : (f : Format) (a b : List ℕ) (place size : ℕ) → extent_of f (drop place a) ≡ Ok size
    → take size (drop place a) ≡ take size (drop place b) → record_at f a place ≡ record_at f b place
record_local f a b place size e s = rest_local f (drop place a) (drop place b) place size e s

-- bytes behind a record change nothing of it
pub record_moved : (f : Format) (rest more : List ℕ) (place size : ℕ) → extent_of f rest ≡ Ok size
    → record_of f (rest ++ more) place ≡ record_of f rest place
record_moved f rest more place size e =
    sym (rest_local f rest (rest ++ more) place size e (sym (take-append-le size rest more (extent_read f rest size e).inside)))
