-- Every item that is read of an archive of bytes, where nothing is lost and no reference is unresolved, has values that fit their fields, and suits
-- the contexts that it is read in.
-- Assumes nothing.
use Prim.Native.Nat.{ℕ, ◌*◌, zero, suc, ◌+◌, ◌-◌, ◌%◌, ◌^◌, ◌≤◌, ◌<◌}
use mathlib.Core.Logic.{◌⊎◌, inl, inr}
use mathlib.Core.Path.{◌≡◌, refl, sym, ap, ◌∙◌}
use mathlib.Core.List.{[], List, ◌∷◌}
use mathlib.Core.Bool.{true, false, ◌&&◌, ◌||◌, true≢false}
use mathlib.Core.Option.{Option, none, some}
use Rattle.std.specs.Prelude.{Some, None, is_some, Result, Ok, Err}
use Rattle.std.specs.Prelude as code
use native.Mathlib.Omega.{arith}
use borrow.Author.Tests.{eqb-false, le-leb}
use lib.Dec.{eqb, leb, ltb}
use lib.ListN.{length, get_or, take, drop, length-take, length-drop}
use Rattle.effects.specs.Follow.{changed, followed, change_of}
use Rattle.reader.proofs.Changes.{entering_as, showing, entering_decided}
use Rattle.words.specs.Word.{pick, word_at}
use Rattle.words.proofs.Words.{AllBytes, bytes_left, bytes_before, word_at_lt}
use Rattle.words.proofs.Tests.{both_true, either_false, on-pick, cases}
use Rattle.format.specs.declared.Format.{Format}
use Rattle.format.specs.declared.Reference.{Reference}
use Rattle.format.specs.declared.Reference.TheVariants.{Inline, Index}
use Rattle.format.specs.Part.{padding_zero}
use Rattle.format.specs.Models.Bounds.{Inside}
use Rattle.arguments.specs.declared.Value.{Value as ReadValue}
use Rattle.arguments.specs.declared.Value.TheVariants.{Scalar as ScalarValue, Text as TextValue}
use Rattle.arguments.specs.declared.Argument.{Argument as ReadArgument}
use Rattle.arguments.specs.declared.Argued.{Argued}
use Rattle.format.specs.declared.Reason.{Reason}
use Rattle.arguments.specs.Argument.{on_argued, numbered_of}
use Rattle.arguments.specs.Loss.{arguments_keep}
use Rattle.records.specs.declared.Lookup.{Lookup}
use Rattle.records.specs.declared.Report.{Report as ReadReport}
use Rattle.records.specs.declared.Content.{Content}
use Rattle.records.specs.declared.Content.TheVariants.{Refused as ContentRefused, Magic, ProviderInfo, Section, ProviderEvent, Initialization, String, Thread as ThreadContent, Report as ReportRead, Ignored, Skipped}
use Rattle.records.specs.Layout.{layout_of}
use Rattle.records.specs.Record.{record_at}
use Rattle.records.specs.Loss.{report_keeps, record_keeps}
use Rattle.records.specs.Models.Bounds.{ReportInside}
use Rattle.records.specs.Item.{known, Argument, Item, provider_info, section, Referent, text_referent, is_unresolved, value_unresolved, arguments_unresolved, referent_unresolved, own_layout, last_words}
use Rattle.contexts.specs.declared.State.{State}
use Rattle.contexts.specs.Context.{moved, entering}
use Rattle.tables.specs.declared.Resolved.{Resolved}
use Rattle.tables.specs.declared.Resolved.TheVariants.{Bad, Known, Unresolved}
use Rattle.tables.specs.Table.{highest_of, position, registration_of, on_registration, entry_at, resolved}
use Rattle.views.specs.declared.ShownArgument.{ShownArgument}
use Rattle.std.specs.Prelude.{Ok}
use Rattle.format.specs.Limits.{refused_at}
use Rattle.reader.specs.declared.Answer.{Answer}
use Rattle.reader.specs.declared.Answer.TheVariants.{ProviderInfo as ProviderInfoShown, Section as SectionShown, Report as ReportShown}
use Rattle.effects.specs.declared.Change.TheVariants.{Keep}
use Rattle.reader.specs.Step.{Decision}
use Rattle.views.specs.Shown.{shown_text, shown_thread, shown_value, shown_report, shown_referent, shown_stream, none_bad}
use Rattle.reader.specs.Step.{opening_number, stopping, content_decision, decision_of, effect_decision, plain_answer}
use Rattle.reader.specs.Ask.{shown_argument, argument_reply}
use Rattle.reader.specs.Reads.{text_item, thread_item, provider_item, value_item, argument_item, prepend, argument_items, report_item, item_of, referent_item, stream_item}
use Rattle.reader.proofs.ByItems.{contexts_of}
use Rattle.views.proofs.Lookups.{record_whole, ReportFits, report-fits, part-behind}
use Rattle.reader.proofs.Runs.{Sound, step_sound}
use Rattle.records.specs.Lookups.{argument_lookups}
use Rattle.records.specs.Effect.{effect_of}
use Rattle.words.specs.Stream.{part_of}
use Rattle.rule.specs.Refusal.{keeps_at, item_unresolved}
use Rattle.arguments.proofs.Bounds.{TextShort, ValueBound, ArgumentBound, ArguedBound, number_bound}
use Rattle.records.proofs.Bounds.{Empty, LookupEmpty, ReportBound, length_of, AllWords, own-words_fit, ContentBound, record_bound}
use Rattle.encoding.specs.Models.Part.{referent_table}
use Rattle.rule.proofs.LowerUses.{part_length}
use Rattle.rule.proofs.Events.{asked_is}
use Rattle.rule.proofs.Items.{ItemSuits, shown_at, report_decided, ninth_same, provider-moved, decision_is, end_is}
use Rattle.rule.proofs.Plain.{TextPlain, ThreadPlain, ValuePlain, ArgumentsPlain, ItemPlain, ReferentPlain}

-- ---- references

-- bytes that a reference stands for are short enough
abbrev KnownShort : Format → Resolved → Type 0
KnownShort f Bad = Unit {0}
KnownShort f (Known place long) = long ≤ f.longest
KnownShort f (Unresolved index) = Unit {0}

entry_short : (f : Format) (archive : List ℕ) (index entry until : ℕ) → AllBytes archive → KnownShort f (entry_at f archive 2 index entry until)
unfolding entry_at registration_of effect_of
entry_short f archive index entry until bytes =
    on-pick (KnownShort f) (eqb (entry % 8) 0) _ _
    (λ e. on-pick (KnownShort f) (ltb until (record_at f archive entry).next) _ _ (λ e. tt)
    (λ e. of_content (record_at f archive entry).content (record_bound f archive entry bytes)))
    (λ e. tt)
  where
    of_entry : ℕ → ℕ → ℕ → ℕ → Resolved
    of_entry k i place long = pick (eqb k 2) (pick (eqb i index) (Known place long) Bad) Bad

    of_content : (c : Content) → ContentBound f c → KnownShort f (on_registration (registration_of c) Bad of_entry)
    of_content (ContentRefused number) h = tt
    of_content Magic h = tt
    of_content (ProviderInfo id at long) h = tt
    of_content (Section id) h = tt
    of_content (ProviderEvent id e) h = tt
    of_content (Initialization rate) h = tt
    of_content (String i at long) h = on-pick (KnownShort f) (eqb i index) _ _ (λ e. h) (λ e. tt)
    of_content (ThreadContent i at) h = tt
    of_content (ReportRead e) h = tt
    of_content Ignored h = tt
    of_content (Skipped type size) h = tt

resolved-short : (f : Format) (archive tables : List ℕ) (context until : ℕ) (r : Reference) → AllBytes archive → TextShort f r
    → KnownShort f (resolved f archive tables context 2 until r)
unfolding resolved
resolved-short f archive tables context until (Inline place long) bytes h = h
resolved-short f archive tables context until (Index index) bytes h =
    on-pick (KnownShort f) (ltb (highest_of f 2) index) _ _ (λ e. tt)
    (λ e. on-pick (KnownShort f) (eqb (get_or tables (position f context 2 index) 0) 0) _ _ (λ e. tt)
    (λ e. entry_short f archive index (get_or tables (position f context 2 index) 0) until bytes))

-- so a text that is shown, and not unresolved, is
text-plain : (f : Format) (archive : List ℕ) (r : Resolved) → KnownShort f r → is_unresolved (text_item archive (shown_text r)) ≡ false
    → TextPlain f (text_item archive (shown_text r))
unfolding shown_text
text-plain f archive Bad h e = true≢false e
text-plain f archive (Known place long) h e = omega (arith, part_length archive place long)
text-plain f archive (Unresolved index) h e = true≢false e

thread-plain : (f : Format) (archive : List ℕ) (r : Resolved) → AllBytes archive → is_unresolved (thread_item (shown_thread f archive r)) ≡ false
    → ThreadPlain (thread_item (shown_thread f archive r))
unfolding shown_thread
thread-plain f archive Bad bytes e = true≢false e
thread-plain f archive (Known place long) bytes e = (word_at_lt f.order archive place bytes, word_at_lt f.order archive (place + 8) bytes)
thread-plain f archive (Unresolved index) bytes e = true≢false e

-- and so is what a record refers to
referent_plain : (f : Format) (archive tables : List ℕ) (context until table : ℕ) (r : Reference) → AllBytes archive → (table ≡ 2) ⊎ (table ≡ 3)
    → (table ≡ 2 → TextShort f r) → referent_unresolved (referent_item archive (shown_referent f archive table (resolved f archive tables context table until r))) ≡ false
    → ReferentPlain f (referent_item archive (shown_referent f archive table (resolved f archive tables context table until r)))
    × (referent_table (referent_item archive (shown_referent f archive table (resolved f archive tables context table until r))) ≡ table)
unfolding shown_referent
referent_plain f archive tables context until table r bytes (inl e) short =
    rw e (λ u. (text-plain f archive (resolved f archive tables context 2 until r) (resolved-short f archive tables context until r bytes (short e)) u, refl))
referent_plain f archive tables context until table r bytes (inr e) short =
    rw e (λ u. (thread-plain f archive (resolved f archive tables context 3 until r) bytes u, refl))

-- a stream that stands in the archive is as long as it says
stream-long : (archive : List ℕ) (from to : ℕ) (x : Reference) → Inside from to x → to ≤ length archive
    → length (stream_item archive (shown_stream x)) ≡ length_of x
unfolding shown_stream part_of
stream-long archive from to (Inline place n) i l =
    rw (le-leb place (length archive) (omega (arith, i.1)), le-leb n (length archive - place) (omega (arith, i.1)))
    (omega (arith, length-take n (drop place archive), length-drop place archive, i.1))
stream-long archive from to (Index index) i l = omega (arith, part_length archive 0 0)

value-plain : (f : Format) (archive tables : List ℕ) (context until : ℕ) (v : ReadValue) → AllBytes archive → ValueBound f v
    → value_unresolved (value_item archive (shown_value f archive tables context until v)) ≡ false
    → ValuePlain f (value_item archive (shown_value f archive tables context until v))
unfolding shown_value
value-plain f archive tables context until (ScalarValue s) bytes h e = h
value-plain f archive tables context until (TextValue r) bytes h e =
    text-plain f archive (resolved f archive tables context 2 until r) (resolved-short f archive tables context until r bytes h) e

-- ---- arguments

-- arguments that were asked for are so many, and plain where none is unresolved
abbrev ArgumentsGood : Format → ℕ → Option (List Argument) → Type 0
ArgumentsGood f count none = Unit {0}
ArgumentsGood f count (some l) = (length l ≡ count) × (arguments_unresolved l ≡ false → ArgumentsPlain f l)

module _ (f : Format) (archive tables : List ℕ) (s : State) (bytes : AllBytes archive) (place total first : ℕ) (part : List ℕ)
    (asks : (n : ℕ) → n < total
    → argument_reply f archive tables s place n
    ≡ on_argued (numbered_of f n part first) (λ refused. refused_at 4 s.place) (λ a size. shown_argument f archive tables s a))
    (bounds : (n : ℕ) → n < total → ArguedBound f (numbered_of f n part first)) where
  shown_good : (count : ℕ) (a : ReadArgument) → ArgumentBound f a → (l : Option (List Argument)) → ArgumentsGood f count l
      → ArgumentsGood f (suc count) (prepend archive (shown_argument f archive tables s a) l)
  unfolding shown_argument
  shown_good count a h l k =
      on-pick (λ x. ArgumentsGood f (suc count) (prepend archive x l))
      (none_bad f archive tables s.current s.place (argument_lookups (a ∷ []))) _ _ (λ e. of_rest l k) (λ e. tt)
    where
      q : ShownArgument
      q = record {
        name = shown_text (resolved f archive tables s.current 2 s.place a.name);
        value = shown_value f archive tables s.current s.place a.value;
      }

      of_rest : (l : Option (List Argument)) → ArgumentsGood f count l → ArgumentsGood f (suc count) (prepend archive (Ok q) l)
      of_rest none k = tt
      of_rest (some l) k = (
        ap suc k.0,
        λ e.
            let first = either_false (is_unresolved (argument_item archive q).name) (value_unresolved (argument_item archive q).value || arguments_unresolved l) e in
            let second = either_false (value_unresolved (argument_item archive q).value) (arguments_unresolved l) first.1 in (
              text-plain f archive (resolved f archive tables s.current 2 s.place a.name)
                  (resolved-short f archive tables s.current s.place a.name bytes h.name) first.0,
              value-plain f archive tables s.current s.place a.value bytes h.value second.0,
              k.1 second.1,
            ),
      )

  arguments_good : (count number : ℕ) → number + count ≤ total → ArgumentsGood f count (argument_items f archive tables s place number count)
  unfolding argument_items
  arguments_good zero number low = (refl, λ e. tt)
  arguments_good (suc count) number low =
      rw (asks number (omega arith))
      (of_number (numbered_of f number part first) (bounds number (omega arith)) (argument_items f archive tables s place (suc number) count)
      (arguments_good count (suc number) (omega arith)))
    where
      of_number : (x : Result Argued Reason) → ArguedBound f x → (l : Option (List Argument)) → ArgumentsGood f count l
          → ArgumentsGood f (suc count)
          (prepend archive (on_argued x (λ refused. refused_at 4 s.place) (λ a size. shown_argument f archive tables s a)) l)
      of_number (Err reason) h l k = tt
      of_number (Ok read) h l k = shown_good count read.argument h l k

-- ---- events

-- no bytes of an archive are none
part_empty : (archive : List ℕ) (place : ℕ) → part_of archive place 0 ≡ []
unfolding part_of
part_empty archive place =
    on-pick (λ b. b ≡ []) (leb place (length archive)) (pick (leb 0 (length archive - place)) (take 0 (drop place archive)) []) []
    (λ e. on-pick (λ b. b ≡ []) (leb 0 (length archive - place)) (take 0 (drop place archive)) [] (λ q. refl) (λ q. refl)) (λ e. refl)

-- what a kind does not refer to is shown as the empty text
referent_empty : (f : Format) (archive tables : List ℕ) (context until : ℕ) (l : Lookup) → LookupEmpty l
    → referent_item archive (shown_referent f archive l.table (resolved f archive tables context l.table until l.reference)) ≡ text_referent (known [])
unfolding shown_referent shown_text resolved
referent_empty f archive tables context until l h = rw h.0 (of_reference l.reference h.1)
  where
    of_reference : (x : Reference) → Empty x
        → text_referent (text_item archive (shown_text (resolved f archive tables context 2 until x))) ≡ text_referent (known [])
    of_reference (Inline place n) e = rw (e, part_empty archive place)
    of_reference (Index i) e = absurd e

-- the word behind the arguments, if there is one, is a word
last_small : (behind last : ℕ) → last < 256 ^ 8 → AllWords (last_words behind last)
last_small behind last h = on-pick AllWords (eqb behind 0) _ _ (λ e. tt) (λ e. (h, tt))

-- an item that is shown, and not unresolved, suits its contexts and is plain
abbrev pub GoodItem : Format → State → Option Item → Type 0
GoodItem f c none = Unit {0}
GoodItem f c (some i) = item_unresolved (some i) ≡ false → ItemSuits c i × ItemPlain f i

module _ (f : Format) (archive tables : List ℕ) (s : State) (opens : opening_number f archive (length tables) ≡ 0) (sound : Sound f archive s tables)
    (bytes : AllBytes archive) (q : ReadReport) (next : ℕ)
    (is : record_at f archive s.place ≡ record { content = ReportRead q; next = next }) (bound : ReportBound f q)
    (keeps : report_keeps f (take (next - s.place) (drop s.place archive)) s.place q ≡ true)
    (decided : decision_of f archive tables s ≡ showing s (ReportShown (shown_at f archive tables s q)) next) where
  abbrev part : List ℕ
  part = take (next - q.arguments) (drop q.arguments archive)

  later : Sound f archive (moved s next) tables
  unfolding changed
  later = rw decided at (step_sound f archive tables s sound)

  inside : ReportInside s.place next q
  inside = rw is at (record_whole f archive s.place).inside

  low : next ≤ length archive
  low = let h = (record_whole f archive s.place).before sound.before in rw is at h

  fits : ReportFits f (take ((record_at f archive s.place).next - s.place) (drop s.place archive)) s.place q
  fits = report-fits f archive s.place q (ap (λ x. x.content) is)

  abbrev behind : ℕ
  behind = 8 * (layout_of (word_at f.order (take (next - s.place) (drop s.place archive)) 0)).behind

  kept : arguments_keep f q.count part q.arguments behind ≡ true
  unfolding report_keeps
  kept =
      let source = take (next - s.place) (drop s.place archive) in
      let tail = arguments_keep f q.count (drop (q.arguments - s.place) source) q.arguments behind in
      let one = padding_zero source s.place q.first.reference in
      let two = padding_zero source s.place q.second.reference in
      let three = padding_zero source s.place q.third.reference in
      let stream = padding_zero source s.place q.stream in
      let k0 = both_true (eqb (layout_of (word_at f.order source 0)).reserved 0) (one && (two && (three && (stream && tail)))) keeps in
      let k1 = both_true one (two && (three && (stream && tail))) k0.1 in
      let k2 = both_true two (three && (stream && tail)) k1.1 in
      let k3 = both_true three (stream && tail) k2.1 in
      rw (part-behind archive s.place q.arguments next inside.behind) at (both_true stream tail k3.1).1

  abbrev shown_in : Lookup → Referent
  shown_in x = referent_item archive (shown_referent f archive x.table (resolved f archive tables s.current x.table s.place x.reference))

  report_good_lem : GoodItem f (contexts_of s) (item_of f archive tables (moved s next) (ReportShown (shown_at f archive tables s q)))
  unfolding item_of shown_report
  report_good_lem =
      of_arguments (argument_items f archive tables (moved s next) s.place 0 q.count)
      (arguments_good f archive tables (moved s next) bytes s.place q.count q.arguments part
      (λ n low. asked_is f archive tables (moved s next) s.place n q later opens sound.whole is low)
      (λ n low. number_bound f n q.count part q.arguments behind
      (bytes_before (next - q.arguments) (drop q.arguments archive) (bytes_left q.arguments archive bytes)) low kept)
      q.count 0 (omega arith))
    where
      of_arguments : (l : Option (List Argument)) → ArgumentsGood f q.count l
          → GoodItem f (contexts_of s) (report_item archive (shown_at f archive tables s q) l)
      of_arguments none k = tt
      of_arguments (some l) k = λ e.
          let long = stream-long archive s.place next q.stream inside.stream low in
          let a = shown_in q.first in
          let b = shown_in q.second in
          let c = shown_in q.third in
          let e1 = either_false (referent_unresolved a) (referent_unresolved b || (referent_unresolved c || arguments_unresolved l)) e in
          let e2 = either_false (referent_unresolved b) (referent_unresolved c || arguments_unresolved l) e1.1 in
          let e3 = either_false (referent_unresolved c) (arguments_unresolved l) e2.1 in
          let x = referent_plain f archive tables s.current s.place q.first.table q.first.reference bytes fits.first.table bound.first e1.0 in
          let y = referent_plain f archive tables s.current s.place q.second.table q.second.reference bytes fits.second.table bound.second e2.0 in
          let z = referent_plain f archive tables s.current s.place q.third.table q.third.reference bytes fits.third.table bound.third e3.0 in (
            (ap provider_item (sym (provider-moved s)), refl),
            record {
              suits = record {
                own = rw (x.1, y.1, z.1, long, k.0) bound.suits;
                absent = record {
                  no_first = λ h. referent_empty f archive tables s.current s.place q.first (bound.absent.no_first h);
                  no_second = λ h. referent_empty f archive tables s.current s.place q.second (bound.absent.no_second h);
                  no_third = λ h. referent_empty f archive tables s.current s.place q.third (bound.absent.no_third h);
                };
                no_last = bound.no_last;
              };
              pieces = (own-words_fit q.own _ _ _ _ _ bound.suits, (x.0, (y.0, (z.0, (omega (arith, long, bound.stream), tt)))));
              arguments = k.1 e3.1;
              last = last_small (own_layout q.own).behind q.last bound.last;
            },
          )

-- ---- every step

-- what a step shows is good
abbrev pub StepGood : Format → List ℕ → List ℕ → State → Decision → Type 0
StepGood f archive tables s d = GoodItem f (contexts_of s) (item_of f archive (changed tables d.change) d.state d.answer)

module _ (f : Format) (archive tables : List ℕ) (s : State) (opens : opening_number f archive (length tables) ≡ 0) (sound : Sound f archive s tables)
    (bytes : AllBytes archive) where
  abbrev next : ℕ
  next = (record_at f archive s.place).next

  abbrev source : List ℕ
  source = take (next - s.place) (drop s.place archive)

  -- a step that ends shows nothing
  stop_good : (number place : ℕ) → StepGood f archive tables s (stopping s number place)
  unfolding stopping item_of
  stop_good number place = tt

  -- an id that is made current
  enter_good : (id : ℕ) (answer : Answer) (i : Item) → ((t : List ℕ) (z : State) → item_of f archive t z answer ≡ some i)
      → (is_some (entering (contexts_of s) id 0) ≡ true → ItemSuits (contexts_of s) i × ItemPlain f i)
      → StepGood f archive tables s (entering_as s (entering s id next) answer)
  unfolding entering_as
  enter_good id answer i shows good = go (entering s id next) refl
    where
      go : (e : code.Option State) → entering s id next ≡ e → StepGood f archive tables s (entering_as s e answer)
      go (Some t) e = rw (shows (changed tables Keep) t) (λ u. good (ninth_same s id next ∙ ap is_some e))
      go None e = stop_good 9 s.place

  content_good : (c : Content) → record_at f archive s.place ≡ record { content = c; next = next } → ContentBound f c
      → record_keeps f source s.place c ≡ true → decision_of f archive tables s ≡ content_decision f archive tables s c next
      → StepGood f archive tables s (content_decision f archive tables s c next)
  unfolding content_decision effect_decision plain_answer none_bad followed change_of effect_of record_keeps item_of changed
  content_good (ContentRefused number) is b k d = absurd (true≢false (sym k))
  content_good Magic is b k d = λ u. (tt, record { suits = tt; pieces = tt; arguments = tt; last = tt })
  content_good (ProviderInfo id at long) is b k d =
      rw (entering_decided f s id next (ProviderInfoShown id at long))
      (enter_good id (ProviderInfoShown id at long) (provider_info id (part_of archive at long)) (λ t z. refl)
      (λ n. (
        n,
        record {
          suits = (b.0, omega (arith, part_length archive at long, b.1));
          pieces = (omega (arith, part_length archive at long, b.2), tt);
          arguments = tt;
          last = tt;
        },
      )))
  content_good (Section id) is b k d =
      rw (entering_decided f s id next (SectionShown id))
      (enter_good id (SectionShown id) (section id) (λ t z. refl) (λ n. (n, record { suits = b; pieces = tt; arguments = tt; last = tt })))
  content_good (ProviderEvent id e) is b k d = λ u. (tt, record { suits = b; pieces = tt; arguments = tt; last = tt })
  content_good (Initialization rate) is b k d = λ u. (tt, record { suits = tt; pieces = ((b, tt), tt); arguments = tt; last = tt })
  content_good (String index at long) is b k d = tt
  content_good (ThreadContent index at) is b k d = tt
  content_good (ReportRead q) is b k d =
      let decided = report_decided f archive tables s q next sound (ap (λ x. x.content) is) d in
      rw (sym d ∙ decided) (report_good_lem f archive tables s opens sound bytes q next is b k decided)
  content_good Ignored is b k d = tt
  content_good (Skipped type size) is b k d = absurd (true≢false (sym k))

  -- what every step of a sound run shows over a record that loses nothing is good
  pub step_good : keeps_at f archive s.place ≡ true → StepGood f archive tables s (decision_of f archive tables s)
  step_good k =
      cases (eqb s.place (length archive)) (λ e. rw (end_is f archive tables s opens sound e) (stop_good 0 s.place))
      (λ e.
      let c = (record_at f archive s.place).content in
      let d = decision_is f archive tables s c next opens sound (eqb-false s.place (length archive) e) refl in
      rw d (content_good c refl (record_bound f archive s.place bytes) k d))
