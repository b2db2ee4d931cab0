-- One step over an item's record as the rule writes it shows that item, and leaves the tables as they are.
-- Assumes nothing.
use Prim.Native.Nat.{ℕ, ◌+◌, ◌-◌, ◌≤◌}
use mathlib.Core.Path.{◌≡◌, refl, sym, ap, ◌∙◌}
use mathlib.Core.List.{List}
use mathlib.Core.Bool.{Bool, true, false, true≢false}
use mathlib.Core.Option.{none, some}
use native.Mathlib.Omega.{arith}
use native.Mathlib.Nat.{zero-add}
use borrow.Author.Tests.{eq-eqb, ne_eqb}
use lib.Dec.{eqb}
use lib.ListN.{length, take, drop, length-append, length-drop}
use lib.Seq.{take-append_seam}
use Rattle.effects.specs.Follow.{changed, followed, change_of}
use Rattle.reader.proofs.Changes.{entering_as, showing, entering_decided}
use Rattle.words.specs.Word.{pick}
use Rattle.words.proofs.Words.{At, at_left}
use Rattle.format.specs.declared.Format.{Format}
use Rattle.records.specs.declared.Report.{Report as ReadReport}
use Rattle.records.specs.declared.Content.{Content}
use Rattle.records.specs.declared.Content.TheVariants.{Magic, ProviderInfo, Section, ProviderEvent, Initialization, Report as ReportRead}
use Rattle.records.specs.Record.{content_of, record_at}
use Rattle.records.specs.Item.{Report, own_layout, last_words, Item, magic, provider_info, section, provider_event, initialization, report, skipped, ItemLayout, report_layout, layout_of_item, item_provider, Key}
use Rattle.encoding.specs.Encoded.{parts_bytes, words_bytes, arguments_records, encoded_pieces, layout_record, item_record}
use Rattle.encoding.proofs.EncodedArguments.{all_sized, arguments-spelled}
use Rattle.encoding.proofs.EncodedLayouts.{PiecesFit, ItemFits, behind_pieces, behind_at, pieces-spelled, length_all}
use Rattle.encoding.proofs.EncodedReports.{report_record, report_at, report_content, report_read_lem}
use Rattle.encoding.proofs.EncodedItems.{item_long, item_stands, magic_read, provider_info_read, section_read, provider_event_read, initialization_read}
use Rattle.contexts.specs.declared.State.{State}
use Rattle.std.specs.Prelude.{Option, Some, None, is_some}
use Rattle.contexts.specs.Context.{provider_of, rate_of, find_id, moved, in_context, with_id, on_found, entering}
use Rattle.contexts.proofs.Contexts.{entered_belongs}
use Rattle.tables.specs.Table.{resolved}
use Rattle.reader.specs.declared.Answer.{Answer}
use Rattle.reader.specs.declared.Answer.TheVariants.{ProviderInfo as ProviderInfoShown, Section as SectionShown, Report as ReportShown}
use Rattle.views.specs.declared.ShownReport.{ShownReport}
use Rattle.views.proofs.Lookups.{report-fits}
use Rattle.reader.specs.Step.{Decision}
use Rattle.views.specs.Shown.{shown_report, none_bad}
use Rattle.reader.specs.Step.{opening_number, stopping, content_decision, place_decision, decision_of, effect_decision, plain_answer, report_answer}
use Rattle.reader.specs.Reads.{provider_item, item_of, argument_items}
use Rattle.reader.proofs.ByItems.{contexts_of}
use Rattle.reader.proofs.NeverFour.{sound_belongs, none_bad_lem, argument_tables}
use Rattle.reader.proofs.Runs.{Sound, Grown, step_sound, step_grows}
use Rattle.records.specs.Effect.{effect_of}
use Rattle.records.specs.Lookups.{report_lookups, arguments_to}
use Rattle.rule.specs.Rule.{Entry, index_in}
use Rattle.rule.proofs.Tables.{Every}
use Rattle.rule.proofs.Entries.{ContextIs, suits_context, context_later, Standing, stand_later}
use Rattle.rule.proofs.References.{part-is, referent_shown_lem, stream_shown}
use Rattle.rule.proofs.Events.{asked_is, arguments_shown}

-- ---- what can be shown

-- an item that can be shown with these contexts and rates: no ninth id, and an event of the current provider at the rate in force
abbrev pub ItemSuits : State → Item → Type 0
ItemSuits c magic = Unit {0}
ItemSuits c (provider_info id name) = is_some (entering c id 0) ≡ true
ItemSuits c (section id) = is_some (entering c id 0) ≡ true
ItemSuits c (provider_event id e) = Unit {0}
ItemSuits c (initialization rate) = Unit {0}
ItemSuits c (report e) = (provider_item (provider_of c) ≡ e.provider) × (rate_of c ≡ e.rate)
ItemSuits c (skipped type size) = Unit {0}

-- ---- what a step does at a record

-- a step past the first checks, from a sound state that is not at the end, does what the record there says
pub decision_is : (f : Format) (archive tables : List ℕ) (s : State) (c : Content) (next : ℕ) → opening_number f archive (length tables) ≡ 0
    → Sound f archive s tables → (s.place ≡ length archive → ⊥) → record_at f archive s.place ≡ record { content = c; next = next }
    → decision_of f archive tables s ≡ content_decision f archive tables s c next
unfolding decision_of place_decision
decision_is f archive tables s c next opens sound more is =
    rw (
      eq-eqb (opening_number f archive (length tables)) 0 opens,
      sound_belongs f archive tables s sound,
      ne_eqb s.place (length archive) more,
      is,
    )

-- and at the end it replies 0
pub end_is : (f : Format) (archive tables : List ℕ) (s : State) → opening_number f archive (length tables) ≡ 0 → Sound f archive s tables
    → eqb s.place (length archive) ≡ true → decision_of f archive tables s ≡ stopping s 0 s.place
unfolding decision_of place_decision
end_is f archive tables s opens sound e = rw (eq-eqb (opening_number f archive (length tables)) 0 opens, sound_belongs f archive tables s sound, e)

-- a list that stands at a place, and is not empty, ends behind it
pub not_end : (archive : List ℕ) (place : ℕ) (l : List ℕ) → At archive place l → 8 ≤ length l → place ≡ length archive → ⊥
not_end archive place l at h e =
    omega (arith, ap length at.1, length-drop place archive, length-append l at.0, h, e)

-- a step shows an item, stands behind its record, and keeps the tables
pub record ShownAs (f : Format) (archive tables : List ℕ) (i : Item) (next : ℕ) (d : Decision) : Type 0 where
  pub keeps : changed tables d.change ≡ tables
  pub place : d.state.place ≡ next
  pub item : item_of f archive tables d.state d.answer ≡ some i

-- ---- items but events

-- whether an id is a ninth does not depend on the place
pub ninth_same : (s : State) (id next : ℕ) → is_some (entering (contexts_of s) id 0) ≡ is_some (entering s id next)
unfolding entering
ninth_same s id next = go (find_id s.ids s.count id) (eqb s.count 8)
  where
    entered : State → ℕ → Option ℕ → Bool → Option State
    entered t place x full =
        on_found x (λ i. Some (in_context t (i + 1) place)) (pick full None (Some (with_id t id place)))

    go : (x : Option ℕ) (full : Bool) → is_some (entered (contexts_of s) 0 x full) ≡ is_some (entered s next x full)
    go (Some i) full = refl
    go None true = refl
    go None false = refl

module _ (f : Format) (archive tables : List ℕ) (s : State) (sound : Sound f archive s tables) where
  -- an id that is no ninth is made current
  entering_shown : (id next : ℕ) (answer : Answer) (i : Item) → is_some (entering (contexts_of s) id 0) ≡ true
      → ((t : State) → item_of f archive tables t answer ≡ some i)
      → ShownAs f archive tables i next (entering_as s (entering s id next) answer)
  unfolding entering_as changed
  entering_shown id next answer i no-ninth item =
      go (entering s id next) refl (sym (ninth_same s id next) ∙ no-ninth)
    where
      go : (e : Option State) → entering s id next ≡ e → is_some e ≡ true → ShownAs f archive tables i next (entering_as s e answer)
      go (Some t) e z =
          record { keeps = refl; place = (entered_belongs s id next t sound.count sound.eight e).place_is; item = item t }
      go None e z = absurd (true≢false (sym z))

  provider_info_shown : (index : Key → ℕ) (id : ℕ) (name : List ℕ) → PiecesFit f index (layout_of_item (provider_info id name)).pieces → is_some (entering (contexts_of s) id 0) ≡ true
      → At archive s.place (item_record f index (provider_info id name)) → (next : ℕ)
      → ShownAs f archive tables (provider_info id name) next (content_decision f archive tables s (ProviderInfo id (s.place + 8) (length name)) next)
  unfolding content_decision none_bad plain_answer effect_of item_of
  provider_info_shown index id name fit no-ninth at next =
      let spelled = pieces-spelled f index (layout_of_item (provider_info id name)) archive s.place fit at in
      let is = part-is archive (s.place + 8) (length name) name refl spelled.0.1 in
      let shown = ProviderInfoShown id (s.place + 8) (length name) in
      rw (entering_decided f s id next shown) (entering_shown id next shown (provider_info id name) no-ninth (λ t. rw is))

  section_shown : (id : ℕ) → is_some (entering (contexts_of s) id 0) ≡ true → (next : ℕ)
      → ShownAs f archive tables (section id) next (content_decision f archive tables s (Section id) next)
  unfolding content_decision none_bad plain_answer effect_of item_of
  section_shown id no-ninth next =
      rw (entering_decided f s id next (SectionShown id)) (entering_shown id next (SectionShown id) (section id) no-ninth (λ t. refl))

  plain_shown : (next : ℕ)
      → ShownAs f archive tables magic next (content_decision f archive tables s Magic next)
      × ((id e : ℕ) → ShownAs f archive tables (provider_event id e) next (content_decision f archive tables s (ProviderEvent id e) next))
      × ((rate : ℕ) → ShownAs f archive tables (initialization rate) next (content_decision f archive tables s (Initialization rate) next))
  unfolding content_decision effect_decision plain_answer none_bad followed change_of effect_of item_of changed
  plain_shown next = (
    record { keeps = refl; place = refl; item = refl },
    λ id e. record { keeps = refl; place = refl; item = refl },
    λ rate. record { keeps = refl; place = refl; item = refl },
  )

-- ---- events

-- the provider does not depend on the place
pub provider-moved : (s : State) → provider_of s ≡ provider_of (contexts_of s)
unfolding provider_of
provider-moved s = refl

-- the event that a step shows
abbrev pub shown_at : Format → List ℕ → List ℕ → State → ReadReport → ShownReport
shown_at f archive tables s q =
    shown_report f archive s q (resolved f archive tables s.current q.first.table s.place q.first.reference)
    (resolved f archive tables s.current q.second.table s.place q.second.reference)
    (resolved f archive tables s.current q.third.table s.place q.third.reference)

-- a step at such a record shows it, since from a sound state no step gives number 4
pub report_decided : (f : Format) (archive tables : List ℕ) (s : State) (q : ReadReport) (next : ℕ) → Sound f archive s tables
    → (record_at f archive s.place).content ≡ ReportRead q → decision_of f archive tables s ≡ content_decision f archive tables s (ReportRead q) next
    → decision_of f archive tables s ≡ showing s (ReportShown (shown_at f archive tables s q)) next
unfolding content_decision effect_decision report_answer followed change_of effect_of
report_decided f archive tables s q next sound k is =
    let fits = report-fits f archive s.place q k in
    is ∙ rw (none_bad_lem f archive tables s (report_lookups f archive q next) sound
    (fits.first.table, (fits.second.table, (fits.third.table, argument_tables (arguments_to f archive q next)))))

-- what is left of a record behind its pieces
layout_part : (f : Format) (index : Key → ℕ) (l : ItemLayout) (archive : List ℕ) (place : ℕ) → At archive place (layout_record f index l)
    → take (place + length (layout_record f index l) - (place + 8 + length (parts_bytes f (encoded_pieces index l.pieces))))
    (drop (place + 8 + length (parts_bytes f (encoded_pieces index l.pieces))) archive)
    ≡ behind_pieces f index l
layout_part f index l archive place at =
    let first = place + 8 + length (parts_bytes f (encoded_pieces index l.pieces)) in
    let there = behind_at f index l archive place at in
    let left : place + length (layout_record f index l) - first ≡ length (behind_pieces f index l) = omega (arith, length_all f index l) in
    rw (left, there.1, take-append_seam (behind_pieces f index l) there.0)

module _ (f : Format) (archive tables : List ℕ) (s : State) (entries : List Entry) (e : Report)
    (opens : opening_number f archive (length tables) ≡ 0) (sound : Sound f archive s tables) (stands : Every (Standing f archive s tables) entries)
    (suits : ItemSuits (contexts_of s) (report e)) (fit : ItemFits f (index_in entries e.provider) (report e))
    (at : At archive s.place (report_record f (index_in entries e.provider) e)) where
  abbrev index : Key → ℕ
  index = index_in entries e.provider

  abbrev next : ℕ
  next = s.place + length (report_record f index e)

  abbrev read : ReadReport
  read = report_at f index e s.place

  own : ContextIs s e.provider s.current
  own = suits_context s e.provider sound.current suits.0

  is : record_at f archive s.place ≡ record { content = ReportRead read; next = next }
  is = item_stands f index archive s.place (report e) fit at ∙ rw (report_content f index e s.place fit)

  decided : decision_of f archive tables s ≡ showing s (ReportShown (shown_at f archive tables s read)) next
  unfolding content_decision
  decided =
      report_decided f archive tables s read next sound (ap (λ x. x.content) is)
      (decision_is f archive tables s (ReportRead read) next opens sound
      (not_end archive s.place (report_record f index e) at (item_long f index (report e))) is)

  later : Sound f archive (moved s next) tables
  unfolding changed
  later = rw decided at (step_sound f archive tables s sound)

  grown : Grown s (moved s next)
  grown = rw decided at (step_grows f archive tables s)

  behind : At archive read.arguments (behind_pieces f index (report_layout e))
  behind = behind_at f index (report_layout e) archive s.place at

  arguments : argument_items f archive tables (moved s next) s.place 0 (length e.arguments) ≡ some e.arguments
  arguments =
      let l = arguments_records f index e.arguments in
      let x = words_bytes f (last_words (own_layout e.own).behind e.last) in
      let first = read.arguments in
      arguments_shown f archive tables (moved s next) entries e.provider later (context_later s (moved s next) grown e.provider s.current own)
      (stand_later f archive s (moved s next) tables grown entries stands) s.place (length e.arguments) first
      (take (next - first) (drop first archive)) x
      (λ n low. asked_is f archive tables (moved s next) s.place n read later opens sound.whole is low)
      e.arguments 0 first fit.layout.arguments (all_sized index e.arguments (omega (arith, fit.layout.size)))
      (arguments-spelled f index archive first e.arguments fit.layout.arguments (at_left archive first l x behind)) (omega arith)
      (λ k. rw (zero-add k, layout_part f index (report_layout e) archive s.place at))

  report_shown : ShownAs f archive tables (report e) next (decision_of f archive tables s)
  unfolding changed item_of shown_report
  report_shown =
      let spelled = report_read_lem f index e archive s.place fit at in
      rw decided (record {
        keeps = refl;
        place = refl;
        item = rw (
          arguments,
          provider-moved s,
          suits.0,
          suits.1,
          referent_shown_lem f archive tables s entries e.provider s.current s.place sound own (omega arith) stands e.first read.first.table read.first.reference
              fit.layout.pieces.1.0 spelled.tables.0 spelled.first,
          referent_shown_lem f archive tables s entries e.provider s.current s.place sound own (omega arith) stands e.second read.second.table read.second.reference
              fit.layout.pieces.1.1.0 spelled.tables.1 spelled.second,
          referent_shown_lem f archive tables s entries e.provider s.current s.place sound own (omega arith) stands e.third read.third.table read.third.reference
              fit.layout.pieces.1.1.1.0 spelled.tables.2 spelled.third,
          stream_shown f archive e.stream read.stream spelled.stream,
        );
      })

-- ---- every item

module _ (f : Format) (archive tables : List ℕ) (s : State) (entries : List Entry) (opens : opening_number f archive (length tables) ≡ 0)
    (sound : Sound f archive s tables) (stands : Every (Standing f archive s tables) entries) where
  by_record : (index : Key → ℕ) (i : Item) (c : Content) → ItemFits f index i → At archive s.place (item_record f index i)
      → content_of f (item_record f index i) s.place ≡ c
      → ((next : ℕ) → ShownAs f archive tables i next (content_decision f archive tables s c next))
      → ShownAs f archive tables i (s.place + length (item_record f index i)) (decision_of f archive tables s)
  by_record index i c fit at is shown =
      let next = s.place + length (item_record f index i) in
      let more = not_end archive s.place (item_record f index i) at (item_long f index i) in
      let there : record_at f archive s.place ≡ record { content = c; next = next } = rw is at (item_stands f index archive s.place i fit at) in
      rw (decision_is f archive tables s c next opens sound more there) (shown next)

  -- a step over an item's record shows it
  pub item_shown : (i : Item) → ItemSuits (contexts_of s) i → ItemFits f (index_in entries (item_provider i)) i
      → At archive s.place (item_record f (index_in entries (item_provider i)) i)
      → ShownAs f archive tables i (s.place + length (item_record f (index_in entries (item_provider i)) i)) (decision_of f archive tables s)
  item_shown magic suits fit at =
      let index = index_in entries none in
      by_record index magic Magic fit at (magic_read f index s.place) (λ next. (plain_shown f archive tables s sound next).0)
  item_shown (provider_info id name) suits fit at =
      let index = index_in entries none in
      by_record index (provider_info id name) (ProviderInfo id (s.place + 8) (length name)) fit at
      (provider_info_read f index s.place id name fit)
      (λ next. provider_info_shown f archive tables s sound index id name fit.layout.pieces suits at next)
  item_shown (section id) suits fit at =
      let index = index_in entries none in
      by_record index (section id) (Section id) fit at (section_read f index s.place id fit)
      (λ next. section_shown f archive tables s sound id suits next)
  item_shown (provider_event id e) suits fit at =
      let index = index_in entries none in
      by_record index (provider_event id e) (ProviderEvent id e) fit at (provider_event_read f index s.place id e fit)
      (λ next. (plain_shown f archive tables s sound next).1 id e)
  item_shown (initialization rate) suits fit at =
      let index = index_in entries none in
      by_record index (initialization rate) (Initialization rate) fit at (initialization_read f index s.place rate fit)
      (λ next. (plain_shown f archive tables s sound next).2 rate)
  item_shown (report e) suits fit at = report_shown f archive tables s entries e opens sound stands suits fit at
  item_shown (skipped type size) suits fit at = absurd fit.suits
