-- Any archive that reads to its end as a list of items is at least as long as the fixed words of the items, what it registers, and the
-- uses of keys that it does not register.
-- Assumes nothing.
use Prim.Native.Nat.{ℕ, ◌+◌, ◌-◌, ◌*◌, ◌≤◌}
use mathlib.Core.Path.{◌≡◌, refl, ap}
use mathlib.Core.List.{[], List, ◌∷◌, ◌++◌}
use mathlib.Core.Bool.{Bool, true, false, cond, ◌||◌}
use mathlib.Core.Option.{Option, none, some}
use mathlib.Core.Logic.{◌⊎◌, inl, inr}
use native.Mathlib.Omega.{arith}
use native.Mathlib.Nat.{zero-add, add-sub_cancel_left}
use lib.Dec.{eqb}
use lib.ListN.{length, take, drop, replicate, length-replicate, get_or-replicate}
use lib.Seq.{length-take-le}
use Rattle.records.proofs.Lookups.{AllRead}
use Rattle.effects.specs.Follow.{changed, followed, change_of}
use Rattle.words.specs.Word.{word_at}
use Rattle.words.specs.Stream.{stream_words, part_of}
use Rattle.words.proofs.Words.{word_at-take}
use Rattle.words.proofs.Tests.{on-pick, cases}
use Rattle.registering.specs.Counting.{sum_by, member}
use Rattle.registering.proofs.Counting.{sum-append}
use Rattle.format.specs.declared.Format.{Format}
use Rattle.format.specs.declared.Reference.{Reference}
use Rattle.format.specs.declared.Reference.TheVariants.{Inline, Index}
use Rattle.format.specs.Header.{record_words}
use Rattle.format.specs.Part.{inline_bytes}
use Rattle.format.proofs.Headers.{Whole, extent_read}
use Rattle.arguments.specs.Argument.{Arguments, refused, arguments, arguments_of}
use Rattle.arguments.specs.Models.Reading.{listed}
use Rattle.arguments.proofs.Arguments.{arguments_bytes}
use Rattle.records.specs.declared.Lookup.{Lookup}
use Rattle.records.specs.declared.Report.{Report as ReadReport}
use Rattle.records.specs.declared.Content.{Content}
use Rattle.records.specs.declared.Content.TheVariants.{Refused, Magic, ProviderInfo, Section, ProviderEvent, Initialization, String, Thread as ThreadContent, Report as ReportRead, Ignored, Skipped}
use Rattle.records.specs.Layout.{layout_of}
use Rattle.records.specs.Record.{record_at}
use Rattle.records.specs.Item.{Argument as ArgumentItem, Item, magic, provider_info, section, provider_event, initialization, skipped, key_words, Use, referent_uses, arguments_uses, uses_of, own_layout}
use Rattle.records.specs.Models.Fixed.{fixed_words}
use Rattle.records.specs.Models.Bounds.{ContentInside}
use Rattle.records.proofs.Contents.{content_bytes, RecordStands, record_read}
use Rattle.records.proofs.Bounds.{SizeShown, size_shown}
use Rattle.records.proofs.Bounds.{behind-few}
use Rattle.encoding.proofs.EncodedReports.{length_last}
use Rattle.contexts.specs.declared.State.{State}
use Rattle.contexts.specs.Context.{opening, belongs_to, provider_of, moved, rated, in_context, with_id, entering}
use Rattle.tables.specs.Table.{Entry}
use Rattle.tables.specs.Table.{table_words, highest_of, position, registration_of, resolved}
use Rattle.tables.proofs.Tables.{position_lt}
use Rattle.reader.specs.declared.Answer.{Answer}
use Rattle.reader.specs.declared.Answer.TheVariants.{ProviderInfo as ProviderInfoShown, Section as SectionShown, Report as ReportShown, Nothing}
use Rattle.reader.specs.Step.{Decision}
use Rattle.views.specs.Shown.{shown_referent, shown_stream, shown_report, none_bad}
use Rattle.reader.specs.Step.{opening_number, stopping, content_decision, place_decision, decision_of, step_reply, step_tables, effect_decision, report_answer, plain_answer}
use Rattle.reader.specs.Reads.{referent_item, stream_item, argument_items, report_item, item_of, Reads, ends, passes, shows, ReadsAs}
use Rattle.views.proofs.Lookups.{ContentFits, content_fits, ReportFits, record_whole, part-behind}
use Rattle.reader.proofs.Changes.{IsTable, on-entering, entering_as, registering, showing, stop_decided, entering_decided}
use Rattle.reader.proofs.Runs.{Sound, fresh_sound, step_sound}
use Rattle.records.specs.Effect.{effect_of}
use Rattle.records.specs.Lookups.{report_lookups}
use Rattle.records.proofs.Passes.{RecordNumber}
use Rattle.rule.specs.Rule.{same_use, uses_all}
use Rattle.rule.proofs.Uses.{same_use_refl}
use Rattle.rule.proofs.LowerUses.{registered, Cost, part_length, provider_in, key_at, Holds, holds_new, holds-set, ItemsPay, arguments_part, items_pay, referent_pays}

-- ---- what an item costs

-- an item costs no more than so many bytes
abbrev ItemPays : (Use → ℕ) → ℕ → Option Item → Type 0
ItemPays cost size none = Unit {0}
ItemPays cost size (some i) = 8 * fixed_words i + sum_by cost (uses_of i) ≤ size

-- the list that an item, if a step shows one, stands in front of
abbrev with_item : Option Item → List Item → List Item
with_item none l = l
with_item (some i) l = i ∷ l

-- these uses cost nothing
abbrev Free : (Use → ℕ) → List Use → Type 0
Free cost more = (u : Use) → member same_use u more ≡ true → cost u ≡ 0

member-first : (u : Use) (more : List Use) → member same_use u (u ∷ more) ≡ true
member-first u more = rw (same_use_refl u)

or_right : (a b : Bool) → b ≡ true → (a || b) ≡ true
or_right true b e = refl
or_right false b e = e

module _ (f : Format) (b : List ℕ) where
  -- a record that is shown costs no more than its record
  report_pays : (s : State) (tables : List ℕ) (cost : Use → ℕ) (size : ℕ) (e : ReadReport) → Cost cost → s.current ≤ s.count
      → Holds f b s.ids s.count tables cost → (record_at f b s.place).content ≡ ReportRead e → s.place ≤ e.arguments
      → ReportFits f (take size (drop s.place b)) s.place e
      → content_bytes f (take size (drop s.place b)) s.place (ReportRead e) ≤ size
      → SizeShown f (take size (drop s.place b)) (ReportRead e)
      → ItemPays cost size
      (report_item b
      (shown_report f b s e (resolved f b tables s.current e.first.table s.place e.first.reference)
      (resolved f b tables s.current e.second.table s.place e.second.reference)
      (resolved f b tables s.current e.third.table s.place e.third.reference))
      (argument_items f b tables (moved s (s.place + size)) s.place 0 e.count))
  unfolding shown_report shown_stream provider_of ItemsPay
  report_pays s tables cost size e le low held is behind fits pays own =
      of_arguments (arguments_of f e.count (drop (e.arguments - s.place) (take size (drop s.place b))) e.arguments) fits.read pays
      (argument_items f b tables (moved s (s.place + size)) s.place 0 e.count) items
    where
      context : ℕ
      context = s.current

      part : drop (e.arguments - s.place) (take size (drop s.place b)) ≡ take (s.place + size - e.arguments) (drop e.arguments b)
      part = rw (add-sub_cancel_left s.place size) at (part-behind b s.place e.arguments (s.place + size) behind)

      items : ItemsPay cost (provider_in s.ids context)
          (arguments_of f e.count (drop (e.arguments - s.place) (take size (drop s.place b))) e.arguments)
          (argument_items f b tables (moved s (s.place + size)) s.place 0 e.count)
      items = rw part
          (items_pay f b s.ids s.count tables cost le held context low (moved s (s.place + size)) refl s.place e is e.count 0
          (arguments_part b (s.place + size) e) e.arguments (λ k. rw (zero-add k)))

      of_arguments : (q : Arguments) → AllRead q
          → 8 + 8 * (layout_of (word_at f.order (take size (drop s.place b)) 0)).words + inline_bytes e.first.reference + inline_bytes e.second.reference
          + inline_bytes e.third.reference + inline_bytes e.stream + arguments_bytes (listed q)
          + 8 * (layout_of (word_at f.order (take size (drop s.place b)) 0)).behind ≤ size
          → (o : Option (List ArgumentItem)) → ItemsPay cost (provider_in s.ids context) q o
          → ItemPays cost size (report_item b
          (shown_report f b s e (resolved f b tables s.current e.first.table s.place e.first.reference)
          (resolved f b tables s.current e.second.table s.place e.second.reference)
          (resolved f b tables s.current e.third.table s.place e.third.reference)) o)
      of_arguments q a h none k = tt
      of_arguments (refused number) a h (some l) k = absurd a
      of_arguments (arguments rs next) a h (some l) k =
          omega (
            arith,
            h,
            k,
            sum-append cost one (two ++ (three ++ arguments_uses (provider_in s.ids context) l)),
            sum-append cost two (three ++ arguments_uses (provider_in s.ids context) l),
            sum-append cost three (arguments_uses (provider_in s.ids context) l),
            referent_pays f b s.ids s.count tables cost le held context low s.place e.first fits.first,
            referent_pays f b s.ids s.count tables cost le held context low s.place e.second fits.second,
            referent_pays f b s.ids s.count tables cost le held context low s.place e.third fits.third,
            stream_pays e.stream,
            own.0,
            own.1,
            length_last (own_layout e.own).behind e.last (behind-few e.own),
          )
        where
          stream_pays : (x : Reference) → 8 * stream_words (length (stream_item b (shown_stream x))) ≤ inline_bytes x
          stream_pays (Inline place long) = omega (arith, part_length b place long)
          stream_pays (Index i) = omega (arith, part_length b 0 0)

          shown : Lookup → List Use
          shown x = referent_uses (provider_in s.ids context) (referent_item b (shown_referent f b x.table (resolved f b tables context x.table s.place x.reference)))

          one : List Use
          one = shown e.first

          two : List Use
          two = shown e.second

          three : List Use
          three = shown e.third

  -- ---- steps

  -- from a state and its tables on, the bytes of these items, of some registrations and of the uses of other keys stand before this place
  Paid : ℕ → State → List ℕ → List Item → Type 0
  Paid end s tables l =
      (more : List Use)
      × ((cost : Use → ℕ) → Cost cost → Holds f b s.ids s.count tables cost → Free cost more
      → s.place + 8 * sum_by fixed_words l + sum_by registered more + sum_by cost (uses_all l) ≤ end)

  -- where what follows a step is paid, that and the step's item are paid from the state before it
  Stepped : State → List ℕ → Decision → Type 0
  Stepped s tables d =
      (end : ℕ) (l : List Item) → Paid end d.state (changed tables d.change) l
      → Paid end s tables (with_item (item_of f b (changed tables d.change) d.state d.answer) l)

  -- a step that ends or is refused
  stays : (s : State) (tables : List ℕ) (number place : ℕ) → Stepped s tables (stopping s number place)
  unfolding Stepped Paid stopping item_of changed
  stays s tables number place end l p = p

  -- a step that leaves the tables, and whose item costs no more than its record
  moves : (s s' : State) (tables : List ℕ) (size : ℕ) (o : Option Item) → s'.place ≡ s.place + size
      → ((cost : Use → ℕ) → Holds f b s.ids s.count tables cost → Holds f b s'.ids s'.count tables cost)
      → ((cost : Use → ℕ) → Cost cost → Holds f b s.ids s.count tables cost → ItemPays cost size o)
      → (end : ℕ) (l : List Item) → Paid end s' tables l → Paid end s tables (with_item o l)
  unfolding Paid
  moves s s' tables size none e g h end l p = (p.0, λ cost le held free. omega (arith, e, p.1 cost le (g cost held) free))
  moves s s' tables size (some i) e g h end l p = (
    p.0,
    λ cost le held free. omega (arith, e, h cost le held, p.1 cost le (g cost held) free, sum-append cost (uses_of i) (uses_all l)),
  )

  -- a step that registers a key
  registers-key : (s : State) (tables : List ℕ) (size table index at long : ℕ) → Sound f b s tables → IsTable table → index ≤ highest_of f table
      → registration_of (record_at f b s.place).content ≡ Entry table index at long → 8 * (1 + key_words (key_at f b table at long)) ≤ size
      → Stepped s tables (registering f s table index (s.place + size))
  unfolding Stepped Paid registering item_of changed
  registers-key s tables size table index at long h k i r c end l p = (
    u ∷ p.0,
    λ cost le held free. omega (
      arith,
      c,
      p.1 cost le (holds-set f b s tables table index at long cost h k i r (free u (member-first u p.0)) held)
          (λ v m. free v (or_right (same_use v u) (member same_use v p.0) m)),
    ),
  )
    where
      u : Use
      u = record { provider = provider_in s.ids s.current; key = key_at f b table at long }

  module _ (s : State) (tables : List ℕ) (sound : Sound f b s tables) (size : ℕ)
      (r : RecordStands f b s.place size (record_at f b s.place)) where
    source : List ℕ
    source = take size (drop s.place b)

    -- a step that makes an id current
    enters : (id : ℕ) (answer : Answer) (i : Item) → ((t : List ℕ) (z : State) → item_of f b t z answer ≡ some i)
        → ((cost : Use → ℕ) → ItemPays cost size (some i)) → Stepped s tables (entering_as s (entering s id (s.place + size)) answer)
    unfolding Stepped changed
    enters id answer i is pays =
        on-entering (Stepped s tables) s id (s.place + size) answer (stays s tables 9 s.place)
        (λ n e end l p. rw (is tables (in_context s (n + 1) (s.place + size)))
        (moves s (in_context s (n + 1) (s.place + size)) tables size (some i) refl (λ cost held. held) (λ cost le held. pays cost) end l p))
        (λ e z end l p. rw (is tables (with_id s id (s.place + size)))
        (moves s (with_id s id (s.place + size)) tables size (some i) refl (λ cost held. holds_new f b s tables id cost sound z held)
        (λ cost le held. pays cost) end l p))

    -- a record that is shown
    report-shows : (e : ReadReport) → (record_at f b s.place).content ≡ ReportRead e → content_bytes f source s.place (ReportRead e) ≤ size
        → ReportFits f source s.place e → s.place ≤ e.arguments → SizeShown f source (ReportRead e)
        → Stepped s tables
        (showing s
        (ReportShown
        (shown_report f b s e (resolved f b tables s.current e.first.table s.place e.first.reference)
        (resolved f b tables s.current e.second.table s.place e.second.reference)
        (resolved f b tables s.current e.third.table s.place e.third.reference)))
        (s.place + size))
    unfolding Stepped changed item_of shown_report source
    report-shows e is pays fits behind own =
        moves s (moved s (s.place + size)) tables size
        (report_item b
        (shown_report f b s e (resolved f b tables s.current e.first.table s.place e.first.reference)
        (resolved f b tables s.current e.second.table s.place e.second.reference)
        (resolved f b tables s.current e.third.table s.place e.third.reference))
        (argument_items f b tables (moved s (s.place + size)) s.place 0 e.count))
        refl (λ cost held. held) (λ cost le held. report_pays s tables cost size e le sound.current held is behind fits pays own)

    -- an event
    report_steps : (e : ReadReport) → (record_at f b s.place).content ≡ ReportRead e → content_bytes f source s.place (ReportRead e) ≤ size
        → ReportFits f source s.place e → s.place ≤ e.arguments → SizeShown f source (ReportRead e)
        → Stepped s tables (content_decision f b tables s (ReportRead e) (s.place + size))
    unfolding content_decision effect_decision report_answer followed change_of effect_of source
    report_steps e is pays fits behind own =
        on-pick (Stepped s tables) (none_bad f b tables s.current s.place (report_lookups f b e (s.place + size))) _ _
        (λ q. report-shows e is pays fits behind own) (λ q. stays s tables 4 s.place)

    -- a step by what stands in its record
    content_steps : (c : Content) → (record_at f b s.place).content ≡ c → content_bytes f source s.place c ≤ size
        → ContentFits f source s.place c → ContentInside s.place (s.place + size) c → SizeShown f source c
        → Stepped s tables (content_decision f b tables s c (s.place + size))
    unfolding content_decision effect_decision plain_answer none_bad followed change_of effect_of registering Stepped item_of changed registration_of source
    content_steps (Refused number) e p h i n =
        rw (stop_decided f s number (s.place + size) Nothing h.stops) (stays s tables number s.place)
    content_steps Magic e p h i n = moves s (moved s (s.place + size)) tables size (some magic) refl (λ cost held. held) (λ cost le held. omega arith)
    content_steps (ProviderInfo id at long) e p h i n =
        rw (entering_decided f s id (s.place + size) (ProviderInfoShown id at long))
        (enters id (ProviderInfoShown id at long) (provider_info id (part_of b at long)) (λ t z. refl)
        (λ cost. omega (arith, p, part_length b at long)))
    content_steps (Section id) e p h i n =
        rw (entering_decided f s id (s.place + size) (SectionShown id))
        (enters id (SectionShown id) (section id) (λ t z. refl) (λ cost. omega (arith, p)))
    content_steps (ProviderEvent id event) e p h i n =
        moves s (moved s (s.place + size)) tables size (some (provider_event id event)) refl (λ cost held. held) (λ cost le held. omega arith)
    content_steps (Initialization rate) e p h i n =
        moves s (rated s rate (s.place + size)) tables size (some (initialization rate)) refl (λ cost held. held) (λ cost le held. omega arith)
    content_steps (String index at long) e p h i n =
        registers-key s tables size 2 index at long sound (inl refl) h.1 (rw e) (omega (arith, part_length b at long))
    content_steps (ThreadContent index at) e p h i n =
        registers-key s tables size 3 index at 16 sound (inr refl) h.1 (rw e) (omega arith)
    content_steps (ReportRead ev) e p h i n = report_steps ev e p h i.behind n
    content_steps Ignored e p h i n = moves s (moved s (s.place + size)) tables size none refl (λ cost held. held) (λ cost le held. tt)
    content_steps (Skipped type long) e p h i n =
        moves s (moved s (s.place + size)) tables size (some (skipped type long)) refl (λ cost held. held)
        (λ cost le held. omega (arith, n, w.is, w.some, length-replicate {A = ℕ} (long - 1) 0, ap record_words (word_at-take f.order (drop s.place b) 0 size w.some)))
      where
        w : Whole f (drop s.place b) size
        w = extent_read f (drop s.place b) size r.extent

  -- every step from a sound state
  step_pays : (s : State) (tables : List ℕ) → Sound f b s tables → Stepped s tables (decision_of f b tables s)
  unfolding decision_of place_decision content_decision none_bad plain_answer effect_of source
  step_pays s tables sound =
      on-pick P (eqb (opening_number f b (length tables)) 0) _ _
      (λ e. on-pick P (belongs_to s (length b)) _ _
      (λ e. on-pick P (eqb s.place (length b)) _ _ (λ e. stays s tables 0 s.place) (λ e. of_record (record_read f b s.place)))
      (λ e. stays s tables 4 s.place))
      (λ e. stays s tables (opening_number f b (length tables)) 0)
    where
      P : Decision → Type 0
      P = Stepped s tables

      of_record : ((number : ℕ) × (record_at f b s.place ≡ record { content = Refused number; next = s.place }))
          ⊎ ((size : ℕ) × RecordStands f b s.place size (record_at f b s.place))
          → P (content_decision f b tables s (record_at f b s.place).content (record_at f b s.place).next)
      of_record (inl (number, e)) =
          let whole = (record_whole f b s.place).holds in
          let fits : RecordNumber number = rw e at whole in
          rw (e, stop_decided f s number s.place Nothing fits.stops) (stays s tables number s.place)
      of_record (inr (size, r)) =
          let long = length-take-le size (drop s.place b) (extent_read f (drop s.place b) size r.extent).inside in
          let word : 8 ≤ length (take size (drop s.place b)) = omega (arith, long, r.some) in
          rw r.next
          (content_steps s tables sound size r (record_at f b s.place).content refl r.pays
          (rw r.content (content_fits f (take size (drop s.place b)) s.place word)) r.shows
          (rw r.content (size_shown f (take size (drop s.place b)) s.place word)))

  -- what a run reads from a sound state on is paid
  reads_pay : {s : State} {tables : List ℕ} {l : List Item} → Reads f b s tables l → Sound f b s tables → Paid (length b) s tables l
  unfolding Paid Stepped item_of
  reads_pay (ends s tables place e) h = ([], λ cost le held free. omega (arith, h.before))
  reads_pay (passes s tables l e r) h =
      rw e at (step_pays s tables h (length b) l (reads_pay r (step_sound f b tables s h)))
  reads_pay (shows s tables i l e r) h =
      rw e at (step_pays s tables h (length b) l (reads_pay r (step_sound f b tables s h)))

  -- an item that a step shows has no more fixed words than the record that it is read from
  pub fixed_words-low : (s : State) (tables : List ℕ) (i : Item) → Sound f b s tables
      → item_of f b (step_tables f b tables s) (step_reply f b tables s).state (step_reply f b tables s).answer ≡ some i
      → s.place + 8 * fixed_words i ≤ (step_reply f b tables s).state.place
  unfolding Paid Stepped
  fixed_words-low s tables i h e =
      let next = (step_reply f b tables s).state.place in
      let paid : Paid next s tables (i ∷ []) = rw e at (step_pays s tables h next [] ([], λ cost le held free. omega arith)) in
      let low = paid.1 (λ u. 0) (λ u. omega arith) (λ context table index at long c k l n r. refl) (λ u m. refl) in
      omega (arith, low)

-- the bytes of a use that stands inline, unless its key is one of these
abbrev spelled : List Use → Use → ℕ
spelled keys u = cond (member same_use u keys) 0 (8 * key_words u.key)

-- any archive that reads to its end as a list registers some keys, and has the bytes of the items' fixed words, of a record for each of these
-- keys, and of the inline words of each use of another key
pub any_run_pays : (f : Format) (b : List ℕ) (l : List Item) → ReadsAs f b l
    → (R : List Use)
    × (8 * sum_by fixed_words l + sum_by (λ (u : Use). 8 * (1 + key_words u.key)) R
    + sum_by (λ (u : Use). cond (member same_use u R) 0 (8 * key_words u.key)) (uses_all l)
    ≤ length b)
unfolding Paid
any_run_pays f b l r =
    let p = reads_pay f b r.1 (fresh_sound f b) in
    (p.0, omega (arith, p.1 (spelled p.0) (spelled_le p.0) (none_held (spelled p.0)) (λ u m. rw m)))
  where
    spelled_le : (keys : List Use) → Cost (spelled keys)
    spelled_le keys u = cases (member same_use u keys) (λ e. rw e (omega arith)) (λ e. rw e (omega arith))

    none_held : (cost : Use → ℕ) → Holds f b opening.ids opening.count (replicate (table_words f) 0) cost
    none_held cost context table index at long c k i n q =
        absurd (n (get_or-replicate (table_words f) (position f context table index) 0 0 (position_lt f context table index (omega arith) i)))
