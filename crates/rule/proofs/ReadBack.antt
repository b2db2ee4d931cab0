-- What the repacking rule writes for a list of items reads back as the same list, and loses nothing when it is repacked.
-- Assumes nothing.
use Prim.Native.Nat.{ℕ, zero, suc, ◌+◌, ◌/◌, ◌≤◌, ◌<◌}
use mathlib.Core.Path.{◌≡◌, refl, sym, ap, ◌∙◌}
use mathlib.Core.List.{[], List, ◌∷◌, ◌++◌, append_assoc}
use mathlib.Core.Bool.{Bool, true}
use mathlib.Core.Option.{Option, none, some}
use native.Mathlib.Omega.{arith}
use native.Mathlib.Nat.{add-sub_cancel_left}
use borrow.Author.Tests.{eq-eqb, le-ltb}
use lib.ListN.{length, drop, set, replicate, length-drop, length-set, length-replicate}
use lib.Seq.{drop-drop, drop-append_seam, take-append_seam, get_or-set_same}
use Rattle.effects.specs.Follow.{changed, followed, change_of}
use Rattle.reader.proofs.Changes.{registering}
use Rattle.words.proofs.Tests.{cases}
use Rattle.words.specs.Stream.{magic as magic_bytes, starts_with_magic}
use Rattle.words.proofs.Words.{At}
use Rattle.format.specs.declared.Format.{Format}
use Rattle.records.specs.declared.Content.{Content}
use Rattle.records.specs.Record.{content_of, record_at}
use Rattle.records.specs.Loss.{record_keeps}
use Rattle.records.specs.Item.{Shown, known, unresolved, Thread, thread, Text, Value, scalar, text, Argument, Referent, text_referent, thread_referent, Item, magic, provider_info, section, provider_event, initialization, report}
use Rattle.records.specs.Item.{skipped, Piece, words, stream, refers, ItemLayout, report_layout, item_provider, Key, text_key, thread_key, Use, text_uses, thread_uses, referent_uses, value_uses, arguments_uses, pieces_uses, layout_uses, uses_of}
use Rattle.encoding.specs.Encoded.{item_record}
use Rattle.contexts.specs.declared.State.{State}
use Rattle.contexts.specs.Context.{provider_of, opening, moved}
use Rattle.tables.specs.Table.{table_words, position}
use Rattle.tables.proofs.Tables.{position_lt}
use Rattle.reader.specs.declared.Answer.TheVariants.{End, Nothing}
use Rattle.reader.specs.Step.{opening_number, stopping, content_decision, decision_of, step_reply, step_tables, effect_decision, plain_answer}
use Rattle.reader.specs.Reads.{provider_item, item_of, Reads, ends, passes, shows, ReadsAs}
use Rattle.reader.proofs.ByItems.{contexts_of, after, after_shown, contexts_by_items}
use Rattle.reader.proofs.Runs.{Sound, Grown, fresh_sound, step_sound, step_grows}
use Rattle.format.specs.Limits.{longest_archive}
use Rattle.format.specs.Header.{archive_number}
use Rattle.views.specs.Shown.{none_bad}
use Rattle.records.specs.Effect.{effect_of}
use Rattle.rule.specs.Rule.{uses_all, Entry, index_in, next_index, key_record, is_new, with_use, entries_after, registrations, records_from, chosen_in, rule}
use Rattle.rule.specs.Refusal.{keeps_at, run_from, run_of, loss_refusal}
use Rattle.rule.proofs.WholeRuns.{run_ends, run_passes, run_shows}
use Rattle.rule.proofs.Tables.{key_table, Made, Every}
use Rattle.rule.proofs.Entries.{ContextIs, suits_context, context_later, KeyFits, key_content, key-index, key-long, key_stands, Standing, stand_later, stand_set}
use Rattle.encoding.proofs.EncodedLayouts.{ItemFits}
use Rattle.encoding.proofs.EncodedItems.{magic_record, item_long, item_stands}
use Rattle.encoding.proofs.EncodedKeeps.{string_keeps, thread_keeps, item_keeps}
use Rattle.rule.proofs.Items.{ItemSuits, decision_is, end_is, not_end, item_shown}

-- ---- what can be written

-- keys that fit where they are registered, with the indexes that they are given
abbrev pub UsesFit : Format → (Use → Bool) → List Entry → List Use → Type 0
UsesFit f chosen entries [] = Unit {0}
UsesFit f chosen entries (u ∷ us) =
    (is_new chosen entries u ≡ true → KeyFits f (next_index entries u) u.key) × UsesFit f chosen (with_use chosen entries u) us

-- items that fit as they are written: each new key under its index, then the item by the indexes of its keys
abbrev pub AllFit : Format → (Use → Bool) → List Entry → List Item → Type 0
AllFit f chosen entries [] = Unit {0}
AllFit f chosen entries (i ∷ items) =
    UsesFit f chosen entries (uses_of i)
    × ItemFits f (index_in (entries_after chosen entries (uses_of i)) (item_provider i)) i
    × AllFit f chosen (entries_after chosen entries (uses_of i)) items

-- items that can be shown in this order from these contexts and this rate on
abbrev pub AllSuit : State → List Item → Type 0
AllSuit c [] = Unit {0}
AllSuit c (i ∷ items) = ItemSuits c i × AllSuit (after c i) items

-- a list that begins with the magic
abbrev pub Starts : List Item → Type 0
Starts items = (rest : List Item) × (items ≡ magic ∷ rest)

-- a list of items that the rule can write so that it is read: it begins with the magic, makes sense from opening on, fits as it is written,
-- and takes no more bytes than an archive has
pub record Writable (f : Format) (items : List Item) : Type 0 where
  pub starts : Starts items
  pub suits : AllSuit opening items
  pub fits : AllFit f (chosen_in (uses_all items)) [] items
  pub short : length (rule f items) ≤ longest_archive

-- ---- the providers of an item's uses

-- uses of one provider
abbrev pub Own : Option ℕ → List Use → Type 0
Own provider [] = Unit {0}
Own provider (u ∷ us) = (u.provider ≡ provider) × Own provider us

own_both : (provider : Option ℕ) (us vs : List Use) → Own provider us → Own provider vs → Own provider (us ++ vs)
own_both provider [] vs h k = k
own_both provider (u ∷ us) vs h k = (h.0, own_both provider us vs h.1 k)

own-text : (provider : Option ℕ) (t : Text) → Own provider (text_uses provider t)
own-text provider (known []) = tt
own-text provider (known (b ∷ bs)) = (refl, tt)
own-text provider (unresolved i) = tt

own_value : (provider : Option ℕ) (v : Value) → Own provider (value_uses provider v)
own_value provider (scalar s) = tt
own_value provider (text t) = own-text provider t

own-arguments : (provider : Option ℕ) (l : List Argument) → Own provider (arguments_uses provider l)
own-arguments provider [] = tt
own-arguments provider (a ∷ l) =
    own_both provider (text_uses provider a.name) (value_uses provider a.value ++ arguments_uses provider l) (own-text provider a.name)
    (own_both provider (value_uses provider a.value) (arguments_uses provider l) (own_value provider a.value) (own-arguments provider l))

own-thread : (provider : Option ℕ) (t : Shown Thread) → Own provider (thread_uses provider t)
own-thread provider (known t) = (refl, tt)
own-thread provider (unresolved i) = tt

own_referent : (provider : Option ℕ) (s : Referent) → Own provider (referent_uses provider s)
own_referent provider (text_referent t) = own-text provider t
own_referent provider (thread_referent t) = own-thread provider t

own-pieces : (provider : Option ℕ) (ps : List Piece) (more : List Use) → Own provider more → Own provider (pieces_uses provider ps more)
own-pieces provider [] more h = h
own-pieces provider (words ns ∷ ps) more h = own-pieces provider ps more h
own-pieces provider (stream b ∷ ps) more h = own-pieces provider ps more h
own-pieces provider (refers x ∷ ps) more h =
    own_both provider (referent_uses provider x) (pieces_uses provider ps more) (own_referent provider x) (own-pieces provider ps more h)

-- the uses of a record are of its provider
own_layout_lem : (l : ItemLayout) → Own l.provider (layout_uses l)
own_layout_lem l = own-pieces l.provider l.pieces (arguments_uses l.provider l.arguments) (own-arguments l.provider l.arguments)

-- the uses of an item that suits are of the current provider
pub own_item : (c : State) (i : Item) → ItemSuits c i → Own (provider_item (provider_of c)) (uses_of i)
own_item c magic h = tt
own_item c (provider_info id name) h = tt
own_item c (section id) h = tt
own_item c (provider_event id e) h = tt
own_item c (initialization rate) h = tt
own_item c (report r) h = rw h.0 (own_layout_lem (report_layout r))
own_item c (skipped type size) h = tt

-- ---- bytes that are still to be read

-- behind the first part of what is left stands the second
behind : (archive : List ℕ) (place : ℕ) (a b : List ℕ) → drop place archive ≡ a ++ b → drop (place + length a) archive ≡ b
behind archive place a b is = rw (← drop-drop (length a) place archive, is, drop-append_seam a b)

-- ---- a step at a time

-- reader and writer together: the state is sound, and its tables hold what the writer's table says
record Synced (f : Format) (archive : List ℕ) (s : State) (tables : List ℕ) (entries : List Entry) : Type 0 where
  opens : opening_number f archive (length tables) ≡ 0
  sound : Sound f archive s tables
  made : Made entries
  stands : Every (Standing f archive s tables) entries

-- what comes of reading on from a state: these items are read, and however many steps a run takes, it is not refused for a loss
abbrev Kept : Format → List ℕ → State → List ℕ → Type 0
Kept f archive s tables = (steps : ℕ) → loss_refusal (run_from f archive steps s tables) ≡ none

record Back (f : Format) (archive : List ℕ) (s : State) (tables : List ℕ) (items : List Item) : Type 0 where
  reads : Reads f archive s tables items
  kept : Kept f archive s tables

-- a record that stands at a place and loses nothing is kept there
kept_there : (f : Format) (archive : List ℕ) (place : ℕ) (bytes : List ℕ) (c : Content) → At archive place bytes
    → record_at f archive place ≡ record { content = c; next = place + length bytes } → record_keeps f bytes place c ≡ true
    → keeps_at f archive place ≡ true
kept_there f archive place bytes c there is keeps =
    rw (is, add-sub_cancel_left place (length bytes), there.1, take-append_seam bytes there.0) keeps

-- a run that ends by 0 loses nothing
end_kept : (f : Format) (archive : List ℕ) (s : State) (tables : List ℕ) (place : ℕ) → (step_reply f archive tables s).answer ≡ End 0 place
    → Kept f archive s tables
unfolding run_from
end_kept f archive s tables place e zero = refl
end_kept f archive s tables place e (suc steps) = rw (run_ends f archive steps s tables 0 place e)

-- nor does one whose first step shows nothing, over a record that is kept
passes_kept : (f : Format) (archive : List ℕ) (s : State) (tables : List ℕ) → (step_reply f archive tables s).answer ≡ Nothing
    → keeps_at f archive s.place ≡ true → Kept f archive (step_reply f archive tables s).state (step_tables f archive tables s)
    → Kept f archive s tables
unfolding run_from
passes_kept f archive s tables e keeps k zero = refl
passes_kept f archive s tables e keeps k (suc steps) = rw (run_passes f archive steps s tables e, keeps) (k steps)

-- or an item
shows_kept : (f : Format) (archive : List ℕ) (s : State) (tables : List ℕ) (i : Item)
    → item_of f archive (step_tables f archive tables s) (step_reply f archive tables s).state (step_reply f archive tables s).answer ≡ some i
    → keeps_at f archive s.place ≡ true → Kept f archive (step_reply f archive tables s).state (step_tables f archive tables s)
    → Kept f archive s tables
unfolding run_from
shows_kept f archive s tables i e keeps k zero = refl
shows_kept f archive s tables i e keeps k (suc steps) = rw (run_shows f archive steps s tables i e, keeps) (k steps)

-- at the end a step replies 0
end_back : (f : Format) (archive : List ℕ) (s : State) (tables : List ℕ) (entries : List Entry) → Synced f archive s tables entries
    → drop s.place archive ≡ [] → Back f archive s tables []
unfolding stopping
end_back f archive s tables entries sync is =
    let e : s.place ≡ length archive = omega (arith, ap length is, length-drop s.place archive, sync.sound.before) in
    let answer = ap (λ d. d.answer) (end_is f archive tables s sync.opens sync.sound (eq-eqb s.place (length archive) e)) in
    record { reads = ends s tables s.place answer; kept = end_kept f archive s tables s.place answer }

-- what a registration does
key_decides : (f : Format) (archive tables : List ℕ) (s : State) (index next : ℕ) (key : Key)
    → content_decision f archive tables s (key_content index s.place key) next ≡ registering f s (key_table key) index next
unfolding content_decision effect_decision plain_answer none_bad followed change_of effect_of registering
key_decides f archive tables s index next (text_key bytes) = refl
key_decides f archive tables s index next (thread_key t) = refl

-- and that it loses nothing
key_loses_nothing : (f : Format) (index place : ℕ) (key : Key) → KeyFits f index key
    → record_keeps f (key_record f index key) place (key_content index place key) ≡ true
key_loses_nothing f index place (text_key bytes) fit = string_keeps f index bytes place fit
key_loses_nothing f index place (thread_key (thread p t)) fit = thread_keeps f index (thread p t) place fit.1

-- one registration: a step that shows nothing, and sets the entry of the use's context, table and index
module _ (f : Format) (archive : List ℕ) (s : State) (tables : List ℕ) (entries : List Entry) (u : Use) (sync : Synced f archive s tables entries)
    (some-place : 0 < s.place) (current : ContextIs s u.provider s.current) (fit : KeyFits f (next_index entries u) u.key)
    (there : At archive s.place (key_record f (next_index entries u) u.key)) where
  abbrev n : ℕ
  n = next_index entries u

  abbrev next : ℕ
  next = s.place + length (key_record f n u.key)

  abbrev here : ℕ
  here = position f s.current (key_table u.key) n

  -- that step is decided as a registration
  decided : decision_of f archive tables s ≡ registering f s (key_table u.key) n next
  decided =
      decision_is f archive tables s (key_content n s.place u.key) next sync.opens sync.sound
      (not_end archive s.place (key_record f n u.key) there (key-long f n u.key))
      (key_stands f archive s.place n u.key fit there)
      ∙ key_decides f archive tables s n next u.key

  grown : Grown s (moved s next)
  unfolding registering
  grown = rw decided at (step_grows f archive tables s)

  sound_after : Sound f archive (moved s next) (set tables here s.place)
  unfolding registering changed
  sound_after = rw decided at (step_sound f archive tables s sync.sound)

  new_stands : Standing f archive (moved s next) (set tables here s.place) u.provider u.key n
  new_stands =
      record {
        context = s.current;
        place = s.place;
        own = context_later s (moved s next) grown u.provider s.current current;
        fits = fit;
        is_set = get_or-set_same tables here s.place 0
            (omega (
              arith,
              sync.sound.room,
              position_lt f s.current (key_table u.key) n (omega (arith, sync.sound.current, sync.sound.count))
                  (key-index f n u.key fit).1,
            ));
        some = some-place;
        whole = sync.sound.whole;
        there = there;
        ends = omega arith;
      }

  -- and behind it reader and writer are together again
  registered : Synced f archive (moved s next) (set tables here s.place) (record { use_of = u; index = n } ∷ entries)
  registered =
      record {
        opens = rw (length-set tables here s.place) sync.opens;
        sound = sound_after;
        made = (refl, sync.made);
        stands = (
          new_stands,
          stand_later f archive s (moved s next) (set tables here s.place) grown entries
              (stand_set f archive s tables u s.current n s.place current (key-index f n u.key fit).1 entries sync.made (omega arith) sync.stands),
        );
      }

  registration_back : (items : List Item) → Back f archive (moved s next) (set tables here s.place) items → Back f archive s tables items
  unfolding registering changed
  registration_back items r =
      let answer = ap (λ d. d.answer) decided in
      let keeps = kept_there f archive s.place (key_record f n u.key) (key_content n s.place u.key) there
      (key_stands f archive s.place n u.key fit there) (key_loses_nothing f n s.place u.key fit) in
      record {
        reads = passes s tables items answer (rw decided r.reads);
        kept = passes_kept f archive s tables answer keeps (rw decided r.kept);
      }

-- the registrations of some uses, one behind the other, and what comes of reading on behind them
registrations_back : (f : Format) (archive : List ℕ) (chosen : Use → Bool) (us : List Use) (s : State) (tables : List ℕ) (entries : List Entry)
    (rest : List ℕ) (items : List Item) → Synced f archive s tables entries → 0 < s.place → Own (provider_item (provider_of (contexts_of s))) us
    → UsesFit f chosen entries us → drop s.place archive ≡ registrations f chosen entries us ++ rest
    → ((s' : State) (tables' : List ℕ) → Synced f archive s' tables' (entries_after chosen entries us) → contexts_of s' ≡ contexts_of s
    → 0 < s'.place → drop s'.place archive ≡ rest → Back f archive s' tables' items)
    → Back f archive s tables items
registrations_back f archive chosen [] s tables entries rest items sync low own fit is k = k s tables sync refl low is
registrations_back f archive chosen (u ∷ us) s tables entries rest items sync low own fit is k =
    cases (is_new chosen entries u)
    (λ e.
    let n = next_index entries u in
    let first = key_record f n u.key in
    let entries' : List Entry = record { use_of = u; index = n } ∷ entries in
    let more = registrations f chosen entries' us ++ rest in
    let is' : drop s.place archive ≡ first ++ more = rw e at is ∙ append_assoc first (registrations f chosen entries' us) rest in
    let there : At archive s.place first = (more, is') in
    let fit' = fit.0 e in
    let current = suits_context s u.provider sync.sound.current (sym own.0) in
    let next = s.place + length first in
    let tables' = set tables (position f s.current (key_table u.key) n) s.place in
    registration_back f archive s tables entries u sync low current fit' there items
    (registrations_back f archive chosen us (moved s next) tables' entries' rest items (registered f archive s tables entries u sync low current fit' there)
    (omega arith) own.1 (rw e at fit.1) (behind archive s.place first more is') (rw e at k)))
    (λ e. registrations_back f archive chosen us s tables entries rest items sync low own.1 (rw e at fit.1) (rw e at is) (rw e at k))

-- one item: a step that shows it, and what comes of reading on
item_back : (f : Format) (archive : List ℕ) (i : Item) (items : List Item) (s : State) (tables : List ℕ) (entries : List Entry) (rest : List ℕ)
    → Synced f archive s tables entries → ItemSuits (contexts_of s) i → ItemFits f (index_in entries (item_provider i)) i
    → drop s.place archive ≡ item_record f (index_in entries (item_provider i)) i ++ rest
    → ((s' : State) (tables' : List ℕ) → Synced f archive s' tables' entries → contexts_of s' ≡ after (contexts_of s) i → 0 < s'.place
    → drop s'.place archive ≡ rest → Back f archive s' tables' items)
    → Back f archive s tables (i ∷ items)
item_back f archive i items s tables entries rest sync suits fit is k =
    let index = index_in entries (item_provider i) in
    let bytes = item_record f index i in
    let shown = item_shown f archive tables s entries sync.opens sync.sound sync.stands i suits fit (rest, is) in
    let s' = (step_reply f archive tables s).state in
    let tables' = step_tables f archive tables s in
    let item : item_of f archive tables' s' (step_reply f archive tables s).answer ≡ some i = rw shown.keeps shown.item in
    let sync' : Synced f archive s' tables' entries =
    record {
      opens = rw shown.keeps sync.opens;
      sound = step_sound f archive tables s sync.sound;
      made = sync.made;
      stands = rw shown.keeps (stand_later f archive s s' tables (step_grows f archive tables s) entries sync.stands);
    } in
    let next = k s' tables' sync' (contexts_by_items f archive tables s ∙ ap (after_shown (contexts_of s)) item)
    (omega (arith, shown.place, item_long f index i)) (rw shown.place (behind archive s.place bytes rest is)) in
    let keeps = kept_there f archive s.place bytes (content_of f bytes s.place) (rest, is)
    (item_stands f index archive s.place i fit (rest, is)) (item_keeps f index s.place i fit) in
    record { reads = shows s tables i items item next.reads; kept = shows_kept f archive s tables i item keeps next.kept }

-- from a state behind the magic, with its tables in step with the writer's, what the rule writes for items reads as those items, and loses nothing
items_back : (f : Format) (archive : List ℕ) (chosen : Use → Bool) (items : List Item) (s : State) (tables : List ℕ) (entries : List Entry)
    → Synced f archive s tables entries → 0 < s.place → AllSuit (contexts_of s) items → AllFit f chosen entries items
    → drop s.place archive ≡ records_from f chosen entries items → Back f archive s tables items
items_back f archive chosen [] s tables entries sync low suits fit is = end_back f archive s tables entries sync is
items_back f archive chosen (i ∷ items) s tables entries sync low suits fit is =
    let entries' = entries_after chosen entries (uses_of i) in
    let bytes = item_record f (index_in entries' (item_provider i)) i in
    registrations_back f archive chosen (uses_of i) s tables entries (bytes ++ records_from f chosen entries' items) (i ∷ items) sync low
    (own_item (contexts_of s) i suits.0) fit.0 is
    (λ s' tables' sync' same low' is'.
    item_back f archive i items s' tables' entries' (records_from f chosen entries' items) sync' (rw same suits.0) fit.1 is'
    (λ s'' tables'' sync'' same' low'' is''.
    items_back f archive chosen items s'' tables'' entries' sync'' low'' (rw (same', same) suits.1) fit.2 is''))

-- ---- the whole

rule_begins : (f : Format) (items : List Item) → starts_with_magic (rule f (magic ∷ items)) ≡ true
unfolding rule starts_with_magic magic_bytes
rule_begins f items = rw (magic_record f (index_in [] none))

-- what the rule writes for a list that begins with the magic is let in
rule_opens : (f : Format) (items : List Item) → length (rule f (magic ∷ items)) ≤ longest_archive → opening_number f (rule f (magic ∷ items)) (table_words f) ≡ 0
unfolding opening_number archive_number
rule_opens f items short =
    rw (
      le-ltb longest_archive (length (rule f (magic ∷ items))) short,
      rule_begins f items,
      le-ltb (table_words f) (table_words f) (omega arith),
    )

-- reader and writer together at the start
opened : (f : Format) (items : List Item) → opening_number f (rule f items) (table_words f) ≡ 0 → Synced f (rule f items) opening (replicate (table_words f) 0) []
opened f items opens =
    record { opens = rw (length-replicate {A = ℕ} (table_words f) 0) opens; sound = fresh_sound f (rule f items); made = tt; stands = tt }

magic_back : (f : Format) (items : List Item) → opening_number f (rule f (magic ∷ items)) (table_words f) ≡ 0 → AllSuit opening (magic ∷ items)
    → AllFit f (chosen_in (uses_all (magic ∷ items))) [] (magic ∷ items)
    → Back f (rule f (magic ∷ items)) opening (replicate (table_words f) 0) (magic ∷ items)
unfolding rule
magic_back f items opens suits fit =
    let chosen = chosen_in (uses_all (magic ∷ items)) in
    let archive = rule f (magic ∷ items) in
    item_back f archive magic items opening (replicate (table_words f) 0) [] (records_from f chosen [] items) (opened f (magic ∷ items) opens) suits.0 fit.1 refl
    (λ s' tables' sync' same low is. items_back f archive chosen items s' tables' [] sync' low (rw same suits.1) fit.2 is)

module _ (f : Format) (items : List Item) (w : Writable f items) where
  -- what the rule writes for a list that it can write is let in
  opens : opening_number f (rule f items) (table_words f) ≡ 0
  opens = let e = w.starts.1 in rw e (rule_opens f w.starts.0 (rw e at w.short))

  back : Back f (rule f items) opening (replicate (table_words f) 0) items
  back = let e = w.starts.1 in rw e (magic_back f w.starts.0 (rw e at opens) (rw e at w.suits) (rw e at w.fits))

  -- it reads as that list
  pub rule_reads : ReadsAs f (rule f items) items
  rule_reads = (opens, back.reads)

  -- and its run is not refused for a loss
  pub rule_keeps : loss_refusal (run_of f (rule f items)) ≡ none
  unfolding run_of
  rule_keeps = back.kept (length (rule f items) / 8 + 1)
