-- The second pass over an archive that is not refused: what holds at each turn of it, from its start to its end, where the bytes of the rule are written.
-- Assumes nothing.
use Prim.Native.Nat.{ℕ, suc, ◌+◌, ◌-◌, ◌*◌, ◌/◌, ◌≤◌, ◌<◌}
use mathlib.Core.Path.{◌≡◌, refl, sym, ap, subst, ◌∙◌}
use mathlib.Core.List.{List, [], ◌∷◌, ◌++◌, append_assoc, append-nil}
use mathlib.Core.Bool.{Bool, true}
use mathlib.Core.Option.{Option, none, some}
use native.Mathlib.Numerals.{add-one}
use native.Mathlib.Omega.{arith}
use borrow.Author.Tests.{eq-eqb, eqb-true}
use lib.Dec.{eqb}
use lib.ListN.{length, get_or, replicate, length-append, length-replicate, get_or-replicate}
use lib.Seq.{ext_get_or}
use Rattle.passes.specs.Models.Codes.{last_from, last_of, Chosen}
use Rattle.passes.specs.Models.Last.{tables_from, tables_of}
use Rattle.passes.specs.Models.Item.{item_at}
use Rattle.passes.specs.Models.Follow.{stop_after, state_after, tables_after}
use Rattle.passes.specs.Models.Memory.{renewed, RenewFits}
use Rattle.indexing.specs.Models.Indexes.{Indexes, chosen_key}
use Rattle.effects.specs.Follow.{change_of, changed}
use Rattle.words.proofs.Words.{AllBytes}
use Rattle.encoding.specs.Encoded.{item_record}
use Rattle.words.specs.Word.{pick}
use Rattle.words.proofs.Tests.{cases}
use Rattle.format.specs.declared.Format.{Format}
use Rattle.format.specs.Limits.{small_format, longest_archive}
use Rattle.records.specs.declared.Content.{Content}
use Rattle.records.specs.declared.Content.TheVariants.{Report as ReportRead}
use Rattle.records.specs.Record.{record_at}
use Rattle.records.specs.Item.{Item, Use, uses_of, item_provider}
use Rattle.contexts.specs.declared.State.{State}
use Rattle.contexts.specs.Context.{opening}
use Rattle.tables.specs.Table.{table_words}
use Rattle.reader.specs.Step.{opening_number}
use Rattle.reader.proofs.Runs.{Sound, fresh_sound}
use Rattle.rule.specs.Rule.{uses_all, Entry, index_in, entries_after, registrations, chosen_in, rule, records_from}
use Rattle.rule.specs.Refusal.{Run, ended, passed, keeps_at, run_from, run_of, refusal, stop_refusal, loss_refusal, refusal_of, items_of, Accepted}
use Rattle.rule.proofs.Length.{none_registered}
use Rattle.rule.proofs.Accepted.{loss_turn}
use Rattle.rule.proofs.Limits.{after_both}
use Rattle.rule.proofs.ReadBack.{AllFit}
use Rattle.rule.proofs.WholeRuns.{not_refused-passes}
use Rattle.tally.specs.declared.Slot.TheVariants.{Here}
use Rattle.passes.proofs.Last.{tables_open, tables_turn, tables_end}
use Rattle.passes.proofs.Turns.{turn_tables, run_end, run_turn, turn_state, turn_tables_step, turn_sound, turn_place}
use Rattle.passes.proofs.Codes.{UsesPlain, last_sound, last_context}
use Rattle.records.specs.declared.Report.{Report}
use Rattle.records.specs.Effect.{effect_of}
use Rattle.reader.proofs.Steps.{admitted}
use mathlib.Core.Logic.{◌⊎◌, inl, inr}
use Rattle.passes.proofs.Places.{opening-report}
use Rattle.rewriting.proofs.Others.{report_or, Other}
use Rattle.rewriting.specs.Models.Write.{content_bytes, content_slots}
use Rattle.rewriting.specs.Models.Fits.{ContentFits}
use Rattle.rewriting.specs.Models.Indexed.{index_code, given_code, keys_of, registered_of, SlotsIndexed}
use Rattle.rewriting.proofs.Kept.{KeysKept, kept_same, kept-found, kept_then}
use Rattle.rewriting.proofs.IndexCodes.{Indexing}
use Rattle.rewriting.proofs.Remembering.{renewed-kept, renewed-indexes}
use Rattle.rewriting.proofs.Given.{Small, UsesReady, ready_both}
use Rattle.rewriting.proofs.Contents.{item_list, Wrote, content_written}
use Rattle.rewriting.proofs.Ready.{items_plain, accepted_fit, accepted_ready}

-- ---- lists of items in two parts

-- the uses of two parts of items
uses_both : (items others : List Item) → uses_all (items ++ others) ≡ uses_all items ++ uses_all others
uses_both [] others = refl
uses_both (i ∷ items) others = rw (uses_both items others) (sym (append_assoc (uses_of i) (uses_all items) (uses_all others)))

-- what the rule writes for one item or none, and then for others
records_behind : (f : Format) (chosen : Use → Bool) (entries : List Entry) (o : Option Item) (others : List Item)
    → records_from f chosen entries (item_list o ++ others)
    ≡ records_from f chosen entries (item_list o) ++ records_from f chosen (entries_after chosen entries (uses_all (item_list o))) others
records_behind f chosen entries none others = refl
records_behind f chosen entries (some i) others =
    let first = registrations f chosen entries (uses_of i) in
    let own = item_record f (index_in (entries_after chosen entries (uses_of i)) (item_provider i)) i in
    rw (append-nil (uses_of i), append-nil own) (sym (append_assoc first own (records_from f chosen (entries_after chosen entries (uses_of i)) others)))

-- both parts fit as they are written
fit_behind : (f : Format) (chosen : Use → Bool) (entries : List Entry) (o : Option Item) (others : List Item) → AllFit f chosen entries (item_list o ++ others)
    → AllFit f chosen entries (item_list o) × AllFit f chosen (entries_after chosen entries (uses_all (item_list o))) others
fit_behind f chosen entries none others fit = (tt, fit)
fit_behind f chosen entries (some i) others fit = ((fit.0, fit.1, tt), rw (append-nil (uses_of i)) fit.2)

-- the items of a run are the one that its first record shows, if any, and those behind
items_behind : (place : ℕ) (keeps : Bool) (o : Option Item) (run : Run) → items_of (passed place keeps o run) ≡ item_list o ++ items_of run
items_behind place keeps none run = refl
items_behind place keeps (some i) run = refl

-- ---- what holds at each turn

-- the bytes written so far, and those that the rule gives for the rest of the run by the table that the slots hold, are the rule's
pub record Writing (f : Format) (archive : List ℕ) (s : State) (tables slots₀ slots sofar : List ℕ) : Type 0 where
  pub small : Small f
  pub bytes : AllBytes archive
  pub sound : Sound f archive s tables
  pub opens : opening_number f archive (length tables) ≡ 0
  pub steps : ℕ
  pub enough : length archive < s.place + 8 * suc steps
  pub last-is : last_from f archive (suc steps) s tables ≡ last_of f archive
  pub last_tables : tables_from f archive (suc steps) s tables ≡ tables_of f archive
  pub stop : stop_refusal (run_from f archive (suc steps) s tables) ≡ none
  pub loss : loss_refusal (run_from f archive (suc steps) s tables) ≡ none
  pub plain : UsesPlain (uses_all (items_of (run_of f archive)))
  pub entries : List Entry
  pub entries_are : registered_of f archive
      ≡ entries_after (chosen_in (uses_all (items_of (run_of f archive)))) entries (uses_all (items_of (run_from f archive (suc steps) s tables)))
  pub indexing : Indexing f archive (last_of f archive) (uses_all (items_of (run_of f archive))) slots entries
  pub ready : UsesReady f (uses_all (items_of (run_of f archive))) entries (uses_all (items_of (run_from f archive (suc steps) s tables)))
  pub fit : AllFit f (chosen_in (uses_all (items_of (run_of f archive)))) entries (items_of (run_from f archive (suc steps) s tables))
  pub rule-is : rule f (items_of (run_of f archive))
      ≡ sofar ++ records_from f (chosen_in (uses_all (items_of (run_of f archive)))) entries (items_of (run_from f archive (suc steps) s tables))
  pub kept : KeysKept archive (table_words f) (keys_of f archive) slots₀ slots

-- ---- the end

-- a slot is one
here_same : (a b : ℕ) → Here a ≡ Here b → a ≡ b
here_same a b e = cc

module _ (f : Format) (archive : List ℕ) (s : State) (tables slots₀ slots sofar : List ℕ) (w : Writing f archive s tables slots₀ slots sofar)
    (e : s.place ≡ length archive) where
  -- at the archive's end the run ends
  ends : run_from f archive (suc w.steps) s tables ≡ ended 0 s.place
  ends = run_end f archive tables s w.steps w.sound w.opens e

  -- all bytes of the rule are written
  pub writing_end : rule f (items_of (run_of f archive)) ≡ sofar
  writing_end = w.rule-is ∙ rw ends (append-nil sofar)

  -- the tables are those at the end
  pub writing_tables : tables ≡ tables_of f archive
  writing_tables = sym (tables_end f archive tables s (suc w.steps) w.sound w.opens e) ∙ w.last_tables

  -- the rule's table is that of all registrations
  entries_whole : w.entries ≡ registered_of f archive
  entries_whole = sym (w.entries_are ∙ rw ends)

  -- whose indexes the slots hold
  slots_index : Indexes archive (table_words f) slots (keys_of f archive) (chosen_key (keys_of f archive))
      (index_code f (last_of f archive) (registered_of f archive)) (given_code f (last_of f archive) (registered_of f archive))
  slots_index = rw entries_whole at w.indexing.indexes

  -- with places and labels as they were, and what stood for the uses in other slots
  pub writing_indexed : SlotsIndexed f archive slots₀ slots
  writing_indexed =
      let found = kept-found archive (table_words f) (keys_of f archive) slots_index.wide.some slots₀ slots w.kept.keys in
      record {
        keys = w.kept.keys.firsts;
        labels = w.kept.keys.labels;
        indexes = slots_index;
        others = λ s low none.
            w.kept.others s low
            (λ key used q. let r = slots_index.found key used in none key used (here_same r.0 s (sym r.2 ∙ found key ∙ q)));
      }

-- ---- what is remembered

-- the same holds once the slots remember what a record registers
pub writing_renewed : {f : Format} {archive : List ℕ} {s : State} {tables slots₀ slots sofar : List ℕ} → Writing f archive s tables slots₀ slots sofar
    → (c : Content) → RenewFits f (effect_of c) → Writing f archive s tables slots₀ (renewed f archive slots s c) sofar
writing_renewed {f} {archive} {s} {tables} {slots₀} {slots} {sofar} w c fits =
    let some = w.indexing.indexes.wide.some in
    let low : s.current ≤ 8 = omega (arith, w.sound.current, w.sound.count) in
    record {
      small = w.small;
      bytes = w.bytes;
      sound = w.sound;
      opens = w.opens;
      steps = w.steps;
      enough = w.enough;
      last-is = w.last-is;
      last_tables = w.last_tables;
      stop = w.stop;
      loss = w.loss;
      plain = w.plain;
      entries = w.entries;
      entries_are = w.entries_are;
      indexing = record {
        indexes = renewed-indexes f archive slots s c w.indexing.indexes;
        plain = w.indexing.plain;
        seen = w.indexing.seen;
        registered = w.indexing.registered;
      };
      ready = w.ready;
      fit = w.fit;
      rule-is = w.rule-is;
      kept = kept_then archive (table_words f) (keys_of f archive) some slots₀ slots (renewed f archive slots s c) w.kept
          (renewed-kept f archive slots s c (keys_of f archive) low fits);
    }

-- ---- one turn

-- an archive that is let in is short
archive_short : (f : Format) (archive : List ℕ) (room : ℕ) → opening_number f archive room ≡ 0 → length archive ≤ longest_archive
archive_short f archive room opens = omega (arith, (admitted f archive room opens).short)

-- a record that only registers shows nothing, and every other leaves the tables, so they may be read after it
item_followed : (f : Format) (archive tables : List ℕ) (s : State) (c : Content) (next : ℕ)
    → item_at f archive tables s c next ≡ item_at f archive (tables_after f tables s c) s c next
unfolding effect_of change_of changed
item_followed f archive tables s c next = go (report_or c)
  where
    keeps : (r : Report) → tables_after f tables s (ReportRead r) ≡ tables
    keeps r = refl

    go : ((r : Report) × (c ≡ ReportRead r)) ⊎ Other c → item_at f archive tables s c next ≡ item_at f archive (tables_after f tables s c) s c next
    go (inl (r, e)) = rw (e, keeps r)
    go (inr o) = o.item _ _ ∙ sym (o.item _ _)

-- a run that no number stops goes on
goes_on : (number place : ℕ) (run : Run) → stop_refusal (pick (eqb number 0) run (ended number place)) ≡ none → number ≡ 0
goes_on number place run stop =
    cases (eqb number 0) (λ e. eqb-true number 0 e)
    (λ e. let z = rw e at stop in let one : ◌≡◌ {A = ℕ} 0 1 = cc in absurd (omega arith))

-- what a turn does: no number stops it, what is written fits and has room, and the same holds behind it
pub record Turned (f : Format) (archive : List ℕ) (s : State) (tables slots₀ slots sofar : List ℕ) (c : Content) (next : ℕ) : Type 0 where
  pub number : (stop_after s c next) ≡ 0
  pub fits : ContentFits f archive (tables_after f tables s c) slots s c next
  pub writing : Writing f archive (state_after s c next) (tables_after f tables s c) slots₀
      (content_slots f archive (tables_after f tables s c) slots s c next)
      (sofar ++ content_bytes f archive (tables_after f tables s c) slots s c next)
  pub room : length (sofar ++ content_bytes f archive (tables_after f tables s c) slots s c next) ≤ length (rule f (items_of (run_of f archive)))

module _ (f : Format) (archive : List ℕ) (s : State) (tables slots₀ slots sofar : List ℕ) (w : Writing f archive s tables slots₀ slots sofar)
    (more : s.place < length archive) where
  -- what stands in the record
  abbrev content : Content
  content = (record_at f archive s.place).content

  -- where it ends
  abbrev next : ℕ
  next = (record_at f archive s.place).next

  -- all uses of the archive
  abbrev uses : List Use
  uses = uses_all (items_of (run_of f archive))

  -- which of them are registered
  abbrev chosen : Use → Bool
  chosen = chosen_in uses

  -- no number stops the turn
  goes : (stop_after s content next) ≡ 0
  goes = goes_on (stop_after s content next) s.place _ (rw (run_turn f archive tables s w.sound w.opens more w.steps) at w.stop)

  -- the state behind the record
  abbrev state : State
  state = (state_after s content next)

  -- the tables behind it
  abbrev tables' : List ℕ
  tables' = tables_after f tables s content

  -- the item that it shows, if any
  abbrev item : Option Item
  item = item_at f archive tables' s content next

  -- the rest of the run
  abbrev rest : Run
  rest = run_from f archive w.steps state tables'

  -- so the run is the record and what is behind it
  passes : run_from f archive (suc w.steps) s tables ≡ passed s.place (keeps_at f archive s.place) item rest
  passes =
      run_turn f archive tables s w.sound w.opens more w.steps
      ∙ rw (eq-eqb (stop_after s content next) 0 goes, item_followed f archive tables s content next)

  -- the record and what is behind it lose nothing
  loses_none : (keeps_at f archive s.place ≡ true) × (loss_refusal rest ≡ none)
  loses_none = loss_turn (keeps_at f archive s.place) (loss_refusal rest) (refusal 10 s.place) (rw passes at w.loss)

  -- so the record loses nothing
  pub writing_keeps : keeps_at f archive s.place ≡ true
  writing_keeps = loses_none.0

  -- and its items are the record's and those behind it
  shown : items_of (run_from f archive (suc w.steps) s tables) ≡ item_list item ++ items_of rest
  shown = ap items_of passes ∙ items_behind s.place (keeps_at f archive s.place) item rest

  -- there is a step left for what is behind it
  again : suc (w.steps - 1) ≡ w.steps
  again = omega (arith, turn_place f archive tables s w.sound w.opens more goes, w.enough)

  -- the last state is the same from there
  last_follows : last_from f archive w.steps state tables' ≡ last_of f archive
  unfolding last_from
  last_follows =
      rw (
        ← (turn_state f archive tables s w.sound w.opens more goes),
        ← (turn_tables_step f archive tables s w.sound w.opens more goes),
      ) w.last-is

  -- so are the tables at the end
  tables_follow : tables_from f archive w.steps state tables' ≡ tables_of f archive
  tables_follow = sym (tables_turn f archive tables s w.steps w.sound w.opens more goes) ∙ w.last_tables

  -- the uses of the record, and those behind it
  ready : UsesReady f uses w.entries (uses_all (item_list item)) × UsesReady f uses (entries_after chosen w.entries (uses_all (item_list item))) (uses_all (items_of rest))
  ready =
      ready_both f uses w.entries (uses_all (item_list item)) (uses_all (items_of rest)) (rw (shown, uses_both (item_list item) (items_of rest)) at w.ready)

  -- both fit as they are written
  fit : AllFit f chosen w.entries (item_list item) × AllFit f chosen (entries_after chosen w.entries (uses_all (item_list item))) (items_of rest)
  fit = fit_behind f chosen w.entries item (items_of rest) (rw shown at w.fit)

  -- what is written for the record
  wrote : Wrote f archive (last_of f archive) uses tables' slots s w.entries content next
  wrote =
      let end = (last_sound f archive (suc w.steps) s tables w.sound).1 in
      content_written f archive (last_of f archive) uses (rw w.last-is at end.count) w.plain w.small w.bytes (archive_short f archive (length tables) w.opens) tables' slots s w.entries w.indexing
      (rw w.last-is at (last_context f archive (suc w.steps) s tables w.sound)) (omega (arith, w.sound.current, w.sound.count)) content
      (λ e k. opening-report f archive (length tables) s.place e w.opens k) refl ready.0 fit.0

  -- its bytes
  abbrev bytes : List ℕ
  bytes = content_bytes f archive tables' slots s content next

  -- the rule's table behind it
  abbrev entries' : List Entry
  entries' = entries_after chosen w.entries (uses_all (item_list item))

  -- from which the rule makes the same registrations in all
  entries_follow : registered_of f archive ≡ entries_after chosen entries' (uses_all (items_of rest))
  entries_follow =
      w.entries_are
      ∙ rw (shown, uses_both (item_list item) (items_of rest)) (after_both chosen w.entries (uses_all (item_list item)) (uses_all (items_of rest)))

  -- with them the bytes of the rule go on
  rule_follows : rule f (items_of (run_of f archive)) ≡ (sofar ++ bytes) ++ records_from f chosen entries' (items_of rest)
  rule_follows =
      w.rule-is
      ∙ rw (shown, records_behind f chosen w.entries item (items_of rest), ← wrote.bytes_are)
      (sym (append_assoc sofar bytes (records_from f chosen entries' (items_of rest))))

  -- a turn of the pass
  pub writing_turn : Turned f archive s tables slots₀ slots sofar (record_at f archive s.place).content (record_at f archive s.place).next
  writing_turn = record {
    number = goes;
    fits = wrote.fits;
    writing = record {
      small = w.small;
      bytes = w.bytes;
      sound = turn_sound f archive tables s w.sound w.opens more goes;
      opens = rw (turn_tables f tables s content) w.opens;
      steps = w.steps - 1;
      enough = omega (arith, turn_place f archive tables s w.sound w.opens more goes, w.enough, again);
      last-is = rw again last_follows;
      last_tables = rw again tables_follow;
      stop = rw again (rw passes at w.stop);
      loss = rw again loses_none.1;
      plain = w.plain;
      entries = entries';
      entries_are = rw again entries_follow;
      indexing = wrote.indexing;
      ready = rw again ready.1;
      fit = rw again fit.1;
      rule-is = rw again rule_follows;
      kept = kept_then archive (table_words f) (keys_of f archive) w.indexing.indexes.wide.some slots₀ slots _ w.kept wrote.kept;
    };
    room = omega (arith, ap length rule_follows, length-append (sofar ++ bytes) (records_from f chosen entries' (items_of rest)));
  }

-- ---- the start

-- tables of zeros
zeros_are : (tables : List ℕ) (n : ℕ) → length tables ≡ n → ((i : ℕ) → i < n → get_or tables i 0 ≡ 0) → tables ≡ replicate n 0
zeros_are tables n long zeros =
    ext_get_or 0 tables (replicate n 0) (long ∙ sym (length-replicate n 0))
    (λ i low. zeros i (omega arith) ∙ sym (get_or-replicate n i 0 0 (omega arith)))

-- the small format keeps its limits
small_limits : (f : Format) → f ≡ small_format → Small f
small_limits f is = subst Small (sym is) (record { longest = omega arith; highest = omega arith })

-- the run with them is the archive's
whole_run : (f : Format) (archive tables : List ℕ) → tables ≡ replicate (table_words f) 0
    → run_from f archive (suc (length archive / 8)) opening tables ≡ run_of f archive
unfolding run_of
whole_run f archive tables e = rw (e, add-one)

-- and ends in its last state
whole-last : (f : Format) (archive tables : List ℕ) → tables ≡ replicate (table_words f) 0
    → last_from f archive (suc (length archive / 8)) opening tables ≡ last_of f archive
unfolding last_of
whole-last f archive tables e = rw (e, add-one)

-- from opening, with tables of zeros and the choices in the slots, nothing is written yet
pub writing_start : (f : Format) (archive tables slots : List ℕ) → f ≡ small_format → AllBytes archive → opening_number f archive (table_words f) ≡ 0
    → refusal_of f (run_of f archive) ≡ none → length tables ≡ table_words f → ((i : ℕ) → i < table_words f → get_or tables i 0 ≡ 0)
    → Chosen f archive slots → Writing f archive opening tables slots slots []
unfolding rule
writing_start f archive tables slots is bytes opens passes long zeros chosen =
    let items = items_of (run_of f archive) in
    let accepted : Accepted f archive = record { opened = opens; not_refused = passes } in
    let zeroed = zeros_are tables (table_words f) long zeros in
    let run : run_from f archive (suc (length archive / 8)) opening tables ≡ run_of f archive = whole_run f archive tables zeroed in
    let fit = accepted_fit f archive is accepted bytes in
    record {
      small = small_limits f is;
      bytes = bytes;
      sound = rw zeroed (fresh_sound f archive);
      opens = rw long opens;
      steps = length archive / 8;
      enough = omega arith;
      last-is = whole-last f archive tables zeroed;
      last_tables = tables_open f archive tables zeroed;
      stop = rw run (not_refused-passes f (run_of f archive) passes).stop;
      loss = rw run (not_refused-passes f (run_of f archive) passes).loss;
      plain = items_plain f (chosen_in (uses_all items)) [] items fit;
      entries = [];
      entries_are = rw run;
      indexing = record { indexes = chosen; plain = tt; seen = []; registered = none_registered (chosen_in (uses_all items)) };
      ready = rw run (accepted_ready f archive is accepted bytes);
      fit = rw run fit;
      rule-is = rw run;
      kept = kept_same archive (table_words f) (keys_of f archive) slots;
    }
