-- The first pass over an archive: what holds before each record, that it holds at first and after each record, and what follows where a record stops
-- the pass and at the archive's end.
-- Assumes nothing.
use Prim.Native.Nat.{ℕ, zero, suc, ◌+◌, ◌*◌, ◌/◌, ◌≤◌, ◌<◌}
use mathlib.Core.Path.{◌≡◌, refl, sym, ap, subst, ◌∙◌}
use mathlib.Core.List.{List, [], ◌∷◌, ◌++◌, append_assoc, append-nil}
use mathlib.Core.Bool.{Bool, true, false, true≢false}
use Rattle.std.proofs.lemmas.Bool.{false_from_ne_true}
use mathlib.Core.Option.{Option, none, some}
use native.Mathlib.Omega.{arith}
use native.Mathlib.Numerals.{add-one}
use borrow.Author.Tests.{eq-eqb, ne_eqb}
use lib.ListN.{length, get_or, replicate}
use Rattle.passes.specs.Models.Codes.{codes, last_from, last_of}
use Rattle.passes.specs.Models.Last.{tables_from, tables_of}
use Rattle.passes.specs.Models.Item.{item_at}
use Rattle.passes.specs.Models.Follow.{stop_after, state_after, tables_after}
use Rattle.tally.specs.Models.Tally.{Wide, Tallies}
use Rattle.records.specs.Models.Fixed.{fixed_words}
use Rattle.words.proofs.Words.{AllBytes}
use Rattle.words.proofs.Tests.{cases}
use Rattle.registering.specs.Counting.{sum_by}
use Rattle.registering.proofs.Counting.{sum-append}
use Rattle.format.specs.declared.Format.{Format}
use Rattle.records.specs.Record.{record_at}
use Rattle.records.specs.Item.{Item, Use, uses_of}
use Rattle.contexts.specs.declared.State.{State}
use Rattle.contexts.specs.Context.{opening}
use Rattle.tables.specs.Table.{table_words}
use Rattle.reader.specs.declared.Answer.{Answer}
use Rattle.reader.specs.declared.Answer.TheVariants.{End, Nothing as NothingShown, Magic as MagicShown, ProviderInfo as ProviderInfoShown, Section as SectionShown, ProviderEvent as ProviderEventShown, Initialization as InitializationShown, Report as ReportShown, Skipped as SkippedShown}
use Rattle.reader.specs.Step.{opening_number, step_reply, step_tables}
use Rattle.reader.specs.Reads.{item_of}
use Rattle.reader.proofs.Runs.{Sound, fresh_sound}
use Rattle.reader.proofs.Steps.{admitted}
use Rattle.rule.specs.Rule.{uses_all}
use Rattle.rule.specs.Refusal.{Run, ended, passed, keeps_at, on_answer, run_from, run_of, Refusal, refusal, stop_refusal, item_uses, refusal_of, items_of}
use Rattle.rule.proofs.Lower.{fixed_words-low}
use Rattle.tally.proofs.Tallied.{empty_tally}
use Rattle.passes.proofs.Last.{tables_open, tables_turn, tables_stop, tables_end}
use Rattle.passes.proofs.Turns.{run_turn, run_end, turn_state, turn_tables_step, turn_sound, turn_place, turn_tables}
use Rattle.passes.proofs.Codes.{last_sound, last_context}
use Rattle.format.specs.Limits.{longest_archive}
use Rattle.std.specs.Prelude.{Some, None, is_none, is_ok}
use Rattle.std.specs.Result.{result_unwrap_or}
use Rattle.first_pass.specs.Models.Count.{Counted, record_checked, checked_slots}
use Rattle.first_pass.specs.Models.Found.{Finding, lowest_of, concluded, CountIs}
use Rattle.first_pass.specs.Models.Left.{counted_from, counted_of, FreeClear, SlotsLeft}
use Rattle.first_pass.proofs.Findings.{refusal_in, Low, lower, lower_none, lower_clean, lower_three, or_else_none, record_refusal, run_refusal, passed-refusal, found-low, found_turn, found_clean, found_none, counted-on, counted-last, says_none, says_some}
use Rattle.first_pass.proofs.Checked.{item_words, RecordCounted, record_counted}
use Rattle.first_pass.proofs.Kept.{SlotsKept, kept_same, kept_then, kept-wide, kept_clear}
use Rattle.first_pass.proofs.Told.{Told, told_noted}
use Rattle.first_pass.proofs.References.{Noted}
use Rattle.first_pass.proofs.Counts.{kept-noted}
use Rattle.tables.specs.Models.Entries.{FormatFits}

-- ---- items one behind the other

-- the item that a record shows, as a list
abbrev shown : Option Item → List Item
shown none = []
shown (some i) = i ∷ []

-- the items of a run are that of its first record and those of the others
shown_items : (place : ℕ) (keeps : Bool) (item : Option Item) (run : Run) → items_of (passed place keeps item run) ≡ shown item ++ items_of run
shown_items place keeps none run = refl
shown_items place keeps (some i) run = refl

-- its uses
shown_uses : (item : Option Item) → uses_all (shown item) ≡ item_uses item
shown_uses none = refl
shown_uses (some i) = append-nil (uses_of i)

-- its words
shown_words : (item : Option Item) → sum_by fixed_words (shown item) ≡ item_words item
shown_words none = refl
shown_words (some i) = omega arith

-- the uses of items behind items
uses_both : (a b : List Item) → uses_all (a ++ b) ≡ uses_all a ++ uses_all b
uses_both [] b = refl
uses_both (i ∷ a) b = ap (λ (l : List Use). uses_of i ++ l) (uses_both a b) ∙ sym (append_assoc (uses_of i) (uses_all a) (uses_all b))

-- a run that adds no refusal is counted with the uses of all its items
counted_items : (f : Format) (uses : List Use) (run : Run) → run_refusal f uses run ≡ none → counted_from f uses run ≡ uses ++ uses_all (items_of run)
unfolding counted_from
counted_items f uses (ended number place) e = sym (append-nil uses)
counted_items f uses (passed place keeps item run) e =
    let first = record_refusal f keeps item (uses ++ item_uses item) place in
    let both = lower_clean first (run_refusal f (uses ++ item_uses item) run) (sym (passed-refusal f uses place keeps item run) ∙ e) in
    let shows : uses_all (items_of (passed place keeps item run)) ≡ item_uses item ++ uses_all (items_of run) =
    ap uses_all (shown_items place keeps item run)
    ∙ (uses_both (shown item) (items_of run) ∙ ap (λ (l : List Use). l ++ uses_all (items_of run)) (shown_uses item)) in
    counted-on f uses place keeps item run both.0
    ∙ (counted_items f (uses ++ item_uses item) run both.1
    ∙ (append_assoc uses (item_uses item) (uses_all (items_of run)) ∙ ap (λ (l : List Use). uses ++ l) (sym shows)))

-- so of an archive that is not refused all uses are counted
pub counted-whole : (f : Format) (archive : List ℕ) → refusal_of f (run_of f archive) ≡ none → counted_of f archive ≡ uses_all (items_of (run_of f archive))
unfolding refusal_of
counted-whole f archive e = counted_items f [] (run_of f archive) (or_else_none (stop_refusal (run_of f archive)) _ e)

-- and the slots that the pass leaves tell of them
pub left_tally : (f : Format) (archive slots : List ℕ) → refusal_of f (run_of f archive) ≡ none → SlotsLeft f archive slots
    → Tallies archive (table_words f) slots (codes f (last_of f archive) (uses_all (items_of (run_of f archive))))
left_tally f archive slots e left = rw (counted-whole f archive e) at left.tally

-- ---- what holds before each record

-- `done` are the items up to the state's place, and the rest of the run is read with so many steps from the state on, which lead to the state and the
-- tables at its end. What is found in all is the lower one of what was found and what the rest adds. As long as nothing is found, the slots tell of the
-- uses of `done`, and the words are theirs; afterwards, of all uses that are counted.
pub record Counting (f : Format) (archive : List ℕ) (s : State) (tables slots₀ slots : List ℕ) (found : Finding) (words : ℕ) : Type 0 where
  pub fits : FormatFits f
  pub bytes : AllBytes archive
  pub sound : Sound f archive s tables
  pub opens : opening_number f archive (length tables) ≡ 0
  pub wide : Wide (table_words f) slots
  pub kept : SlotsKept f slots₀ slots
  pub steps : ℕ
  pub enough : length archive < s.place + 8 * suc steps
  pub last : last_from f archive (suc steps) s tables ≡ last_of f archive
  pub last_tables : tables_from f archive (suc steps) s tables ≡ tables_of f archive
  pub done : List Item
  pub items : items_of (run_of f archive) ≡ done ++ items_of (run_from f archive (suc steps) s tables)
  pub stops : stop_refusal (run_of f archive) ≡ stop_refusal (run_from f archive (suc steps) s tables)
  pub finds : run_refusal f [] (run_of f archive) ≡ lower (refusal_in found) (run_refusal f (uses_all done) (run_from f archive (suc steps) s tables))
  pub low : Low found
  pub told : is_none found ≡ true → Told f archive (last_of f archive) slots (uses_all done)
  pub counted : is_none found ≡ true → words ≡ sum_by fixed_words done
  pub clear : FreeClear (table_words f) slots
  pub counts-on : is_none found ≡ true → counted_of f archive ≡ counted_from f (uses_all done) (run_from f archive (suc steps) s tables)
  pub counts_told : is_none found ≡ false → Told f archive (last_of f archive) slots (counted_of f archive)
  pub few_words : 8 * words ≤ s.place

-- ---- the start

-- a list of zeros
zeros_are : (n : ℕ) (l : List ℕ) → length l ≡ n → ((i : ℕ) → i < n → get_or l i 0 ≡ 0) → l ≡ replicate n 0
zeros_are zero [] e h = refl
zeros_are zero (x ∷ xs) e h = absurd (omega arith)
zeros_are (suc n) [] e h = absurd (omega arith)
zeros_are (suc n) (x ∷ xs) e h =
    let first : x ≡ 0 = h 0 (omega arith) in
    let others = zeros_are n xs (omega arith) (λ i l. h (suc i) (omega arith)) in
    cc

-- it holds in the opening state, with tables and slots of zeros and nothing found
pub counting_start : (f : Format) (archive tables slots : List ℕ) → FormatFits f → AllBytes archive → opening_number f archive (table_words f) ≡ 0
    → length tables ≡ table_words f → ((i : ℕ) → i < table_words f → get_or tables i 0 ≡ 0)
    → Wide (table_words f) slots → ((i : ℕ) → i < 3 * table_words f → get_or slots i 0 ≡ 0)
    → Counting f archive opening tables slots slots None 0
unfolding run_of last_of
counting_start f archive tables slots fits bytes opens long zeros wide clear =
    let fresh = zeros_are (table_words f) tables long zeros in
    let n = add-one (length archive / 8) in
    record {
      fits = fits;
      bytes = bytes;
      sound = rw fresh (fresh_sound f archive);
      opens = rw long opens;
      wide = wide;
      kept = kept_same f slots;
      steps = length archive / 8;
      enough = omega arith;
      last = rw (fresh, n);
      last_tables = tables_open f archive tables fresh;
      done = [];
      items = rw (fresh, n);
      stops = rw (fresh, n);
      finds = rw (fresh, n);
      low = tt;
      told = λ z. record {
        plain = tt;
        contexts = tt;
        tally = empty_tally archive (table_words f) slots wide clear;
        within = λ mark l. omega arith;
      };
      counted = λ z. refl;
      clear = λ s low e. (clear s (omega arith), λ l. clear (table_words f + s) (omega arith));
      counts-on = λ z. rw (fresh, n);
      counts_told = λ other. absurd (true≢false other);
      few_words = omega arith;
    }

module _ (f : Format) (archive : List ℕ) (s : State) (tables slots₀ slots : List ℕ) (found : Finding) (words : ℕ)
    (h : Counting f archive s tables slots₀ slots found words) where
  -- it holds on where a word is remembered
  pub counting_noted : (after : List ℕ) → Noted f slots after → Counting f archive s tables slots₀ after found words
  counting_noted after noted =
      let kept = kept-noted f slots after noted in
      record {
        fits = h.fits;
        bytes = h.bytes;
        sound = h.sound;
        opens = h.opens;
        wide = kept-wide kept.long h.wide;
        kept = kept_then f slots₀ slots after h.kept kept;
        steps = h.steps;
        enough = h.enough;
        last = h.last;
        last_tables = h.last_tables;
        done = h.done;
        items = h.items;
        stops = h.stops;
        finds = h.finds;
        low = h.low;
        told = λ z. told_noted f archive (last_of f archive) slots after (uses_all h.done) noted (h.told z);
        counted = h.counted;
        clear = kept_clear kept h.wide h.clear;
        counts-on = h.counts-on;
        counts_told = λ other. told_noted f archive (last_of f archive) slots after (counted_of f archive) noted (h.counts_told other);
        few_words = h.few_words;
      }

  -- where the rest of the run adds no uses, the slots are those that the pass leaves
  slots_left : counted_from f (uses_all h.done) (run_from f archive (suc h.steps) s tables) ≡ uses_all h.done → SlotsLeft f archive slots
  slots_left rest = record {
    tally = cases (is_none found)
        (λ e. let z = e in rw (h.counts-on z ∙ rest) (h.told z).tally)
        (λ e. (h.counts_told e).tally);
    free = h.clear;
  }

  -- ---- one record

  -- the archive is one that opening takes, so it is short
  pub counting_short : length archive ≤ longest_archive
  counting_short = (admitted f archive (length tables) h.opens).short

  -- the record at the state's place is counted against its item
  here : RecordCounted f archive (last_of f archive) s.place found (uses_all h.done) (keeps_at f archive s.place)
      (item_at f archive tables s (record_at f archive s.place).content (record_at f archive s.place).next) slots
      (checked_slots f archive (tables_after f tables s (record_at f archive s.place).content) slots s (record_at f archive s.place).content
      (record_at f archive s.place).next (is_none found))
      (record_checked f archive (tables_after f tables s (record_at f archive s.place).content) slots s (record_at f archive s.place).content
      (record_at f archive s.place).next (is_none found))
  here =
      record_counted f archive h.fits (last_of f archive) (rw h.last at (last_sound f archive (suc h.steps) s tables h.sound).1.count) h.bytes tables s
      h.opens counting_short h.sound.before (omega (arith, h.sound.current, h.sound.count))
      (rw h.last at (last_context f archive (suc h.steps) s tables h.sound)) found (uses_all h.done) slots h.told

  module _ (more : s.place < length archive) where
    -- a run whose record goes on
    goes_on : (stop_after s (record_at f archive s.place).content (record_at f archive s.place).next) ≡ 0 → (steps : ℕ)
        → run_from f archive (suc steps) s tables
        ≡ passed s.place (keeps_at f archive s.place)
        (item_at f archive tables s (record_at f archive s.place).content (record_at f archive s.place).next)
        (run_from f archive steps (state_after s (record_at f archive s.place).content (record_at f archive s.place).next)
        (tables_after f tables s (record_at f archive s.place).content))
    goes_on goes steps =
        run_turn f archive tables s h.sound h.opens more steps
        ∙ rw (eq-eqb (stop_after s (record_at f archive s.place).content (record_at f archive s.place).next) 0 goes)

    -- the item that the record shows is the one that the step shows
    item_shown : (stop_after s (record_at f archive s.place).content (record_at f archive s.place).next) ≡ 0
        → item_of f archive (step_tables f archive tables s) (step_reply f archive tables s).state (step_reply f archive tables s).answer
        ≡ item_at f archive tables s (record_at f archive s.place).content (record_at f archive s.place).next
    unfolding run_from
    item_shown goes = go (step_reply f archive tables s).answer (goes_on goes 0)
      where
        same : {place place' : ℕ} {keeps keeps' : Bool} {item item' : Option Item} {run run' : Run}
            → passed place keeps item run ≡ passed place' keeps' item' run' → item ≡ item'
        same e = cc

        go : (answer : Answer)
            → on_answer answer ended (passed s.place (keeps_at f archive s.place)
            (item_of f archive (step_tables f archive tables s) (step_reply f archive tables s).state answer)
            (ended 0 (step_reply f archive tables s).state.place))
            ≡ passed s.place (keeps_at f archive s.place)
            (item_at f archive tables s (record_at f archive s.place).content (record_at f archive s.place).next)
            (ended 0 (state_after s (record_at f archive s.place).content (record_at f archive s.place).next).place)
            → item_of f archive (step_tables f archive tables s) (step_reply f archive tables s).state answer
            ≡ item_at f archive tables s (record_at f archive s.place).content (record_at f archive s.place).next
        go (End number place) e = let z : ◌≡◌ {A = ℕ} 0 1 = cc in absurd (omega arith)
        go NothingShown e = same e
        go MagicShown e = same e
        go (ProviderInfoShown id place long) e = same e
        go (SectionShown id) e = same e
        go (ProviderEventShown id event) e = same e
        go (InitializationShown rate) e = same e
        go (ReportShown r) e = same e
        go (SkippedShown type size) e = same e

    -- so its words stand in the record
    item_words_lem : (stop_after s (record_at f archive s.place).content (record_at f archive s.place).next) ≡ 0
        → s.place + 8 * item_words (item_at f archive tables s (record_at f archive s.place).content (record_at f archive s.place).next)
        ≤ (record_at f archive s.place).next
    item_words_lem goes =
        let place = turn_place f archive tables s h.sound h.opens more goes in
        go (item_at f archive tables s (record_at f archive s.place).content (record_at f archive s.place).next) (item_shown goes)
        (omega (arith, place, ap (λ (t : State). t.place) (turn_state f archive tables s h.sound h.opens more goes))) (omega (arith, place))
      where
        go : (item : Option Item)
            → item_of f archive (step_tables f archive tables s) (step_reply f archive tables s).state (step_reply f archive tables s).answer ≡ item
            → (step_reply f archive tables s).state.place ≡ (record_at f archive s.place).next → s.place ≤ (record_at f archive s.place).next
            → s.place + 8 * item_words item ≤ (record_at f archive s.place).next
        go none is at behind = omega arith
        go (some i) is at behind = omega (arith, at, fixed_words-low f archive s tables i h.sound is)

    -- and with them all words counted up to it stand in the archive
    pub counting_words : (stop_after s (record_at f archive s.place).content (record_at f archive s.place).next) ≡ 0
        → 8 * (words
        + result_unwrap_or (record_checked f archive (tables_after f tables s (record_at f archive s.place).content) slots s (record_at f archive s.place).content
        (record_at f archive s.place).next (is_none found)) 0) ≤ (record_at f archive s.place).next
    counting_words goes = omega (arith, here.few_words, h.few_words, item_words_lem goes)

    -- behind a record that goes on it holds again
    pub counting_turn : (stop_after s (record_at f archive s.place).content (record_at f archive s.place).next) ≡ 0
        → Counting f archive (state_after s (record_at f archive s.place).content (record_at f archive s.place).next)
        (tables_after f tables s (record_at f archive s.place).content) slots₀
        (checked_slots f archive (tables_after f tables s (record_at f archive s.place).content) slots s (record_at f archive s.place).content
        (record_at f archive s.place).next (is_none found))
        (lowest_of found (record_checked f archive (tables_after f tables s (record_at f archive s.place).content) slots s (record_at f archive s.place).content
        (record_at f archive s.place).next (is_none found)) s.place)
        (words
        + result_unwrap_or (record_checked f archive (tables_after f tables s (record_at f archive s.place).content) slots s (record_at f archive s.place).content
        (record_at f archive s.place).next (is_none found)) 0)
    unfolding last_from
    counting_turn goes =
        go h.steps h.enough h.last h.last_tables h.items h.stops h.finds h.counts-on
      where
        next : ℕ
        next = (record_at f archive s.place).next

        s' : State
        s' = (state_after s (record_at f archive s.place).content next)

        tables' : List ℕ
        tables' = tables_after f tables s (record_at f archive s.place).content

        slots' : List ℕ
        slots' = checked_slots f archive tables' slots s (record_at f archive s.place).content next (is_none found)

        counted : Counted
        counted = record_checked f archive tables' slots s (record_at f archive s.place).content next (is_none found)

        item : Option Item
        item = item_at f archive tables s (record_at f archive s.place).content next

        keeps : Bool
        keeps = keeps_at f archive s.place

        place_is : (s'.place ≡ next) × (s.place + 8 ≤ next) × (next ≤ length archive)
        place_is = turn_place f archive tables s h.sound h.opens more goes

        before : List Use
        before = uses_all h.done

        found' : Finding
        found' = lowest_of found counted s.place

        done' : List Item
        done' = h.done ++ shown item

        uses_are : uses_all done' ≡ before ++ item_uses item
        uses_are = uses_both h.done (shown item) ∙ ap (λ (l : List Use). before ++ l) (shown_uses item)

        clean : is_none found' ≡ true → (is_none found ≡ true) × (is_ok counted ≡ true)
        clean = found_clean found counted s.place

        go : (steps : ℕ) → length archive < s.place + 8 * suc steps → last_from f archive (suc steps) s tables ≡ last_of f archive
            → tables_from f archive (suc steps) s tables ≡ tables_of f archive
            → items_of (run_of f archive) ≡ h.done ++ items_of (run_from f archive (suc steps) s tables)
            → stop_refusal (run_of f archive) ≡ stop_refusal (run_from f archive (suc steps) s tables)
            → run_refusal f [] (run_of f archive) ≡ lower (refusal_in found) (run_refusal f before (run_from f archive (suc steps) s tables))
            → (is_none found ≡ true → counted_of f archive ≡ counted_from f before (run_from f archive (suc steps) s tables))
            → Counting f archive s' tables' slots₀ slots' found' (words + result_unwrap_or counted 0)
        go zero enough last stand items stops finds on = absurd (omega (arith, enough, place_is))
        go (suc steps) enough last stand items stops finds on =
            let rest = run_from f archive (suc steps) s' tables' in
            let run = goes_on goes (suc steps) in
            record {
              fits = h.fits;
              bytes = h.bytes;
              sound = turn_sound f archive tables s h.sound h.opens more goes;
              opens = rw (turn_tables f tables s (record_at f archive s.place).content) h.opens;
              wide = kept-wide here.kept.long h.wide;
              kept = kept_then f slots₀ slots slots' h.kept here.kept;
              steps = steps;
              enough = omega (arith, enough, place_is);
              last = rw (← turn_state f archive tables s h.sound h.opens more goes, ← turn_tables_step f archive tables s h.sound h.opens more goes) last;
              last_tables = sym (tables_turn f archive tables s (suc steps) h.sound h.opens more goes) ∙ stand;
              done = done';
              items = items
                  ∙ (ap (λ (r : Run). h.done ++ items_of r) run
                  ∙ (ap (λ (l : List Item). h.done ++ l) (shown_items s.place keeps item rest) ∙ sym (append_assoc h.done (shown item) (items_of rest))));
              stops = stops ∙ ap stop_refusal run;
              finds = finds
                  ∙ (ap (λ (r : Run). lower (refusal_in found) (run_refusal f before r)) run
                  ∙ (ap (lower (refusal_in found)) (passed-refusal f before s.place keeps item rest)
                  ∙ (lower_three (refusal_in found) (record_refusal f keeps item (before ++ item_uses item) s.place) (run_refusal f (before ++ item_uses item) rest)
                  ∙ (ap (λ (x : Option Refusal). lower x (run_refusal f (before ++ item_uses item) rest))
                  (found_turn found counted s.place (record_refusal f keeps item (before ++ item_uses item) s.place) h.low here.says)
                  ∙ ap (λ (l : List Use). lower (refusal_in found') (run_refusal f l rest)) (sym uses_are)))));
              low = found-low found counted s.place h.low here.says.low;
              told = λ z. rw uses_are (here.told (clean z).0 (clean z).1);
              counted = λ z.
                  let own = here.words (clean z).0 (clean z).1 in
                  omega (arith, own, h.counted (clean z).0, sum-append fixed_words h.done (shown item), shown_words item);
              clear = kept_clear here.kept h.wide h.clear;
              counts-on = λ z.
                  let none-added = says_none found counted s.place _ (clean z).0 here.says (clean z).1 in
                  on (clean z).0
                  ∙ (ap (counted_from f before) run
                  ∙ (counted-on f before s.place keeps item rest none-added
                  ∙ ap (λ (l : List Use). counted_from f l rest) (sym uses_are)));
              counts_told = λ other.
                  cases (is_none found)
                  (λ e. let z = e in
                  let some_number : is_ok counted ≡ false = false_from_ne_true (is_ok counted) (λ q. true≢false (sym (found_none found counted s.place z q) ∙ other)) in
                  rw (on z
                  ∙ (ap (counted_from f before) run
                  ∙ counted-last f before s.place keeps item rest (says_some found counted s.place _ z here.says some_number)))
                  (here.tells_of z))
                  (λ e. let n = e in
                  subst (λ (l : List ℕ). Told f archive (last_of f archive) l (counted_of f archive)) (sym (here.rests n)) (h.counts_told n));
              few_words = omega (arith, counting_words goes, place_is);
            }

    -- ---- a record that stops the pass

    -- the archive is refused by its number, at its place
    pub counting_stop : ((stop_after s (record_at f archive s.place).content (record_at f archive s.place).next) ≡ 0 → ⊥)
        → refusal_of f (run_of f archive)
        ≡ some (refusal (stop_after s (record_at f archive s.place).content (record_at f archive s.place).next) s.place)
    unfolding refusal_of
    counting_stop stop =
        let test = ne_eqb (stop_after s (record_at f archive s.place).content (record_at f archive s.place).next) 0 stop in
        let run = run_turn f archive tables s h.sound h.opens more h.steps in
        rw (h.stops ∙ ap stop_refusal run, test, test)

    -- the slots are those that the pass leaves
    pub stop_slots : ((stop_after s (record_at f archive s.place).content (record_at f archive s.place).next) ≡ 0 → ⊥)
        → SlotsLeft f archive slots
    unfolding counted_from
    stop_slots stop =
        let test = ne_eqb (stop_after s (record_at f archive s.place).content (record_at f archive s.place).next) 0 stop in
        slots_left (rw (run_turn f archive tables s h.sound h.opens more h.steps, test))

    -- and the tables that it is followed in are those that the pass leaves
    pub stop_tables : ((stop_after s (record_at f archive s.place).content (record_at f archive s.place).next) ≡ 0 → ⊥)
        → tables_after f tables s (record_at f archive s.place).content ≡ tables_of f archive
    stop_tables stop = sym (tables_stop f archive tables s (suc h.steps) h.sound h.opens more stop) ∙ h.last_tables

  -- ---- the end

  -- at the archive's length the tables are those that the pass leaves
  pub end_tables : s.place ≡ length archive → tables ≡ tables_of f archive
  end_tables end = sym (tables_end f archive tables s (suc h.steps) h.sound h.opens end) ∙ h.last_tables

  -- so are the slots
  pub end_slots : s.place ≡ length archive → SlotsLeft f archive slots
  unfolding counted_from
  end_slots end = slots_left (rw (run_end f archive tables s h.steps h.sound h.opens end))

  -- there what was found says whether the archive is refused; if it is not, the words are those of all items
  pub counting_end : s.place ≡ length archive → CountIs f archive (concluded found words)
  unfolding concluded refusal_of
  counting_end end =
      let run = run_end f archive tables s h.steps h.sound h.opens end in
      let stops : stop_refusal (run_of f archive) ≡ none = h.stops ∙ ap stop_refusal run in
      let finds : run_refusal f [] (run_of f archive) ≡ refusal_in found =
      h.finds ∙ (ap (λ (r : Run). lower (refusal_in found) (run_refusal f (uses_all h.done) r)) run ∙ lower_none (refusal_in found)) in
      let items : items_of (run_of f archive) ≡ h.done = h.items ∙ (ap (λ (r : Run). h.done ++ items_of r) run ∙ append-nil h.done) in
      go found stops finds (λ z. rw items (h.counted z))
    where
      go : (x : Finding) → stop_refusal (run_of f archive) ≡ none → run_refusal f [] (run_of f archive) ≡ refusal_in x
          → (is_none x ≡ true → words ≡ sum_by fixed_words (items_of (run_of f archive))) → CountIs f archive (concluded x words)
      go None stops finds counted = (rw stops finds, counted refl)
      go (Some refused) stops finds counted = rw stops finds
