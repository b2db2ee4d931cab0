-- The list of items that an accepted archive of bytes reads as can be written by the rule.
-- Assumes nothing.
use Prim.Native.Nat.{ℕ, zero, suc, ◌+◌, ◌*◌, ◌/◌, ◌≤◌, ◌<◌}
use mathlib.Core.Path.{◌≡◌, refl, sym, ap, ◌∙◌}
use mathlib.Core.List.{[], List, ◌∷◌}
use mathlib.Core.Bool.{Bool, true, false}
use mathlib.Core.Option.{Option, none, some}
use native.Mathlib.Omega.{arith}
use lib.Dec.{ltb}
use lib.ListN.{length, length-set, take, drop, replicate, take-append-drop, length-replicate}
use Rattle.effects.specs.Follow.{changed}
use Rattle.words.proofs.Tests.{on-pick, cases}
use Rattle.words.specs.Word.{pick}
use Rattle.words.specs.Stream.{magic as magic_bytes, starts_with_magic}
use Rattle.words.proofs.Same.{same_true}
use Rattle.words.proofs.Words.{AllBytes, At}
use Rattle.format.specs.declared.Format.{Format}
use Rattle.format.specs.Limits.{small_format, longest_archive}
use Rattle.records.specs.Item.{Item, magic, item_provider, Key, text_key, thread_key, Use, uses_of}
use Rattle.encoding.specs.Encoded.{item_record}
use Rattle.encoding.proofs.EncodedItems.{magic-fits, magic_record}
use Rattle.contexts.specs.declared.State.{State}
use Rattle.contexts.specs.Context.{opening}
use Rattle.tables.specs.Table.{table_words}
use Rattle.reader.specs.declared.Answer.TheVariants.{Nothing}
use Rattle.effects.specs.declared.Change.TheVariants.{Keep, Set}
use Rattle.reader.specs.Step.{opening_number, decision_of, step_reply, step_tables}
use Rattle.reader.specs.Reads.{item_of, Reads, ends, passes, shows, ReadsAs}
use Rattle.reader.proofs.ByItems.{contexts_of, after, after_shown, contexts_by_items}
use Rattle.reader.proofs.Runs.{Sound, fresh_sound, step_sound}
use Rattle.reader.proofs.Steps.{admitted}
use Rattle.effects.specs.declared.Change.{Change}
use Rattle.format.specs.Header.{archive_number}
use Rattle.rule.specs.Rule.{same_key, same_provider, uses_all, Entry, index_in, next_index, is_new, with_use, entries_after, chosen_in, rule}
use Rattle.rule.specs.Refusal.{keeps_at, run_from, run_of, Refusal, refusal, loss_refusal, unresolved_refusal, item_unresolved, Accepted}
use Rattle.rule.proofs.Fitting.{GoodItem, step_good}
use Rattle.rule.proofs.Items.{ShownAs, item_shown}
use Rattle.rule.proofs.Limits.{Limited, limits-kept, limits_of, LowTable, low-index, UsesLow, uses_low}
use Rattle.rule.proofs.Plain.{ItemPlain, Low, SomeKey, KeysPlain, plain_fits, plain-keys}
use Rattle.rule.proofs.ReadBack.{UsesFit, AllFit, AllSuit, Starts, Writable}
use Rattle.rule.proofs.WholeRuns.{nothing_advances, item_advances, run_passes, run_shows, reads_items, not_refused-passes}

-- ---- plain items within the limits fit as they are written

-- items that are all plain
abbrev pub AllPlain : Format → List Item → Type 0
AllPlain f [] = Unit {0}
AllPlain f (i ∷ items) = ItemPlain f i × AllPlain f items

uses_fit : (chosen : Use → Bool) (entries : List Entry) (us : List Use) → KeysPlain us → UsesLow small_format chosen entries us
    → UsesFit small_format chosen entries us
uses_fit chosen entries [] k l = tt
uses_fit chosen entries (u ∷ us) k l =
    ((λ e. k.0 (next_index entries u) (l.0 e).0 (l.0 e).1), uses_fit chosen (with_use chosen entries u) us k.2 l.1)

-- the empty text has no index
abbrev NoEmpty : List Entry → Type 0
NoEmpty entries = (provider : Option ℕ) → index_in entries provider (text_key []) ≡ 0

-- a use of another key gives it none
other_use : (entries : List Entry) (u : Use) (index : ℕ) → SomeKey u.key → NoEmpty entries → NoEmpty (record { use_of = u; index = index } ∷ entries)
other_use entries u index named empty provider =
    let other = not_empty u.key named in
    cases (same_provider provider u.provider) (λ e. rw (e, other) (empty provider)) (λ e. rw e (empty provider))
  where
    not_empty : (key : Key) → SomeKey key → same_key (text_key []) key ≡ false
    not_empty (text_key []) h = absurd h
    not_empty (text_key (b ∷ bs)) h = refl
    not_empty (thread_key t) h = refl

-- so it has none behind uses of plain items
empty_left : (chosen : Use → Bool) (entries : List Entry) (us : List Use) → KeysPlain us → NoEmpty entries → NoEmpty (entries_after chosen entries us)
empty_left chosen entries [] k empty = empty
empty_left chosen entries (u ∷ us) k empty =
    empty_left chosen (with_use chosen entries u) us k.2
    (cases (is_new chosen entries u) (λ e. rw e (other_use entries u (next_index entries u) k.1 empty)) (λ e. rw e empty))

-- plain items fit where their uses keep the limits
pub all_fit : (chosen : Use → Bool) (entries : List Entry) (items : List Item) → AllPlain small_format items
    → Limited small_format (entries_after chosen entries (uses_all items)) (uses_all items) → LowTable small_format entries → NoEmpty entries
    → AllFit small_format chosen entries items
all_fit chosen entries [] plain limited low empty = tt
all_fit chosen entries (i ∷ items) plain limited low empty =
    let u = uses_low small_format chosen entries (uses_of i) (uses_all items) limited low in
    let keys = plain-keys i plain.0 in
    let left = empty_left chosen entries (uses_of i) keys empty in
    let entries' = entries_after chosen entries (uses_of i) in
    let indexes : Low (index_in entries' (item_provider i)) =
    record { limited = low-index small_format entries' (item_provider i) u.1; empty = left (item_provider i) } in (
      uses_fit chosen entries (uses_of i) keys u.0,
      plain_fits (index_in entries' (item_provider i)) i indexes plain.0,
      all_fit chosen entries' items plain.1 u.2 u.1 left,
    )

-- ---- a run that loses nothing

-- where a run loses nothing, its first record does not, and what is behind it does not
pub loss_turn : (keeps : Bool) (rest : Option Refusal) (r : Refusal) → pick keeps rest (some r) ≡ none → (keeps ≡ true) × (rest ≡ none)
loss_turn true rest r e = (refl, e)
loss_turn false rest r e = let z : ◌≡◌ {A = ℕ} 0 1 = cc in absurd (omega arith)

unresolved_turn : (b : Bool) (rest : Option Refusal) (r : Refusal) → pick b (some r) rest ≡ none → (b ≡ false) × (rest ≡ none)
unresolved_turn true rest r e = let z : ◌≡◌ {A = ℕ} 0 1 = cc in absurd (omega arith)
unresolved_turn false rest r e = (refl, e)

-- what a run that loses nothing, and leaves nothing unresolved, has read
record RunGood (f : Format) (s : State) (items : List Item) : Type 0 where
  suits : AllSuit (contexts_of s) items
  plain : AllPlain f items

-- a step keeps the number of table words
changed-length : (tables : List ℕ) (c : Change) → length (changed tables c) ≡ length tables
unfolding changed
changed-length tables Keep = refl
changed-length tables (Set place entry) = length-set tables place entry

-- a step that shows nothing leaves the contexts
passes_keep : (f : Format) (archive : List ℕ) (s : State) (tables : List ℕ) → (step_reply f archive tables s).answer ≡ Nothing
    → contexts_of (step_reply f archive tables s).state ≡ contexts_of s
unfolding item_of
passes_keep f archive s tables e = rw e at (contexts_by_items f archive tables s)

-- a run with enough steps, over records that lose nothing and resolve everything, reads plain items that suit their contexts
run_good : (f : Format) (archive : List ℕ) → AllBytes archive → {s : State} {tables : List ℕ} {items : List Item}
    → Reads f archive s tables items → (steps : ℕ) → opening_number f archive (length tables) ≡ 0 → Sound f archive s tables
    → length archive < s.place + 8 * steps → loss_refusal (run_from f archive steps s tables) ≡ none
    → unresolved_refusal (run_from f archive steps s tables) ≡ none → RunGood f s items
run_good f archive bytes (ends s tables place e) zero opens sound enough loss whole = absurd (omega (arith, enough, sound.before))
run_good f archive bytes (ends s tables place e) (suc steps) opens sound enough loss whole =
    record { suits = tt; plain = tt }
run_good f archive bytes (passes s tables items e r) zero opens sound enough loss whole = absurd (omega (arith, enough, sound.before))
run_good f archive bytes (passes s tables items e r) (suc steps) opens sound enough loss whole =
    let s' = (step_reply f archive tables s).state in
    let tables' = step_tables f archive tables s in
    let rest = run_from f archive steps s' tables' in
    let run = run_passes f archive steps s tables e in
    let l = loss_turn (keeps_at f archive s.place) (loss_refusal rest) (refusal 10 s.place) (rw run at loss) in
    let far : s.place + 8 ≤ s'.place = nothing_advances f archive tables s e in
    let good = run_good f archive bytes r steps (rw (changed-length tables (decision_of f archive tables s).change) opens)
    (step_sound f archive tables s sound) (omega (arith, enough, far)) l.1 (rw run at whole) in
    record { suits = rw (passes_keep f archive s tables e) at good.suits; plain = good.plain }
run_good f archive bytes (shows s tables i items e r) zero opens sound enough loss whole = absurd (omega (arith, enough, sound.before))
run_good f archive bytes (shows s tables i items e r) (suc steps) opens sound enough loss whole =
    let s' = (step_reply f archive tables s).state in
    let tables' = step_tables f archive tables s in
    let rest = run_from f archive steps s' tables' in
    let run = run_shows f archive steps s tables i e in
    let l = loss_turn (keeps_at f archive s.place) (loss_refusal rest) (refusal 10 s.place) (rw run at loss) in
    let u = unresolved_turn (item_unresolved (some i)) (unresolved_refusal rest) (refusal 11 s.place) (rw run at whole) in
    let item : GoodItem f (contexts_of s) (some i) = rw e at (step_good f archive tables s opens sound bytes l.0) in
    let far = item_advances f archive tables s i e in
    let good = run_good f archive bytes r steps (rw (changed-length tables (decision_of f archive tables s).change) opens)
    (step_sound f archive tables s sound) (omega (arith, enough, far)) l.1 u.1 in
    let here = item u.0 in
    let same : contexts_of s' ≡ after (contexts_of s) i = contexts_by_items f archive tables s ∙ ap (after_shown (contexts_of s)) e in
    record { suits = (here.0, rw same at good.suits); plain = (here.1, good.plain) }

-- ---- the first item

-- an archive that opening takes begins with the magic
opening-magic : (f : Format) (archive : List ℕ) (room : ℕ) → opening_number f archive room ≡ 0 → starts_with_magic archive ≡ true
unfolding opening_number archive_number
opening-magic f archive room =
    on-pick P (ltb longest_archive (length archive)) _ _ (λ e z. absurd (omega arith))
    (λ e. cases (starts_with_magic archive) (λ m z. m) (λ m. rw m (λ z. absurd (omega arith))))
  where
    P : ℕ → Type 0
    P n = n ≡ 0 → starts_with_magic archive ≡ true

magic_at : (archive : List ℕ) → starts_with_magic archive ≡ true → At archive 0 magic_bytes
unfolding starts_with_magic
magic_at archive e = (drop 8 archive, sym (take-append-drop 8 archive) ∙ rw (same_true (take 8 archive) magic_bytes e))

-- so its first item is the magic
begins : (f : Format) (archive : List ℕ) {s : State} {tables : List ℕ} {items : List Item} → Reads f archive s tables items
    → (next : ℕ) → ShownAs f archive tables magic next (decision_of f archive tables s) → Starts items
unfolding item_of
begins f archive (ends s tables place e) next shown =
    let none_shown : none ≡ some magic = rw e at shown.item in let z : ◌≡◌ {A = ℕ} 0 1 = cc in absurd (omega arith)
begins f archive (passes s tables items e r) next shown =
    let none_shown : none ≡ some magic = rw e at shown.item in let z : ◌≡◌ {A = ℕ} 0 1 = cc in absurd (omega arith)
begins f archive (shows s tables i items e r) next shown =
    let first : some i ≡ some magic = sym e ∙ rw shown.keeps shown.item in
    let is : i ≡ magic = cc in
    (items, rw is refl)

-- ---- accepted archives

-- the list that an accepted archive of bytes reads as can be written, if the rule's bytes are no more than the archive's
pub accepted_writable : (archive : List ℕ) (items : List Item) → Accepted small_format archive → AllBytes archive
    → ReadsAs small_format archive items → length (rule small_format items) ≤ length archive → Writable small_format items
unfolding run_of
accepted_writable archive items accepted bytes reads short =
    let f = small_format in
    let tables : List ℕ = replicate (table_words f) 0 in
    let opens : opening_number f archive (length tables) ≡ 0 = rw (length-replicate {A = ℕ} (table_words f) 0) accepted.opened in
    let sound = fresh_sound f archive in
    let run = run_from f archive (length archive / 8 + 1) opening tables in
    let passes = not_refused-passes f run accepted.not_refused in
    let good = run_good f archive bytes reads.1 (length archive / 8 + 1) opens sound (omega arith) passes.loss passes.whole in
    let index = index_in [] none in
    let begins_so : At archive 0 (item_record small_format index magic) =
    rw (magic_record small_format index) (magic_at archive (opening-magic f archive (table_words f) accepted.opened)) in
    let shown = item_shown f archive tables opening [] opens sound tt magic tt (magic-fits f index refl) begins_so in
    let limits = limits_of f [] run refl passes.limits in
    let limited = limits-kept f (chosen_in (uses_all items)) (uses_all items) (uses_all items) (rw (reads_items f archive items reads) at limits) in
    record {
      starts = begins f archive reads.1 _ shown;
      suits = good.suits;
      fits = all_fit (chosen_in (uses_all items)) [] items good.plain limited tt (λ provider. refl);
      short = omega (arith, short, (admitted f archive (table_words f) accepted.opened).short);
    }
