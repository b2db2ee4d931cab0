-- What slots tell of some uses within the limits, and what counting one use more, and uses one after the other, comes to.
-- Assumes nothing.
use Prim.Native.Nat.{ℕ, ◌/◌, ◌≤◌, ◌<◌}
use mathlib.Core.Path.{◌≡◌, refl, sym, ap, ◌∙◌}
use mathlib.Core.List.{List, [], ◌∷◌, ◌++◌}
use mathlib.Core.Bool.{Bool, true, false, ◌&&◌, ◌||◌, true≢false}
use mathlib.Core.Option.{Option}
use mathlib.Core.Logic.{inl, inr}
use native.Mathlib.Omega.{arith}
use borrow.Author.Tests.{le-ltb, lt-ltb}
use lib.ListN.{get_or}
use Rattle.passes.specs.Models.Codes.{context_in, code_of, code_in, codes}
use Rattle.tally.specs.Models.Tally.{distinct, Tallies}
use Rattle.tally.specs.Models.Slots.{key_of, key_mark, find_of, is_added, added}
use Rattle.words.specs.Stream.{same_bytes}
use Rattle.words.proofs.Same.{same_true}
use Rattle.words.proofs.Tests.{cases, either_false}
use Rattle.registering.specs.Counting.{count, keys}
use Rattle.registering.proofs.Counting.{count-append}
use Rattle.format.specs.declared.Format.{Format}
use Rattle.records.specs.Item.{Key, text_key, thread_key, Use}
use Rattle.contexts.specs.declared.State.{State}
use Rattle.tables.specs.Table.{table_words}
use Rattle.rule.specs.Rule.{same_use}
use Rattle.rule.specs.Refusal.{alike, limit_of, passes_limit}
use Rattle.tally.specs.declared.Slot.{Slot}
use Rattle.tally.specs.declared.Slot.TheVariants.{Here, Free, Full}
use Rattle.tally.proofs.Sums.{distinct-alike}
use Rattle.tally.proofs.Tallied.{tally-alike, add-tally, added-within, not_added, remembering-tally}
use Rattle.passes.proofs.Codes.{KeyPlain, UsesPlain, plain_both, codes_both, table_mark, code_mark, alike-distinct}
use Rattle.first_pass.specs.Models.Left.{within_limit}
use Rattle.first_pass.proofs.References.{KeyStands, Noted}
use Rattle.first_pass.proofs.Limits.{limits_of, mark_limit, limits-sum, limit_more, limit_last}

-- ---- uses of open contexts

-- uses whose contexts are of the nine
abbrev pub UsesOpen : State → List Use → Type 0
UsesOpen last [] = Unit {0}
UsesOpen last (u ∷ us) = (context_in last u.provider ≤ 8) × UsesOpen last us

-- such uses behind such uses
open_both : (last : State) (us vs : List Use) → UsesOpen last us → UsesOpen last vs → UsesOpen last (us ++ vs)
open_both last [] vs h k = k
open_both last (u ∷ us) vs h k = (h.0, open_both last us vs h.1 k)

-- a table is one of two
table_low : (key : Key) → table_mark key < 2
table_low (text_key bytes) = omega arith
table_low (thread_key t) = omega arith

-- the label of a key that stands in the archive has one of eighteen marks
pub key_mark_lem : (f : Format) {archive : List ℕ} {context : ℕ} {key : Key} {place label most : ℕ}
    → KeyStands f archive context key place label most → context ≤ 8 → label / 65536 < 18
key_mark_lem f {context = context} {key = key} stands low =
    let same = ap (λ (k : List ℕ). get_or k 0 0 / 65536) stands.own in
    omega (arith, same, code_mark f context key stands.plain, table_low key)

-- the mark of such a use is one of eighteen
mark_low : (f : Format) (last : State) (u : Use) → KeyPlain u.key → context_in last u.provider ≤ 8 → key_mark (code_in f last u) < 18
mark_low f last u plain known =
    omega (arith, code_mark f (context_in last u.provider) u.key plain, table_low u.key)

-- and so is that of every key that was used
used-marks : (f : Format) (last : State) (us : List Use) → UsesPlain us → UsesOpen last us → (key : List ℕ) → 0 < count same_bytes key (codes f last us)
    → key_mark key < 18
used-marks f last [] plain known key h = absurd (omega arith)
used-marks f last (u ∷ us) plain known key h =
    cases (same_bytes (code_in f last u) key)
    (λ e. rw (← same_true (code_in f last u) key e) (mark_low f last u plain.0 known.0))
    (λ e. used-marks f last us plain.1 known.1 key (omega (arith, rw e at h)))

-- ---- what slots tell

-- the slots tell of these uses, and no context uses more distinct keys than its table holds
pub record Told (f : Format) (archive : List ℕ) (last : State) (slots : List ℕ) (uses : List Use) : Type 0 where
  pub plain : UsesPlain uses
  pub contexts : UsesOpen last uses
  pub tally : Tallies archive (table_words f) slots (codes f last uses)
  pub within : (mark : ℕ) → mark < 18 → distinct mark (codes f last uses) ≤ limits_of f mark

-- what comes of counting: where all went well nothing is unresolved and the slots tell of all uses; where not, and nothing is unresolved, a limit is passed
pub record Outcome (f : Format) (archive : List ℕ) (last : State) (slots : List ℕ) (uses : List Use) (good bad : Bool) : Type 0 where
  pub clean : good ≡ true → (bad ≡ false) × Told f archive last slots uses
  pub over : good ≡ false → bad ≡ false → passes_limit f uses uses ≡ true

-- where a slot is remembered, or none, slots tell of what they told of
pub told_noted : (f : Format) (archive : List ℕ) (last : State) (slots after : List ℕ) (uses : List Use) → Noted f slots after
    → Told f archive last slots uses → Told f archive last after uses
told_noted f archive last slots after uses (inl e) told = rw e told
told_noted f archive last slots after uses (inr (entry, slot, low, e)) told =
    rw e (record {
      plain = told.plain;
      contexts = told.contexts;
      tally = remembering-tally told.tally entry slot;
      within = told.within;
    })

-- and the same comes of it
pub outcome_noted : (f : Format) (archive : List ℕ) (last : State) (slots after : List ℕ) (uses : List Use) (good bad : Bool) → Noted f slots after
    → Outcome f archive last slots uses good bad → Outcome f archive last after uses good bad
outcome_noted f archive last slots after uses good bad noted o = record {
  clean = λ e. let c = o.clean e in (c.0, told_noted f archive last slots after uses noted c.1);
  over = o.over;
}

-- a use that is not counted leaves the slots
not_added_same : (stretch : ℕ) (slots : List ℕ) (place label most : ℕ) (slot : Slot) → is_added stretch slots label most slot ≡ false
    → added stretch slots place label most slot ≡ slots
not_added_same stretch slots place label most (Here s) e = absurd (true≢false e)
not_added_same stretch slots place label most (Free s) e = rw e
not_added_same stretch slots place label most Full e = refl

module _ (f : Format) (archive : List ℕ) (last : State) where
  -- nothing is counted
  pub outcome_none : (slots : List ℕ) (uses : List Use) → Told f archive last slots uses → Outcome f archive last slots uses true false
  outcome_none slots uses told = record { clean = λ e. (refl, told); over = λ e. absurd (true≢false e) }

  -- what is unresolved is not counted
  pub outcome_unresolved : (slots : List ℕ) (uses : List Use) → Outcome f archive last slots uses false true
  outcome_unresolved slots uses = record { clean = λ e. absurd (true≢false (sym e)); over = λ e q. absurd (true≢false q) }

  -- some uses, and then others
  pub outcome_then : (slots slots' : List ℕ) (uses more : List Use) (good bad good' bad' : Bool) → Outcome f archive last slots uses good bad
      → (Told f archive last slots uses → Outcome f archive last slots' (uses ++ more) good' bad')
      → Outcome f archive last slots' (uses ++ more) (good && good') (bad || bad')
  outcome_then slots slots' uses more true bad good' bad' o next =
      let first = o.clean refl in
      let then = next first.1 in
      record {
        clean = λ e. (rw first.0 (then.clean e).0, (then.clean e).1);
        over = λ e q. then.over e (either_false bad bad' q).1;
      }
  outcome_then slots slots' uses more false bad good' bad' o next =
      record {
        clean = λ e. absurd (true≢false (sym e));
        over = λ e q. limit_more f uses more (o.over refl (either_false bad bad' q).0);
      }

  module _ (few : last.count ≤ 8) where
    -- uses whose marks are within the limits pass none
    limits-within : (all us : List Use) → UsesPlain all → UsesPlain us → UsesOpen last us
        → ((mark : ℕ) → mark < 18 → distinct mark (codes f last all) ≤ limits_of f mark) → passes_limit f all us ≡ false
    limits-within all [] plain own known within = refl
    limits-within all (u ∷ us) plain own known within =
        let mark = key_mark (code_in f last u) in
        let limit : limits_of f mark ≡ limit_of f u.key =
        ap (limits_of f) (code_mark f (context_in last u.provider) u.key own.0) ∙ mark_limit f (context_in last u.provider) u.key in
        rw (le-ltb (limit_of f u.key) (alike u (keys same_use [] all))
        (omega (arith, limit, alike-distinct f last few u all own.0 plain, within mark (mark_low f last u own.0 known.0))))
        (limits-within all us plain own.1 known.1 within)

    -- uses that the slots tell of pass no limit
    pub told_limits : (slots : List ℕ) (uses : List Use) → Told f archive last slots uses → passes_limit f uses uses ≡ false
    told_limits slots uses told = limits-within uses uses told.plain told.plain told.contexts told.within

    module _ (slots : List ℕ) (uses : List Use) (told : Told f archive last slots uses) (provider : Option ℕ) (context : ℕ)
        (here : context_in last provider ≡ context) (low : context ≤ 8) (key : Key) (place label most : ℕ)
        (stands : KeyStands f archive context key place label most) where
      -- the words of a stretch, the use, and the uses with it
      abbrev stretch : ℕ
      stretch = table_words f

      abbrev u : Use
      u = record { provider = provider; key = key }

      abbrev all : List Use
      all = uses ++ (u ∷ [])

      -- its context is of the nine
      known : context_in last provider ≤ 8
      known = rw here low

      -- its code is the key of its bytes
      own : key_of archive place label ≡ code_in f last u
      own = stands.own ∙ ap (λ (n : ℕ). code_of f n key) (sym here)

      -- the mark of the label is that of the use's code
      mark_is : label / 65536 ≡ key_mark (code_in f last u)
      mark_is = ap (λ (k : List ℕ). get_or k 0 0 / 65536) own

      -- the limit of the use's mark
      limit_is : most ≡ limits_of f (label / 65536)
      limit_is =
          stands.limited
          ∙ sym (ap (limits_of f) (mark_is ∙ code_mark f (context_in last provider) key stands.plain) ∙ mark_limit f (context_in last provider) key)

      -- keys count alike with the use last
      counts : (k : List ℕ) → count same_bytes k (key_of archive place label ∷ codes f last uses) ≡ count same_bytes k (codes f last all)
      counts k =
          let first = ap (λ (c : List ℕ). count same_bytes k (c ∷ codes f last uses)) own in
          let second = ap (count same_bytes k) (codes_both f last uses (u ∷ [])) in
          omega (arith, first, second, count-append same_bytes k (codes f last uses) (code_in f last u ∷ []))

      -- where the use is counted, the slots tell of it
      use_told : is_added stretch slots label most (find_of archive stretch slots (key_of archive place label)) ≡ true
          → Told f archive last (added stretch slots place label most (find_of archive stretch slots (key_of archive place label))) all
      use_told good =
          let mark = key_mark_lem f stands low in
          record {
            plain = plain_both uses (u ∷ []) told.plain (stands.plain, tt);
            contexts = open_both last uses (u ∷ []) told.contexts (known, tt);
            tally = tally-alike (key_of archive place label ∷ codes f last uses) (codes f last all)
                (add-tally told.tally place label most stands.behind stands.small mark stands.few good) counts;
            within = λ m l. rw (← distinct-alike m (key_of archive place label ∷ codes f last uses) (codes f last all) counts)
                (added-within told.tally (limits_of f) place label told.within mark (rw limit_is at good) m l);
          }

      -- where it is not, its limit is passed
      use_over : is_added stretch slots label most (find_of archive stretch slots (key_of archive place label)) ≡ false → passes_limit f all all ≡ true
      use_over good =
          let new = not_added told.tally (limits_of f) place label told.within (limits-sum f)
          (used-marks f last uses told.plain told.contexts) (key_mark_lem f stands low) (rw limit_is at good) in
          let distinct-is = distinct-alike (label / 65536) (key_of archive place label ∷ codes f last uses) (codes f last all) counts in
          let alike_is = alike-distinct f last few u all stands.plain (plain_both uses (u ∷ []) told.plain (stands.plain, tt)) in
          let same : distinct (label / 65536) (codes f last all) ≡ distinct (key_mark (code_in f last u)) (codes f last all) =
          ap (λ (mark : ℕ). distinct mark (codes f last all)) mark_is in
          limit_last f all uses u
          (lt-ltb (limit_of f key) (alike u (keys same_use [] all)) (omega (arith, new, distinct-is, alike_is, same, stands.limited, limit_is)))

      -- one use more
      pub outcome_use : Outcome f archive last (added stretch slots place label most (find_of archive stretch slots (key_of archive place label))) all
          (is_added stretch slots label most (find_of archive stretch slots (key_of archive place label))) false
      outcome_use = record { clean = λ e. (refl, use_told e); over = λ e q. use_over e }

      -- whatever comes of it, the slots tell of it where it passes no limit
      pub use_counted : Told f archive last (added stretch slots place label most (find_of archive stretch slots (key_of archive place label)))
          (within_limit f uses u)
      use_counted =
          let slot = find_of archive stretch slots (key_of archive place label) in
          cases (is_added stretch slots label most slot)
          (λ e. let now = use_told e in rw (told_limits (added stretch slots place label most slot) all now) now)
          (λ e. rw (use_over e, not_added_same stretch slots place label most slot e) told)
