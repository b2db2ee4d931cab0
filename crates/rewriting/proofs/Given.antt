-- The registrations that the second pass writes before an event: for each reference they are those that the rule gives for its use, and the slots then
-- hold the rule's table.
-- Assumes nothing.
use Prim.Native.Nat.{ℕ, ◌+◌, ◌/◌, ◌≤◌, ◌<◌}
use mathlib.Core.Path.{◌≡◌, refl, sym, ap, ◌∙◌}
use mathlib.Core.List.{List, [], ◌∷◌, ◌++◌, append_assoc}
use mathlib.Core.Bool.{Bool, true, cond, ◌&&◌}
use native.Mathlib.Omega.{arith}
use lib.Dec.{eqb}
use Rattle.passes.specs.Models.Codes.{code_in, codes}
use Rattle.tally.specs.Models.Slots.{key_of, key_mark, find_of}
use Rattle.indexing.specs.Models.Indexes.{new_index, indexed, Indexes, chosen_key}
use Rattle.words.specs.Stream.{same_bytes}
use Rattle.words.proofs.Tests.{cases}
use Rattle.registering.specs.Counting.{count}
use Rattle.indexing.proofs.Indexed.{give_index}
use Rattle.format.specs.declared.Format.{Format}
use Rattle.records.specs.Item.{Key, text_key, thread_key, Use}
use Rattle.contexts.specs.declared.State.{State}
use Rattle.tables.specs.Table.{table_words}
use Rattle.rule.specs.Rule.{same_use, Entry, next_index, is_new, with_use, use_bytes, entries_after, registrations, chosen_in}
use Rattle.rule.specs.Refusal.{limit_of}
use Rattle.rule.proofs.Length.{use_registered}
use Rattle.rule.proofs.Entries.{KeyFits}
use Rattle.rule.proofs.Limits.{after_both}
use Rattle.passes.proofs.Codes.{KeyPlain, UsesPlain, count-codes}
use Rattle.rewriting.specs.Models.Indexed.{index_code, given_code}
use Rattle.rewriting.proofs.Kept.{KeysKept, kept_same, kept_then, kept-indexed}
use Rattle.rewriting.proofs.IndexCodes.{TablePlain, index_code_lem, given_code_lem, chosen_code, Indexing}

-- the limits of the small format
pub record Small (f : Format) : Type 0 where
  pub longest : f.longest ≤ 256
  pub highest : f.highest ≤ 511

-- ---- one use

-- slots that hold some choices and indexes hold whatever is the same
indexes-alike : {archive : List ℕ} {stretch : ℕ} {slots : List ℕ} {us : List (List ℕ)} {chosen : List ℕ → Bool}
    {index index' : List ℕ → ℕ} {given given' : ℕ → ℕ}
    → Indexes archive stretch slots us chosen index given → ((key : List ℕ) → index key ≡ index' key) → ((mark : ℕ) → given mark ≡ given' mark)
    → Indexes archive stretch slots us chosen index' given'
indexes-alike {chosen = chosen} I same alike = record {
  wide = I.wide;
  found = λ key used. let r = I.found key used in (r.0, r.1, r.2, r.3 ∙ ap (λ (i : ℕ). cond (chosen key) (1 + i) 0) (same key));
  missing = I.missing;
  apart = I.apart;
  counters = λ mark low. I.counters mark low ∙ alike mark;
}

-- a use that the slots can be asked to register: it was counted, and where it is new its key fits the index that it gets
pub record UseReady (f : Format) (uses : List Use) (entries : List Entry) (u : Use) : Type 0 where
  pub used : 0 < count same_use u uses
  pub few : next_index entries u ≤ 1 + limit_of f u.key
  pub fits : is_new (chosen_in uses) entries u ≡ true → KeyFits f (next_index entries u) u.key

-- so are these, one after the other
abbrev pub UsesReady : Format → List Use → List Entry → List Use → Type 0
UsesReady f uses entries [] = Unit {0}
UsesReady f uses entries (u ∷ us) = UseReady f uses entries u × UsesReady f uses (with_use (chosen_in uses) entries u) us

-- no table of the small format has an index above 511
limit_low : (f : Format) (key : Key) → f.highest ≤ 511 → limit_of f key ≤ 511
limit_low f (text_key bytes) h = h
limit_low f (thread_key t) h = omega arith

module _ (f : Format) (archive : List ℕ) (last : State) (uses : List Use) (few : last.count ≤ 8) (plain : UsesPlain uses) (small : f.highest ≤ 511) where
  -- what the slots do for a key that is the code of a use
  pub record GivenUse (slots : List ℕ) (entries : List Entry) (u : Use) (index : ℕ) (slots' : List ℕ) : Type 0 where
    pub index_is : index ≡ cond (is_new (chosen_in uses) entries u) (next_index entries u) 0
    pub indexing : Indexing f archive last uses slots' (with_use (chosen_in uses) entries u)
    pub kept : KeysKept archive (table_words f) (codes f last uses) slots slots'

  module _ (slots : List ℕ) (entries : List Entry) (u : Use) (place label : ℕ) (I : Indexing f archive last uses slots entries) (h : KeyPlain u.key)
      (ready : UseReady f uses entries u) (is : key_of archive place label ≡ code_in f last u) (mark : label / 65536 < 18) where
    -- the key that is asked for
    abbrev key : List ℕ
    key = key_of archive place label

    -- which uses are registered
    abbrev chosen : Use → Bool
    chosen = chosen_in uses

    -- its mark is that of the use's code
    mark_is : label / 65536 ≡ key_mark (code_in f last u)
    mark_is = ap key_mark is

    -- the next number of that mark is the use's next index
    next_is : given_code f last entries (label / 65536) + 1 ≡ next_index entries u
    next_is = ap (λ (m : ℕ). given_code f last entries m + 1) mark_is ∙ given_code_lem f last few entries u I.plain h

    -- the key is chosen and has no index where the use is new
    new_is : (chosen_key (codes f last uses) key && eqb (index_code f last entries key) 0) ≡ is_new chosen entries u
    new_is =
        ap (λ (k : List ℕ). chosen_key (codes f last uses) k && eqb (index_code f last entries k) 0) is
        ∙ rw (chosen_code f last few uses u plain h, index_code_lem f last few entries u I.plain h)

    -- the key was counted as the use was
    counted : 0 < count same_bytes key (codes f last uses)
    counted = rw (is, count-codes f last few u uses h plain) ready.used

    -- the slot of the key gets the use's next index where the use is new
    pub use_given : GivenUse slots entries u (new_index (table_words f) slots label (find_of archive (table_words f) slots key))
        (indexed (table_words f) slots label (find_of archive (table_words f) slots key))
    use_given =
        let g = give_index I.indexes key label counted mark (omega (arith, next_is, ready.few, limit_low f u.key small)) in
        record {
          index_is = g.0 ∙ rw (new_is, next_is);
          indexing = record {
            indexes = indexes-alike g.1 same_index same_given;
            plain = kept;
            seen = u ∷ I.seen;
            registered = use_registered chosen entries I.seen u I.registered;
          };
          kept = kept-indexed archive (table_words f) (codes f last uses) I.indexes.wide.some slots key label I.indexes.wide counted mark;
        }
      where
        kept : TablePlain (with_use chosen entries u)
        kept = cases (is_new chosen entries u) (λ e. rw e (h, I.plain)) (λ e. rw e I.plain)

        same_index : (k : List ℕ)
            → cond ((chosen_key (codes f last uses) key && eqb (index_code f last entries key) 0) && same_bytes k key) (given_code f last entries (label / 65536) + 1)
            (index_code f last entries k)
            ≡ index_code f last (with_use chosen entries u) k
        same_index k =
            rw (new_is, next_is) (cases (is_new chosen entries u) (λ e. rw (e, is)) (λ e. rw e))

        same_given : (m : ℕ)
            → cond ((chosen_key (codes f last uses) key && eqb (index_code f last entries key) 0) && eqb m (label / 65536)) (given_code f last entries m + 1)
            (given_code f last entries m)
            ≡ given_code f last (with_use chosen entries u) m
        same_given m =
            rw new_is
            (cases (is_new chosen entries u)
            (λ e. rw (e, mark_is) (cases (eqb m (key_mark (code_in f last u))) (λ q. rw q (omega arith)) (λ q. rw q (omega arith))))
            (λ e. rw e))

-- ---- some uses, one after the other

-- what was written for some uses and what the slots are then: the registrations that the rule gives, its table, and no other words changed
pub record Gave (f : Format) (archive : List ℕ) (last : State) (uses : List Use) (entries : List Entry) (us : List Use) (slots bytes slots' : List ℕ) (Fits : Type 0)
    : Type 0 where
  pub bytes_are : bytes ≡ registrations f (chosen_in uses) entries us
  pub indexing : Indexing f archive last uses slots' (entries_after (chosen_in uses) entries us)
  pub kept : KeysKept archive (table_words f) (codes f last uses) slots slots'
  pub fits : Fits

-- so it is from every table that the slots hold
abbrev pub Gives : Format → List ℕ → State → List Use → List Use → List ℕ → List ℕ → List ℕ → Type 0 → Type 0
Gives f archive last uses us slots bytes slots' Fits =
    (entries : List Entry) → Indexing f archive last uses slots entries → UsesReady f uses entries us → Gave f archive last uses entries us slots bytes slots' Fits

-- the registrations of two parts of uses
registrations_both : (f : Format) (chosen : Use → Bool) (entries : List Entry) (us vs : List Use)
    → registrations f chosen entries (us ++ vs) ≡ registrations f chosen entries us ++ registrations f chosen (entries_after chosen entries us) vs
registrations_both f chosen entries [] vs = refl
registrations_both f chosen entries (u ∷ us) vs =
    rw (
      registrations_both f chosen (with_use chosen entries u) us vs,
      append_assoc (use_bytes f chosen entries u) (registrations f chosen (with_use chosen entries u) us)
          (registrations f chosen (entries_after chosen (with_use chosen entries u) us) vs),
    )

-- both parts of uses that are ready are
pub ready_both : (f : Format) (uses : List Use) (entries : List Entry) (us vs : List Use) → UsesReady f uses entries (us ++ vs)
    → UsesReady f uses entries us × UsesReady f uses (entries_after (chosen_in uses) entries us) vs
ready_both f uses entries [] vs h = (tt, h)
ready_both f uses entries (u ∷ us) vs h = let rest = ready_both f uses (with_use (chosen_in uses) entries u) us vs h.1 in ((h.0, rest.0), rest.1)

module _ (f : Format) (archive : List ℕ) (last : State) (uses : List Use) where
  -- no use asks for nothing
  pub gives_none : (slots : List ℕ) {Fits : Type 0} → Fits → Gives f archive last uses [] slots [] slots Fits
  gives_none slots fit entries I ready =
      record { bytes_are = refl; indexing = I; kept = kept_same archive (table_words f) (codes f last uses) slots; fits = fit }

  -- one part of uses, and then another
  pub gives_both : {us vs : List Use} {slots bytes slots' bytes' slots'' : List ℕ} {Fits Fits' : Type 0} → Gives f archive last uses us slots bytes slots' Fits
      → Gives f archive last uses vs slots' bytes' slots'' Fits' → Gives f archive last uses (us ++ vs) slots (bytes ++ bytes') slots'' (Fits × Fits')
  gives_both {us} {vs} {slots} {slots' = slots'} {slots'' = slots''} first second entries I ready =
      let both = ready_both f uses entries us vs ready in
      let a = first entries I both.0 in
      let b = second (entries_after (chosen_in uses) entries us) a.indexing both.1 in
      record {
        bytes_are = rw (a.bytes_are, b.bytes_are) (sym (registrations_both f (chosen_in uses) entries us vs));
        indexing = rw (after_both (chosen_in uses) entries us vs) b.indexing;
        kept = kept_then archive (table_words f) (codes f last uses) I.indexes.wide.some slots slots' slots'' a.kept b.kept;
        fits = (a.fits, b.fits);
      }

  -- what fits may be said in other words
  pub gives_fits : {us : List Use} {slots bytes slots' : List ℕ} {Fits Fits' : Type 0} → (Fits → Fits') → Gives f archive last uses us slots bytes slots' Fits
      → Gives f archive last uses us slots bytes slots' Fits'
  gives_fits turn gives entries I ready =
      let g = gives entries I ready in
      record { bytes_are = g.bytes_are; indexing = g.indexing; kept = g.kept; fits = turn g.fits }
