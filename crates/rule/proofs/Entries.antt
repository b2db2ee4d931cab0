-- What a reader's tables hold for the registrations that were written: each stands at the place of a record that registers its key, and an index
-- is resolved to that key's bytes.
-- Assumes nothing.
use Prim.Native.Nat.{ℕ, ◌+◌, ◌-◌, ◌%◌, ◌^◌, ◌≤◌, ◌<◌}
use mathlib.Core.Path.{◌≡◌, refl, sym, ap, subst, ◌∙◌}
use mathlib.Core.List.{[], List, ◌∷◌}
use mathlib.Core.Option.{Option, none, some}
use mathlib.Core.Logic.{◌⊎◌, inl, inr}
use native.Mathlib.Omega.{arith}
use borrow.Author.Tests.{le-ltb, eq-eqb, ne_eqb, eqb-true, eqb-false}
use lib.Dec.{eqb}
use lib.ListN.{length, get_or, set}
use lib.Seq.{get_or-set_other}
use Rattle.words.specs.Word.{◌of◌}
use Rattle.words.specs.Stream.{padded}
use Rattle.words.proofs.Words.{At}
use Rattle.words.proofs.Tests.{cases}
use Rattle.format.specs.declared.Format.{Format}
use Rattle.format.specs.declared.Reference.TheVariants.{Index}
use Rattle.records.specs.declared.Content.{Content}
use Rattle.records.specs.declared.Content.TheVariants.{String, Thread}
use Rattle.records.specs.Record.{record_at}
use Rattle.records.specs.Item.{thread, Key, text_key, thread_key, Use}
use Rattle.encoding.specs.Encoded.{thread_inline, part_bytes}
use Rattle.encoding.proofs.EncodedRecords.{StringFits, string_fits, string_read, thread-fits, thread_read, record_at_lem, length_record}
use Rattle.contexts.specs.declared.State.{State}
use Rattle.contexts.specs.Context.{provider_of}
use Rattle.tables.specs.Table.{Entry as Registered}
use Rattle.tables.specs.declared.Resolved.TheVariants.{Known}
use Rattle.tables.specs.Table.{highest_of, position, registration_of, entry_at, resolved}
use Rattle.tables.proofs.Tables.{position-apart}
use Rattle.reader.specs.Reads.{provider_item}
use Rattle.reader.proofs.ByItems.{contexts_of}
use Rattle.reader.proofs.Runs.{Sound, Grown}
use Rattle.records.specs.Effect.{effect_of}
use Rattle.rule.specs.Rule.{Entry, next_index, key_record}
use Rattle.rule.proofs.Tables.{key_table, Made, made_lt, next_grows, Every}

-- ---- contexts

-- the number of a provider's context: 0 for none, and the slot of its id, counted from 1
abbrev pub ContextIs : State → Option ℕ → ℕ → Type 0
ContextIs s none context = context ≡ 0
ContextIs s (some id) context = (0 < context) × (context ≤ s.count) × (get_or s.ids (context - 1) 0 ≡ id)

-- the current context is that of the current provider
pub current_is : (s : State) → s.current ≤ s.count → ContextIs s (provider_item (provider_of s)) s.current
unfolding provider_of
current_is s h =
    cases (eqb s.current 0) (λ e. rw e (eqb-true s.current 0 e))
    (λ e. let z = eqb-false s.current 0 e in rw e (omega arith, h, refl))

-- so it is where the provider is known from the contexts alone
pub suits_context : (s : State) (provider : Option ℕ) → s.current ≤ s.count → provider_item (provider_of (contexts_of s)) ≡ provider
    → ContextIs s provider s.current
unfolding provider_of
suits_context s provider h e = subst (λ p. ContextIs s p s.current) e (current_is s h)

-- where ids are distinct a provider has one context
pub context_one : (f : Format) (archive tables : List ℕ) (s : State) → Sound f archive s tables → (provider : Option ℕ) (c c' : ℕ)
    → ContextIs s provider c → ContextIs s provider c' → c ≡ c'
context_one f archive tables s h none c c' k k' = omega arith
context_one f archive tables s h (some id) c c' k k' =
    let e = h.apart (c - 1) (c' - 1) (omega (arith, k.0, k.1)) (omega (arith, k'.0, k'.1)) (k.2 ∙ sym k'.2) in
    omega (arith, e, k.0, k'.0)

-- and a context one provider
pub provider_one : (s : State) (p q : Option ℕ) (c : ℕ) → ContextIs s p c → ContextIs s q c → p ≡ q
provider_one s none none c h k = refl
provider_one s none (some id) c h k = absurd (omega (arith, h, k.0))
provider_one s (some id) none c h k = absurd (omega (arith, h.0, k))
provider_one s (some id) (some id') c h k = ap some (sym h.2 ∙ k.2)

-- a later state has the contexts that the earlier one had
pub context_later : (s s' : State) → Grown s s' → (provider : Option ℕ) (c : ℕ) → ContextIs s provider c → ContextIs s' provider c
context_later s s' g none c h = h
context_later s s' g (some id) c h = (h.0, omega (arith, h.1, g.count), g.ids (c - 1) (omega (arith, h.0, h.1)) ∙ h.2)

-- ---- the record of a key

-- a key that can be registered under an index
abbrev pub KeyFits : Format → ℕ → Key → Type 0
KeyFits f index (text_key bytes) = StringFits f index bytes
KeyFits f index (thread_key (thread p t)) = (0 < index) × (index < 2 ^ 8) × (p < 2 ^ 64) × (t < 2 ^ 64)

-- what is read for its record at a place
abbrev pub key_content : ℕ → ℕ → Key → Content
key_content index place (text_key bytes) = String index (place + 8) (length bytes)
key_content index place (thread_key t) = Thread index (place + 8)

-- how long its bytes are
abbrev pub key_length : Key → ℕ
key_length (text_key bytes) = length bytes
key_length (thread_key t) = 16

-- its index is one of its table
pub key-index : (f : Format) (index : ℕ) (key : Key) → KeyFits f index key → (0 < index) × (index ≤ highest_of f (key_table key))
unfolding highest_of
key-index f index (text_key bytes) fit = (fit.some, fit.low)
key-index f index (thread_key (thread p t)) fit = (fit.0, omega (arith, fit.1))

-- its record has a word at least
pub key-long : (f : Format) (index : ℕ) (key : Key) → 8 ≤ length (key_record f index key)
key-long f index (text_key bytes) =
    omega (arith, length_record f 2 (index of 15 ∷ 0 of 1 ∷ length bytes of 15 ∷ 0 of 17 ∷ []) (padded bytes))
key-long f index (thread_key t) = omega (arith, length_record f 3 (index of 8 ∷ 0 of 40 ∷ []) (part_bytes f (thread_inline t)))

-- where its record stands, it is read
pub key_stands : (f : Format) (archive : List ℕ) (place index : ℕ) (key : Key) → KeyFits f index key
    → At archive place (key_record f index key)
    → record_at f archive place ≡ record { content = key_content index place key; next = place + length (key_record f index key) }
key_stands f archive place index (text_key bytes) fit at =
    record_at_lem f (string_fits f index bytes fit) (omega arith) archive place at ∙ rw (string_read f index bytes place fit)
key_stands f archive place index (thread_key (thread p t)) fit at =
    record_at_lem f (thread-fits f index (thread p t) fit.1) (omega arith) archive place at
    ∙ rw (thread_read f index (thread p t) place fit.0 fit.1)

key-registers : (index place : ℕ) (key : Key) → registration_of (key_content index place key) ≡ Registered (key_table key) index (place + 8) (key_length key)
unfolding registration_of effect_of
key-registers index place (text_key bytes) = refl
key-registers index place (thread_key t) = refl

key_table_known : (key : Key) → (key_table key ≡ 2) ⊎ (key_table key ≡ 3)
key_table_known (text_key bytes) = inl refl
key_table_known (thread_key t) = inr refl

-- ---- what the tables hold for it

-- a key has this index in its provider's context: the entry there is the place of its record, which ends at or before the state's place
pub record Standing (f : Format) (archive : List ℕ) (s : State) (tables : List ℕ) (provider : Option ℕ) (key : Key) (index : ℕ) : Type 0 where
  pub context : ℕ
  pub place : ℕ
  pub own : ContextIs s provider context
  pub fits : KeyFits f index key
  pub is_set : get_or tables (position f context (key_table key) index) 0 ≡ place
  pub some : 0 < place
  pub whole : place % 8 ≡ 0
  pub there : At archive place (key_record f index key)
  pub ends : place + length (key_record f index key) ≤ s.place

-- so it is for a later state with the same tables
pub stand_later : (f : Format) (archive : List ℕ) (s s' : State) (tables : List ℕ) → Grown s s' → (entries : List Entry)
    → Every (Standing f archive s tables) entries → Every (Standing f archive s' tables) entries
stand_later f archive s s' tables g [] h = tt
stand_later f archive s s' tables g (e ∷ entries) h =
    let k = h.0 in (
      record {
        context = k.context;
        place = k.place;
        own = context_later s s' g e.use_of.provider k.context k.own;
        fits = k.fits;
        is_set = k.is_set;
        some = k.some;
        whole = k.whole;
        there = k.there;
        ends = omega (arith, k.ends, g.place);
      },
      stand_later f archive s s' tables g entries h.1,
    )

-- and so it is after an entry was set for an index above those in use
pub stand_set : (f : Format) (archive : List ℕ) (s : State) (tables : List ℕ) (u : Use) (context n entry : ℕ)
    → ContextIs s u.provider context → n ≤ highest_of f (key_table u.key) → (entries : List Entry) → Made entries → next_index entries u ≤ n
    → Every (Standing f archive s tables) entries
    → Every (Standing f archive s (set tables (position f context (key_table u.key) n) entry)) entries
stand_set f archive s tables u context n entry own low [] m l h = tt
stand_set f archive s tables u context n entry own low (e ∷ entries) m l h =
    let k = h.0 in (
      record {
        context = k.context;
        place = k.place;
        own = k.own;
        fits = k.fits;
        is_set = get_or-set_other tables (position f context (key_table u.key) n) (position f k.context (key_table key) e.index) entry 0 (apart k)
            ∙ k.is_set;
        some = k.some;
        whole = k.whole;
        there = k.there;
        ends = k.ends;
      },
      stand_set f archive s tables u context n entry own low entries m.1 (omega (arith, l, next_grows e entries u)) h.1,
    )
  where
    key : Key
    key = e.use_of.key

    apart : (k : Standing f archive s tables e.use_of.provider key e.index)
        → position f k.context (key_table key) e.index ≡ position f context (key_table u.key) n → ⊥
    apart k q =
        let a = position-apart f k.context (key_table key) e.index context (key_table u.key) n (key_table_known key) (key_table_known u.key)
        (key-index f e.index key k.fits).1 low q in
        let own' : ContextIs s u.provider k.context = rw a.0 own in
        let p = provider_one s e.use_of.provider u.provider k.context k.own own' in
        omega (arith, made_lt e entries u m p a.1, a.2, l)

-- where an index stands so, it is resolved to its key's bytes
pub stand_known : (f : Format) (archive : List ℕ) (s : State) (tables : List ℕ) (provider : Option ℕ) (key : Key) (index context until : ℕ)
    → Sound f archive s tables → ContextIs s provider context → s.place ≤ until
    → (k : Standing f archive s tables provider key index)
    → resolved f archive tables context (key_table key) until (Index index) ≡ Known (k.place + 8) (key_length key)
unfolding resolved entry_at
stand_known f archive s tables provider key index context until h own l k =
    let fit = key-index f index key k.fits in
    let c = context_one f archive tables s h provider context k.context own k.own in
    rw (
      le-ltb (highest_of f (key_table key)) index fit.1,
      c,
      k.is_set,
      ne_eqb k.place 0 (λ z. omega (arith, k.some, z)),
      eq-eqb (k.place % 8) 0 k.whole,
      key_stands f archive k.place index key k.fits k.there,
      le-ltb until (k.place + length (key_record f index key)) (omega (arith, k.ends)),
      key-registers index k.place key,
      eq-eqb (key_table key) (key_table key) refl,
      eq-eqb index index refl,
    )
