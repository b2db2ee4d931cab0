-- Uses as keys of the tally: where keys are short enough for a label, two uses are the same exactly if their codes are, so counts, distinct keys and
-- the least cost are those of the codes; and the current context is the one that its provider's uses are coded by.
-- Assumes nothing.
use Prim.Native.Nat.{ℕ, zero, suc, ◌+◌, ◌-◌, ◌*◌, ◌/◌, ◌^◌, ◌≤◌, ◌<◌, min}
use mathlib.Core.Path.{◌≡◌, refl, sym, ap, ◌∙◌}
use mathlib.Core.List.{[], List, ◌∷◌, ◌++◌, append-nil}
use mathlib.Core.Bool.{cond, ◌&&◌, true≢false}
use mathlib.Core.Option.{Option, none, some}
use native.Mathlib.Omega.{arith}
use borrow.Author.Tests.{eq-eqb, ne_eqb, eqb-true, eqb-false, ltb-true, ltb-false, le-leb}
use lib.Dec.{eqb, ltb}
use lib.ListN.{length, get_or, drop}
use lib.Seq.{take-add, drop-drop}
use Rattle.words.specs.Word.{pick, word_at, word_bytes}
use Rattle.words.specs.Stream.{same_bytes, part_of}
use Rattle.words.proofs.Words.{length-word_bytes, AllBytes, At as Standing, at_right, word-is, word_again}
use Rattle.words.proofs.Same.{same_true, same_refl}
use Rattle.words.proofs.Tests.{cases}
use Rattle.registering.specs.Counting.{sum_by, count, member, keys}
use Rattle.registering.specs.Registers.{registers}
use Rattle.registering.proofs.Best.{price}
use Rattle.format.specs.declared.Format.{Format}
use Rattle.records.specs.Item.{thread, Key, text_key, thread_key, key_words as inline_words_of, Use}
use Rattle.contexts.specs.declared.State.{State}
use Rattle.std.specs.Prelude.{Some, None}
use Rattle.std.specs.Prelude as code
use Rattle.contexts.specs.Context.{find_id, provider_of}
use Rattle.contexts.proofs.Contexts.{found_lt, found-is, found_first, found_none}
use Rattle.reader.specs.Reads.{provider_item}
use Rattle.reader.specs.Step.{step_reply, step_tables}
use Rattle.reader.proofs.Runs.{Sound, step_sound, Grown, step_grows}
use Rattle.rule.specs.Rule.{same_provider, same_table, same_use}
use Rattle.rule.specs.Refusal.{alike}
use Rattle.rule.proofs.Length.{inline_words, register_words, best_words}
use Rattle.rule.proofs.Uses.{same_use_eq, same_use_refl, same_provider_eq, same_provider_refl}
use Rattle.tally.specs.Models.Slots.{label_of, key_of, key_mark, key_words}
use Rattle.tally.specs.Models.Tally.{distinct}
use Rattle.tally.proofs.Laws.{label_mark, label-long, label_one}
use Rattle.passes.specs.Models.Codes.{slot_or, context_in, code_of, code_in, codes, last_from}

-- ---- plain uses

-- a key whose length fits a label; a thread of two words
abbrev pub KeyPlain : Key → Type 0
KeyPlain (text_key bytes) = length bytes < 65536
KeyPlain (thread_key (thread p t)) = (p < 2 ^ 64) × (t < 2 ^ 64)

-- uses of such keys
abbrev pub UsesPlain : List Use → Type 0
UsesPlain [] = Unit {0}
UsesPlain (u ∷ us) = KeyPlain u.key × UsesPlain us

-- plain uses behind plain uses
pub plain_both : (us vs : List Use) → UsesPlain us → UsesPlain vs → UsesPlain (us ++ vs)
plain_both [] vs h k = k
plain_both (u ∷ us) vs h k = (h.0, plain_both us vs h.1 k)

-- the distinct ones of plain uses are plain
pub keys-plain : (seen us : List Use) → UsesPlain us → UsesPlain (keys same_use seen us)
keys-plain seen [] h = tt
keys-plain seen (u ∷ us) h =
    cases (member same_use u seen) (λ e. rw e (keys-plain seen us h.1)) (λ e. rw e (h.0, keys-plain (u ∷ seen) us h.1))

-- the codes of uses behind uses
pub codes_both : (f : Format) (s : State) (us vs : List Use) → codes f s (us ++ vs) ≡ codes f s us ++ codes f s vs
codes_both f s [] vs = refl
codes_both f s (u ∷ us) vs = ap (λ (l : List (List ℕ)). code_in f s u ∷ l) (codes_both f s us vs)

-- ---- what a code tells

-- the mark of a use's context and table
abbrev pub table_mark : Key → ℕ
table_mark (text_key bytes) = 0
table_mark (thread_key t) = 1

-- is the mark of its code
pub code_mark : (f : Format) (context : ℕ) (key : Key) → KeyPlain key → key_mark (code_of f context key) ≡ 2 * context + table_mark key
code_mark f context (text_key bytes) h = label_mark context 2 (length bytes) h
code_mark f context (thread_key (thread p t)) h = label_mark context 3 16 (omega arith)

-- a code takes the words of its key
pub code_words : (f : Format) (context : ℕ) (key : Key) → KeyPlain key → key_words (code_of f context key) ≡ inline_words_of key
code_words f context (text_key bytes) h = ap (λ (n : ℕ). (n + 7) / 8) (label-long context 2 (length bytes) h)
code_words f context (thread_key (thread p t)) h = ap (λ (n : ℕ). (n + 7) / 8) (label-long context 3 16 (omega arith))

-- two words are those that their bytes spell
words_one : (f : Format) (p t q u : ℕ) → p < 2 ^ 64 → t < 2 ^ 64 → q < 2 ^ 64 → u < 2 ^ 64
    → word_bytes f.order p ++ word_bytes f.order t ≡ word_bytes f.order q ++ word_bytes f.order u → (p ≡ q) × (t ≡ u)
words_one f p t q u hp ht hq hu e = (
  sym (first p t hp) ∙ (ap (λ (l : List ℕ). word_at f.order l 0) e ∙ first q u hq),
  sym (second p t ht) ∙ (ap (λ (l : List ℕ). word_at f.order l 8) e ∙ second q u hu),
)
  where
    both : ℕ → ℕ → List ℕ
    both a b = word_bytes f.order a ++ word_bytes f.order b

    first : (a b : ℕ) → a < 2 ^ 64 → word_at f.order (both a b) 0 ≡ a
    first a b h = word-is f.order (both a b) 0 a h (word_bytes f.order b, refl)

    second : (a b : ℕ) → b < 2 ^ 64 → word_at f.order (both a b) 8 ≡ b
    second a b h =
        let whole : Standing (both a b) 0 (both a b) = ([], sym (append-nil (both a b))) in
        let there = rw (length-word_bytes f.order a) at (at_right (both a b) 0 (word_bytes f.order a) (word_bytes f.order b) whole) in
        word-is f.order (both a b) 8 b h there

-- codes are equal only in one context and for one key
code_one : (f : Format) (context context' : ℕ) (k l : Key) → KeyPlain k → KeyPlain l → code_of f context k ≡ code_of f context' l → (context ≡ context') × (k ≡ l)
code_one f context context' (text_key a) (text_key b) h h' e =
    ((label_one context context' 2 2 (length a) (length b) h h' (omega arith) (omega arith) (ap (λ (l : List ℕ). get_or l 0 0) e)).0, ap text_key (ap (drop 1) e))
code_one f context context' (text_key a) (thread_key (thread q u)) h h' e =
    absurd (omega (arith, (label_one context context' 2 3 (length a) 16 h (omega arith) (omega arith) (omega arith) (ap (λ (l : List ℕ). get_or l 0 0) e)).1))
code_one f context context' (thread_key (thread p t)) (text_key b) h h' e =
    absurd (omega (arith, (label_one context context' 3 2 16 (length b) (omega arith) h' (omega arith) (omega arith) (ap (λ (l : List ℕ). get_or l 0 0) e)).1))
code_one f context context' (thread_key (thread p t)) (thread_key (thread q u)) h h' e =
    let same = words_one f p t q u h.0 h.1 h'.0 h'.1 (ap (drop 1) e) in
    let first = same.0 in
    let second = same.1 in
    ((label_one context context' 3 3 16 16 (omega arith) (omega arith) (omega arith) (omega arith) (ap (λ (l : List ℕ). get_or l 0 0) e)).0, cc)

-- ---- codes of what stands in the archive

-- the key at a place is the code of the text there
pub text_code : (f : Format) (archive : List ℕ) (place long context : ℕ) → long < 65536 → length (part_of archive place long) ≡ long
    → key_of archive place (label_of context 2 long) ≡ code_of f context (text_key (part_of archive place long))
text_code f archive place long context low whole = rw (label-long context 2 long low, whole)

-- and that of the thread whose two words stand there
pub thread_code : (f : Format) (archive : List ℕ) (place context : ℕ) → AllBytes archive → place + 16 ≤ length archive
    → key_of archive place (label_of context 3 16)
    ≡ code_of f context (thread_key (thread (word_at f.order archive place) (word_at f.order archive (place + 8))))
unfolding part_of
thread_code f archive place context bytes inside =
    rw (
      label-long context 3 16 (omega arith),
      le-leb place (length archive) (omega arith),
      le-leb 16 (length archive - place) (omega arith),
      take-add 8 8 (drop place archive),
      drop-drop 8 place archive,
      word_again f.order archive place (omega arith) bytes,
      word_again f.order archive (place + 8) (omega arith) bytes,
    )

module _ (f : Format) (s : State) (few : s.count ≤ 8) where
  -- providers whose contexts have one number are one
  context_provider : (p q : Option ℕ) → context_in s p ≡ context_in s q → p ≡ q
  unfolding context_in
  context_provider none none e = refl
  context_provider none (some b) e = go (find_id s.ids s.count b) e
    where
      go : (r : code.Option ℕ) → 0 ≡ slot_or r b → none ≡ some b
      go (Some i) e = absurd (omega arith)
      go None e = absurd (omega arith)
  context_provider (some a) none e = go (find_id s.ids s.count a) e
    where
      go : (r : code.Option ℕ) → slot_or r a ≡ 0 → some a ≡ none
      go (Some i) e = absurd (omega arith)
      go None e = absurd (omega arith)
  context_provider (some a) (some b) e = go (find_id s.ids s.count a) (find_id s.ids s.count b) refl refl e
    where
      go : (x y : code.Option ℕ) → find_id s.ids s.count a ≡ x → find_id s.ids s.count b ≡ y → slot_or x a ≡ slot_or y b → some a ≡ some b
      go (Some i) (Some j) p q e =
          let ij : i ≡ j = omega arith in
          ap some (sym (found-is s.ids s.count a i p) ∙ (ap (λ (n : ℕ). get_or s.ids n 0) ij ∙ found-is s.ids s.count b j q))
      go (Some i) None p q e = absurd (omega (arith, found_lt s.ids s.count a i p))
      go None (Some j) p q e = absurd (omega (arith, found_lt s.ids s.count b j q))
      go None None p q e = let ab : a ≡ b = omega arith in ap some ab

  -- two contexts are the same exactly if their numbers are
  same_context : (p q : Option ℕ) → same_provider p q ≡ eqb (context_in s p) (context_in s q)
  same_context p q =
      cases (same_provider p q)
      (λ e. rw (e, same_provider_eq p q e) (sym (eq-eqb (context_in s q) (context_in s q) refl)))
      (λ e. rw e (sym (ne_eqb (context_in s p) (context_in s q)
      (λ z. true≢false (sym (same_provider_refl q) ∙ (ap (λ (x : Option ℕ). same_provider x q) (sym (context_provider p q z)) ∙ e))))))

  -- uses with one code are one
  use_one : (u v : Use) → KeyPlain u.key → KeyPlain v.key → code_in f s u ≡ code_in f s v → u ≡ v
  use_one u v h k e =
      let both = code_one f (context_in s u.provider) (context_in s v.provider) u.key v.key h k e in
      of_parts u.provider v.provider u.key v.key (context_provider u.provider v.provider both.0) both.1
    where
      of_parts : (p q : Option ℕ) (k l : Key) → p ≡ q → k ≡ l
          → ◌≡◌ {A = Use} (record { provider = p; key = k }) (record { provider = q; key = l })
      of_parts p q k l e e' = cc

  -- two plain uses are the same exactly if their codes are
  pub same_codes : (u v : Use) → KeyPlain u.key → KeyPlain v.key → same_use u v ≡ same_bytes (code_in f s u) (code_in f s v)
  same_codes u v h k =
      cases (same_use u v)
      (λ e. e ∙ sym (ap (λ (x : Use). same_bytes (code_in f s x) (code_in f s v)) (same_use_eq u v e) ∙ same_refl (code_in f s v)))
      (λ e. cases (same_bytes (code_in f s u) (code_in f s v))
      (λ q. let one = use_one u v h k (same_true (code_in f s u) (code_in f s v) q) in
      absurd (true≢false (sym (same_use_refl v) ∙ (ap (λ (x : Use). same_use x v) (sym one) ∙ e))))
      (λ q. e ∙ sym q))

  -- a plain use is counted as often as its code
  pub count-codes : (u : Use) (us : List Use) → KeyPlain u.key → UsesPlain us → count same_bytes (code_in f s u) (codes f s us) ≡ count same_use u us
  count-codes u [] h k = refl
  count-codes u (v ∷ us) h k = rw (same_codes v u k.0 h, count-codes u us h k.1)

  -- it is a member where its code is
  member-codes : (u : Use) (us : List Use) → KeyPlain u.key → UsesPlain us → member same_bytes (code_in f s u) (codes f s us) ≡ member same_use u us
  member-codes u [] h k = refl
  member-codes u (v ∷ us) h k = rw (same_codes u v h k.0, member-codes u us h k.1)

  -- the distinct codes of plain uses are the codes of the distinct ones
  pub keys-codes : (seen us : List Use) → UsesPlain seen → UsesPlain us → keys same_bytes (codes f s seen) (codes f s us) ≡ codes f s (keys same_use seen us)
  keys-codes seen [] h k = refl
  keys-codes seen (u ∷ us) h k =
      cases (member same_use u seen)
      (λ e. rw (member-codes u seen k.0 h, e) (keys-codes seen us h k.1))
      (λ e. rw (member-codes u seen k.0 h, e)
      (ap (λ (l : List (List ℕ)). code_in f s u ∷ l) (keys-codes (u ∷ seen) us (k.0, h) k.1)))

  -- a sum over codes is a sum over uses
  sum_codes : (weight : List ℕ → ℕ) (g : Use → ℕ) (us : List Use) → UsesPlain us → ((u : Use) → KeyPlain u.key → weight (code_in f s u) ≡ g u)
      → sum_by weight (codes f s us) ≡ sum_by g us
  sum_codes weight g [] h k = refl
  sum_codes weight g (u ∷ us) h k = omega (arith, k u h.0, sum_codes weight g us h.1 k)

  -- uses are of one context and table exactly if the marks of their codes are equal
  same_mark : (u v : Use) → KeyPlain u.key → KeyPlain v.key
      → (same_provider u.provider v.provider && same_table u.key v.key) ≡ eqb (key_mark (code_in f s v)) (key_mark (code_in f s u))
  same_mark u v h k =
      rw (
        code_mark f (context_in s v.provider) v.key k,
        code_mark f (context_in s u.provider) u.key h,
        same_context u.provider v.provider,
      ) (of_tables (context_in s u.provider) (context_in s v.provider) u.key v.key)
    where
      of_numbers : (a b x y : ℕ) → x < 2 → y < 2 → (eqb a b && eqb x y) ≡ eqb (2 * b + y) (2 * a + x)
      of_numbers a b x y hx hy =
          cases (eqb a b)
          (λ e. rw (e, eqb-true a b e)
          (cases (eqb x y) (λ q. rw (q, eqb-true x y q) (sym (eq-eqb (2 * b + y) (2 * b + y) refl)))
          (λ q. rw q (sym (ne_eqb (2 * b + y) (2 * b + x) (λ z. eqb-false x y q (omega arith)))))))
          (λ e. rw e (sym (ne_eqb (2 * b + y) (2 * a + x) (λ z. eqb-false a b e (omega arith)))))

      of_tables : (a b : ℕ) (x y : Key) → (eqb a b && same_table x y) ≡ eqb (2 * b + table_mark y) (2 * a + table_mark x)
      of_tables a b (text_key x) (text_key y) = of_numbers a b 0 0 (omega arith) (omega arith)
      of_tables a b (text_key x) (thread_key y) = of_numbers a b 0 1 (omega arith) (omega arith)
      of_tables a b (thread_key x) (text_key y) = of_numbers a b 1 0 (omega arith) (omega arith)
      of_tables a b (thread_key x) (thread_key y) = of_numbers a b 1 1 (omega arith) (omega arith)

  -- the uses of a use's context and table are the codes of its mark
  alike-marks : (u : Use) (vs : List Use) → KeyPlain u.key → UsesPlain vs
      → alike u vs ≡ sum_by (λ key. cond (eqb (key_mark key) (key_mark (code_in f s u))) 1 0) (codes f s vs)
  alike-marks u [] h k = refl
  alike-marks u (v ∷ vs) h k = rw (same_mark u v h k.0, alike-marks u vs h k.1)

  -- the distinct uses of a use's context and table are as many as the distinct codes of its mark
  pub alike-distinct : (u : Use) (us : List Use) → KeyPlain u.key → UsesPlain us
      → alike u (keys same_use [] us) ≡ distinct (key_mark (code_in f s u)) (codes f s us)
  alike-distinct u us h k =
      alike-marks u (keys same_use [] us) h (keys-plain [] us k)
      ∙ ap (sum_by (λ key. cond (eqb (key_mark key) (key_mark (code_in f s u))) 1 0)) (sym (keys-codes [] us tt k))

  -- the least words of plain uses are those of their codes, each registered where that is shorter
  pub best_codes : (us : List Use) → UsesPlain us
      → sum_by (λ key. pick (registers (key_words key) (count same_bytes key (codes f s us))) (1 + key_words key) (count same_bytes key (codes f s us) * key_words key))
      (keys same_bytes [] (codes f s us))
      ≡ best_words us
  unfolding registers
  best_codes us k =
      ap (sum_by words) (keys-codes [] us tt k)
      ∙ sum_codes words (price same_use inline_words register_words us) (keys same_use [] us) (keys-plain [] us k) point
    where
      words : List ℕ → ℕ
      words key = pick (registers (key_words key) (count same_bytes key (codes f s us))) (1 + key_words key) (count same_bytes key (codes f s us) * key_words key)

      least : (w n : ℕ) → pick (ltb (1 + w) (n * w)) (1 + w) (n * w) ≡ min (n * w) (1 + w)
      least w n =
          cases (ltb (1 + w) (n * w)) (λ e. rw e (omega (arith, ltb-true (1 + w) (n * w) e))) (λ e. rw e (omega (arith, ltb-false (1 + w) (n * w) e)))

      point : (u : Use) → KeyPlain u.key → words (code_in f s u) ≡ price same_use inline_words register_words us u
      point u h =
          rw (code_words f (context_in s u.provider) u.key h, count-codes u us h k) (least (inline_words_of u.key) (count same_use u us))

-- ---- the current context

-- where it is found, the slot of an id is the first that holds it
id_slot : (ids : List ℕ) (count id i : ℕ) → count ≤ length ids → i < count → get_or ids i 0 ≡ id
    → ((j : ℕ) → j < i → get_or ids j 0 ≡ id → ⊥) → find_id ids count id ≡ Some i
id_slot ids count id i n l e first = go (find_id ids count id) refl
  where
    go : (r : code.Option ℕ) → find_id ids count id ≡ r → r ≡ Some i
    go (Some j) q =
        cases (ltb j i) (λ b. absurd (first j (ltb-true j i b) (found-is ids count id j q)))
        (λ b. cases (ltb i j) (λ c. absurd (found_first ids count id j i q (ltb-true i j c) e))
        (λ c. let ij : j ≡ i = omega (arith, ltb-false j i b, ltb-false i j c) in ap Some ij))
    go None q = absurd (found_none ids count id i n q l e)

-- the uses of the current provider are coded by the current context, in every later state too
pub current_context : (f : Format) (archive tables : List ℕ) (s last : State) → Sound f archive s tables → Grown s last
    → last.count ≤ length last.ids → context_in last (provider_item (provider_of s)) ≡ s.current
unfolding context_in provider_of
current_context f archive tables s last h g long =
    cases (eqb s.current 0) (λ e. rw e (sym (eqb-true s.current 0 e)))
    (λ e.
    let z = eqb-false s.current 0 e in
    let i = s.current - 1 in
    let low : i < s.count = omega (arith, h.current) in
    let slot = id_slot last.ids last.count (get_or s.ids i 0) i long (omega (arith, g.count)) (g.ids i low)
    (λ j l q. let same = h.apart j i (omega arith) low (sym (g.ids j (omega arith)) ∙ q) in omega arith) in
    rw (e, slot) (omega arith))

-- the state at the end of some steps is sound with some tables
pub last_sound : (f : Format) (archive : List ℕ) (steps : ℕ) (s : State) (tables : List ℕ) → Sound f archive s tables
    → (tables' : List ℕ) × Sound f archive (last_from f archive steps s tables) tables'
unfolding last_from
last_sound f archive zero s tables h = (tables, h)
last_sound f archive (suc steps) s tables h =
    last_sound f archive steps (step_reply f archive tables s).state (step_tables f archive tables s) (step_sound f archive tables s h)

-- and has grown from the first
pub last_grows : (f : Format) (archive : List ℕ) (steps : ℕ) (s : State) (tables : List ℕ) → Grown s (last_from f archive steps s tables)
unfolding last_from
last_grows f archive zero s tables = record { place = omega arith; count = omega arith; ids = λ i l. refl }
last_grows f archive (suc steps) s tables =
    let g = step_grows f archive tables s in
    let h = last_grows f archive steps (step_reply f archive tables s).state (step_tables f archive tables s) in
    record {
      place = omega (arith, g.place, h.place);
      count = omega (arith, g.count, h.count);
      ids = λ i l. h.ids i (omega (arith, g.count)) ∙ g.ids i l;
    }

-- so the uses of the current provider are coded by the current context at the end
pub last_context : (f : Format) (archive : List ℕ) (steps : ℕ) (s : State) (tables : List ℕ) → Sound f archive s tables
    → context_in (last_from f archive steps s tables) (provider_item (provider_of s)) ≡ s.current
last_context f archive steps s tables h =
    let end = (last_sound f archive steps s tables h).1 in
    current_context f archive tables s (last_from f archive steps s tables) h (last_grows f archive steps s tables)
    (omega (arith, end.count, end.eight))
