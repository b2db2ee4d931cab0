-- A good sheet is what a list of entries with rising indexes spells, and each entry's text is found by its index. Assumes nothing.
use Prim.Native.Nat.{ℕ, zero, suc, ◌+◌, ◌-◌, ◌*◌, ◌/◌, ◌%◌, ◌<◌, ◌≤◌}
use mathlib.Core.Path.{◌≡◌, refl, sym, ap, ◌∙◌}
use mathlib.Core.List.Memᴰ
use mathlib.Core.List.{List, [], ◌∷◌, ◌++◌, Memᴰ}
use mathlib.Core.Bool.{true}
use mathlib.Core.Logic.{⊎_elim}
use native.Mathlib.Omega.{arith}
use native.Mathlib.Nat.{add_assoc, add-zero}
use borrow.Author.Tests.{le-leb, lt-ltb, eq-eqb, ne_eqb, ltb-true, ltb-false, eqb-true}
use lib.ListN.{length, get_or, take, drop, length-append, length-drop, take-append-drop, drop_of_length-le}
use lib.Seq.{length-take-le, get_or-drop, drop-drop, drop-append_seam, take-append_seam, drop-cons}
use lib.Dec.{ltb}
use Rattle.std.specs.Prelude.{None}
use Rattle.sheets.specs.Sheet.{number_at, length_at, index_at, text_at, end_at, starts_from, is_whole, is_good, first_bad, has_version, breach_of, find_in, find_of, found_at}
use Rattle.sheets.specs.Spelled.{Entry, spelled, sheet_of, Keeps}
use Rattle.sheets.proofs.Turns.{cases, has_bytes, starts_more, Good, good_is, bad_later, bad_none, find_here, find_later}
use Rattle.sheets.proofs.Laws.{none_first, has_version_lem, none_bad_lem}

number_here : (sheet : List ℕ) (at : ℕ) → number_at sheet at ≡ number_at (drop at sheet) 0
unfolding number_at
number_here sheet at = simp (get_or-drop, add-zero)

number_behind : (sheet : List ℕ) (at k : ℕ) → number_at sheet (at + k) ≡ number_at (drop at sheet) k
unfolding number_at
number_behind sheet at k = simp (get_or-drop, add_assoc)

-- what is read where an entry stands
record Reads (sheet : List ℕ) (at : ℕ) (e : Entry) (es : List Entry) : Type 0 where
  inside : at < length sheet
  whole : end_at sheet at ≤ length sheet
  size : length_at sheet at ≡ length e.text
  named : index_at sheet at ≡ e.index
  text : drop (text_at at) sheet ≡ e.text ++ spelled es
  more : drop (end_at sheet at) sheet ≡ spelled es

reads : (sheet : List ℕ) (at : ℕ) (e : Entry) (es : List Entry) → drop at sheet ≡ spelled (e ∷ es) → length e.text < 65536 → Reads sheet at e es
unfolding number_at
reads sheet at e es h short =
    let l = length e.text in
    let size : number_at sheet at ≡ l = number_here sheet at ∙ rw h (omega arith) in
    let named : number_at sheet (at + 2) ≡ e.index = number_behind sheet at 2 ∙ rw h (omega arith) in
    let text : drop (at + 4) sheet ≡ e.text ++ spelled es = sym (drop-drop 4 at sheet) ∙ rw h in
    let more : drop (at + 4 + l) sheet ≡ spelled es = sym (drop-drop l (at + 4) sheet) ∙ rw text (drop-append_seam e.text (spelled es)) in
    let long : length sheet - at ≡ 4 + (l + length (spelled es)) = sym (length-drop at sheet) ∙ rw h (omega (arith, length-append e.text (spelled es))) in
    record { inside = omega arith; whole = omega arith; size = size; named = named; text = text; more = rw size more }

whole_is : (sheet : List ℕ) (at : ℕ) → end_at sheet at ≤ length sheet → is_whole sheet at ≡ true
unfolding is_whole
whole_is sheet at h = le-leb (end_at sheet at) (length sheet) h

good_when : (sheet : List ℕ) (longest before at : ℕ) → Good sheet longest before at → is_good sheet longest before at ≡ true
unfolding is_good
good_when sheet longest before at g =
    rw (
      whole_is sheet at g.whole,
      le-leb (length_at sheet at) longest g.short,
      lt-ltb before (index_at sheet at) g.rises,
      le-leb (index_at sheet at) 32767 g.small,
    )

at_end : (sheet : List ℕ) (at : ℕ) → drop at sheet ≡ [] → length sheet ≤ at
at_end sheet at h = omega (arith, length-drop at sheet, ap length h)

module _ (sheet : List ℕ) (longest : ℕ) (fits : longest < 65536) where
  good_from : (before at : ℕ) (es : List Entry) → drop at sheet ≡ spelled es → Keeps longest before es → first_bad sheet longest before (starts_from sheet at) ≡ None
  good_from before at [] h k = bad_none sheet longest before at (at_end sheet at h)
  good_from before at (e ∷ es) h k =
      let r = reads sheet at e es h (omega arith) in
      let g = good_when sheet longest before at (record { whole = r.whole; short = omega arith; rises = omega arith; small = omega arith }) in
      bad_later sheet longest before at r.inside g ∙ rw r.named (good_from e.index (end_at sheet at) es r.more k.3)

  above : (before : ℕ) (es : List Entry) → Keeps longest before es → (e : Entry) → Memᴰ e es → before < e.index
  above before [] k e m = absurd (Memᴰ.not-nil m)
  above before (x ∷ es) k e m =
      ⊎_elim (λ q. rw q k.1) (λ l. let a = above x.index es k.3 e l in omega arith) (Memᴰ.cases_cons m)

  -- the text of an entry is found by its index
  find_from_lem : (before at : ℕ) (es : List Entry) → drop at sheet ≡ spelled es → Keeps longest before es → (e : Entry) → Memᴰ e es
      → (place : ℕ) × (find_in sheet e.index (starts_from sheet at) ≡ found_at place (length e.text)) × (take (length e.text) (drop place sheet) ≡ e.text)
  find_from_lem before at [] h k e m = absurd (Memᴰ.not-nil m)
  find_from_lem before at (x ∷ es) h k e m =
      let r = reads sheet at x es h (omega arith) in
      let w = whole_is sheet at r.whole in
      ⊎_elim
      (λ q.
      rw q (
        text_at at,
        find_here sheet x.index at r.inside w (eq-eqb (index_at sheet at) x.index r.named) ∙ rw r.size,
        rw r.text (take-append_seam x.text (spelled es)),
      ))
      (λ l.
      let a = above x.index es k.3 e l in
      let f = find_from_lem x.index (end_at sheet at) es r.more k.3 e l in (
        f.0,
        find_later sheet e.index at r.inside w (ne_eqb (index_at sheet at) e.index (λ q. omega (arith, r.named))) ∙ f.1,
        f.2,
      ))
      (Memᴰ.cases_cons m)

-- rising entries make a good sheet
pub spelled_good : (longest : ℕ) (es : List Entry) → longest < 65536 → Keeps longest 0 es → breach_of (sheet_of es) longest ≡ None
unfolding breach_of has_version
spelled_good longest es fits k = good_from (sheet_of es) longest fits 0 1 es refl k

-- and the text of each is found by its index
pub spelled-found : (longest : ℕ) (es : List Entry) → longest < 65536 → Keeps longest 0 es → (e : Entry) → Memᴰ e es
    → (place : ℕ) × (find_of (sheet_of es) e.index ≡ found_at place (length e.text)) × (take (length e.text) (drop place (sheet_of es)) ≡ e.text)
unfolding find_of
spelled-found longest es fits k e m = find_from_lem (sheet_of es) longest fits 0 1 es refl k e m

-- the four bytes that begin an entry
four : (sheet : List ℕ) (at : ℕ) → at + 4 ≤ length sheet → ((i : ℕ) → get_or sheet i 0 < 256)
    → drop at sheet
    ≡ length_at sheet at / 256 ∷ length_at sheet at % 256 ∷ index_at sheet at / 256 ∷ index_at sheet at % 256 ∷ drop (at + 4) sheet
unfolding number_at
four sheet at h small =
    let a = small at in
    let b = small (at + 1) in
    let c = small (at + 2) in
    let d = small (at + 2 + 1) in
    let e₀ : get_or sheet at 0 ≡ (256 * get_or sheet at 0 + get_or sheet (at + 1) 0) / 256 = omega arith in
    let e₁ : get_or sheet (at + 1) 0 ≡ (256 * get_or sheet at 0 + get_or sheet (at + 1) 0) % 256 = omega arith in
    let e₂ : get_or sheet (at + 2) 0 ≡ (256 * get_or sheet (at + 2) 0 + get_or sheet (at + 2 + 1) 0) / 256 = omega arith in
    let e₃ : get_or sheet (at + 2 + 1) 0 ≡ (256 * get_or sheet (at + 2) 0 + get_or sheet (at + 2 + 1) 0) % 256 = omega arith in
    let s₁ : suc at ≡ at + 1 = omega arith in
    let s₂ : suc (at + 1) ≡ at + 2 = omega arith in
    let s₃ : suc (at + 2) ≡ at + 2 + 1 = omega arith in
    let s₄ : suc (at + 2 + 1) ≡ at + 4 = omega arith in
    rw (← e₀, ← e₁, ← e₂, ← e₃)
    (drop-cons sheet at 0 (omega arith)
    ∙ ap (λ l. get_or sheet at 0 ∷ l) (ap (λ n. drop n sheet) s₁ ∙ drop-cons sheet (at + 1) 0 (omega arith)
    ∙ ap (λ l. get_or sheet (at + 1) 0 ∷ l) (ap (λ n. drop n sheet) s₂ ∙ drop-cons sheet (at + 2) 0 (omega arith)
    ∙ ap (λ l. get_or sheet (at + 2) 0 ∷ l) (ap (λ n. drop n sheet) s₃ ∙ drop-cons sheet (at + 2 + 1) 0 (omega arith)
    ∙ ap (λ l. get_or sheet (at + 2 + 1) 0 ∷ drop l sheet) s₄))))

-- what stands in a good sheet from a place on is what some entries spell
back_from : (sheet : List ℕ) (longest : ℕ) → ((i : ℕ) → get_or sheet i 0 < 256) → (turns before at : ℕ) → at ≤ length sheet → length sheet ≤ at + turns
    → first_bad sheet longest before (starts_from sheet at) ≡ None
    → (es : List Entry) × (drop at sheet ≡ spelled es) × Keeps longest before es
back_from sheet longest small zero before at hi lo e = ([], drop_of_length-le sheet {i = at} (omega arith), tt)
back_from sheet longest small (suc turns) before at hi lo e =
    cases (ltb at (length sheet))
    (λ t.
    let l = ltb-true at (length sheet) t in
    let n = none_first sheet longest before at (starts_from sheet (end_at sheet at)) (rw (starts_more sheet at l) at e) in
    let g = good_is sheet longest before at n.0 in
    let more = back_from sheet longest small turns (index_at sheet at) (end_at sheet at) g.whole (omega arith) n.1 in
    let text = take (length_at sheet at) (drop (at + 4) sheet) in
    let long : length text ≡ length_at sheet at = length-take-le (length_at sheet at) (drop (at + 4) sheet) (omega (arith, length-drop (at + 4) sheet)) in
    let rest : drop (at + 4) sheet ≡ text ++ spelled more.0 =
    sym (take-append-drop (length_at sheet at) (drop (at + 4) sheet)) ∙ rw (drop-drop (length_at sheet at) (at + 4) sheet, more.1) in (
      record { index = index_at sheet at; text = text } ∷ more.0,
      four sheet at (omega arith) small ∙ rw (long, ← rest),
      (rw long g.short, g.rises, g.small, more.2),
    ))
    (λ t. ([], drop_of_length-le sheet {i = at} (ltb-false at (length sheet) t), tt))

version_is : (b : ℕ) (bs : List ℕ) → has_version (b ∷ bs) ≡ true → b ≡ 1
unfolding has_version
version_is b bs e = eqb-true b 1 e

-- a good sheet is what some rising entries spell
pub good_spelled : (sheet : List ℕ) (longest : ℕ) → ((i : ℕ) → get_or sheet i 0 < 256) → breach_of sheet longest ≡ None
    → (es : List Entry) × (sheet ≡ sheet_of es) × Keeps longest 0 es
good_spelled [] longest small good = let h = has_bytes [] (has_version_lem [] longest good) in absurd (omega arith)
good_spelled (b ∷ bs) longest small good =
    let v = has_version_lem (b ∷ bs) longest good in
    let r = back_from (b ∷ bs) longest small (length bs) 0 1 (omega arith) (omega arith) (none_bad_lem (b ∷ bs) longest good) in
    (r.0, ap (λ x. x ∷ bs) (version_is b bs v) ∙ ap (λ l. 1 ∷ l) r.1, r.2)
