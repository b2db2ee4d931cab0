-- Laws of what a record registers: only string and thread records do, so an entry is read from its header alone. Assumes nothing.
use Prim.Native.Nat.{ℕ, ◌+◌, ◌*◌, ◌/◌, ◌%◌, ◌<◌, ◌≤◌}
use mathlib.Core.Path.{◌≡◌, refl, sym, ap, subst, ◌∙◌}
use mathlib.Core.List.{List}
use mathlib.Core.Logic.{◌⊎◌, inl, inr}
use native.Mathlib.Omega.{arith}
use native.Mathlib.Nat.{add-zero}
use borrow.Author.Tests.{eqb-true, eqb-false, eq-eqb, ne_eqb, le-ltb, lt-ltb, ltb-true, ltb-false, leb-true, leb-false, le-leb}
use lib.Dec.{eqb, leb, ltb}
use lib.ListN.{length, take, drop, length-drop}
use lib.Seq.{length-take-le}
use Rattle.std.proofs.Common.{Result, Ok, Err}
use Rattle.words.specs.Word.{pick, word_at, field}
use Rattle.words.specs.Stream.{stream_words}
use Rattle.words.proofs.Words.{word_at-drop, word_at-take}
use Rattle.words.proofs.Tests.{on-pick, cases}
use Rattle.format.specs.declared.Format.{Format}
use Rattle.format.specs.declared.Reason.{Reason}
use Rattle.format.specs.Header.{record_words, extent_of}
use Rattle.format.specs.Part.{take_words, take_stream, take_part, take_parts}
use Rattle.format.proofs.Headers.{Whole, extent_read}
use Rattle.records.specs.declared.Content.{Content}
use Rattle.records.specs.Effect.{effect_of}
use Rattle.records.specs.Record.{string_of, thread_of, content_of, record_of, record_at}
use Rattle.records.proofs.Contents.{ContentIs, refused, magic, provider_info, section, provider_event, initialization, string, thread, report, ignored, skipped, content_is, content_string, content_thread}
use Rattle.tables.specs.declared.Resolved.{Resolved}
use Rattle.tables.specs.declared.Resolved.TheVariants.{Bad, Known}
use Rattle.tables.specs.Table.{Registration, on_registration, registration_of, highest_of, entry_at}
use Rattle.tables.specs.Models.Entries.{header_index, header_length, longest_of, header_entry}

-- ---- what a record registers, by its header

-- what a registration stands for where one of this table and index is wanted
abbrev belonging : ℕ → ℕ → Registration → Resolved
belonging table index r = on_registration r Bad (λ k i place long. pick (eqb k table) (pick (eqb i index) (Known place long) Bad) Bad)

-- a content of a record stands for nothing in a table that is not the one of its type, or is neither of strings nor of threads
content_other : (f : Format) (source : List ℕ) (place table index : ℕ) → (table ≡ 2 → field 0 3 (word_at f.order source 0) ≡ 2 → ⊥)
    → (table ≡ 3 → field 0 3 (word_at f.order source 0) ≡ 3 → ⊥)
    → (c : Content) → ContentIs f source place c → belonging table index (registration_of c) ≡ Bad
unfolding registration_of effect_of
content_other f source place table index a b _ (refused reason n) = refl
content_other f source place table index a b _ (magic e) = refl
content_other f source place table index a b _ (provider_info t k short room) = refl
content_other f source place table index a b _ (section t k) = refl
content_other f source place table index a b _ (provider_event t k) = refl
content_other f source place table index a b _ (initialization t room) = refl
content_other f source place table index a b _ (string t some low short room) = rw (ne_eqb 2 table (λ e. a (sym e) t))
content_other f source place table index a b _ (thread t some room) = rw (ne_eqb 3 table (λ e. b (sym e) t))
content_other f source place table index a b _ (report x y z s first at last list is) = refl
content_other f source place table index a b _ ignored = refl
content_other f source place table index a b _ (skipped type small) = refl

-- a string record of so many words stands for what its header says
string_means : (f : Format) (source : List ℕ) (place index : ℕ) → length source ≡ 8 * field 4 15 (word_at f.order source 0)
    → 0 < index → index ≤ f.highest
    → belonging 2 index (registration_of (string_of f source place)) ≡ header_entry f 2 (word_at f.order source 0) index place
unfolding string_of take_parts take_part take_stream header_entry header_index header_length longest_of registration_of effect_of
string_means f source place index l some low =
    cases (eqb i index)
    (λ e. let same = eqb-true i index e in
    rw (e, ne_eqb i 0 (omega arith), le-ltb f.highest i (omega arith))
    (cases (ltb f.longest n) (λ a. rw a)
    (λ a. cases (leb w (stream_words n))
    (λ b. rw (a, b, lt-ltb (place + length source) (place + 8 + 8 * stream_words n) (omega (arith, leb-true w (stream_words n) b))))
    (λ b. rw (a, b, le-ltb (place + length source) (place + 8 + 8 * stream_words n) (omega (arith, leb-false w (stream_words n) b)), e)))))
    (λ e. rw e
    (on-pick P (eqb i 0) _ _ (λ a. refl)
    (λ a. on-pick P (ltb f.highest i) _ _ (λ b. refl)
    (λ b. cases (ltb f.longest n) (λ c. rw c)
    (λ c. cases (ltb (place + length source) (place + 8 + 8 * stream_words n)) (λ d. rw (c, d)) (λ d. rw (c, d, e)))))))
  where
    i : ℕ
    i = field 16 30 (word_at f.order source 0)

    n : ℕ
    n = field 32 46 (word_at f.order source 0)

    w : ℕ
    w = field 4 15 (word_at f.order source 0)

    P : Content → Type 0
    P c = belonging 2 index (registration_of c) ≡ Bad

-- and so does a thread record
thread_means : (f : Format) (source : List ℕ) (place index : ℕ) → length source ≡ 8 * field 4 15 (word_at f.order source 0) → 0 < index
    → belonging 3 index (registration_of (thread_of f source place)) ≡ header_entry f 3 (word_at f.order source 0) index place
unfolding thread_of take_parts take_part take_words header_entry header_index header_length longest_of registration_of effect_of
thread_means f source place index l some =
    cases (eqb i index)
    (λ e. let same = eqb-true i index e in
    rw (e, ne_eqb i 0 (omega arith))
    (cases (leb w 2)
    (λ b. rw (b, lt-ltb (place + length source) (place + 8 + 16) (omega (arith, leb-true w 2 b))))
    (λ b. rw (b, le-ltb (place + length source) (place + 8 + 16) (omega (arith, leb-false w 2 b)), e))))
    (λ e. rw e
    (on-pick P (eqb i 0) _ _ (λ a. refl)
    (λ a. cases (ltb (place + length source) (place + 8 + 16)) (λ d. rw d) (λ d. rw (d, e)))))
  where
    i : ℕ
    i = field 16 23 (word_at f.order source 0)

    w : ℕ
    w = field 4 15 (word_at f.order source 0)

    P : Content → Type 0
    P c = belonging 3 index (registration_of c) ≡ Bad

-- ---- an entry

-- an entry is bad, or stands for what its record registers, which ends at or before `until`
on_entry : (P : Resolved → Type 0) (f : Format) (archive : List ℕ) (table index entry until : ℕ) → P Bad
    → ((size : ℕ) → Whole f (drop entry archive) size → length (take size (drop entry archive)) ≡ size → entry + size ≤ until
    → P (belonging table index (registration_of (content_of f (take size (drop entry archive)) entry))))
    → P (entry_at f archive table index entry until)
unfolding entry_at record_of registration_of effect_of
on_entry P f archive table index entry until bad read =
    on-pick P (eqb (entry % 8) 0) _ _ (λ a. go (extent_of f (drop entry archive)) refl) (λ a. bad)
  where
    go : (x : Result ℕ Reason) → extent_of f (drop entry archive) ≡ x
        → P (pick (ltb until (record_at f archive entry).next) Bad (belonging table index (registration_of (record_at f archive entry).content)))
    go (Err reason) e = rw e (on-pick P (ltb until entry) _ _ (λ a. bad) (λ a. bad))
    go (Ok size) e =
        let w = extent_read f (drop entry archive) size e in
        rw e (on-pick P (ltb until (entry + size)) _ _ (λ a. bad)
        (λ a. read size w (length-take-le size (drop entry archive) w.inside) (ltb-false until (entry + size) a)))

-- the header of an entry's record
header_is : (f : Format) (archive : List ℕ) (entry size : ℕ) → 8 ≤ size
    → (word_at f.order (take size (drop entry archive)) 0 ≡ word_at f.order archive entry) × (word_at f.order (drop entry archive) 0 ≡ word_at f.order archive entry)
header_is f archive entry size h =
    (word_at-take f.order (drop entry archive) 0 size h ∙ at_entry, at_entry)
  where
    at_entry : word_at f.order (drop entry archive) 0 ≡ word_at f.order archive entry
    at_entry = rw (word_at-drop f.order archive entry 0, add-zero)

-- a string or thread record has as many words as bits 4 to 15 of its header say
small_words : (header : ℕ) → (field 0 3 header ≡ 2) ⊎ (field 0 3 header ≡ 3) → record_words header ≡ field 4 15 header
unfolding record_words
small_words header (inl t) = rw t
small_words header (inr t) = rw t

-- a content of a record stands for nothing where index 0 is wanted
content_zero : (f : Format) (source : List ℕ) (place table : ℕ) (c : Content) → ContentIs f source place c → belonging table 0 (registration_of c) ≡ Bad
unfolding registration_of effect_of
content_zero f source place table _ (refused reason n) = refl
content_zero f source place table _ (magic e) = refl
content_zero f source place table _ (provider_info t k short room) = refl
content_zero f source place table _ (section t k) = refl
content_zero f source place table _ (provider_event t k) = refl
content_zero f source place table _ (initialization t room) = refl
content_zero f source place table _ (string t some low short room) =
    rw (ne_eqb (field 16 30 (word_at f.order source 0)) 0 (omega arith)) (on-pick (λ r. r ≡ Bad) (eqb 2 table) _ _ (λ e. refl) (λ e. refl))
content_zero f source place table _ (thread t some room) =
    rw (ne_eqb (field 16 23 (word_at f.order source 0)) 0 (omega arith)) (on-pick (λ r. r ≡ Bad) (eqb 3 table) _ _ (λ e. refl) (λ e. refl))
content_zero f source place table _ (report x y z s first at last list is) = refl
content_zero f source place table _ ignored = refl
content_zero f source place table _ (skipped type small) = refl

-- an entry without a header in the archive is bad
pub entry_cut : (f : Format) (archive : List ℕ) (table index entry until : ℕ) → length archive < entry + 8 → entry_at f archive table index entry until ≡ Bad
entry_cut f archive table index entry until h =
    on_entry (λ r. r ≡ Bad) f archive table index entry until refl
    (λ size w l e. absurd (omega (arith, w.some, w.inside, length-drop entry archive)))

-- an entry where index 0 is wanted is
pub entry_zero : (f : Format) (archive : List ℕ) (table entry until : ℕ) → entry_at f archive table 0 entry until ≡ Bad
entry_zero f archive table entry until =
    on_entry (λ r. r ≡ Bad) f archive table 0 entry until refl
    (λ size w l e. content_zero f (take size (drop entry archive)) entry table _ (content_is f (take size (drop entry archive)) entry (omega (arith, l, w.some))))

-- an entry of a record of another type, or wanted in a table that is neither of strings nor of threads, is bad
pub entry_other : (f : Format) (archive : List ℕ) (table index entry until : ℕ) → (table ≡ 2 → field 0 3 (word_at f.order archive entry) ≡ 2 → ⊥)
    → (table ≡ 3 → field 0 3 (word_at f.order archive entry) ≡ 3 → ⊥) → entry_at f archive table index entry until ≡ Bad
entry_other f archive table index entry until a b =
    on_entry (λ r. r ≡ Bad) f archive table index entry until refl
    (λ size w l e.
    let source = take size (drop entry archive) in
    let h = (header_is f archive entry size w.some).0 in
    content_other f source entry table index (λ t k. a t (ap (field 0 3) (sym h) ∙ k)) (λ t k. b t (ap (field 0 3) (sym h) ∙ k)) _
    (content_is f source entry (omega (arith, l, w.some))))

-- an entry of a record that has no words, or ends behind `until` or behind the archive, is bad
pub entry_outside : (f : Format) (archive : List ℕ) (table index entry until : ℕ) → field 0 3 (word_at f.order archive entry) ≡ table
    → (0 < field 4 15 (word_at f.order archive entry) → entry + 8 * field 4 15 (word_at f.order archive entry) ≤ until
    → entry + 8 * field 4 15 (word_at f.order archive entry) ≤ length archive → ⊥)
    → entry_at f archive table index entry until ≡ Bad
entry_outside f archive table index entry until t h =
    cases (eqb table 2) (λ a. registers (inl (t ∙ eqb-true table 2 a)))
    (λ a. cases (eqb table 3) (λ b. registers (inr (t ∙ eqb-true table 3 b)))
    (λ b. entry_other f archive table index entry until (λ e. absurd (eqb-false table 2 a e)) (λ e. absurd (eqb-false table 3 b e))))
  where
    header : ℕ
    header = word_at f.order archive entry

    registers : (field 0 3 header ≡ 2) ⊎ (field 0 3 header ≡ 3) → entry_at f archive table index entry until ≡ Bad
    registers k =
        on_entry (λ r. r ≡ Bad) f archive table index entry until refl
        (λ size w l e.
        let long : size ≡ 8 * field 4 15 header = omega (arith, w.is, ap record_words (header_is f archive entry size w.some).1, small_words header k) in
        absurd (h (omega (arith, w.some)) (omega arith) (omega (arith, w.some, w.inside, length-drop entry archive))))

-- every other entry of a record of some words stands for what its record registers
entry_read : (f : Format) (archive : List ℕ) (table index entry until : ℕ)
    → let header = word_at f.order archive entry in
    let source = take (8 * field 4 15 header) (drop entry archive) in
    (field 0 3 header ≡ 2) ⊎ (field 0 3 header ≡ 3) → entry % 8 ≡ 0 → 0 < field 4 15 header
    → entry + 8 * field 4 15 header ≤ until → entry + 8 * field 4 15 header ≤ length archive
    → (entry_at f archive table index entry until ≡ belonging table index (registration_of (content_of f source entry)))
    × (word_at f.order source 0 ≡ header) × (length source ≡ 8 * field 4 15 header)
unfolding entry_at record_of extent_of
entry_read f archive table index entry until k whole some ends inside =
    let h = header_is f archive entry (8 * w) (omega arith) in
    let words = ap record_words h.1 ∙ small_words header k in
    let long : 8 * w ≤ length rest = omega (arith, length-drop entry archive) in (
      rw (
        words,
        le-ltb (length rest) 8 (omega arith),
        ne_eqb w 0 (omega arith),
        le-ltb (length rest) (8 * w) long,
        eq-eqb (entry % 8) 0 whole,
        le-ltb until (entry + 8 * w) ends,
      ),
      h.0,
      length-take-le (8 * w) rest long,
    )
  where
    header : ℕ
    header = word_at f.order archive entry

    w : ℕ
    w = field 4 15 header

    rest : List ℕ
    rest = drop entry archive

-- a header of no words stands for nothing
header_empty : (f : Format) (table header index entry : ℕ) → field 4 15 header ≡ 0 → header_entry f table header index entry ≡ Bad
unfolding header_entry
header_empty f table header index entry e =
    rw (le-leb (field 4 15 header) (stream_words (header_length table header)) (omega arith))
    (on-pick P (eqb (header_index table header) index) _ _
    (λ a. on-pick P (ltb (longest_of f table) (header_length table header)) _ _ (λ b. refl) (λ b. refl)) (λ a. refl))
  where
    P : Resolved → Type 0
    P r = r ≡ Bad

-- the entry of a string record, where a string is wanted, stands for what its header says
entry_string : (f : Format) (archive : List ℕ) (index entry until : ℕ)
    → let header = word_at f.order archive entry in
    field 0 3 header ≡ 2 → 0 < index → index ≤ highest_of f 2 → entry % 8 ≡ 0 → entry + 8 * field 4 15 header ≤ until
    → entry + 8 * field 4 15 header ≤ length archive → entry_at f archive 2 index entry until ≡ header_entry f 2 header index entry
unfolding highest_of
entry_string f archive index entry until t some low whole ends inside =
    cases (ltb 0 (field 4 15 header))
    (λ e.
    let r = entry_read f archive 2 index entry until (inl t) whole (ltb-true 0 (field 4 15 header) e) ends inside in
    let same = r.1 in
    r.0 ∙ (ap (λ (c : Content). belonging 2 index (registration_of c)) (content_string f source entry (rw same t))
    ∙ subst (λ (h : ℕ). belonging 2 index (registration_of (string_of f source entry)) ≡ header_entry f 2 h index entry) same
    (string_means f source entry index (rw same r.2) some low)))
    (λ e.
    let none = ltb-false 0 (field 4 15 header) e in
    entry_outside f archive 2 index entry until t (λ n a b. omega arith) ∙ sym (header_empty f 2 header index entry (omega arith)))
  where
    header : ℕ
    header = word_at f.order archive entry

    source : List ℕ
    source = take (8 * field 4 15 header) (drop entry archive)

-- and so does that of a thread record, where a thread is wanted
entry_thread : (f : Format) (archive : List ℕ) (index entry until : ℕ)
    → let header = word_at f.order archive entry in
    field 0 3 header ≡ 3 → 0 < index → entry % 8 ≡ 0 → entry + 8 * field 4 15 header ≤ until
    → entry + 8 * field 4 15 header ≤ length archive → entry_at f archive 3 index entry until ≡ header_entry f 3 header index entry
entry_thread f archive index entry until t some whole ends inside =
    cases (ltb 0 (field 4 15 header))
    (λ e.
    let r = entry_read f archive 3 index entry until (inr t) whole (ltb-true 0 (field 4 15 header) e) ends inside in
    let same = r.1 in
    r.0 ∙ (ap (λ (c : Content). belonging 3 index (registration_of c)) (content_thread f source entry (rw same t))
    ∙ subst (λ (h : ℕ). belonging 3 index (registration_of (thread_of f source entry)) ≡ header_entry f 3 h index entry) same
    (thread_means f source entry index (rw same r.2) some)))
    (λ e.
    let none = ltb-false 0 (field 4 15 header) e in
    entry_outside f archive 3 index entry until t (λ n a b. omega arith) ∙ sym (header_empty f 3 header index entry (omega arith)))
  where
    header : ℕ
    header = word_at f.order archive entry

    source : List ℕ
    source = take (8 * field 4 15 header) (drop entry archive)

-- the entry of a record of its table stands for what its header says
pub entry_header : (f : Format) (archive : List ℕ) (table index entry until : ℕ)
    → let header = word_at f.order archive entry in
    (table ≡ 2) ⊎ (table ≡ 3) → field 0 3 header ≡ table → 0 < index → index ≤ highest_of f table → entry % 8 ≡ 0
    → entry + 8 * field 4 15 header ≤ until → entry + 8 * field 4 15 header ≤ length archive
    → entry_at f archive table index entry until ≡ header_entry f table header index entry
entry_header f archive table index entry until (inl e) t some low whole ends inside =
    rw e (entry_string f archive index entry until (t ∙ e) some (rw e at low) whole ends inside)
entry_header f archive table index entry until (inr e) t some low whole ends inside =
    rw e (entry_thread f archive index entry until (t ∙ e) some whole ends inside)

-- three numbers that one of two ways gave: what holds of those of each holds of them
pub on_either : {A B : Type 0} {D : A → Type 0} {x y z : ℕ} {F G H : (a : A) → D a → ℕ} {f g h : B → ℕ} (P : ℕ → ℕ → ℕ → Type 0)
    → ((a : A) × (d : D a) × (x ≡ F a d) × (y ≡ G a d) × (z ≡ H a d)) ⊎ ((b : B) × (x ≡ f b) × (y ≡ g b) × (z ≡ h b))
    → ((a : A) (d : D a) → P (F a d) (G a d) (H a d)) → ((b : B) → P (f b) (g b) (h b)) → P x y z
on_either P (inl (a, d, p, q, r)) one other = rw (p, q, r) (one a d)
on_either P (inr (b, p, q, r)) one other = rw (p, q, r) (other b)

-- what the header of a record of this table has, as the code holds it
abbrev pub HeaderHeld : Format → (table header own long most : ℕ) → Type 0
HeaderHeld f table header own long most = (own ≡ header_index table header) × (long ≡ header_length table header) × (most ≡ longest_of f table)

pub thread_held : (f : Format) (table header own : ℕ) → table ≡ 3 → own ≡ field 16 23 header → HeaderHeld f table header own 16 16
unfolding header_index header_length longest_of
thread_held f table header own e i = rw e (i, refl, refl)

pub string_held : (f : Format) (table header own long : ℕ) → (table ≡ 3 → ⊥) → own ≡ field 16 30 header → long ≡ field 32 46 header
    → HeaderHeld f table header own long f.longest
unfolding header_index header_length longest_of
string_held f table header own long e i l = rw (ne_eqb table 3 e) (i, l, refl)

-- a number whose half is 1 is one of the two tables
pub either_table : (table : ℕ) → table / 2 ≡ 1 → (table ≡ 2) ⊎ (table ≡ 3)
either_table table h = cases (eqb table 2) (λ e. inl (eqb-true table 2 e)) (λ e. let n = eqb-false table 2 e in inr (omega (arith, h)))
