-- Laws of the tables: where entries stand, and what a set entry stands for. Assumes nothing.
use Prim.Native.Nat.{ℕ, ◌+◌, ◌*◌, ◌/◌, ◌%◌, ◌<◌, ◌≤◌}
use mathlib.Core.Path.{◌≡◌, refl, sym, ap, subst, ◌∙◌}
use mathlib.Core.List.{List}
use mathlib.Core.Bool.{Bool, true, false, true≢false}
use mathlib.Core.Logic.{◌⊎◌, inl, inr}
use native.Mathlib.Omega.{arith}
use native.Mathlib.Nat.{mul-le-mul_right}
use borrow.Author.Tests.{eqb-true, eqb-false, ltb-false}
use lib.Arith.{digits_div, digits_mod}
use lib.Dec.{eqb, ltb, lit<}
use lib.ListN.{length, drop, get_or, replicate, length-append, length-drop, length-replicate, get_or-replicate, get_or-append}
use Rattle.words.specs.Word.{pick}
use Rattle.words.proofs.Tests.{on-pick}
use Rattle.format.specs.declared.Format.{Format}
use Rattle.format.specs.declared.Reference.TheVariants.{Inline, Index}
use Rattle.format.specs.Limits.{small_format}
use Rattle.format.specs.Models.Bounds.{Inside}
use Rattle.records.specs.declared.Content.{Content}
use Rattle.records.specs.declared.Content.TheVariants.{Refused, Magic, ProviderInfo, Section, ProviderEvent, Initialization, String, Thread, Report, Ignored, Skipped}
use Rattle.records.specs.Record.{record_at}
use Rattle.records.specs.Models.Bounds.{ContentInside}
use Rattle.records.proofs.Contents.{on_record}
use Rattle.tables.specs.Table.{Registration}
use Rattle.tables.specs.Table.{Nothing, Entry}
use Rattle.tables.specs.declared.Resolved.{Resolved}
use Rattle.tables.specs.declared.Resolved.TheVariants.{Bad, Known, Unresolved}
use Rattle.tables.specs.Table.{table_words, highest_of, position, cleared, registration_of, on_registration, entry_at, resolved}
use Rattle.tables.specs.Models.Entries.{FormatFits}
use Rattle.records.specs.Effect.{effect_of}

-- ---- where entries stand

-- the limits of this format fit
pub small_fits : FormatFits small_format
small_fits = record { indexes = lit< tt }

-- and so do those of whatever is that format
pub small_format_lem : (f : Format) → f ≡ small_format → FormatFits f
small_format_lem f small = subst FormatFits (sym small) small_fits

place_lt : (b : Bool) (highest context index : ℕ) → context ≤ 8 → index ≤ pick b 255 highest
    → pick b (context * (highest + 257) + (highest + 1) + index) (context * (highest + 257) + index) < 9 * (highest + 257)
place_lt true highest context index h i = omega (arith, mul-le-mul_right (highest + 257) h)
place_lt false highest context index h i = omega (arith, mul-le-mul_right (highest + 257) h)

-- an entry stands inside the tables
pub position_lt : (f : Format) (context table index : ℕ) → context ≤ 8 → index ≤ highest_of f table
    → position f context table index < table_words f
unfolding highest_of position
position_lt f context table index = place_lt (eqb table 3) f.highest context index

-- so does one that is known to be a position
pub at_lt : (f : Format) (context table index at : ℕ) → at ≡ position f context table index → context ≤ 8 → index ≤ highest_of f table
    → at < table_words f
at_lt f context table index at e h i = omega (arith, e, position_lt f context table index h i)

digits_same : (w q q' r r' : ℕ) → r < w → r' < w → q * w + r ≡ q' * w + r' → (q ≡ q') × (r ≡ r')
digits_same w q q' r r' h h' e = (
  sym (digits_div q h) ∙ (ap (λ (n : ℕ). n / w) e ∙ digits_div q' h'),
  sym (digits_mod q h) ∙ (ap (λ (n : ℕ). n % w) e ∙ digits_mod q' h'),
)

places_apart : (b b' : Bool) (highest context context' index index' : ℕ) → index ≤ pick b 255 highest → index' ≤ pick b' 255 highest
    → pick b (context * (highest + 257) + (highest + 1) + index) (context * (highest + 257) + index)
    ≡ pick b' (context' * (highest + 257) + (highest + 1) + index') (context' * (highest + 257) + index')
    → (context ≡ context') × (b ≡ b') × (index ≡ index')
places_apart true true highest c c' i i' h h' e =
    let s = digits_same (highest + 257) c c' (highest + 1 + i) (highest + 1 + i') (omega arith) (omega arith) (omega arith) in
    (s.0, refl, omega (arith, s.1))
places_apart true false highest c c' i i' h h' e =
    let s = digits_same (highest + 257) c c' (highest + 1 + i) i' (omega arith) (omega arith) (omega arith) in
    absurd (omega (arith, s.1))
places_apart false true highest c c' i i' h h' e =
    let s = digits_same (highest + 257) c c' i (highest + 1 + i') (omega arith) (omega arith) (omega arith) in
    absurd (omega (arith, s.1))
places_apart false false highest c c' i i' h h' e =
    let s = digits_same (highest + 257) c c' i i' (omega arith) (omega arith) (omega arith) in
    (s.0, refl, s.1)

tables_same : (k k' : ℕ) → (k ≡ 2) ⊎ (k ≡ 3) → (k' ≡ 2) ⊎ (k' ≡ 3) → eqb k 3 ≡ eqb k' 3 → k ≡ k'
tables_same k k' (inl p) (inl q) e = omega arith
tables_same k k' (inl p) (inr q) e = absurd (true≢false (sym (rw (p, q) at e)))
tables_same k k' (inr p) (inl q) e = absurd (true≢false (rw (p, q) at e))
tables_same k k' (inr p) (inr q) e = omega arith

-- two entries that stand at one position are of one context, table and index
pub position-apart : (f : Format) (context table index context' table' index' : ℕ) → (table ≡ 2) ⊎ (table ≡ 3) → (table' ≡ 2) ⊎ (table' ≡ 3)
    → index ≤ highest_of f table → index' ≤ highest_of f table' → position f context table index ≡ position f context' table' index'
    → (context ≡ context') × (table ≡ table') × (index ≡ index')
unfolding highest_of position
position-apart f c k i c' k' i' n n' h h' e =
    let s = places_apart (eqb k 3) (eqb k' 3) f.highest c c' i i' h h' e in
    (s.0, tables_same k k' n n' s.1, s.2)

-- ---- cleared tables

-- what is cleared is 0
pub cleared-zero : (n : ℕ) (tables : List ℕ) (i : ℕ) → i < n → get_or (cleared n tables) i 0 ≡ 0
cleared-zero n tables i h =
    get_or-append (replicate n 0) (drop n tables) 0 i (rw (length-replicate {A = ℕ} n 0) h) ∙ get_or-replicate n i 0 0 h

-- clearing keeps the number of words
pub length-cleared : (n : ℕ) (tables : List ℕ) → n ≤ length tables → length (cleared n tables) ≡ length tables
length-cleared n tables h =
    omega (arith, length-append (replicate n 0) (drop n tables), length-replicate {A = ℕ} n 0, length-drop n tables)

-- ---- what a set entry stands for

-- what is known of an entry that stands for the bytes at a place: it is the place, a multiple of 8, of a record
-- that ends at or before `until` and registers these bytes in this table with this index
pub record EntryKnown (f : Format) (archive : List ℕ) (table index entry until place long : ℕ) : Type 0 where
  pub whole : entry % 8 ≡ 0
  pub ends : (record_at f archive entry).next ≤ until
  pub registers : registration_of (record_at f archive entry).content ≡ Entry table index place long

abbrev EntryMeans : Format → List ℕ → ℕ → ℕ → ℕ → ℕ → Resolved → Type 0
EntryMeans f archive table index entry until Bad = Unit {0}
EntryMeans f archive table index entry until (Known place long) = EntryKnown f archive table index entry until place long
EntryMeans f archive table index entry until (Unresolved number) = Unit {0}

entry_means : (f : Format) (archive : List ℕ) (table index entry until : ℕ)
    → EntryMeans f archive table index entry until (entry_at f archive table index entry until)
unfolding entry_at
entry_means f archive table index entry until =
    on-pick P (eqb (entry % 8) 0) _ _
    (λ a. on-pick P (ltb until (record_at f archive entry).next) _ _ (λ b. tt)
    (λ b. go (eqb-true (entry % 8) 0 a) (ltb-false until (record_at f archive entry).next b) (registration_of (record_at f archive entry).content) refl))
    (λ a. tt)
  where
    P : Resolved → Type 0
    P = EntryMeans f archive table index entry until

    go : entry % 8 ≡ 0 → (record_at f archive entry).next ≤ until → (r : Registration)
        → registration_of (record_at f archive entry).content ≡ r
        → P (on_registration r Bad (λ k i place long. pick (eqb k table) (pick (eqb i index) (Known place long) Bad) Bad))
    go a b Nothing e = tt
    go a b (Entry k i place long) e =
        on-pick P (eqb k table) _ _
        (λ s. on-pick P (eqb i index) _ _
        (λ t. record { whole = a; ends = b; registers = e ∙ rw (eqb-true k table s, eqb-true i index t) })
        (λ t. tt))
        (λ s. tt)

-- what a record registers stands inside it
abbrev RegistrationInside : ℕ → ℕ → Registration → Type 0
RegistrationInside from to Nothing = Unit {0}
RegistrationInside from to (Entry table index place long) = Inside from to (Inline place long)

registration_inside : (from to : ℕ) (c : Content) → ContentInside from to c → RegistrationInside from to (registration_of c)
unfolding registration_of effect_of
registration_inside from to (Refused reason) i = tt
registration_inside from to Magic i = tt
registration_inside from to (ProviderInfo id place long) i = tt
registration_inside from to (Section id) i = tt
registration_inside from to (ProviderEvent id event) i = tt
registration_inside from to (Initialization rate) i = tt
registration_inside from to (String index place long) i = i
registration_inside from to (Thread index place) i = i
registration_inside from to (Report r) i = tt
registration_inside from to Ignored i = tt
registration_inside from to (Skipped type size) i = tt

-- the bytes that the record at a place registers stand inside it
pub registered_inside : (f : Format) (archive : List ℕ) (entry table index place long : ℕ)
    → registration_of (record_at f archive entry).content ≡ Entry table index place long
    → Inside entry (record_at f archive entry).next (Inline place long)
unfolding registration_of effect_of
registered_inside f archive entry table index place long e =
    subst (RegistrationInside entry (record_at f archive entry).next) e
    (on_record (λ r. RegistrationInside entry r.next (registration_of r.content)) f archive entry (λ reason. tt)
    (λ size s. rw s.next (registration_inside entry (entry + size) (record_at f archive entry).content s.shows)))

-- ---- what a reference stands for

-- an index that is resolved has a set entry that is known
pub record IndexKnown (f : Format) (archive tables : List ℕ) (context table index until place long : ℕ) : Type 0 where
  pub low : index ≤ highest_of f table
  pub is_set : get_or tables (position f context table index) 0 ≡ 0 → ⊥
  pub known : EntryKnown f archive table index (get_or tables (position f context table index) 0) until place long

abbrev IndexMeans : Format → List ℕ → List ℕ → ℕ → ℕ → ℕ → ℕ → Resolved → Type 0
IndexMeans f archive tables context table index until Bad = Unit {0}
IndexMeans f archive tables context table index until (Known place long) =
    IndexKnown f archive tables context table index until place long
IndexMeans f archive tables context table index until (Unresolved number) = Unit {0}

index_means : (f : Format) (archive tables : List ℕ) (context table index until : ℕ)
    → IndexMeans f archive tables context table index until (resolved f archive tables context table until (Index index))
unfolding resolved
index_means f archive tables context table index until =
    on-pick P (ltb (highest_of f table) index) _ _ (λ a. tt)
    (λ a. on-pick P (eqb entry 0) _ _ (λ b. tt)
    (λ b. go (ltb-false (highest_of f table) index a) (eqb-false entry 0 b) (entry_at f archive table index entry until)
    (entry_means f archive table index entry until)))
  where
    entry : ℕ
    entry = get_or tables (position f context table index) 0

    P : Resolved → Type 0
    P = IndexMeans f archive tables context table index until

    go : index ≤ highest_of f table → (entry ≡ 0 → ⊥) → (r : Resolved) → EntryMeans f archive table index entry until r → P r
    go a b Bad e = tt
    go a b (Known place long) e = record { low = a; is_set = b; known = e }
    go a b (Unresolved number) e = tt

-- an index that stands for known bytes is so
pub resolved-known : (f : Format) (archive tables : List ℕ) (context table index until place long : ℕ)
    → resolved f archive tables context table until (Index index) ≡ Known place long
    → IndexKnown f archive tables context table index until place long
resolved-known f archive tables context table index until place long e =
    subst (IndexMeans f archive tables context table index until) e (index_means f archive tables context table index until)
