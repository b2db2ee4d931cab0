-- Laws of layouts, the same for all kinds: their numbers fit, and where the parts that are taken for them stand. Assumes nothing.
use Prim.Native.Nat.{ℕ, ◌+◌, ◌-◌, ◌*◌, ◌≤◌}
use mathlib.Core.Path.{◌≡◌, refl, ap, subst}
use mathlib.Core.List.{[], List, ◌∷◌}
use native.Mathlib.Omega.{arith}
use lib.ListN.{length, drop}
use lib.Dec.{ltb}
use borrow.Author.Tests.{ltb-false}
use Rattle.std.proofs.Common.{Result, Ok, Err}
use Rattle.words.specs.Word.{word_at, field}
use Rattle.words.proofs.Tests.{on-pick}
use Rattle.format.specs.declared.Format.{Format}
use Rattle.format.specs.declared.Reason.{Reason}
use Rattle.format.specs.Limits.{number_of}
use Rattle.format.specs.declared.Reference.{Reference}
use Rattle.format.specs.declared.Reference.TheVariants.{Inline}
use Rattle.format.specs.declared.Part.{Part}
use Rattle.format.specs.declared.Part.TheVariants.{Words as words, Stream as stream, Text as text, Thread as thread}
use Rattle.format.specs.Part.{taken, take_part, take_words, take_stream, Body, refused, body, prepend, on_taken, take_parts, part, inline_bytes}
use Rattle.format.specs.Models.Bounds.{PartFits, Inside}
use Rattle.format.proofs.Parts.{inside_wider, Moves, part_taken, Ends, parts_end, Counted, parts_counted}
use Rattle.arguments.specs.Argument.{Arguments, refused as arguments_refused, arguments, arguments_of, walked}
use Rattle.arguments.proofs.Arguments.{ArgumentsFit, arguments_fit}
use Rattle.format.specs.declared.Taken.{Taken}
use Rattle.records.specs.declared.Layout.{Layout}
use Rattle.records.specs.declared.Pair.{Pair}
use Rattle.records.specs.declared.Fields.{Fields}
use Rattle.records.specs.declared.Report.{Report}
use Rattle.records.specs.declared.Content.{Content}
use Rattle.records.specs.declared.Content.TheVariants.{Refused, Report as ReportRead}
use Rattle.records.specs.Layout.{has_extra, extra_words, event_layout, is_log, log_layout, layout_of, fields, fields_of, take_fields, last_word, on_fields, on_number, report_read, report_of, refused_by}
use Rattle.records.specs.Models.Layouts.{ReferenceFits, LayoutFits, pair, take_pair, on_pair, pair_of}

-- an event has at most one word behind its arguments
pub extra_few : (type : ℕ) → extra_words type ≤ 1
unfolding extra_words
extra_few type = on-pick (λ n. n ≤ 1) (has_extra type) 1 0 (λ e. omega arith) (λ e. omega arith)

-- the layout of every kind fits
event_fits : (header : ℕ) → LayoutFits (event_layout header)
unfolding event_layout
event_fits header =
    record {
      words = omega arith;
      first = omega arith;
      second = omega arith;
      third = omega arith;
      stream = omega arith;
      few = omega arith;
      behind = extra_few (field 16 19 header);
    }

log_fits : (header : ℕ) → LayoutFits (log_layout header)
unfolding log_layout
log_fits header =
    record {
      words = omega arith;
      first = omega arith;
      second = omega arith;
      third = omega arith;
      stream = omega arith;
      few = omega arith;
      behind = omega arith;
    }

pub layout_fits : (header : ℕ) → LayoutFits (layout_of header)
unfolding layout_of
layout_fits header = on-pick LayoutFits (is_log header) (log_layout header) (event_layout header) (λ e. log_fits header) (λ e. event_fits header)

-- ---- any kind

-- a reference that fits is a part that fits
pub reference-fits : (p : Part) → ReferenceFits p → PartFits p
reference-fits (words n) h = absurd h
reference-fits (stream n) h = absurd h
reference-fits (text r) h = h
reference-fits (thread r) h = h

-- the parts of a layout from `place` to `end`: where its arguments start, behind its words and what its parts have inline
pub record Stand (l : Layout) (place end : ℕ) (a b c s : Reference) (next : ℕ) : Type 0 where
  pub starts : next ≡ place + 8 * l.words + inline_bytes a + inline_bytes b + inline_bytes c + inline_bytes s
  pub ends : next ≤ end
  pub in_first : Inside place end a
  pub in_second : Inside place end b
  pub in_third : Inside place end c
  pub in_stream : Inside place end s

abbrev pub FieldsStand : Layout → ℕ → ℕ → Result Fields Reason → Type 0
FieldsStand l place end (Err reason) = Unit {0}
FieldsStand l place end (Ok x) = Stand l place end x.first x.second x.third x.stream x.next

-- every layout stands so
pub fields_stand : (f : Format) (l : Layout) (source : List ℕ) (place : ℕ) → 8 ≤ length source
    → FieldsStand l (place + 8) (place + length source) (take_fields f l source place)
unfolding take_fields take_parts take_part take_words
fields_stand f l source place h =
    on-pick (λ t. P (on_taken t next)) (ltb end from) _ _ (λ e. tt)
    (λ e. go (take_parts f rest from source place) (parts_end f rest from source place (ltb-false end from e)) (parts_counted f rest from source place))
  where
    end : ℕ
    end = place + length source

    from : ℕ
    from = place + 8 + 8 * l.words

    rest : List Part
    rest = l.first ∷ l.second ∷ l.third ∷ stream l.stream ∷ []

    next : Reference → ℕ → Body
    next x n = prepend x (take_parts f rest n source place)

    P : Body → Type 0
    P b = FieldsStand l (place + 8) end (fields_of b)

    go : (b : Body) → Ends from end b → Counted 4 b → P (prepend (Inline (place + 8) (8 * l.words)) b)
    go (refused reason) e k = tt
    go (body [] n) e k = absurd (omega (arith, k))
    go (body (a ∷ []) n) e k = absurd (omega (arith, k))
    go (body (a ∷ b ∷ []) n) e k = absurd (omega (arith, k))
    go (body (a ∷ b ∷ c ∷ []) n) e k = absurd (omega (arith, k))
    go (body (a ∷ b ∷ c ∷ s ∷ []) n) e k =
        record {
          starts = omega (arith, e.0);
          ends = e.1;
          in_first = inside_wider (place + 8) end a (omega arith) (omega arith) e.2.0;
          in_second = inside_wider (place + 8) end b (omega arith) (omega arith) e.2.1.0;
          in_third = inside_wider (place + 8) end c (omega arith) (omega arith) e.2.1.1.0;
          in_stream = inside_wider (place + 8) end s (omega arith) (omega arith) e.2.1.1.1.0;
        }
    go (body (a ∷ b ∷ c ∷ s ∷ x ∷ xs) n) e k = absurd (omega (arith, k))

-- a part that is a stream is taken as one
pub stream-part : (f : Format) (n place : ℕ) (source : List ℕ) (start : ℕ) → take_part f (stream n) place source start ≡ take_stream f n place source start
unfolding take_part
stream-part f n place source start = refl

-- leading words that are known to be taken
pub words_taken : (f : Format) (n place : ℕ) (source : List ℕ) (start : ℕ) (x : Reference) (next : ℕ) → place ≤ start + length source
    → take_words n place source start ≡ taken x next → Moves place (start + length source) (taken x next)
unfolding take_part
words_taken f n place source start x next h e = part_taken f (words n) place source start x next h e

-- the same of fields that are known to be read
pub fields_read : (f : Format) (l : Layout) (source : List ℕ) (place : ℕ) (a b c s : Reference) (next : ℕ) → 8 ≤ length source
    → take_fields f l source place ≡ fields a b c s next → Stand l (place + 8) (place + length source) a b c s next
fields_read f l source place a b c s next h e = subst (FieldsStand l (place + 8) (place + length source)) e (fields_stand f l source place h)

abbrev EndInside : List ℕ → ℕ → Result ℕ Reason → Type 0
EndInside rest place (Err reason) = Unit {0}
EndInside rest place (Ok last) = (place ≤ last) × (last ≤ place + length rest)

-- arguments end behind their start, and inside what is left of their record
pub walk_ends : (f : Format) (count : ℕ) (rest : List ℕ) (place last : ℕ) → walked (arguments_of f count rest place) ≡ Ok last
    → (place ≤ last) × (last ≤ place + length rest)
walk_ends f count rest place last e =
    subst (EndInside rest place) e (go (arguments_of f count rest place) (arguments_fit f count rest place))
  where
    go : (q : Arguments) → ArgumentsFit count rest place q → EndInside rest place (walked q)
    go (arguments_refused reason) s = tt
    go (arguments l next) s = (omega (arith, s.1), s.2)

-- ---- what the steps of reading come to

-- leading words that are taken, or fields that are refused with them
abbrev pub on_words : Result Taken Reason → (ℕ → Result Fields Reason) → Result Fields Reason
on_words (Err reason) then = Err reason
on_words (Ok w) then = then w.next

-- the fields of a layout are its leading words and two pairs of parts
pub fields_by_pairs : (f : Format) (l : Layout) (source : List ℕ) (place : ℕ)
    → take_fields f l source place
    ≡ on_words (take_words l.words (place + 8) source place)
    (λ start. on_pair (take_pair f l.first l.second start source place) Err
    (λ a b middle. on_pair (take_pair f l.third (stream l.stream) middle source place) Err (λ c s next. fields a b c s next)))
unfolding take_fields take_parts take_part take_pair
fields_by_pairs f l source place = of_words (take_words l.words (place + 8) source place)
  where
    last : Result Taken Reason → Body
    last t = on_taken t (λ s n. prepend s (body [] n))

    of_stream : (w a b c : Reference) (t : Result Taken Reason)
        → fields_of (prepend w (prepend a (prepend b (prepend c (last t)))))
        ≡ on_pair (pair_of (prepend c (last t))) Err (λ c s next. fields a b c s next)
    of_stream w a b c (Err reason) = refl
    of_stream w a b c (Ok t) = refl

    of_third : (w a b : Reference) (t : Result Taken Reason)
        → fields_of (prepend w (prepend a (prepend b (on_taken t (λ c n. prepend c (last (take_part f (stream l.stream) n source place)))))))
        ≡ on_pair (pair_of (on_taken t (λ c n. prepend c (last (take_part f (stream l.stream) n source place))))) Err (λ c s next. fields a b c s next)
    of_third w a b (Err reason) = refl
    of_third w a b (Ok t) = of_stream w a b t.reference (take_part f (stream l.stream) t.next source place)

    of_second : (w a : Reference) (t : Result Taken Reason)
        → fields_of (prepend w (prepend a (on_taken t (λ b n. prepend b (take_parts f (l.third ∷ stream l.stream ∷ []) n source place)))))
        ≡ on_pair (pair_of (prepend a (last t))) Err
        (λ a b middle. on_pair (take_pair f l.third (stream l.stream) middle source place) Err (λ c s next. fields a b c s next))
    of_second w a (Err reason) = refl
    of_second w a (Ok t) = of_third w a t.reference (take_part f l.third t.next source place)

    of_first : (w : Reference) (t : Result Taken Reason)
        → fields_of (prepend w (on_taken t (λ a n. prepend a (take_parts f (l.second ∷ l.third ∷ stream l.stream ∷ []) n source place))))
        ≡ on_pair (pair_of (on_taken t (λ a n. prepend a (last (take_part f l.second n source place))))) Err
        (λ a b middle. on_pair (take_pair f l.third (stream l.stream) middle source place) Err (λ c s next. fields a b c s next))
    of_first w (Err reason) = refl
    of_first w (Ok t) = of_second w t.reference (take_part f l.second t.next source place)

    of_words : (t : Result Taken Reason)
        → fields_of (on_taken t (λ w n. prepend w (take_parts f (l.first ∷ l.second ∷ l.third ∷ stream l.stream ∷ []) n source place)))
        ≡ on_words t (λ start. on_pair (take_pair f l.first l.second start source place) Err
        (λ a b middle. on_pair (take_pair f l.third (stream l.stream) middle source place) Err (λ c s next. fields a b c s next)))
    of_words (Err reason) = refl
    of_words (Ok t) = of_first t.reference (take_part f l.first t.next source place)

-- a pair that is read ends behind its start, and before the end
pub pair_moves : (f : Format) (one two : Part) (place : ℕ) (source : List ℕ) (start : ℕ) (a b : Reference) (next : ℕ) → place ≤ start + length source
    → take_pair f one two place source start ≡ pair a b next → next ≤ start + length source
unfolding take_pair
pair_moves f one two place source start a b next h =
    go (take_parts f (one ∷ two ∷ []) place source start) (parts_end f (one ∷ two ∷ []) place source start h)
  where
    go : (q : Body) → Ends place (start + length source) q → pair_of q ≡ pair a b next → next ≤ start + length source
    go (refused reason) k e = cc
    go (body rs n) k e =
        let same : ◌≡◌ {A = Pair} (record { first = part 0 rs; second = part 1 rs; next = n }) (record { first = a; second = b; next = next }) = cc in
        omega (arith, k.1, ap (λ (p : Pair). p.next) same)

-- a record of which fields, arguments and last word are read
pub report-is : (f : Format) (source : List ℕ) (place : ℕ) (l : Layout) {a b c s : Reference} {first at last : ℕ}
    → layout_of (word_at f.order source 0) ≡ l → take_fields f l source place ≡ fields a b c s first
    → walked (arguments_of f l.count (drop (first - place) source) first) ≡ Ok at → last_word f source place at l.behind ≡ Ok last
    → report_of f source place ≡ ReportRead (report_read f l source a b c s first last)
unfolding report_of
report-is f source place l e₀ e₁ e₂ e₃ = rw (e₀, e₁, e₂, e₃)

-- what holds of every record that is refused and of every one that refers to texts and threads, holds of one that is read so
pub on-report_read : (P : Content → Type 0) (f : Format) (source : List ℕ) (place : ℕ) → ((number : ℕ) → P (Refused number))
    → ((r : Report) → P (ReportRead r)) → P (report_of f source place)
unfolding report_of
on-report_read P f source place refuse read = of_fields (take_fields f l source place)
  where
    l : Layout
    l = layout_of (word_at f.order source 0)

    of_last : (a b c s : Reference) (first : ℕ) (x : Result ℕ Reason)
        → P (on_number x refused_by (λ last. ReportRead (report_read f l source a b c s first last)))
    of_last a b c s first (Err reason) = refuse (number_of reason)
    of_last a b c s first (Ok last) = read (report_read f l source a b c s first last)

    of_walk : (a b c s : Reference) (first : ℕ) (x : Result ℕ Reason)
        → P (on_number x refused_by (λ at. on_number (last_word f source place at l.behind) refused_by (λ last. ReportRead (report_read f l source a b c s first last))))
    of_walk a b c s first (Err reason) = refuse (number_of reason)
    of_walk a b c s first (Ok at) = of_last a b c s first (last_word f source place at l.behind)

    of_fields : (x : Result Fields Reason) → P (on_fields x refused_by
        (λ a b c s first. on_number (walked (arguments_of f l.count (drop (first - place) source) first)) refused_by
        (λ at. on_number (last_word f source place at l.behind) refused_by (λ last. ReportRead (report_read f l source a b c s first last)))))
    of_fields (Err reason) = refuse (number_of reason)
    of_fields (Ok x) =
        of_walk x.first x.second x.third x.stream x.next (walked (arguments_of f l.count (drop (x.next - place) source) x.next))
