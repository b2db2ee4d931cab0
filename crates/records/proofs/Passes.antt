-- Laws of reading the parts of any record: it is refused by a number of its own, and a thread that is taken is an index or 16 bytes. Assumes nothing.
use Prim.Native.Nat.{ℕ, zero, suc, ◌+◌, ◌-◌, ◌*◌, ◌≤◌}
use mathlib.Core.Path.{◌≡◌, refl}
use mathlib.Core.List.{[], List, ◌∷◌}
use mathlib.Core.Logic.{◌⊎◌, inl, inr}
use native.Mathlib.Omega.{arith}
use lib.Dec.{eqb, ltb}
use lib.ListN.{length, take, drop}
use Rattle.std.proofs.Common.{Result, Ok, Err}
use Rattle.words.specs.Word.{word_at, field}
use Rattle.words.proofs.Tests.{on-pick}
use Rattle.format.specs.declared.Format.{Format}
use Rattle.format.specs.declared.Reason.{Reason}
use Rattle.format.specs.declared.Reason.TheVariants.{Cut, Malformed, LongText, HighIndex}
use Rattle.format.specs.declared.Reference.{Reference}
use Rattle.format.specs.declared.Reference.TheVariants.{Inline, Index}
use Rattle.format.specs.Limits.{number_of}
use Rattle.format.specs.declared.Part.{Part}
use Rattle.format.specs.declared.Part.TheVariants.{Words as words, Stream as stream, Text as text, Thread as thread}
use Rattle.format.specs.declared.Taken.{Taken}
use Rattle.format.specs.Part.{take_words, take_stream, take_text, take_thread, take_part, table_of, Body, refused as body_refused, body, prepend, on_taken, take_parts, on_body, part}
use Rattle.arguments.specs.declared.Argument.{Argument}
use Rattle.arguments.specs.declared.Argued.{Argued}
use Rattle.arguments.specs.Argument.{argument_size, argued, argument_body, argument_of, Arguments, refused, arguments, prepend as prepend_argument, on_argued, arguments_of, value_parts, value_of}
use Rattle.records.specs.declared.Layout.{Layout}
use Rattle.records.specs.declared.Fields.{Fields}
use Rattle.records.specs.Layout.{layout_parts, fields_of, take_fields}

-- what a record can be refused by has a number from 5 to 8
pub record RecordNumber (number : ℕ) : Type 0 where
  pub stops : 5 ≤ number
  pub answered : number ≤ 8

abbrev pub RecordReason : Reason → Type 0
RecordReason reason = RecordNumber (number_of reason)

pub reason_cut : RecordReason Cut
reason_cut = record { stops = omega arith; answered = omega arith }

pub reason_malformed : RecordReason Malformed
reason_malformed = record { stops = omega arith; answered = omega arith }

pub reason_long : RecordReason LongText
reason_long = record { stops = omega arith; answered = omega arith }

pub reason_high : RecordReason HighIndex
reason_high = record { stops = omega arith; answered = omega arith }

abbrev TakenPasses : Result Taken Reason → Type 0
TakenPasses (Err reason) = RecordReason reason
TakenPasses (Ok t) = Unit {0}

abbrev BodyPasses : Body → Type 0
BodyPasses (body_refused reason) = RecordReason reason
BodyPasses (body references next) = Unit {0}

words_pass : (n place : ℕ) (source : List ℕ) (start : ℕ) → TakenPasses (take_words n place source start)
unfolding take_words
words_pass n place source start = on-pick TakenPasses (ltb (start + length source) (place + 8 * n)) _ _ (λ e. reason_malformed) (λ e. tt)

stream-passes : (f : Format) (n place : ℕ) (source : List ℕ) (start : ℕ) → TakenPasses (take_stream f n place source start)
unfolding take_stream
stream-passes f n place source start =
    on-pick TakenPasses (ltb f.longest n) _ _ (λ e. reason_long)
    (λ e. on-pick TakenPasses (ltb (start + length source) _) _ _ (λ e. reason_malformed) (λ e. tt))

part-passes : (f : Format) (p : Part) (place : ℕ) (source : List ℕ) (start : ℕ) → TakenPasses (take_part f p place source start)
unfolding take_part take_text take_thread
part-passes f (words n) place source start = words_pass n place source start
part-passes f (stream n) place source start = stream-passes f n place source start
part-passes f (text reference) place source start =
    on-pick TakenPasses (eqb reference 0) _ _ (λ e. tt)
    (λ e. on-pick TakenPasses (ltb reference 0x8000) _ _ (λ e. tt) (λ e. stream-passes f (reference - 0x8000) place source start))
part-passes f (thread reference) place source start =
    on-pick TakenPasses (eqb reference 0) _ _ (λ e. words_pass 2 place source start) (λ e. tt)

prepend-passes : (x : Reference) (b : Body) → BodyPasses b → BodyPasses (prepend x b)
prepend-passes x (body_refused reason) h = h
prepend-passes x (body references next) h = tt

on_taken_passes : (t : Result Taken Reason) (k : Reference → ℕ → Body) → TakenPasses t → ((x : Reference) (next : ℕ) → BodyPasses (k x next))
    → BodyPasses (on_taken t k)
on_taken_passes (Err reason) k h g = h
on_taken_passes (Ok t) k h g = g t.reference t.next

-- a body is read, or refused by such a number
parts_pass : (f : Format) (ps : List Part) (place : ℕ) (source : List ℕ) (start : ℕ) → BodyPasses (take_parts f ps place source start)
unfolding take_parts
parts_pass f [] place source start = tt
parts_pass f (p ∷ ps) place source start =
    on_taken_passes (take_part f p place source start) (λ x next. prepend x (take_parts f ps next source start)) (part-passes f p place source start)
    (λ x next. prepend-passes x (take_parts f ps next source start) (parts_pass f ps next source start))

-- what holds of every such refusal and of what follows the parts holds of the whole
on_parts : {A : Type 0} (P : A → Type 0) (f : Format) (ps : List Part) (place : ℕ) (source : List ℕ) (start : ℕ) (refuse : Reason → A) (then : List Reference → ℕ → A)
    → ((reason : Reason) → RecordReason reason → P (refuse reason)) → ((rs : List Reference) (next : ℕ) → P (then rs next))
    → P (on_body (take_parts f ps place source start) refuse then)
on_parts P f ps place source start refuse then r g = go (take_parts f ps place source start) (parts_pass f ps place source start)
  where
    go : (b : Body) → BodyPasses b → P (on_body b refuse then)
    go (body_refused reason) h = r reason h
    go (body rs next) h = g rs next

abbrev ArgumentPasses : Result Argued Reason → Type 0
ArgumentPasses (Err reason) = RecordReason reason
ArgumentPasses (Ok r) = Unit {0}

argument_passes : (f : Format) (rest : List ℕ) (place : ℕ) → ArgumentPasses (argument_of f rest place)
unfolding argument_of argument_body
argument_passes f rest place =
    on-pick ArgumentPasses (ltb (length rest) 8) _ _ (λ e. reason_malformed)
    (λ e. on-pick ArgumentPasses (eqb (argument_size (word_at f.order rest 0)) 0) _ _ (λ e. reason_malformed)
    (λ e. on-pick ArgumentPasses (ltb (length rest) (argument_size (word_at f.order rest 0))) _ _ (λ e. reason_malformed)
    (λ e. on_parts ArgumentPasses f (text (field 16 31 hd) ∷ value_parts hd) (place + 8) own place Err
    (λ rs next. argued (record { name = part 0 rs; value = value_of f hd own place (part 1 rs) }) (argument_size hd)) (λ reason h. h)
    (λ rs next. tt))))
  where
    hd : ℕ
    hd = word_at f.order rest 0

    own : List ℕ
    own = take (argument_size hd) rest

abbrev pub ArgumentsPass : Arguments → Type 0
ArgumentsPass (refused reason) = RecordReason reason
ArgumentsPass (arguments l next) = Unit {0}

prepend_argument_passes : (a : Argument) (q : Arguments) → ArgumentsPass q → ArgumentsPass (prepend_argument a q)
prepend_argument_passes a (refused reason) h = h
prepend_argument_passes a (arguments l next) h = tt

on_argued_passes : (x : Result Argued Reason) (k : Argument → ℕ → Arguments) → ArgumentPasses x → ((a : Argument) (size : ℕ) → ArgumentsPass (k a size))
    → ArgumentsPass (on_argued x refused k)
on_argued_passes (Err reason) k h g = h
on_argued_passes (Ok r) k h g = g r.argument r.size

-- arguments are read, or refused by such a number
pub arguments_pass : (f : Format) (count : ℕ) (rest : List ℕ) (place : ℕ) → ArgumentsPass (arguments_of f count rest place)
unfolding arguments_of
arguments_pass f zero rest place = tt
arguments_pass f (suc count) rest place =
    on_argued_passes (argument_of f rest place) (λ a size. prepend_argument a (arguments_of f count (drop size rest) (place + size)))
    (argument_passes f rest place)
    (λ a size. prepend_argument_passes a (arguments_of f count (drop size rest) (place + size)) (arguments_pass f count (drop size rest) (place + size)))

-- a thread's reference is an index, or 16 bytes
abbrev pub ThreadReference : Reference → Type 0
ThreadReference (Inline place long) = long ≡ 16
ThreadReference (Index index) = Unit {0}

-- a part is looked up in one of two tables
pub is_table : (p : Part) → (table_of p ≡ 2) ⊎ (table_of p ≡ 3)
unfolding table_of
is_table (words n) = inl refl
is_table (stream n) = inl refl
is_table (text reference) = inl refl
is_table (thread reference) = inr refl

-- what is taken for a part that is looked up as a thread is a thread's reference
abbrev pub Shape : Part → Reference → Type 0
Shape p x = table_of p ≡ 3 → ThreadReference x

abbrev TakenShape : Part → Result Taken Reason → Type 0
TakenShape p (Err reason) = Unit {0}
TakenShape p (Ok t) = Shape p t.reference

part_shape : (f : Format) (p : Part) (place : ℕ) (source : List ℕ) (start : ℕ) → TakenShape p (take_part f p place source start)
unfolding take_part take_thread take_words table_of
part_shape f (words n) place source start = on-pick (TakenShape (words n)) (ltb (start + length source) (place + 8 * n)) _ _ (λ e. tt) (λ e k. absurd (omega (arith, k)))
part_shape f (stream n) place source start = no (take_stream f n place source start)
  where
    no : (x : Result Taken Reason) → TakenShape (stream n) x
    no (Err reason) = tt
    no (Ok t) = λ k. absurd (omega (arith, k))
part_shape f (text r) place source start = no (take_text f r place source start)
  where
    no : (x : Result Taken Reason) → TakenShape (text r) x
    no (Err reason) = tt
    no (Ok t) = λ k. absurd (omega (arith, k))
part_shape f (thread r) place source start =
    on-pick (TakenShape (thread r)) (eqb r 0) _ _
    (λ e. on-pick (TakenShape (thread r)) (ltb (start + length source) (place + 8 * 2)) _ _ (λ e. tt) (λ e k. refl)) (λ e k. tt)

abbrev AllShape : List Part → List Reference → Type 0
AllShape [] [] = Unit {0}
AllShape [] (x ∷ xs) = ⊥
AllShape (p ∷ ps) [] = ⊥
AllShape (p ∷ ps) (x ∷ xs) = Shape p x × AllShape ps xs

abbrev BodyShape : List Part → Body → Type 0
BodyShape ps (body_refused reason) = Unit {0}
BodyShape ps (body xs next) = AllShape ps xs

prepend_shape : (p : Part) (ps : List Part) (x : Reference) (b : Body) → Shape p x → BodyShape ps b → BodyShape (p ∷ ps) (prepend x b)
prepend_shape p ps x (body_refused reason) h k = tt
prepend_shape p ps x (body xs next) h k = (h, k)

parts_shape : (f : Format) (ps : List Part) (place : ℕ) (source : List ℕ) (start : ℕ) → BodyShape ps (take_parts f ps place source start)
unfolding take_parts
parts_shape f [] place source start = tt
parts_shape f (p ∷ ps) place source start = go (take_part f p place source start) (part_shape f p place source start) (λ next. parts_shape f ps next source start)
  where
    go : (t : Result Taken Reason) → TakenShape p t → ((next : ℕ) → BodyShape ps (take_parts f ps next source start))
        → BodyShape (p ∷ ps) (on_taken t (λ x next. prepend x (take_parts f ps next source start)))
    go (Err reason) h k = tt
    go (Ok t) h k = prepend_shape p ps t.reference (take_parts f ps t.next source start) h (k t.next)

-- the fields of a layout are refused by such a number, or each reference is one of its table
abbrev pub FieldsPass : Layout → Result Fields Reason → Type 0
FieldsPass l (Err reason) = RecordReason reason
FieldsPass l (Ok x) = Shape l.first x.first × Shape l.second x.second × Shape l.third x.third

pub fields_pass : (f : Format) (l : Layout) (source : List ℕ) (place : ℕ) → FieldsPass l (take_fields f l source place)
unfolding take_fields
fields_pass f l source place =
    go (take_parts f (layout_parts l) (place + 8) source place) (parts_pass f (layout_parts l) (place + 8) source place)
    (parts_shape f (layout_parts l) (place + 8) source place)
  where
    go : (b : Body) → BodyPasses b → BodyShape (layout_parts l) b → FieldsPass l (fields_of b)
    go (body_refused reason) h k = h
    go (body [] next) h k = absurd k
    go (body (w ∷ []) next) h k = absurd k.1
    go (body (w ∷ a ∷ []) next) h k = absurd k.1.1
    go (body (w ∷ a ∷ b ∷ []) next) h k = absurd k.1.1.1
    go (body (w ∷ a ∷ b ∷ c ∷ xs) next) h k = (k.1.0, k.1.1.0, k.1.1.1.0)
