-- Blocks of numbers: how long they are, numbers put one behind the other, and lent words that are too few or enough.
-- Assumes nothing.
use Prim.Native.Nat.{ℕ, suc, ◌+◌, ◌<◌, ◌≤◌}
use mathlib.Core.Path.{◌≡◌, refl, ap, ◌∙◌}
use mathlib.Core.List.{List, [], ◌∷◌, ◌++◌, append_assoc}
use native.Mathlib.Omega.{arith}
use lib.ListN.{length, get_or, take, drop, replicate, length-append, length-take, length-drop, length-replicate}
use lib.Seq.{drop-drop}
use borrow.Rule.Slice.PartMut.{put_mid}
use borrow.Author.Tests.{lt-ltb, le-ltb}
use Rattle.words.proofs.Streams.{part_written}
use Rattle.words.specs.Stream.{overwritten}
use Rattle.words.proofs.Streams.{overwritten_twice}
use Rattle.records.specs.declared.Own.{Own}
use Rattle.records.specs.declared.Own.TheVariants.{Event as EventOwn, Log as LogOwn}
use Rattle.std.specs.Prelude.{Option, Some, None}
use Rattle.contexts.specs.declared.State.{State}
use Rattle.views.specs.declared.ShownText.{ShownText}
use Rattle.views.specs.declared.ShownText.TheVariants.{At, Unresolved}
use Rattle.views.specs.declared.ShownThread.{ShownThread}
use Rattle.views.specs.declared.ShownThread.TheVariants.{Words, Unresolved as ThreadUnresolved}
use Rattle.views.specs.declared.ShownReferent.{ShownReferent}
use Rattle.views.specs.declared.ShownReferent.TheVariants.{Text as TextReferent, Thread as ThreadReferent}
use Rattle.views.specs.declared.ShownReport.{ShownReport}
use Rattle.views.specs.declared.ShownValue.{ShownValue}
use Rattle.views.specs.declared.ShownValue.TheVariants.{Scalar as ScalarShown, Text as TextShown}
use Rattle.std.specs.Prelude.{Ok, Err}
use Rattle.reader.specs.Ask.{Asked}
use Rattle.reader.specs.declared.Answer.{Answer}
use Rattle.reader.specs.declared.Answer.TheVariants.{End, Nothing, Magic, ProviderInfo, Section, ProviderEvent, Initialization, Report, Skipped}
use Rattle.reader.specs.Numbers.{text_values, thread_values, referent_values, provider_values, value_values, report_values, answer_values, asked_values}
use Rattle.blocks.specs.Block.{block, answer_numbers, asked_numbers, state_numbers, put_numbers}

-- a block is as long as it is said to be, where its values fit
length-block : (n : ℕ) (values : List ℕ) → length values ≤ n → length (block n values) ≡ n
length-block n values h = rw (length-append values, length-replicate) (omega arith)

-- a text and a thread have three numbers each, so what a record refers to has three; a provider has two, a value four
pub length-text : (t : ShownText) → length (text_values t) ≡ 3
length-text (At place long) = refl
length-text (Unresolved index) = refl

length-thread : (t : ShownThread) → length (thread_values t) ≡ 3
length-thread (Words process thread) = refl
length-thread (ThreadUnresolved index) = refl

pub length_referent : (r : ShownReferent) → length (referent_values r) ≡ 3
length_referent (TextReferent t) = length-text t
length_referent (ThreadReferent t) = length-thread t

pub length-provider : (p : Option ℕ) → length (provider_values p) ≡ 2
length-provider None = refl
length-provider (Some id) = refl

pub length-value : (v : ShownValue) → length (value_values v) ≡ 4
length-value (ScalarShown s) = refl
length-value (TextShown t) = ap suc (length-text t)

-- a report has at most eighteen values, those of an event
report_values_lem : (own : Own) (r : ShownReport) → length (report_values own r) ≤ 18
report_values_lem (EventOwn e) r = simp (length-append, length-provider, length_referent) (omega arith)
report_values_lem (LogOwn l) r = simp (length-append, length-provider, length_referent) (omega arith)

-- and so has an answer
answer_values_lem : (a : Answer) → length (answer_values a) ≤ 18
answer_values_lem (End number place) = omega arith
answer_values_lem Nothing = omega arith
answer_values_lem Magic = omega arith
answer_values_lem (ProviderInfo id place long) = omega arith
answer_values_lem (Section id) = omega arith
answer_values_lem (ProviderEvent id event) = omega arith
answer_values_lem (Initialization rate) = omega arith
answer_values_lem (Report r) = report_values_lem r.own r
answer_values_lem (Skipped type size) = omega arith

-- what is answered for an argument has at most eight
asked_values_lem : (a : Asked) → length (asked_values a) ≤ 8
asked_values_lem (Err refused) = omega arith
asked_values_lem (Ok a) = simp (length-append, length-text, length-value) (omega arith)

-- the block of an answer and of an argument has the length that it is said to have
pub length-answer : (a : Answer) → length (answer_numbers a) ≡ 20
unfolding answer_numbers
length-answer a = length-block 20 (answer_values a) (omega (arith, answer_values_lem a))

pub length_asked : (a : Asked) → length (asked_numbers a) ≡ 20
unfolding asked_numbers
length_asked a = length-block 20 (asked_values a) (omega (arith, asked_values_lem a))

-- a reply has forty numbers
pub length_reply : (a : Answer) (s : State) → length (answer_numbers a ++ state_numbers s) ≡ 40
unfolding state_numbers
length_reply a s = rw (length-append (answer_numbers a), length-answer a)

-- a part of the lent words that is filled with zeros
pub zeros_written : (out : List ℕ) (place k : ℕ) (part : List ℕ) → place + k ≤ length out → part ≡ replicate (length (take k (drop place out))) 0
    → put_mid place k out part ≡ overwritten out place (replicate k 0)
zeros_written out place k part h e =
    let long : length (take k (drop place out)) ≡ k = omega (arith, length-take k (drop place out), length-drop place out) in
    part_written out place k part (replicate k 0) (e ∙ ap (λ (n : ℕ). replicate n 0) long) (length-replicate k 0)

-- two or three numbers of a list that has just so many are the list
pub pair : {l : List ℕ} (m : List ℕ) → l ≡ m → length m ≡ 2 → get_or l 0 0 ∷ get_or l 1 0 ∷ [] ≡ m
pair m e h = rw e (whole m h)
  where
    whole : (m : List ℕ) → length m ≡ 2 → get_or m 0 0 ∷ get_or m 1 0 ∷ [] ≡ m
    whole [] h = absurd (omega arith)
    whole (a ∷ []) h = absurd (omega arith)
    whole (a ∷ b ∷ []) h = refl
    whole (a ∷ b ∷ c ∷ m) h = absurd (omega arith)

pub triple : {l : List ℕ} (m : List ℕ) → l ≡ m → length m ≡ 3 → get_or l 0 0 ∷ get_or l 1 0 ∷ get_or l 2 0 ∷ [] ≡ m
triple m e h = rw e (whole m h)
  where
    whole : (m : List ℕ) → length m ≡ 3 → get_or m 0 0 ∷ get_or m 1 0 ∷ get_or m 2 0 ∷ [] ≡ m
    whole [] h = absurd (omega arith)
    whole (a ∷ []) h = absurd (omega arith)
    whole (a ∷ b ∷ []) h = absurd (omega arith)
    whole (a ∷ b ∷ c ∷ []) h = refl
    whole (a ∷ b ∷ c ∷ d ∷ m) h = absurd (omega arith)

-- numbers put right behind others are one writing with them
pub onward : (out : List ℕ) {before after : List ℕ} (place at : ℕ) (a b : List ℕ) → place ≤ length out → at ≡ place + length a
    → before ≡ overwritten out place a → after ≡ overwritten before at b → after ≡ overwritten out place (a ++ b)
onward out {before} place at a b h e p q =
    q ∙ ap (λ (n : ℕ). overwritten before n b) e ∙ ap (λ (o : List ℕ). overwritten o (place + length a) b) p ∙ overwritten_twice out place a b h

-- five times four numbers, put one behind the other, are one writing
pub twenty : (out : List ℕ) (at : ℕ) {o1 o2 o3 o4 o5 : List ℕ} (a b c d e : List ℕ) → at ≤ length out
    → length a ≡ 4 → length b ≡ 4 → length c ≡ 4 → length d ≡ 4
    → o1 ≡ overwritten out at a → o2 ≡ overwritten o1 (at + 4) b → o3 ≡ overwritten o2 (at + 8) c → o4 ≡ overwritten o3 (at + 12) d
    → o5 ≡ overwritten o4 (at + 16) e → o5 ≡ overwritten out at (a ++ (b ++ (c ++ (d ++ e))))
twenty out at a b c d e h la lb lc ld p1 p2 p3 p4 p5 =
    let p12 = onward out at (at + 4) a b h (omega arith) p1 p2 in
    let p13 = onward out at (at + 8) (a ++ b) c h (omega (arith, length-append a b)) p12 p3 in
    let p14 = onward out at (at + 12) ((a ++ b) ++ c) d h (omega (arith, length-append a b, length-append (a ++ b) c)) p13 p4 in
    let ends : length (((a ++ b) ++ c) ++ d) ≡ 16 =
    omega (arith, length-append a b, length-append (a ++ b) c, length-append ((a ++ b) ++ c) d) in
    let p15 = onward out at (at + 16) (((a ++ b) ++ c) ++ d) e h (omega arith) p14 p5 in
    p15 ∙ ap (overwritten out at) (append_assoc ((a ++ b) ++ c) d e ∙ append_assoc (a ++ b) c (d ++ e) ∙ append_assoc a b (c ++ (d ++ e)))

-- lent words that are too few stay as they were
pub put-none : (out numbers : List ℕ) (n : ℕ) → length numbers ≡ n → length out < n → out ≡ put_numbers out numbers
put-none out numbers n long h = rw (long, lt-ltb _ _ h)

-- lent words that are enough hold the numbers at their start
pub put_all : (out numbers : List ℕ) (n : ℕ) → length numbers ≡ n → n ≤ length out → overwritten out 0 numbers ≡ put_numbers out numbers
put_all out numbers n long h = let l : length numbers ≤ length out = omega arith in rw (le-ltb _ _ l)
