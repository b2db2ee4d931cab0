-- Document 01's number and values for each case of an answer: "Where an answer is an enum, a definition gives this paper's number and values for
-- each of its cases."
use Rattle.std.specs.Prelude.{ℕ, [], List, ◌∷◌, ◌++◌, Some, None, Ok, Err}
use Rattle.std.specs.Prelude as code
use Rattle.std.proofs.Math.Option.{Option, none, some}
use Rattle.arguments.specs.declared.Scalar.{Scalar}
use Rattle.arguments.specs.declared.Scalar.TheVariants.{Null, Signed32, Unsigned32, Signed64, Unsigned64, Double, Pointer, KernelObject, Boolean, Unknown}
use Rattle.words.specs.Word.{unsigned, bit}
use Rattle.arguments.specs.Argument.{scalar_type}
use Rattle.records.specs.declared.Event.{Event}
use Rattle.records.specs.declared.Log.{Log}
use Rattle.records.specs.declared.Own.{Own}
use Rattle.records.specs.declared.Own.TheVariants.{Event as EventOwn, Log as LogOwn}
use Rattle.views.specs.declared.ShownText.{ShownText}
use Rattle.views.specs.declared.ShownText.TheVariants.{At, Unresolved}
use Rattle.views.specs.declared.ShownThread.{ShownThread}
use Rattle.views.specs.declared.ShownThread.TheVariants.{Words, Unresolved as ThreadUnresolved}
use Rattle.views.specs.declared.ShownReport.{ShownReport}
use Rattle.views.specs.declared.ShownReferent.{ShownReferent}
use Rattle.views.specs.declared.ShownReferent.TheVariants.{Text as TextReferent, Thread as ThreadReferent}
use Rattle.views.specs.declared.ShownValue.{ShownValue}
use Rattle.views.specs.declared.ShownValue.TheVariants.{Scalar as ScalarShown, Text as TextShown}
use Rattle.reader.specs.Ask.{Asked}
use Rattle.reader.specs.declared.Answer.{Answer}
use Rattle.reader.specs.declared.Answer.TheVariants.{End, Nothing, Magic, ProviderInfo, Section, ProviderEvent, Initialization, Report, Skipped}

-- the number of an answer that ends or is refused; an answer that goes on has none
abbrev pub answer_number : Answer → Option ℕ
answer_number (End number place) = some number
answer_number Nothing = none
answer_number Magic = none
answer_number (ProviderInfo id place long) = none
answer_number (Section id) = none
answer_number (ProviderEvent id event) = none
answer_number (Initialization rate) = none
answer_number (Report r) = none
answer_number (Skipped type size) = none

abbrev pub asked_number : Asked → Option ℕ
asked_number (Err refused) = some refused.number
asked_number (Ok a) = none

-- a text: 1 with its place and length, or 2 with the index of what is unresolved
abbrev pub text_values : ShownText → List ℕ
text_values (At place long) = 1 ∷ place ∷ long ∷ []
text_values (Unresolved index) = 2 ∷ index ∷ 0 ∷ []

-- a thread: 1 with its process and thread words, or 2 with the index of what is unresolved
abbrev pub thread_values : ShownThread → List ℕ
thread_values (Words process thread) = 1 ∷ process ∷ thread ∷ []
thread_values (ThreadUnresolved index) = 2 ∷ index ∷ 0 ∷ []

-- no provider: 0; otherwise 1 with its id (`code.Option` is the Option that code answers, `Option` that of the numbers of an answer)
abbrev pub provider_values : code.Option ℕ → List ℕ
provider_values None = 0 ∷ 0 ∷ []
provider_values (Some id) = 1 ∷ id ∷ []

-- the 64 bits of a value that is no text, of a signed one in two's complement
abbrev pub scalar_value : Scalar → ℕ
scalar_value Null = 0
scalar_value (Signed32 n) = unsigned 64 n
scalar_value (Unsigned32 n) = n
scalar_value (Signed64 n) = unsigned 64 n
scalar_value (Unsigned64 n) = n
scalar_value (Double n) = n
scalar_value (Pointer n) = n
scalar_value (KernelObject n) = n
scalar_value (Boolean b) = bit b
scalar_value (Unknown type) = 0

-- a value behind its argument type
abbrev pub value_values : ShownValue → List ℕ
value_values (ScalarShown s) = scalar_type s ∷ scalar_value s ∷ 0 ∷ 0 ∷ []
value_values (TextShown t) = 6 ∷ text_values t

-- what a record refers to
abbrev pub referent_values : ShownReferent → List ℕ
referent_values (TextReferent t) = text_values t
referent_values (ThreadReferent t) = thread_values t

-- an event in document 01's order, with the place by which its arguments are asked for
abbrev pub event_values : Event → ShownReport → List ℕ
event_values e r =
    8 ∷ r.place ∷ (provider_values r.provider ++ (e.variant ∷ e.timestamp ∷ r.rate
    ∷ (referent_values r.first ++ (referent_values r.second ++ (referent_values r.third ++ (r.count ∷ r.last ∷ []))))))

-- a log in request W1's order, with its place, and its message by place and length
abbrev pub log_values : Log → ShownReport → List ℕ
log_values l r =
    12 ∷ r.place ∷ (provider_values r.provider ++ (l.timestamp ∷ r.rate ∷ (referent_values r.first ++ (r.stream.place ∷ r.stream.length ∷ []))))

-- a record that refers to texts and threads: which kind it is, then its values
abbrev pub report_values : Own → ShownReport → List ℕ
report_values (EventOwn e) r = event_values e r
report_values (LogOwn l) r = log_values l r

-- what a step or an opening answers: which case it is, then its values. 1 with number and place is an end or a refusal in every kind of answer;
-- 8 is an event, 12 a log
abbrev pub answer_values : Answer → List ℕ
answer_values (End number place) = 1 ∷ number ∷ place ∷ []
answer_values Nothing = 2 ∷ []
answer_values Magic = 3 ∷ []
answer_values (ProviderInfo id place long) = 4 ∷ id ∷ place ∷ long ∷ []
answer_values (Section id) = 5 ∷ id ∷ []
answer_values (ProviderEvent id event) = 6 ∷ id ∷ event ∷ []
answer_values (Initialization rate) = 7 ∷ rate ∷ []
answer_values (Report r) = report_values r.own r
answer_values (Skipped type size) = 9 ∷ type ∷ size ∷ []

-- what is answered for an argument
abbrev pub asked_values : Asked → List ℕ
asked_values (Err refused) = 1 ∷ refused.number ∷ refused.place ∷ []
asked_values (Ok a) = 10 ∷ (text_values a.name ++ value_values a.value)
