-- What the uses of a record cost, where a use of a key that stands in the tables costs nothing, and any other its words: no more than the record has inline.
-- Assumes nothing.
use Prim.Native.Nat.{ℕ, zero, suc, ◌+◌, ◌-◌, ◌*◌, ◌%◌, ◌≤◌, ◌<◌}
use mathlib.Core.Path.{◌≡◌, refl, sym, ap, ◌∙◌}
use mathlib.Core.List.{[], List, ◌∷◌, ◌++◌}
use mathlib.Core.Option.{Option, none, some}
use mathlib.Core.Logic.{◌⊎◌, inl, inr}
use native.Mathlib.Omega.{arith}
use native.Mathlib.Nat.{add-zero}
use borrow.Author.Tests.{ltb-true, ltb-false, eqb-true, eqb-false}
use lib.Dec.{eqb, ltb, leb}
use lib.ListN.{length, take, drop, get_or, set, length-take}
use lib.Seq.{get_or-set_same, get_or-set_other}
use Rattle.records.specs.Lookups.{on_report, argument_lookups}
use Rattle.words.specs.Word.{pick, word_at}
use Rattle.words.specs.Stream.{stream_words, part_of}
use Rattle.words.proofs.Tests.{on-pick, cases}
use Rattle.registering.specs.Counting.{sum_by}
use Rattle.registering.proofs.Counting.{sum-append}
use Rattle.format.specs.declared.Format.{Format}
use Rattle.format.specs.declared.Reason.{Reason}
use Rattle.format.specs.declared.Reference.{Reference}
use Rattle.format.specs.declared.Reference.TheVariants.{Inline, Index}
use Rattle.format.specs.Part.{inline_bytes}
use Rattle.arguments.specs.declared.Value.{Value}
use Rattle.arguments.specs.declared.Value.TheVariants.{Scalar as ScalarRead, Text as TextRead}
use Rattle.arguments.specs.declared.Argument.{Argument}
use Rattle.arguments.specs.declared.Argued.{Argued}
use Rattle.arguments.specs.Argument.{argued, argument_of, Arguments, refused, arguments, prepend as prepend_argument, on_argued, arguments_of, numbered_of}
use Rattle.arguments.specs.Loss.{value_bytes, argument_bytes}
use Rattle.arguments.proofs.Arguments.{arguments_bytes}
use Rattle.records.specs.declared.Lookup.{Lookup}
use Rattle.records.specs.declared.Report.{Report as ReadReport}
use Rattle.records.specs.declared.Content.TheVariants.{Report as ReportRead}
use Rattle.records.specs.Record.{record_at}
use Rattle.records.specs.Item.{known, Thread, thread, Argument as ArgumentItem, Key, text_key, thread_key, key_words, Use, text_uses, thread_uses, referent_uses, value_uses, arguments_uses}
use Rattle.records.specs.Models.Fixed.{value_words, arguments_words}
use Rattle.contexts.specs.declared.State.{State}
use Rattle.std.specs.Prelude.{None, Some, Result, Ok, Err}
use Rattle.contexts.specs.Context.{belongs_to}
use Rattle.tables.specs.Table.{Entry}
use Rattle.tables.specs.declared.Resolved.{Resolved}
use Rattle.tables.specs.declared.Resolved.TheVariants.{Bad, Known, Unresolved}
use Rattle.tables.specs.Table.{highest_of, position, registration_of, resolved}
use Rattle.tables.proofs.Tables.{position_lt, position-apart, resolved-known}
use Rattle.std.specs.Prelude.{Ok, Err}
use Rattle.format.specs.Limits.{refused_at}
use Rattle.views.specs.Shown.{shown_text, shown_thread, shown_value, shown_referent, none_bad}
use Rattle.reader.specs.Step.{opening_number}
use Rattle.reader.specs.Ask.{Asked, shown_argument, asked_report, asked_place, argument_reply}
use Rattle.reader.specs.Reads.{text_item, thread_item, provider_item, value_item, argument_item, prepend as prepend_item, argument_items, referent_item}
use Rattle.views.proofs.Lookups.{LookupFits}
use Rattle.records.proofs.Passes.{ThreadReference}
use Rattle.reader.proofs.Changes.{IsTable}
use Rattle.reader.proofs.Runs.{Sound}

-- ---- what uses cost

-- the bytes of a record that registers a use's key
abbrev pub registered : Use → ℕ
registered u = 8 * (1 + key_words u.key)

-- a cost of uses: no use costs more than its words inline
abbrev pub Cost : (Use → ℕ) → Type 0
Cost cost = (u : Use) → cost u ≤ 8 * key_words u.key

-- a text costs its words at most, and nothing where its use costs nothing
text_inline_lem : (cost : Use → ℕ) → Cost cost → (p : Option ℕ) (bytes : List ℕ) → sum_by cost (text_uses p (known bytes)) ≤ 8 * stream_words (length bytes)
text_inline_lem cost le p [] = omega arith
text_inline_lem cost le p (x ∷ bytes) = omega (arith, le (record { provider = p; key = text_key (x ∷ bytes) }))

text_registered : (cost : Use → ℕ) (p : Option ℕ) (bytes : List ℕ) → cost (record { provider = p; key = text_key bytes }) ≡ 0
    → sum_by cost (text_uses p (known bytes)) ≡ 0
text_registered cost p [] m = refl
text_registered cost p (x ∷ bytes) m = omega (arith, m)

-- and so does a thread
thread_inline_lem : (cost : Use → ℕ) → Cost cost → (p : Option ℕ) (t : Thread) → sum_by cost (thread_uses p (known t)) ≤ 16
thread_inline_lem cost le p t = omega (arith, le (record { provider = p; key = thread_key t }))

thread_registered : (cost : Use → ℕ) (p : Option ℕ) (t : Thread) → cost (record { provider = p; key = thread_key t }) ≡ 0
    → sum_by cost (thread_uses p (known t)) ≡ 0
thread_registered cost p t m = omega (arith, m)

-- the bytes answered for a text are no more than its length
pub part_length : (archive : List ℕ) (place long : ℕ) → length (part_of archive place long) ≤ long
unfolding part_of
part_length archive place long =
    on-pick P (leb place (length archive)) _ _
    (λ e. on-pick P (leb long (length archive - place)) _ _ (λ e. omega (arith, length-take long (drop place archive))) (λ e. omega arith))
    (λ e. omega arith)
  where
    P : List ℕ → Type 0
    P l = length l ≤ long

-- ---- what is said of arguments

-- an argument that is shown costs no more than the argument that was read
AskedPays : List ℕ → (Use → ℕ) → Option ℕ → Result Argued Reason → Asked → Type 0
AskedPays b cost p x (Err r) = Unit {0}
AskedPays b cost p (Err reason) (Ok a) = ⊥
AskedPays b cost p (Ok read) (Ok a) =
    8 + 8 * value_words (value_item b a.value) + sum_by cost (text_uses p (text_item b a.name))
    + sum_by cost (value_uses p (value_item b a.value))
    ≤ argument_bytes read.argument

-- arguments that are shown cost no more than the arguments that were read
unfoldable pub ItemsPay : (Use → ℕ) → Option ℕ → Arguments → Option (List ArgumentItem) → Type 0
ItemsPay cost p q none = Unit {0}
ItemsPay cost p (refused reason) (some l) = Unit {0}
ItemsPay cost p (arguments rs next) (some l) = 8 * arguments_words l + sum_by cost (arguments_uses p l) ≤ arguments_bytes rs

-- the part of the archive that an event's arguments are asked for in
abbrev pub arguments_part : List ℕ → ℕ → ReadReport → List ℕ
arguments_part b end e = take (end - e.arguments) (drop e.arguments b)

-- ---- what the tables hold

-- the provider of a context: none, or the id of its slot
abbrev pub provider_in : List ℕ → ℕ → Option ℕ
provider_in ids context = provider_item (pick (eqb context 0) None (Some (get_or ids (context - 1) 0)))

-- with one id more, the providers of the contexts before are as they were
provider-kept : (ids : List ℕ) (count id context : ℕ) → context ≤ count → provider_in (set ids count id) context ≡ provider_in ids context
provider-kept ids count id context h =
    cases (eqb context 0) (λ e. rw e)
    (λ e. let z = eqb-false context 0 e in rw (e, get_or-set_other ids count (context - 1) id 0 (λ q. omega arith)))

-- the key that a registration in a table has at a place
abbrev pub key_at : Format → List ℕ → ℕ → ℕ → ℕ → Key
key_at f b table place long =
    pick (eqb table 3) (thread_key (thread (word_at f.order b place) (word_at f.order b (place + 8)))) (text_key (part_of b place long))

module _ (f : Format) (b : List ℕ) where
  -- the use of every key that an entry has, in its context, costs nothing
  abbrev pub Holds : List ℕ → ℕ → List ℕ → (Use → ℕ) → Type 0
  Holds ids count tables cost =
      (context table index at long : ℕ) → context ≤ count → IsTable table → index ≤ highest_of f table
      → (get_or tables (position f context table index) 0 ≡ 0 → ⊥)
      → registration_of (record_at f b (get_or tables (position f context table index) 0)).content ≡ Entry table index at long
      → cost (record { provider = provider_in ids context; key = key_at f b table at long }) ≡ 0

  -- they still cost nothing where an id is new, whose context has no entry yet
  pub holds_new : (s : State) (tables : List ℕ) (id : ℕ) (cost : Use → ℕ) → Sound f b s tables → (s.count ≡ 8 → ⊥)
      → Holds s.ids s.count tables cost → Holds (set s.ids s.count id) (s.count + 1) tables cost
  holds_new s tables id cost h z held context table index at long c k i n r =
      cases (ltb s.count context)
      (λ e. absurd (n (h.unopened context table index (ltb-true s.count context e) (omega (arith, below)) k i)))
      (λ e. let l = ltb-false s.count context e in
      rw (provider-kept s.ids s.count id context l) (held context table index at long l k i n r))
    where
      below : s.count + 1 ≤ 8
      below = cases (ltb s.count 8) (λ q. omega (arith, ltb-true s.count 8 q))
          (λ q. absurd (z (omega (arith, h.count, ltb-false s.count 8 q))))

  -- and where an entry is set, whose use costs nothing
  pub holds-set : (s : State) (tables : List ℕ) (table index at long : ℕ) (cost : Use → ℕ) → Sound f b s tables → IsTable table
      → index ≤ highest_of f table → registration_of (record_at f b s.place).content ≡ Entry table index at long
      → cost (record { provider = provider_in s.ids s.current; key = key_at f b table at long }) ≡ 0
      → Holds s.ids s.count tables cost
      → Holds s.ids s.count (set tables (position f s.current table index) s.place) cost
  holds-set s tables table index at long cost h k i r m held context table' index' at' long' c k' i' n r' =
      cases (eqb p here) (λ e. same (eqb-true p here e))
      (λ e. let o = get_or-set_other tables here p s.place 0 (eqb-false p here e) in
      held context table' index' at' long' c k' i' (λ z. n (o ∙ z)) (rw o at r'))
    where
      p : ℕ
      p = position f context table' index'

      here : ℕ
      here = position f s.current table index

      inside : here < length tables
      inside = omega (arith, h.room, position_lt f s.current table index (omega (arith, h.current, h.count)) i)

      same : p ≡ here → cost (record { provider = provider_in s.ids context; key = key_at f b table' at' long' }) ≡ 0
      same e =
          let a = position-apart f context table' index' s.current table index k' k i' i e in
          let q : registration_of (record_at f b s.place).content ≡ Entry table' index' at' long' =
          rw (e, get_or-set_same tables here s.place 0 inside) at r' in
          let w : Entry table index at long ≡ Entry table' index' at' long' = sym r ∙ q in
          let u : at' ≡ at = cc in
          let v : long' ≡ long = cc in
          rw (a.0, a.1, u, v) m

  -- ---- what references cost

  module _ (ids : List ℕ) (count : ℕ) (tables : List ℕ) (cost : Use → ℕ) (le : Cost cost) (held : Holds ids count tables cost) (context : ℕ)
      (low : context ≤ count) where
    -- a text that is found by its index costs nothing
    text-found : (until index : ℕ)
        → sum_by cost (text_uses (provider_in ids context) (text_item b (shown_text (resolved f b tables context 2 until (Index index))))) ≡ 0
    unfolding shown_text
    text-found until index = go (resolved f b tables context 2 until (Index index)) refl
      where
        go : (x : Resolved) → resolved f b tables context 2 until (Index index) ≡ x
            → sum_by cost (text_uses (provider_in ids context) (text_item b (shown_text x))) ≡ 0
        go Bad e = refl
        go (Known place long) e =
            let r = resolved-known f b tables context 2 index until place long e in
            text_registered cost (provider_in ids context) (part_of b place long)
            (held context 2 index place long low (inl refl) r.low r.is_set r.known.registers)
        go (Unresolved number) e = refl

    -- a text costs no more than it has inline
    pub text_pays : (until : ℕ) (r : Reference)
        → sum_by cost (text_uses (provider_in ids context) (text_item b (shown_text (resolved f b tables context 2 until r)))) ≤ inline_bytes r
    unfolding resolved shown_text
    text_pays until (Inline place long) =
        omega (arith, text_inline_lem cost le (provider_in ids context) (part_of b place long), part_length b place long)
    text_pays until (Index index) = omega (arith, text-found until index)

    -- a thread that is found by its index costs nothing
    thread-found : (until index : ℕ)
        → sum_by cost (thread_uses (provider_in ids context) (thread_item (shown_thread f b (resolved f b tables context 3 until (Index index))))) ≡ 0
    unfolding shown_thread
    thread-found until index = go (resolved f b tables context 3 until (Index index)) refl
      where
        go : (x : Resolved) → resolved f b tables context 3 until (Index index) ≡ x
            → sum_by cost (thread_uses (provider_in ids context) (thread_item (shown_thread f b x))) ≡ 0
        go Bad e = refl
        go (Known place long) e =
            let r = resolved-known f b tables context 3 index until place long e in
            thread_registered cost (provider_in ids context) (thread (word_at f.order b place) (word_at f.order b (place + 8)))
            (held context 3 index place long low (inr refl) r.low r.is_set r.known.registers)
        go (Unresolved number) e = refl

    -- a thread costs no more than it has inline
    pub thread_pays : (until : ℕ) (r : Reference) → ThreadReference r
        → sum_by cost (thread_uses (provider_in ids context) (thread_item (shown_thread f b (resolved f b tables context 3 until r)))) ≤ inline_bytes r
    unfolding resolved shown_thread
    thread_pays until (Inline place long) e =
        rw e (thread_inline_lem cost le (provider_in ids context) (thread (word_at f.order b place) (word_at f.order b (place + 8))))
    thread_pays until (Index index) e = omega (arith, thread-found until index)

    -- what a record refers to costs no more than it has inline
    pub referent_pays : (until : ℕ) (s : Lookup) → LookupFits s
        → sum_by cost (referent_uses (provider_in ids context) (referent_item b (shown_referent f b s.table (resolved f b tables context s.table until s.reference))))
        ≤ inline_bytes s.reference
    unfolding shown_referent
    referent_pays until s fit = go fit.table
      where
        go : (s.table ≡ 2) ⊎ (s.table ≡ 3)
            → sum_by cost (referent_uses (provider_in ids context) (referent_item b (shown_referent f b s.table (resolved f b tables context s.table until s.reference))))
            ≤ inline_bytes s.reference
        go (inl e) = rw e (text_pays until s.reference)
        go (inr e) = rw e (thread_pays until s.reference (fit.thread e))

    -- a value costs no more than it has behind the name
    value_pays : (until : ℕ) (v : Value)
        → 8 * value_words (value_item b (shown_value f b tables context until v))
        + sum_by cost (value_uses (provider_in ids context) (value_item b (shown_value f b tables context until v)))
        ≤ value_bytes v
    unfolding shown_value value_bytes
    value_pays until (ScalarRead x) = omega arith
    value_pays until (TextRead r) = omega (arith, text_pays until r)

    -- the arguments of an event, asked for in the state right after it
    module _ (s : State) (here : s.current ≡ context) (place : ℕ) (e : ReadReport) (is : (record_at f b place).content ≡ ReportRead e) where
      -- the provider of the context
      abbrev provider : Option ℕ
      provider = provider_in ids context

      -- the argument of a number costs, where it is shown, no more than the one that was read
      asked_pays : (number : ℕ)
          → AskedPays b cost provider (numbered_of f number (arguments_part b s.place e) e.arguments) (argument_reply f b tables s place number)
      unfolding AskedPays argument_reply asked_place asked_report shown_argument
      asked_pays number =
          on-pick P (eqb (opening_number f b (length tables)) 0) _ _
          (λ q. on-pick P (belongs_to s (length b)) _ _
          (λ q. on-pick P (eqb (place % 8) 0) _ _
          (λ q. on-pick P (eqb (record_at f b place).next s.place) _ _ (λ q. of_event) (λ q. tt))
          (λ q. tt))
          (λ q. tt))
          (λ q. tt)
        where
          x : Result Argued Reason
          x = numbered_of f number (arguments_part b s.place e) e.arguments

          P : Asked → Type 0
          P = AskedPays b cost provider x

          of_argument : (y : Result Argued Reason)
              → AskedPays b cost provider y (on_argued y (λ refused. refused_at 4 s.place) (λ a size. shown_argument f b tables s a))
          of_argument (Err reason) = tt
          of_argument (Ok read) =
              let a = read.argument in
              on-pick (AskedPays b cost provider (Ok read))
              (none_bad f b tables s.current s.place (argument_lookups (a ∷ []))) _ _
              (λ q. rw here (omega (arith, text_pays s.place a.name, value_pays s.place a.value))) (λ q. tt)

          of_event : P (on_report (record_at f b place).content (refused_at 4 s.place) (λ e. asked_report f b tables s e number))
          of_event = rw is (on-pick P (leb e.count number) _ _ (λ q. tt) (λ q. of_argument x))

      -- the arguments from a number on, as many as are asked for, cost no more than those that were read
      pub items_pay : (n number : ℕ) (rest : List ℕ) (at : ℕ)
          → ((k : ℕ) → numbered_of f (number + k) (arguments_part b s.place e) e.arguments ≡ numbered_of f k rest at)
          → ItemsPay cost provider (arguments_of f n rest at) (argument_items f b tables s place number n)
      unfolding ItemsPay AskedPays argument_items arguments_of numbered_of
      items_pay zero number rest at h = omega arith
      items_pay (suc n) number rest at h =
          of_argument (argument_of f rest at) refl (argument_reply f b tables s place number)
          (rw (rw add-zero at (h 0)) at (asked_pays number)) (argument_items f b tables s place (suc number) n)
          (λ r size q. items_pay n (suc number) (drop size rest) (at + size) (next r size q))
        where
          next : (r : Argument) (size : ℕ) → argument_of f rest at ≡ argued r size
              → (k : ℕ) → numbered_of f (suc number + k) (arguments_part b s.place e) e.arguments ≡ numbered_of f k (drop size rest) (at + size)
          next r size q k =
              let e₁ : suc number + k ≡ number + suc k = omega arith in
              ap (λ n. numbered_of f n (arguments_part b s.place e) e.arguments) e₁ ∙ (h (suc k) ∙ rw q)

          of_argument : (x : Result Argued Reason) → argument_of f rest at ≡ x → (a : Asked) → AskedPays b cost provider x a
              → (o : Option (List ArgumentItem))
              → ((r : Argument) (size : ℕ) → argument_of f rest at ≡ argued r size
              → ItemsPay cost provider (arguments_of f n (drop size rest) (at + size)) o)
              → ItemsPay cost provider (on_argued x refused (λ a size. prepend_argument a (arguments_of f n (drop size rest) (at + size))))
              (prepend_item b a o)
          of_argument x q (Err r) c o k = tt
          of_argument x q (Ok a) c none k = tt
          of_argument (Err reason) q (Ok a) c (some l) k = absurd c
          of_argument (Ok read) q (Ok a) c (some l) k =
              of_rest (arguments_of f n (drop read.size rest) (at + read.size)) (k read.argument read.size q)
            where
              of_rest : (y : Arguments) → ItemsPay cost provider y (some l) → ItemsPay cost provider (prepend_argument read.argument y) (some (argument_item b a ∷ l))
              of_rest (refused reason) z = tt
              of_rest (arguments rs last) z =
                  omega (
                    arith,
                    c,
                    z,
                    sum-append cost (text_uses provider (text_item b a.name)) (value_uses provider (value_item b a.value) ++ arguments_uses provider l),
                    sum-append cost (value_uses provider (value_item b a.value)) (arguments_uses provider l),
                  )
