-- The law of the tables: along any run from opening every state belongs, its ids are distinct, and each entry is 0 or the place of a record
-- of that table and index that was read in that very context. Assumes nothing.
use Prim.Native.Nat.{ℕ, ◌+◌, ◌%◌, ◌≤◌, ◌<◌}
use mathlib.Core.Path.{◌≡◌, refl, sym, ◌∙◌}
use mathlib.Core.List.{[], List, ◌∷◌}
use mathlib.Core.Option.{some}
use mathlib.Core.Logic.{◌⊎◌, inl, inr}
use native.Mathlib.Omega.{arith}
use borrow.Author.Tests.{ltb-true, ltb-false, eqb-true, eqb-false, eq-eqb}
use lib.Dec.{eqb, ltb}
use lib.ListN.{length, get_or, set, replicate, length-set, length-replicate, get_or-replicate}
use lib.Seq.{get_or-set_same, get_or-set_other}
use Rattle.words.proofs.Tests.{cases}
use Rattle.format.specs.declared.Format.{Format}
use Rattle.records.specs.declared.Content.TheVariants.{Refused}
use Rattle.records.specs.Record.{record_at}
use Rattle.records.specs.Item.{Item}
use Rattle.contexts.specs.declared.State.{State}
use Rattle.std.specs.Prelude.{None}
use Rattle.contexts.specs.Context.{opening, find_id, moved, with_id}
use Rattle.contexts.proofs.Contexts.{found_lt, found_none}
use Rattle.tables.specs.Table.{Nothing as NoEntry, Entry}
use Rattle.tables.specs.Table.{table_words, highest_of, position, cleared, registration_of}
use Rattle.reader.specs.declared.Answer.TheVariants.{End, Nothing}
use Rattle.reader.specs.Step.{Decision}
use Rattle.effects.specs.Follow.{changed}
use Rattle.reader.specs.Step.{opening_number, stopping, step_reply, step_tables, open_tables}
use Rattle.reader.specs.Reads.{item_of, Reads, ends, passes, shows}
use Rattle.tables.proofs.Tables.{position_lt, position-apart, cleared-zero, length-cleared}
use Rattle.reader.proofs.Steps.{admitted}
use Rattle.views.proofs.Lookups.{RecordFits, record_whole}
use Rattle.reader.proofs.Changes.{IsTable, Registers, Sets, on_decision, on-entering, on-report, own_context, registering}
use Rattle.records.specs.Effect.{effect_of}

-- ---- what is true of a state and its tables along a run

-- an entry that is set: the place, a multiple of 8, of a record of that table and index that ends at or before a state's place
pub record Held (f : Format) (archive : List ℕ) (until table index entry : ℕ) : Type 0 where
  pub whole : entry % 8 ≡ 0
  pub before : entry < until
  pub ends : (record_at f archive entry).next ≤ until
  pub registers : Registers f archive entry table index

-- the state belongs to the archive, its ids are distinct, its tables are long enough, each entry is 0 or such a place, and
-- those of contexts that are not open are 0
pub record Sound (f : Format) (archive : List ℕ) (s : State) (tables : List ℕ) : Type 0 where
  pub whole : s.place % 8 ≡ 0
  pub before : s.place ≤ length archive
  pub eight : length s.ids ≡ 8
  pub count : s.count ≤ 8
  pub current : s.current ≤ s.count
  pub apart : (i j : ℕ) → i < s.count → j < s.count → get_or s.ids i 0 ≡ get_or s.ids j 0 → i ≡ j
  pub room : table_words f ≤ length tables
  pub entries : (context table index : ℕ) → context ≤ 8 → IsTable table → index ≤ highest_of f table
      → (get_or tables (position f context table index) 0 ≡ 0)
      ⊎ Held f archive s.place table index (get_or tables (position f context table index) 0)
  pub unopened : (context table index : ℕ) → s.count < context → context ≤ 8 → IsTable table → index ≤ highest_of f table
      → get_or tables (position f context table index) 0 ≡ 0

-- ---- opening

zeros_sound : (f : Format) (archive tables : List ℕ) → table_words f ≤ length tables
    → ((i : ℕ) → i < table_words f → get_or tables i 0 ≡ 0) → Sound f archive opening tables
zeros_sound f archive tables h z =
    record {
      whole = refl;
      before = omega arith;
      eight = refl;
      count = omega arith;
      current = omega arith;
      apart = λ i j l l' e. absurd (omega arith);
      room = h;
      entries = λ context table index l k i. inl (z (position f context table index) (position_lt f context table index l i));
      unopened = λ context table index o l k i. z (position f context table index) (position_lt f context table index l i);
    }

-- what opening hands back is sound
pub opening_sound : (f : Format) (archive tables : List ℕ) → opening_number f archive (length tables) ≡ 0
    → Sound f archive opening (open_tables f archive tables)
opening_sound f archive tables h =
    rw (eq-eqb (opening_number f archive (length tables)) 0 h)
    (zeros_sound f archive (cleared (table_words f) tables) (omega (arith, enough, length-cleared (table_words f) tables enough))
    (cleared-zero (table_words f) tables))
  where
    enough : table_words f ≤ length tables
    enough = (admitted f archive (length tables) h).enough

-- and so are tables of zeros, those that a list is read with
pub fresh_sound : (f : Format) (archive : List ℕ) → Sound f archive opening (replicate (table_words f) 0)
fresh_sound f archive =
    zeros_sound f archive (replicate (table_words f) 0) (omega (arith, length-replicate {A = ℕ} (table_words f) 0))
    (λ i l. get_or-replicate (table_words f) i 0 0 l)

-- ---- a step

-- an entry that is set stays so for a later place
held_later : (f : Format) (archive : List ℕ) (until later table index entry : ℕ) → until ≤ later
    → (entry ≡ 0) ⊎ Held f archive until table index entry → (entry ≡ 0) ⊎ Held f archive later table index entry
held_later f archive until later table index entry h (inl e) = inl e
held_later f archive until later table index entry h (inr k) =
    inr (record { whole = k.whole; before = omega (arith, k.before); ends = omega (arith, k.ends); registers = k.registers })

-- a record that registers something has a word at least
registers-some : (f : Format) (archive : List ℕ) (place table index : ℕ) → Registers f archive place table index
    → place < (record_at f archive place).next
unfolding registration_of effect_of
registers-some f archive place table index r = go (record_whole f archive place).some
  where
    go : ((number : ℕ) × ((record_at f archive place).content ≡ Refused number)) ⊎ (place + 8 ≤ (record_at f archive place).next)
        → place < (record_at f archive place).next
    go (inl (number, e)) =
        let k : NoEntry ≡ Entry table index r.at r.long = rw e at r.is in
        let z : ◌≡◌ {A = ℕ} 0 1 = cc in
        absurd (omega arith)
    go (inr l) = omega arith

-- the place behind the record that a sound state stands at
next_whole : (f : Format) (archive tables : List ℕ) (s : State) → Sound f archive s tables → (record_at f archive s.place).next % 8 ≡ 0
next_whole f archive tables s h =
    let r = record_whole f archive s.place in omega (arith, h.whole, r.whole, r.behind)

-- a sound state stays sound behind its record, whatever the rates, in any context that is open
sound_next : (f : Format) (archive tables : List ℕ) (s : State) (rates : List ℕ) (current : ℕ) → Sound f archive s tables → current ≤ s.count
    → Sound f archive (record { place = (record_at f archive s.place).next; rates = rates; ids = s.ids; count = s.count; current = current }) tables
sound_next f archive tables s rates current h l =
    record {
      whole = next_whole f archive tables s h;
      before = r.before h.before;
      eight = h.eight;
      count = h.count;
      current = l;
      apart = h.apart;
      room = h.room;
      entries = λ context table index l k i. held_later f archive s.place (record_at f archive s.place).next table index
          (get_or tables (position f context table index) 0) r.behind (h.entries context table index l k i);
      unopened = h.unopened;
    }
  where
    r : RecordFits f archive s.place (record_at f archive s.place)
    r = record_whole f archive s.place

-- with a new id, the ids are distinct still
new_apart : (ids : List ℕ) (count id : ℕ) → count < length ids → find_id ids count id ≡ None
    → ((i j : ℕ) → i < count → j < count → get_or ids i 0 ≡ get_or ids j 0 → i ≡ j)
    → (i j : ℕ) → i < count + 1 → j < count + 1 → get_or (set ids count id) i 0 ≡ get_or (set ids count id) j 0 → i ≡ j
new_apart ids count id h m d i j l l' e =
    cases (eqb i count)
    (λ p. cases (eqb j count) (λ q. omega (arith, eqb-true i count p, eqb-true j count q))
    (λ q. absurd (old j l' (eqb-false j count q) (sym e ∙ rw (eqb-true i count p) last))))
    (λ p. cases (eqb j count)
    (λ q. absurd (old i l (eqb-false i count p) (e ∙ rw (eqb-true j count q) last)))
    (λ q. d i j (below i l (eqb-false i count p)) (below j l' (eqb-false j count q))
    (sym (kept i (eqb-false i count p)) ∙ (e ∙ kept j (eqb-false j count q)))))
  where
    below : (n : ℕ) → n < count + 1 → (n ≡ count → ⊥) → n < count
    below n l z = cases (ltb n count) (λ q. ltb-true n count q) (λ q. absurd (z (omega (arith, ltb-false n count q))))

    kept : (n : ℕ) → (n ≡ count → ⊥) → get_or (set ids count id) n 0 ≡ get_or ids n 0
    kept n z = get_or-set_other ids count n id 0 z

    last : get_or (set ids count id) count 0 ≡ id
    last = get_or-set_same ids count id 0 h

    old : (n : ℕ) → n < count + 1 → (n ≡ count → ⊥) → get_or (set ids count id) n 0 ≡ id → ⊥
    old n l z q = found_none ids count id n (omega (arith, h)) m (below n l z) (sym (kept n z) ∙ q)

-- a sound state stays sound behind its record with a new id
sound_new : (f : Format) (archive tables : List ℕ) (s : State) (id : ℕ) → Sound f archive s tables
    → find_id s.ids s.count id ≡ None → (s.count ≡ 8 → ⊥) → Sound f archive (with_id s id (record_at f archive s.place).next) tables
sound_new f archive tables s id h m z =
    record {
      whole = n.whole;
      before = n.before;
      eight = length-set s.ids s.count id ∙ h.eight;
      count = below;
      current = omega arith;
      apart = new_apart s.ids s.count id (omega (arith, h.eight, below)) m h.apart;
      room = h.room;
      entries = n.entries;
      unopened = λ context table index o l k i. h.unopened context table index (omega arith) l k i;
    }
  where
    n : Sound f archive (moved s (record_at f archive s.place).next) tables
    n = sound_next f archive tables s s.rates s.current h h.current

    below : s.count + 1 ≤ 8
    below = cases (ltb s.count 8) (λ q. omega (arith, ltb-true s.count 8 q))
        (λ q. absurd (z (omega (arith, h.count, ltb-false s.count 8 q))))

-- a sound state stays sound behind a record that registers something
sound_registered : (f : Format) (archive tables : List ℕ) (s : State) (table index : ℕ) → Sound f archive s tables
    → Registers f archive s.place table index
    → Sound f archive (moved s (record_at f archive s.place).next) (set tables (position f s.current table index) s.place)
sound_registered f archive tables s table index h r =
    record {
      whole = n.whole;
      before = n.before;
      eight = n.eight;
      count = n.count;
      current = n.current;
      apart = n.apart;
      room = omega (arith, h.room, length-set tables here s.place);
      entries = entry;
      unopened = λ context table' index' o l k i.
          get_or-set_other tables here (position f context table' index') s.place 0
          (λ e. let c = (position-apart f context table' index' s.current table index k r.is_table i r.fits e).0 in omega (arith, c, o, h.current))
          ∙ h.unopened context table' index' o l k i;
    }
  where
    here : ℕ
    here = position f s.current table index

    n : Sound f archive (moved s (record_at f archive s.place).next) tables
    n = sound_next f archive tables s s.rates s.current h h.current

    now : Held f archive (record_at f archive s.place).next table index s.place
    now = record { whole = h.whole; before = registers-some f archive s.place table index r; ends = omega arith; registers = r }

    entry : (context table' index' : ℕ) → context ≤ 8 → IsTable table' → index' ≤ highest_of f table'
        → (get_or (set tables here s.place) (position f context table' index') 0 ≡ 0)
        ⊎ Held f archive (record_at f archive s.place).next table' index' (get_or (set tables here s.place) (position f context table' index') 0)
    entry context table' index' l k i =
        cases (eqb (position f context table' index') here)
        (λ e. let e' = eqb-true (position f context table' index') here e in
        let a = position-apart f context table' index' s.current table index k r.is_table i r.fits e' in
        rw (
          e',
          get_or-set_same tables here s.place 0 (omega (arith, h.room, position_lt f s.current table index (omega (arith, h.current, h.count)) r.fits)),
          a.1,
          a.2,
        ) (inr now))
        (λ e. rw (get_or-set_other tables here (position f context table' index') s.place 0 (eqb-false (position f context table' index') here e))
        (n.entries context table' index' l k i))

-- a step from a sound state leads to a sound state
pub step_sound : (f : Format) (archive tables : List ℕ) (s : State) → Sound f archive s tables
    → Sound f archive (step_reply f archive tables s).state (step_tables f archive tables s)
unfolding stopping registering changed
step_sound f archive tables s h =
    on_decision P f archive tables s (λ number place k. h) (λ answer k. moves) (λ rate. sound_next f archive tables s (set s.rates s.current rate) s.current h h.current)
    (λ id answer k. on-entering P s id next answer h
    (λ i e. sound_next f archive tables s s.rates (i + 1) h (omega (arith, found_lt s.ids s.count id i e)))
    (λ e z. sound_new f archive tables s id h e z))
    (λ table index r. sound_registered f archive tables s table index h r)
    (λ e k. on-report P f archive tables s e next h (λ shown. moves))
  where
    next : ℕ
    next = (record_at f archive s.place).next

    P : Decision → Type 0
    P d = Sound f archive d.state (changed tables d.change)

    moves : Sound f archive (moved s next) tables
    moves = sound_next f archive tables s s.rates s.current h h.current

-- ---- a run

-- from one state and its tables to another by steps that show these items. "Each step gets the archive unchanged, and the state and tables
-- as the last call handed them back"
pub data Run (f : Format) (archive : List ℕ) : State → List ℕ → List Item → State → List ℕ → Type 0 where
  still : (s : State) (tables : List ℕ) → Run f archive s tables [] s tables
  passing : (s : State) (tables : List ℕ) (items : List Item) (s' : State) (tables' : List ℕ) → (step_reply f archive tables s).answer ≡ Nothing
      → Run f archive (step_reply f archive tables s).state (step_tables f archive tables s) items s' tables' → Run f archive s tables items s' tables'
  showing : (s : State) (tables : List ℕ) (i : Item) (items : List Item) (s' : State) (tables' : List ℕ)
      → item_of f archive (step_tables f archive tables s) (step_reply f archive tables s).state (step_reply f archive tables s).answer ≡ some i
      → Run f archive (step_reply f archive tables s).state (step_tables f archive tables s) items s' tables'
      → Run f archive s tables (i ∷ items) s' tables'

-- an archive that reads to its end as a list is run through to a state where a step replies 0
pub reads_run : (f : Format) (archive : List ℕ) {s : State} {tables : List ℕ} {l : List Item} → Reads f archive s tables l
    → (s' : State) × (tables' : List ℕ) × (place : ℕ) × Run f archive s tables l s' tables'
    × ((step_reply f archive tables' s').answer ≡ End 0 place)
reads_run f archive (ends s tables place e) = (s, tables, place, still s tables, e)
reads_run f archive (passes s tables l e r) =
    let q = reads_run f archive r in (q.0, q.1, q.2, passing s tables l q.0 q.1 e q.3, q.4)
reads_run f archive (shows s tables i l e r) =
    let q = reads_run f archive r in (q.0, q.1, q.2, showing s tables i l q.0 q.1 e q.3, q.4)

-- every state of a run from a sound one is sound
pub run_sound : (f : Format) (archive : List ℕ) {s : State} {tables : List ℕ} {items : List Item} {s' : State} {tables' : List ℕ}
    → Run f archive s tables items s' tables' → Sound f archive s tables → Sound f archive s' tables'
run_sound f archive (still s tables) h = h
run_sound f archive (passing s tables items s' tables' e r) h = run_sound f archive r (step_sound f archive tables s h)
run_sound f archive (showing s tables i items s' tables' e r) h = run_sound f archive r (step_sound f archive tables s h)

-- every state of a run from opening is sound
pub opened_sound : (f : Format) (archive tables : List ℕ) {items : List Item} {s' : State} {tables' : List ℕ}
    → opening_number f archive (length tables) ≡ 0 → Run f archive opening (open_tables f archive tables) items s' tables' → Sound f archive s' tables'
opened_sound f archive tables h r = run_sound f archive r (opening_sound f archive tables h)

-- an entry was set along a run: at a state of it that stood at the entry's place in the entry's very context, where a record of its table
-- and index was read
pub record ReadIn (f : Format) (archive : List ℕ) (s : State) (tables : List ℕ) (s' : State) (tables' : List ℕ) (context table index entry : ℕ)
    : Type 0 where
  pub state : State
  pub before : List ℕ
  pub shown : List Item
  pub later : List Item
  pub run : Run f archive s tables shown state before
  pub rest : Run f archive (step_reply f archive before state).state (step_tables f archive before state) later s' tables'
  pub here : state.place ≡ entry
  pub own : state.current ≡ context
  pub registers : Registers f archive entry table index

-- one step leaves an entry, or sets it so
step_entries : (f : Format) (archive tables : List ℕ) (s : State) (context table index : ℕ) → Sound f archive s tables → IsTable table
    → index ≤ highest_of f table
    → (get_or (step_tables f archive tables s) (position f context table index) 0 ≡ get_or tables (position f context table index) 0)
    ⊎ ((get_or (step_tables f archive tables s) (position f context table index) 0 ≡ s.place) × (s.current ≡ context)
    × Registers f archive s.place table index)
step_entries f archive tables s context table index h k i = go (step_tables f archive tables s) (own_context f archive tables s)
  where
    p : ℕ
    p = position f context table index

    go : (after : List ℕ) → (after ≡ tables) ⊎ Sets f archive tables s after
        → (get_or after p 0 ≡ get_or tables p 0) ⊎ ((get_or after p 0 ≡ s.place) × (s.current ≡ context) × Registers f archive s.place table index)
    go after (inl e) = inl (rw e)
    go after (inr c) =
        cases (eqb p here)
        (λ e. let e' = eqb-true p here e in
        let a = position-apart f context table index s.current c.table c.index k c.registers.is_table i c.registers.fits e' in
        inr (
          rw (c.is, e') (get_or-set_same tables here s.place 0 inside),
          sym a.0,
          rw (a.1, a.2) c.registers,
        ))
        (λ e. inl (rw c.is (get_or-set_other tables here p s.place 0 (eqb-false p here e))))
      where
        here : ℕ
        here = position f s.current c.table c.index

        inside : here < length tables
        inside = omega (arith, h.room, position_lt f s.current c.table c.index (omega (arith, h.current, h.count)) c.registers.fits)

behind_step : (f : Format) (archive : List ℕ) (s : State) (tables : List ℕ) (later : List Item) (s' : State) (tables' : List ℕ)
    (context table index : ℕ)
    → ((shown : List Item) (s'' : State) (tables'' : List ℕ)
    → Run f archive (step_reply f archive tables s).state (step_tables f archive tables s) shown s'' tables''
    → (l : List Item) × Run f archive s tables l s'' tables'')
    → Run f archive (step_reply f archive tables s).state (step_tables f archive tables s) later s' tables'
    → Sound f archive s tables → IsTable table → index ≤ highest_of f table
    → (get_or tables' (position f context table index) 0 ≡ get_or (step_tables f archive tables s) (position f context table index) 0)
    ⊎ ReadIn f archive (step_reply f archive tables s).state (step_tables f archive tables s) s' tables' context table index
    (get_or tables' (position f context table index) 0)
    → (get_or tables' (position f context table index) 0 ≡ get_or tables (position f context table index) 0)
    ⊎ ReadIn f archive s tables s' tables' context table index (get_or tables' (position f context table index) 0)
behind_step f archive s tables later s' tables' context table index ahead r h k i (inl e) = go (step_entries f archive tables s context table index h k i)
  where
    p : ℕ
    p = position f context table index

    go : (get_or (step_tables f archive tables s) p 0 ≡ get_or tables p 0)
        ⊎ ((get_or (step_tables f archive tables s) p 0 ≡ s.place) × (s.current ≡ context) × Registers f archive s.place table index)
        → (get_or tables' p 0 ≡ get_or tables p 0) ⊎ ReadIn f archive s tables s' tables' context table index (get_or tables' p 0)
    go (inl q) = inl (e ∙ q)
    go (inr q) =
        inr (rw (e ∙ q.0) (record {
          state = s;
          before = tables;
          shown = [];
          later = later;
          run = still s tables;
          rest = r;
          here = refl;
          own = q.1;
          registers = q.2;
        }))
behind_step f archive s tables later s' tables' context table index ahead r h k i (inr q) =
    let a = ahead q.shown q.state q.before q.run in
    inr (record {
      state = q.state;
      before = q.before;
      shown = a.0;
      later = q.later;
      run = a.1;
      rest = q.rest;
      here = q.here;
      own = q.own;
      registers = q.registers;
    })

-- along a run an entry is what it was, or the place of a record of its table and index that was read in that very context
pub run_entries : (f : Format) (archive : List ℕ) {s : State} {tables : List ℕ} {items : List Item} {s' : State} {tables' : List ℕ}
    → Run f archive s tables items s' tables' → Sound f archive s tables → (context table index : ℕ) → IsTable table → index ≤ highest_of f table
    → (get_or tables' (position f context table index) 0 ≡ get_or tables (position f context table index) 0)
    ⊎ ReadIn f archive s tables s' tables' context table index (get_or tables' (position f context table index) 0)
run_entries f archive (still s tables) h context table index k i = inl refl
run_entries f archive (passing s tables items s' tables' e r) h context table index k i =
    behind_step f archive s tables items s' tables' context table index (λ l s'' t'' q. (l, passing s tables l s'' t'' e q)) r h k i
    (run_entries f archive r (step_sound f archive tables s h) context table index k i)
run_entries f archive (showing s tables it items s' tables' e r) h context table index k i =
    behind_step f archive s tables items s' tables' context table index (λ l s'' t'' q. (it ∷ l, showing s tables it l s'' t'' e q)) r h k i
    (run_entries f archive r (step_sound f archive tables s h) context table index k i)

-- the law of the tables: along a run from opening each entry is 0, or the place of a record of its table and index that was read in that very context
pub opened_entries : (f : Format) (archive : List ℕ) {tables : List ℕ} {items : List Item} {s' : State} {tables' : List ℕ}
    → Run f archive opening tables items s' tables' → Sound f archive opening tables → (context table index : ℕ) → context ≤ 8 → IsTable table
    → index ≤ highest_of f table
    → (get_or tables' (position f context table index) 0 ≡ 0)
    ⊎ ReadIn f archive opening tables s' tables' context table index (get_or tables' (position f context table index) 0)
opened_entries f archive {tables = tables} {s' = s'} {tables' = tables'} r h context table index l k i =
    go (run_entries f archive r h context table index k i)
  where
    p : ℕ
    p = position f context table index

    none_before : (get_or tables p 0 ≡ 0) ⊎ Held f archive 0 table index (get_or tables p 0) → get_or tables p 0 ≡ 0
    none_before (inl e) = e
    none_before (inr q) = absurd (omega (arith, q.before))

    go : (get_or tables' p 0 ≡ get_or tables p 0) ⊎ ReadIn f archive opening tables s' tables' context table index (get_or tables' p 0)
        → (get_or tables' p 0 ≡ 0) ⊎ ReadIn f archive opening tables s' tables' context table index (get_or tables' p 0)
    go (inl e) = inl (e ∙ none_before (h.entries context table index l k i))
    go (inr q) = inr q

-- ---- places and ids only grow

-- a later state stands no earlier, and has the ids of the first one where they stood
pub record Grown (s s' : State) : Type 0 where
  pub place : s.place ≤ s'.place
  pub count : s.count ≤ s'.count
  pub ids : (i : ℕ) → i < s.count → get_or s'.ids i 0 ≡ get_or s.ids i 0

pub step_grows : (f : Format) (archive tables : List ℕ) (s : State) → Grown s (step_reply f archive tables s).state
unfolding stopping registering
step_grows f archive tables s =
    on_decision P f archive tables s (λ number place k. same) (λ answer k. on) (λ rate. on)
    (λ id answer k. on-entering P s id next answer same (λ i e. on)
    (λ e z. record { place = behind; count = omega arith; ids = λ i l. get_or-set_other s.ids s.count i id 0 (λ q. omega arith) }))
    (λ table index r. on) (λ e k. on-report P f archive tables s e next same (λ shown. on))
  where
    next : ℕ
    next = (record_at f archive s.place).next

    P : Decision → Type 0
    P d = Grown s d.state

    behind : s.place ≤ next
    behind = (record_whole f archive s.place).behind

    same : Grown s s
    same = record { place = omega arith; count = omega arith; ids = λ i l. refl }

    on : {rates : List ℕ} {current : ℕ} → Grown s (record { place = next; rates = rates; ids = s.ids; count = s.count; current = current })
    on = record { place = behind; count = omega arith; ids = λ i l. refl }

grown_on : (s s' s'' : State) → Grown s s' → Grown s' s'' → Grown s s''
grown_on s s' s'' g h =
    record {
      place = omega (arith, g.place, h.place);
      count = omega (arith, g.count, h.count);
      ids = λ i l. h.ids i (omega (arith, g.count)) ∙ g.ids i l;
    }

-- along a run places and ids only grow
pub run_grows : (f : Format) (archive : List ℕ) {s : State} {tables : List ℕ} {items : List Item} {s' : State} {tables' : List ℕ}
    → Run f archive s tables items s' tables' → Grown s s'
run_grows f archive (still s tables) = record { place = omega arith; count = omega arith; ids = λ i l. refl }
run_grows f archive (passing s tables items s' tables' e r) =
    grown_on s (step_reply f archive tables s).state s' (step_grows f archive tables s) (run_grows f archive r)
run_grows f archive (showing s tables i items s' tables' e r) =
    grown_on s (step_reply f archive tables s).state s' (step_grows f archive tables s) (run_grows f archive r)
