-- One hashed table of keys for all contexts, in lent words: three stretches of one length. Of slot s, word s of the first has the byte place of
-- its key and, above 24 bits, the key's mark; word s of the second has the length of the key's bytes and, above 16 bits, its uses. A place of 0 is a
-- free slot. The last 18 words of these two are no slots: in the second they count the distinct keys of each mark. The third stretch remembers slots:
-- its word at a number that the caller chooses has one more than a slot, or 0.
use Rattle.std.specs.Prelude.{ℕ, zero, suc, ◌+◌, ◌-◌, ◌*◌, ◌/◌, ◌%◌, ◌^◌, List, ◌∷◌, Bool, true, false, drop, get_or, set, eqb, ltb, Option, Some, None}
use Rattle.words.specs.Word.{pick}
use Rattle.words.specs.Stream.{stream_words, same_bytes, part_of}
use Rattle.registering.specs.Registers.{registers}
use Rattle.hashing.specs.Models.Hash.{hash_of, folded_of}
use Rattle.tally.specs.declared.Slot.{Slot}
use Rattle.tally.specs.declared.Slot.TheVariants.{Here, Free, Full}

-- the mark of a context and a table, 2 for texts and 3 for threads
abbrev pub mark_of : ℕ → ℕ → ℕ
mark_of context table = 2 * context + (table - 2)

-- a label: the length of a key's bytes and, above 16 bits, its mark
unfoldable pub label_of : ℕ → ℕ → ℕ → ℕ
label_of context table long = mark_of context table * 65536 + long

-- the key at a place: its label and then its bytes
abbrev pub key_of : List ℕ → ℕ → ℕ → List ℕ
key_of archive place label = label ∷ part_of archive place (label % 65536)

-- of a key: its label, its mark, and the words that it takes inline
abbrev pub key_label : List ℕ → ℕ
key_label key = get_or key 0 0

abbrev pub key_mark : List ℕ → ℕ
key_mark key = key_label key / 65536

abbrev pub key_words : List ℕ → ℕ
key_words key = stream_words (key_label key % 65536)

-- what the two words of a slot have: the place, the label and the uses of its key
abbrev pub place_in : ℕ → ℕ
place_in first = first % 16777216

abbrev pub label_in : ℕ → ℕ → ℕ
label_in first second = first / 16777216 * 65536 + second % 65536

abbrev pub uses_in : ℕ → ℕ
uses_in second = second / 65536

-- and the words that have them
abbrev pub first_word : ℕ → ℕ → ℕ
first_word place label = label / 65536 * 16777216 + place

abbrev pub with_uses : ℕ → ℕ → ℕ
with_uses uses second = uses * 65536 + second % 65536

-- the words of a slot, and the counter of a mark
abbrev pub place_at : List ℕ → ℕ → ℕ
place_at slots s = place_in (get_or slots s 0)

abbrev pub label_at : ℕ → List ℕ → ℕ → ℕ
label_at stretch slots s = label_in (get_or slots s 0) (get_or slots (stretch + s) 0)

abbrev pub uses_at : ℕ → List ℕ → ℕ → ℕ
uses_at stretch slots s = uses_in (get_or slots (stretch + s) 0)

abbrev pub counter_at : ℕ → ℕ → ℕ
counter_at stretch mark = 2 * stretch - 18 + mark

-- whether a slot is free, and the key that it holds
abbrev pub is_free : List ℕ → ℕ → Bool
is_free slots s = eqb (place_at slots s) 0

abbrev pub key_at : List ℕ → ℕ → List ℕ → ℕ → List ℕ
key_at archive stretch slots s = key_of archive (place_at slots s) (label_at stretch slots s)

-- the first slot of a key: its hash, scaled to the slots
unfoldable pub start_of : ℕ → List ℕ → ℕ
start_of capacity key = folded_of (hash_of (key_label key * 0x7eaec5c3) (drop 1 key)) * capacity / 2 ^ 32

-- the slot after s, around the end
unfoldable pub next_of : ℕ → ℕ → ℕ
next_of capacity s = pick (ltb (s + 1) capacity) (s + 1) 0

-- the first of so many slots from s on, around the end, that is free or mine
unfoldable pub probe : (ℕ → Bool) → (ℕ → Bool) → ℕ → ℕ → ℕ → Slot
probe free mine capacity zero s = Full
probe free mine capacity (suc left) s = pick (free s) (Free s) (pick (mine s) (Here s) (probe free mine capacity left (next_of capacity s)))

-- the same, for a key
unfoldable pub seek : List ℕ → ℕ → List ℕ → List ℕ → ℕ → ℕ → Slot
seek archive stretch slots key left s =
    probe (is_free slots) (λ x. same_bytes (key_at archive stretch slots x) key) (stretch - 18) left s

-- the slot of a key
unfoldable pub find_of : List ℕ → ℕ → List ℕ → List ℕ → Slot
find_of archive stretch slots key = seek archive stretch slots key (stretch - 18) (start_of (stretch - 18) key)

-- one more, up to the highest number of half a word
unfoldable pub raised : ℕ → ℕ
raised n = pick (ltb n 65535) (n + 1) 65535

-- what the counter of a label's mark has
abbrev pub count_at : ℕ → List ℕ → ℕ → ℕ
count_at stretch slots label = get_or slots (counter_at stretch (label / 65536)) 0

-- the table after one use more of the key of a slot
abbrev pub used_again : ℕ → List ℕ → ℕ → List ℕ
used_again stretch slots s = set slots (stretch + s) (with_uses (raised (uses_at stretch slots s)) (get_or slots (stretch + s) 0))

-- the table after the first use of a key, in a free slot: its place and label, one use, and one key more of its mark
abbrev pub filled : ℕ → List ℕ → ℕ → ℕ → ℕ → List ℕ
filled stretch slots place label s =
    set (set (set slots s (first_word place label)) (stretch + s) (with_uses 1 label)) (counter_at stretch (label / 65536)) (raised (count_at stretch slots label))

-- the slot of a key that was searched for, where it has one
abbrev pub here_slot : Slot → Option ℕ
here_slot (Here s) = Some s
here_slot (Free s) = None
here_slot Full = None

-- the word that stands for a slot, one more than it, or 0 for none; and what a word stands for
abbrev pub slot_word : Option ℕ → ℕ
slot_word None = 0
slot_word (Some s) = s + 1

abbrev pub slot_of_word : ℕ → Option ℕ
slot_of_word word = pick (eqb word 0) None (Some (word - 1))

-- the slot that is remembered under a number, and the table that remembers a slot, or none, under it
abbrev pub remembered_at : ℕ → List ℕ → ℕ → Option ℕ
remembered_at stretch slots entry = slot_of_word (get_or slots (2 * stretch + entry) 0)

abbrev pub remembering : ℕ → List ℕ → ℕ → Option ℕ → List ℕ
remembering stretch slots entry slot = set slots (2 * stretch + entry) (slot_word slot)

-- whether one use more is counted of the key whose slot is given: a new key only where fewer than `most` of its mark were
abbrev pub is_added : ℕ → List ℕ → ℕ → ℕ → Slot → Bool
is_added stretch slots label most (Here s) = true
is_added stretch slots label most (Free s) = ltb (count_at stretch slots label) most
is_added stretch slots label most Full = false

-- the slot that the key then has
abbrev pub added_slot : ℕ → List ℕ → ℕ → ℕ → Slot → Option ℕ
added_slot stretch slots label most (Here s) = Some s
added_slot stretch slots label most (Free s) = pick (ltb (count_at stretch slots label) most) (Some s) None
added_slot stretch slots label most Full = None

-- the table after it
abbrev pub added : ℕ → List ℕ → ℕ → ℕ → ℕ → Slot → List ℕ
added stretch slots place label most (Here s) = used_again stretch slots s
added stretch slots place label most (Free s) = pick (ltb (count_at stretch slots label) most) (filled stretch slots place label s) slots
added stretch slots place label most Full = slots

-- the words that a key takes in all its uses, registered or not
unfoldable pub cost_of : ℕ → ℕ → ℕ → ℕ
cost_of place label uses =
    pick (eqb place 0) 0
    (pick (registers (stream_words (label % 65536)) uses) (1 + stream_words (label % 65536)) (uses * stream_words (label % 65536)))

abbrev pub sum_to : ℕ → (ℕ → ℕ) → ℕ
sum_to zero f = 0
sum_to (suc n) f = sum_to n f + f n

-- the words that all keys take
unfoldable pub measure_of : ℕ → List ℕ → ℕ
measure_of stretch slots = sum_to (stretch - 18) (λ s. cost_of (place_at slots s) (label_at stretch slots s) (uses_at stretch slots s))
