-- `packer::pack` meets its contract: what the first pass counted is the written length (lent_measured), so the second pass writes exactly that.
use native.Mathlib.Omega.{arith}
use mathlib.Core.Path.{◌∙◌}
use Rattle.first_pass.proofs.Counting.{left_tally}
use Rattle.tables.proofs.Tables.{small_format_lem}
use Rattle.packer.proofs.Room.{lent_wide, lent_measured}
use Rattle.packer.proofs.pack.Goals as goal

-- the clauses, of their product
by_clause : {A B : Type 0} → A × B → record { f_value : A; f_in_bounds : B }
by_clause w = record { f_value = w.0; f_in_bounds = w.1 }

-- the clauses, of their product
by_clauses_of_value_output_after_room_len_unchanged : {A B C : Type 0} → A × (B × C) → record { value : A; output_after : B; room_len_unchanged : C }
by_clauses_of_value_output_after_room_len_unchanged w = record { value = w.0; output_after = w.1.0; room_len_unchanged = w.1.1 }

pub table_words-stretch-requires : goal.table_words-stretch-requires
table_words-stretch-requires c =
    small_format_lem c.args.f c.requires.0

pub count_all-requires : goal.count_all-requires
count_all-requires c =
    (small_format_lem c.args.f c.requires.0, c.requires.1, c.requires.2, c.requires.3)

pub measure-keys-requires : goal.measure-keys-requires
measure-keys-requires c =
    let n = rw c.in_ok-fixed.was at c.count_all.ensures.count_is in
    let tallies = left_tally c.args.f c.args.archive.now _ n.0 c.count_all.ensures.slots_left in
    lent_wide c.args.f c.args.archive.now c.count_all.new.room _ c.table_words-stretch.result c.table_words-stretch.ensures tallies

pub overflow_add-fixed : goal.overflow_add-fixed
overflow_add-fixed c =
    let n = rw c.in_ok-fixed.was at c.count_all.ensures.count_is in
    let tallies = left_tally c.args.f c.args.archive.now _ n.0 c.count_all.ensures.slots_left in
    let m =
    lent_measured c.args.f c.args.archive.now c.count_all.new.room c.in_ok-fixed.fixed c.measure-keys.result c.table_words-stretch.result
    c.requires.0 (λ i. omega (arith, c.type_inv.archive i)) c.requires.1 n.0 tallies n.1 c.table_words-stretch.ensures c.measure-keys.ensures.0 in
    omega (arith, m.1)

pub overflow_mul-fixed : goal.overflow_mul-fixed
overflow_mul-fixed c =
    let n = rw c.in_ok-fixed.was at c.count_all.ensures.count_is in
    let tallies = left_tally c.args.f c.args.archive.now _ n.0 c.count_all.ensures.slots_left in
    let m =
    lent_measured c.args.f c.args.archive.now c.count_all.new.room c.in_ok-fixed.fixed c.measure-keys.result c.table_words-stretch.result
    c.requires.0 (λ i. omega (arith, c.type_inv.archive i)) c.requires.1 n.0 tallies n.1 c.table_words-stretch.ensures c.measure-keys.ensures.0 in
    omega (arith, m.1)

pub write-requires : goal.write-requires
write-requires c = by_clause (let n = rw c.in_ok-fixed.was at c.count_all.ensures.count_is in
    let tallies = left_tally c.args.f c.args.archive.now _ n.0 c.count_all.ensures.slots_left in
    let m =
    lent_measured c.args.f c.args.archive.now c.count_all.new.room c.in_ok-fixed.fixed c.measure-keys.result c.table_words-stretch.result
    c.requires.0 (λ i. omega (arith, c.type_inv.archive i)) c.requires.1 n.0 tallies n.1 c.table_words-stretch.ensures c.measure-keys.ensures.0 in
    ((c.requires.0, c.requires.1, n.0, m.0), (omega (arith, c.requires.2, c.count_all.ensures.room_len_unchanged.0), tallies)))

pub returns : goal.returns
returns c = by_clauses_of_value_output_after_room_len_unchanged (let n = rw c.in_ok-fixed.was at c.count_all.ensures.count_is in
    let tallies = left_tally c.args.f c.args.archive.now _ n.0 c.count_all.ensures.slots_left in
    let m =
    lent_measured c.args.f c.args.archive.now c.count_all.new.room c.in_ok-fixed.fixed c.measure-keys.result c.table_words-stretch.result
    c.requires.0 (λ i. omega (arith, c.type_inv.archive i)) c.requires.1 n.0 tallies n.1 c.table_words-stretch.ensures c.measure-keys.ensures.0 in
    rw (n.0, ← m.0) (
      c.write.ensures.value,
      (
        c.write.ensures.output_after,
        (
          c.write.ensures.room_len_unchanged.0
              ∙ c.count_all.ensures.room_len_unchanged.0,
          c.write.ensures.room_len_unchanged.1
              ∙ c.count_all.ensures.room_len_unchanged.1,
        ),
      ),
    ))
