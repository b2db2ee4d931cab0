-- `packer::write` meets its contract: where the output holds the bytes, the room is made ready (choices_ready) and the second pass writes them.
use native.Mathlib.Omega.{arith}
use mathlib.Core.Path.{refl, ◌∙◌}
use borrow.Author.Tests.{lt-ltb, le-ltb}
use Rattle.packer.specs.Pack.{written_reply}
use Rattle.tables.proofs.Tables.{small_format_lem}
use Rattle.packer.proofs.Room.{choices_ready}
use Rattle.packer.proofs.write.Goals as goal

-- the clauses, of their product
by_clause : {A B C : Type 0} → A × (B × C) → record { value : A; output_after : B; room_len_unchanged : C }
by_clause w = record { value = w.0; output_after = w.1.0; room_len_unchanged = w.1.1 }

-- the clauses, of their product
by_clauses_of_asks_chosen : {A B : Type 0} → A × B → record { asks : A; chosen : B }
by_clauses_of_asks_chosen w = record { asks = w.0; chosen = w.1 }

pub returns-then-output-long : goal.returns-then-output-long
unfolding written_reply
returns-then-output-long c = by_clause (rw (lt-ltb _ _ c.if-output-long.true, c.at.ensures) (refl, (refl, (refl, refl))))

pub table_words-stretch-requires : goal.table_words-stretch-requires
table_words-stretch-requires c =
    small_format_lem c.args.f c.requires.f_value.0

pub write_all-requires : goal.write_all-requires
write_all-requires c = by_clauses_of_asks_chosen (let r =
    choices_ready c.args.f c.args.archive.now c.args.room.now c.clear.new.tables c.choose.new.slots c.clear-2.new.tables
    c.table_words-stretch.result c.table_words-stretch.ensures
    c.requires.f_in_bounds.0 c.requires.f_in_bounds.1 c.clear.ensures c.choose.ensures c.clear-2.ensures in (
      (
        c.requires.f_value.0,
        c.requires.f_value.1,
        c.requires.f_value.2,
        omega (arith, r.same_length, c.requires.f_in_bounds.0),
        r.zeros,
        omega (arith, c.requires.f_value.3, c.if-output-long.false),
        r.forgets,
      ),
      r.chosen,
    ))

pub returns : goal.returns
unfolding written_reply
returns c = by_clause (let r =
    choices_ready c.args.f c.args.archive.now c.args.room.now c.clear.new.tables c.choose.new.slots c.clear-2.new.tables
    c.table_words-stretch.result c.table_words-stretch.ensures
    c.requires.f_in_bounds.0 c.requires.f_in_bounds.1 c.clear.ensures c.choose.ensures c.clear-2.ensures in
    rw (le-ltb _ _ c.if-output-long.false) (
      refl,
      (
        c.write_all.ensures.out_after,
        (
          c.write_all.ensures.room_len_unchanged.0
              ∙ r.same_length,
          c.write_all.ensures.room_len_unchanged.1 ∙ r.behind,
        ),
      ),
    ))
