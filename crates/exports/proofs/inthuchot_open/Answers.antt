-- `inthuchot_open` meets its contract: what `reader::open` answers is put.
use mathlib.Core.Path.{ap, ◌∙◌}
use Rattle.reader.specs.declared.Reply.{Reply}
use Rattle.blocks.specs.Block.{reply_numbers, put_numbers}
use Rattle.exports.proofs.inthuchot_open.Goals as goal

-- the clauses, of their product
by_clause : {A B C : Type 0} → A × (B × C) → record { value : A; out_after : B; tables_after : C }
by_clause w = record { value = w.0; out_after = w.1.0; tables_after = w.1.1 }

pub returns : goal.returns
returns c = by_clause (let opened = c.open-opened.ensures in (
  c.put_reply.ensures.value,
  (
    c.put_reply.ensures.out_after ∙ ap (λ (r : Reply). put_numbers c.args.out.now (reply_numbers r))
        opened.value,
    opened.tables_after,
  ),
))
