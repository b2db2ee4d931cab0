-- `inthuchot_step` meets its contract: what `reader::step` answers from the given state is put.
use mathlib.Core.Path.{ap, ◌∙◌}
use Rattle.format.specs.Limits.{small_format}
use Rattle.reader.specs.declared.Reply.{Reply}
use Rattle.reader.specs.Step.{step_reply, step_tables}
use Rattle.blocks.specs.Block.{reply_numbers, put_numbers}
use Rattle.exports.proofs.inthuchot_step.Goals as goal

-- the clauses, of their product
by_clause : {A B C : Type 0} → A × (B × C) → record { value : A; out_after : B; tables_after : C }
by_clause w = record { value = w.0; out_after = w.1.0; tables_after = w.1.1 }

pub returns : goal.returns
returns c = by_clause (let reply = c.step-stepped.ensures.value ∙ ap (step_reply small_format c.args.archive.now c.args.tables.now)
    c.given_state-start.ensures in
    let tables = c.step-stepped.ensures.tables_after ∙ ap (step_tables small_format c.args.archive.now c.args.tables.now)
    c.given_state-start.ensures in
    (c.put_reply.ensures.value, (c.put_reply.ensures.out_after ∙ ap (λ (r : Reply). put_numbers c.args.out.now (reply_numbers r)) reply, tables)))
