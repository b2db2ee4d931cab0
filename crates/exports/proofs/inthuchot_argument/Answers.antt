-- `inthuchot_argument` meets its contract: what `reader::argument` answers in the given state is put.
use mathlib.Core.Path.{ap, ◌∙◌}
use Rattle.format.specs.Limits.{small_format}
use Rattle.contexts.specs.declared.State.{State}
use Rattle.reader.specs.Ask.{Asked}
use Rattle.reader.specs.Ask.{argument_reply}
use Rattle.blocks.specs.Block.{asked_numbers, put_numbers}
use Rattle.exports.proofs.inthuchot_argument.Goals as goal

-- the clauses, of their product
by_clause : {A B : Type 0} → A × B → record { value : A; out_after : B }
by_clause w = record { value = w.0; out_after = w.1 }

pub returns : goal.returns
returns c = by_clause (let asked : State → Asked = λ s. argument_reply small_format c.args.archive.now c.args.tables.now s c.args.event
    c.args.number in
    let reply = c.argument.ensures ∙ ap asked c.given_state.ensures in
    (c.put_asked.ensures.value, c.put_asked.ensures.out_after ∙ ap (λ (r : Asked). put_numbers c.args.out.now (asked_numbers r)) reply))
