-- `list_record` meets its contract: the answer's line and its arguments, in the state and the tables that the step hands back (lines_of_step).
use mathlib.Core.Path.{sym, ◌∙◌}
use mathlib.Core.Bool.{true, false}
use Rattle.format.specs.Limits.{small_format}
use Rattle.lines.proofs.Puts.{◌then◌, adds_same}
use Rattle.listings.proofs.Turns.{next_by, lines_of_step}
use Rattle.listings.proofs.list_record.Goals as goal

pub returns-then-is_end : goal.returns-then-is_end
returns-then-is_end c =
    let reply = c.step-reply.ensures in
    let lines = lines_of_step small_format c.args.archive.now c.args.tables.now c.args.state c.step-reply.result c.step-reply.new.tables in
    record {
      puts = adds_same (c.put_answer.ensures then c.put_answer_arguments.ensures) (lines reply.value reply.tables_after);
      value = next_by c.step-reply.result _ true reply.value (sym c.if-is_end.true ∙ c.is_end.ensures);
      tables_after = reply.tables_after;
    }

pub returns : goal.returns
returns c =
    let reply = c.step-reply.ensures in
    let lines = lines_of_step small_format c.args.archive.now c.args.tables.now c.args.state c.step-reply.result c.step-reply.new.tables in
    record {
      puts = adds_same (c.put_answer.ensures then c.put_answer_arguments.ensures) (lines reply.value reply.tables_after);
      value = next_by c.step-reply.result _ false reply.value (sym c.if-is_end.false ∙ c.is_end.ensures);
      tables_after = reply.tables_after;
    }
