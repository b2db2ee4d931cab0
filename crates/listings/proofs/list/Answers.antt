-- `list` meets its contract: the first line, then the refusal of the opening or the lines of the steps.
use mathlib.Core.Path.{◌≡◌, sym, ap, ◌∙◌}
use mathlib.Core.Bool.{true, false}
use lib.ListN.{length}
use Rattle.format.specs.Limits.{small_format}
use Rattle.reader.specs.declared.Reply.{Reply}
use Rattle.reader.specs.Step.{open_reply}
use Rattle.item_lines.specs.Line.{trace_line, answer_line}
use Rattle.listings.specs.Listing.{is_end, lines_from, tables_from, steps_of, listing, list_tables}
use Rattle.lines.proofs.Puts.{◌then◌, adds_same}
use Rattle.listings.proofs.list.Goals as goal

-- an opening that is refused ends the listing
pub returns-then-is_end : goal.returns-then-is_end
unfolding listing list_tables trace_line
returns-then-is_end c =
    let reply = c.open-opened.ensures.value in
    let ended : is_end (open_reply small_format c.args.archive.now (length c.args.tables.now)).answer ≡ true =
    sym (ap (λ (r : Reply). is_end r.answer) reply) ∙ sym c.is_end.ensures ∙ c.if-is_end.true in
    let line = adds_same c.put_answer.ensures (ap (λ (r : Reply). answer_line c.args.archive.now r.answer) reply) in
    record {
      puts = rw ended (c.put_bytes.ensures then line);
      tables_after = rw ended c.open-opened.ensures.tables_after;
    }

-- else the lines of the steps follow
pub returns : goal.returns
unfolding listing list_tables trace_line
returns c =
    let archive = c.args.archive.now in
    let reply = c.open-opened.ensures.value in
    let tables = c.open-opened.ensures.tables_after in
    let cleared = c.open-opened.new.tables in
    let on : is_end (open_reply small_format archive (length c.args.tables.now)).answer ≡ false =
    sym (ap (λ (r : Reply). is_end r.answer) reply) ∙ sym c.is_end.ensures ∙ c.if-is_end.false in
    let start = (open_reply small_format archive (length c.args.tables.now)).state in
    let steps = steps_of archive in
    let by-reply = ap (λ (r : Reply). lines_from small_format archive steps r.state cleared) reply in
    let by-tables = ap (lines_from small_format archive steps start) tables in
    let after-reply = ap (λ (r : Reply). tables_from small_format archive steps r.state cleared) reply in
    let after-tables = ap (tables_from small_format archive steps start) tables in
    let lines = adds_same c.list_records.ensures.puts (by-reply ∙ by-tables) in
    record {
      puts = rw on (c.put_bytes.ensures then lines);
      tables_after = rw on (c.list_records.ensures.tables_after ∙ after-reply ∙ after-tables);
    }
