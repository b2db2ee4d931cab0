-- `list_input` meets its contract: two lines for an input that is too long, else its listing.
use borrow.Author.Tests.{lt-ltb, le-ltb}
use Rattle.lines.proofs.Puts.{◌then◌}
use Rattle.item_lines.specs.Line.{trace_line}
use Rattle.listings.specs.Listing.{input_listing, input_tables}
use Rattle.listings.proofs.list_input.Goals as goal

pub returns-then-input-gt32768 : goal.returns-then-input-gt32768
unfolding input_listing input_tables trace_line
returns-then-input-gt32768 c =
    let long = lt-ltb _ _ c.if-input-gt32768.true in
    record {
      puts = rw long (c.put_bytes.ensures then c.put_end.ensures);
      tables_after = rw long;
    }

pub returns : goal.returns
unfolding input_listing input_tables
returns c =
    let short = le-ltb _ _ c.if-input-gt32768.false in
    record {
      puts = rw short c.list.ensures.puts;
      tables_after = rw short c.list.ensures.tables_after;
    }
