-- `put_timestamp` meets its contract: the provider, the timestamp and the rate, one behind the other.
use Rattle.item_lines.specs.Line.{timestamp_shown}
use Rattle.lines.proofs.Puts.{◌then◌}
use Rattle.item_lines.proofs.put_timestamp.Goals as goal

pub returns : goal.returns
unfolding timestamp_shown
returns c =
    c.put_provider.ensures then c.put_number.ensures then c.put_number-2.ensures
