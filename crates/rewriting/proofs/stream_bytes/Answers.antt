-- `stream_bytes` meets its contract: an index, which no stream has, stands for no bytes.
use Rattle.views.specs.Shown.{shown_stream}
use Rattle.rewriting.proofs.stream_bytes.Goals as goal

pub returns-in-Inline : goal.returns-in-Inline
unfolding shown_stream
returns-in-Inline c =
    rw c.in-Inline.is c.text.ensures

pub returns-in-Index : goal.returns-in-Index
unfolding shown_stream
returns-in-Index c =
    rw c.in-Index.is c.text-in-Index.ensures
