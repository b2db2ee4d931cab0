-- `put_pieces` meets its contract: each piece is written right behind the one before.
use Rattle.encoding.proofs.Writing.{◌then◌, writes_none}
use Rattle.rewriting.proofs.put_pieces.Goals as goal

pub returns : goal.returns
returns c =
    c.put_own_words.ensures
    then c.put_spelled.ensures
    then c.put_spelled-2.ensures
    then c.put_spelled-3.ensures
    then (rw c.stream_bytes.ensures at c.put_stream.ensures)
    then (writes_none c.put_stream.new.self)
