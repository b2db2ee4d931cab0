-- `put_magic` meets its contract: the magic is a whole word, so its stream has no padding.
use Rattle.words.specs.Stream.{magic as magic_bytes}
use Rattle.encoding.proofs.Output.put_magic.Goals as goal

pub put_stream-requires : goal.put_stream-requires
unfolding magic_bytes
put_stream-requires c = c.requires

pub returns : goal.returns
unfolding magic_bytes
returns c = c.put_stream.ensures
