-- `put_thread` meets its contract: an inline thread is two words (inline_thread).
use mathlib.Core.Path.{sym}
use Rattle.records.specs.Item.{thread}
use Rattle.encoding.proofs.Parts.{inline_thread}
use Rattle.encoding.proofs.Writing.{◌then◌, writes_same}
use Rattle.encoding.proofs.Output.put_thread.Goals as goal

pub returns-then-index-eq0 : goal.returns-then-index-eq0
returns-then-index-eq0 c =
    let inline = inline_thread c.args.self.now.format c.args.index (thread c.args.process c.args.thread) c.if-index-eq0.true in
    writes_same (c.put_word.ensures then c.put_word-then-index-eq0.ensures) (sym inline)
