-- `put_last` meets its contract: one word where the kind has one, nothing where it has none (last_none).
use mathlib.Core.Path.{sym, ◌∙◌}
use Rattle.records.specs.Item.{own_layout}
use Rattle.encoding.proofs.Writing.{writes_none, writes_same}
use Rattle.rewriting.proofs.Spelling.{last_none}
use Rattle.rewriting.proofs.put_last.Goals as goal

pub returns-else-own_behind-ne0 : goal.returns-else-own_behind-ne0
returns-else-own_behind-ne0 c =
    let none = sym c.own_behind.ensures ∙ c.if-own_behind-ne0.false in
    let out = c.args.out.now in
    writes_same (writes_none out) (sym (last_none out.format (own_layout c.args.report.own).behind c.args.report.last none))
