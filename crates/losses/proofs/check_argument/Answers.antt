-- `losses::check_argument` meets its contract: what it loses is seen from its texts (checked_texts). Assumes nothing.
use mathlib.Core.Path.{sym, ◌∙◌}
use Rattle.std.proofs.lemmas.Result.{err_from_is_err_and}
use Rattle.losses.proofs.Checking.{checked_texts, checked_reason}
use Rattle.losses.proofs.check_argument.Goals as goal

pub returns-in_err-texts : goal.returns-in_err-texts
returns-in_err-texts c =
    let by = err_from_is_err_and c.from_residual.result c.from_residual.ensures.1 in
    rw (by.1, by.2)
    (sym (checked_reason c.args.f c.args.rest.now c.args.place c.in_err-texts.field-0.0 (sym c.texts_of.ensures ∙ c.in_err-texts.was)))

pub returns : goal.returns
returns c =
    let t = c.in_ok-texts.texts in
    rw c.texts_keep.ensures
    (sym (checked_texts c.args.f c.args.rest.now c.args.place t.name t.value t.size (sym c.texts_of.ensures ∙ c.in_ok-texts.was)))
