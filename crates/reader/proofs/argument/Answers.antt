-- `reader::argument` meets its contract: each answer is what the definition gives under the tests that led there. Assumes nothing.
use native.Mathlib.Omega.{arith}
use mathlib.Core.Path.{sym, ◌∙◌}
use borrow.Author.Tests.{ne_eqb}
use lib.ListN.{length}
use Rattle.std.proofs.lemmas.Result.{err_from_is_err_and}
use Rattle.reader.specs.Step.{opening_number}
use Rattle.tables.proofs.Tables.{small_fits}
use Rattle.reader.proofs.Steps.{admitted}
use Rattle.reader.specs.Ask.{argument_reply}
use Rattle.reader.proofs.argument.Goals as goal

pub check_opening-requires : goal.check_opening-requires
check_opening-requires c = rw c.small_format-f.ensures small_fits

pub returns-in_err-check_opening : goal.returns-in_err-check_opening
unfolding argument_reply
returns-in_err-check_opening c =
    let by = err_from_is_err_and c.from_residual.result c.from_residual.ensures.1 in
    let number = opening_number c.small_format-f.result c.args.archive.now (length c.args.tables.now) in
    let refused = c.in_err-check_opening.ensures in
    rw (by.1, by.2, refused.1) simp (← c.small_format-f.ensures, ne_eqb number 0 (λ z. omega (arith, z, refused.0)))

pub ask_place-requires : goal.ask_place-requires
ask_place-requires c =
    let a = admitted c.small_format-f.result c.args.archive.now (length c.args.tables.now) c.in_ok-check_opening.ensures in (
      rw c.small_format-f.ensures small_fits,
      omega (arith, a.short),
      a.enough,
      sym c.belongs.ensures
          ∙ c.if-belongs.true,
    )

pub returns-then-belongs : goal.returns-then-belongs
unfolding argument_reply
returns-then-belongs c =
    simp (
      ← c.ask_place.ensures,
      c.if-belongs.true,
      ← c.belongs.ensures,
      c.in_ok-check_opening.ensures,
      ← c.small_format-f.ensures,
    )

pub returns : goal.returns
unfolding argument_reply
returns c = simp (
  c.at.ensures,
  c.if-belongs.false,
  ← c.belongs.ensures,
  c.in_ok-check_opening.ensures,
  ← c.small_format-f.ensures,
)
