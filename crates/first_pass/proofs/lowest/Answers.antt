-- `first_pass::lowest` meets its contract: each answer is what the definition gives under the tests that led there. Assumes nothing.
use borrow.Author.Tests.{lt-ltb, le-ltb}
use native.Mathlib.Omega.{arith}
use mathlib.Core.Path.{ap}
use Rattle.format.specs.Limits.{number_of}
use Rattle.first_pass.specs.Models.Found.{lowest_of}
use Rattle.first_pass.proofs.lowest.Goals as goal

pub returns-in_default : goal.returns-in_default
unfolding lowest_of
returns-in_default c = simp c.in_default.is

pub returns-in_default-found : goal.returns-in_default-found
unfolding lowest_of
returns-in_default-found c = simp (c.in-Err.is, c.in_default-found.is, c.at-own.ensures)

pub returns-then-own-earlier : goal.returns-then-own-earlier
unfolding lowest_of
returns-then-own-earlier c =
    let own = ap (λ r. r.number) c.at-own.ensures in
    simp (c.in-Err.is, c.in-Some.is, c.at-own.ensures, lt-ltb (number_of c.in-Err.reason) c.in-Some.earlier.number (omega (arith, own, c.if-own-earlier.true)))

pub returns : goal.returns
unfolding lowest_of
returns c =
    let own = ap (λ r. r.number) c.at-own.ensures in
    simp (c.in-Err.is, c.in-Some.is, le-ltb (number_of c.in-Err.reason) c.in-Some.earlier.number (omega (arith, own, c.if-own-earlier.false)))
