-- `spell_resolved` meets its contract: what is known has the index that its key has, and its place; what is not has neither place nor length.
use mathlib.Core.Path.{sym, subst, ◌∙◌}
use native.Mathlib.Omega.{arith}
use lib.ListN.{take}
use lib.Seq.{length-take-le}
use Rattle.passes.specs.Models.Known.{KnownFits}
use Rattle.tally.specs.Models.Slots.{label_of}
use Rattle.format.proofs.Headers.{part_from}
use Rattle.passes.proofs.Known.{reference-fits}
use Rattle.rewriting.specs.Models.Write.{spelled_of}
use Rattle.rewriting.proofs.Spelling.{slots_wide}
use Rattle.rewriting.proofs.spell_resolved.Goals as goal

pub slice_bounds-registrations-end : goal.slice_bounds-registrations-end
slice_bounds-registrations-end c =
    sym (length-take-le c.table_words-words.result c.args.room.now (omega (arith, c.table_words-words.ensures, c.requires.0.wide)))

pub invariant_of-registrations-clause-addressed : goal.invariant_of-registrations-clause-addressed
invariant_of-registrations-clause-addressed c = c.requires.0.limits

pub invariant_of-registrations-clause-bounded : goal.invariant_of-registrations-clause-bounded
invariant_of-registrations-clause-bounded c = omega (arith, c.requires.0.short)

pub invariant_of-registrations-clause-lent : goal.invariant_of-registrations-clause-lent
invariant_of-registrations-clause-lent c =
    let long = length-take-le c.table_words-words.result c.args.room.now (omega (arith, c.table_words-words.ensures, c.requires.0.wide)) in
    omega (arith, long, c.table_words-words.ensures)

pub invariant_of-registrations-clause-one_of_nine : goal.invariant_of-registrations-clause-one_of_nine
invariant_of-registrations-clause-one_of_nine c = c.requires.0.low

pub label_of-label-requires : goal.label_of-label-requires
label_of-label-requires c =
    let known = reference-fits c.args.f c.args.archive.now (take c.table_words-words.result c.args.room.now) c.args.context
    c.args.lookup.table c.args.until
    c.args.lookup.reference c.requires.1.reference c.requires.0.short in
    (c.requires.0.low, c.requires.1.low, c.requires.1.high, (subst KnownFits (sym c.resolve.ensures ∙ c.in-Known.is) known).1)

pub index_of-index-requires : goal.index_of-index-requires
unfolding label_of
index_of-index-requires c =
    let known = reference-fits c.args.f c.args.archive.now (take c.table_words-words.result c.args.room.now) c.args.context
    c.args.lookup.table c.args.until
    c.args.lookup.reference c.requires.1.reference c.requires.0.short in
    let low = (subst KnownFits (sym c.resolve.ensures ∙ c.in-Known.is) known).1 in (
      slots_wide c.args.f c.table_words-words.result c.args.room.now c.requires.0.limits c.table_words-words.ensures c.requires.0.wide,
      omega (arith, c.label_of-label.ensures, low, c.requires.0.low, c.requires.1.low, c.requires.1.high),
    )

pub returns-in-Bad : goal.returns-in-Bad
unfolding spelled_of
returns-in-Bad c =
    rw (← c.table_words-words.ensures, ← c.resolve.ensures, c.in-Bad.is)

pub returns-in-Unresolved : goal.returns-in-Unresolved
unfolding spelled_of
returns-in-Unresolved c =
    rw (← c.table_words-words.ensures, ← c.resolve.ensures, c.in-Unresolved.is)

pub returns-in-Known : goal.returns-in-Known
unfolding spelled_of
returns-in-Known c =
    let index = rw (part_from c.table_words-words.result c.args.room.now) at c.index_of-index.ensures in
    rw (
      ← c.table_words-words.ensures,
      ← c.resolve.ensures,
      c.in-Known.is,
      ← c.table_words-words.ensures,
      ← c.label_of-label.ensures,
    ) (rw index)
