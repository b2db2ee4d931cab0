-- `format::padding_zero` meets its contract: each answer is what the definition gives under the tests that led there. Assumes nothing.
use native.Mathlib.Nat.{add-sub_cancel_left}
use mathlib.Core.Path.{◌∙◌}
use Rattle.format.specs.Part.{padding_zero}
use Rattle.format.proofs.padding_zero.Goals as goal

pub returns-in-Index : goal.returns-in-Index
unfolding padding_zero
returns-in-Index c = simp c.in-Index.is

pub returns-in-Inline : goal.returns-in-Inline
unfolding padding_zero
returns-in-Inline c = c.all_zero.ensures ∙ simp (add-sub_cancel_left, c.stream_words.ensures, c.in-Inline.is)
