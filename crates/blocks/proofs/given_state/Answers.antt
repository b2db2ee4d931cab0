-- `given_state` meets its contract: where numbers are missing, zeros stand behind those that are there (given_over).
use mathlib.Core.Path.{◌∙◌}
use lib.ListN.{length}
use Rattle.blocks.proofs.Given.{given_over}
use Rattle.blocks.proofs.given_state.Goals as goal

pub returns-then-numbers-lt20 : goal.returns-then-numbers-lt20
returns-then-numbers-lt20 c =
    c.whole_state.ensures ∙ given_over (length c.args.numbers.now) c.copy_from_slice.new.self c.args.numbers.now c.copy_from_slice.ensures.after
