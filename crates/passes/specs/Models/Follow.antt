-- What a pass over an archive makes of the state and the tables at a record that ends at `next`: what the record's effect does.
use Rattle.std.specs.Prelude.{ℕ, List, Result}
use Rattle.format.specs.declared.Format.{Format}
use Rattle.records.specs.declared.Content.{Content}
use Rattle.records.specs.Effect.{effect_of}
use Rattle.contexts.specs.declared.State.{State}
use Rattle.effects.specs.Follow.{followed, on_followed, change_of, changed}

-- the state to go on from, or the number that the pass is stopped by
abbrev pub after_record : State → Content → ℕ → Result State ℕ
after_record s content next = followed s (effect_of content) next

-- the number that the pass is stopped by, or 0
abbrev pub stop_after : State → Content → ℕ → ℕ
stop_after s content next = on_followed (after_record s content next) (λ number. number) (λ state. 0)

-- the state to go on from, or, where the pass is stopped, the one that it stands in
abbrev pub state_after : State → Content → ℕ → State
state_after s content next = on_followed (after_record s content next) (λ number. s) (λ state. state)

abbrev pub tables_after : Format → List ℕ → State → Content → List ℕ
tables_after f tables s content = changed tables (change_of f s (effect_of content))
