-- Bounds that functions ask for.
use Rattle.std.specs.Prelude.{◌≤◌}
use Rattle.format.specs.declared.Format.{Format}
use Rattle.records.specs.declared.Effect.{Effect}
use Rattle.records.specs.declared.Effect.TheVariants.{Stop, Pass, Enter, SetRate, Register}
use Rattle.tables.specs.Table.{highest_of}

-- the index of what is registered is one of its table
abbrev pub EffectFits : Format → Effect → Type 0
EffectFits f (Stop number) = Unit {0}
EffectFits f Pass = Unit {0}
EffectFits f (Enter id) = Unit {0}
EffectFits f (SetRate rate) = Unit {0}
EffectFits f (Register table index place long) = index ≤ highest_of f table
