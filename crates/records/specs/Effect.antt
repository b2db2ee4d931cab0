-- What a record does to the state and the tables of a reading, after "Contexts" of document 01, apart from what is shown of it: the one list of
-- kinds that a step of the reader and the passes of the repacker follow.
use Rattle.records.specs.declared.Content.{Content}
use Rattle.records.specs.declared.Content.TheVariants.{Refused, Magic, ProviderInfo, Section, ProviderEvent, Initialization, String, Thread, Report, Ignored, Skipped}
use Rattle.records.specs.declared.Effect.{Effect}
use Rattle.records.specs.declared.Effect.TheVariants.{Stop, Pass, Enter, SetRate, Register}

-- "provider info or a section makes its id current"; "Provider event makes nothing current and opens nothing."; "A string or thread record sets
-- one entry of the current context's table"; an initialization record sets the current context's rate. A thread's two words are 16 bytes.
unfoldable pub effect_of : Content → Effect
effect_of (Refused number) = Stop number
effect_of Magic = Pass
effect_of (ProviderInfo id place long) = Enter id
effect_of (Section id) = Enter id
effect_of (ProviderEvent id event) = Pass
effect_of (Initialization rate) = SetRate rate
effect_of (String index place long) = Register 2 index place long
effect_of (Thread index place) = Register 3 index place 16
effect_of (Report r) = Pass
effect_of Ignored = Pass
effect_of (Skipped type size) = Pass
