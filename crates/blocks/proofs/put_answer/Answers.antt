-- `put_answer` meets its contract: each case is a short block, or a report's.
use Rattle.blocks.specs.Block.{answer_numbers}
use Rattle.blocks.proofs.put_answer.Goals as goal

pub returns-in-End : goal.returns-in-End
unfolding answer_numbers
returns-in-End c = rw (c.in-End.is, ← c.from.ensures) c.put_short.ensures

pub returns-in-Nothing : goal.returns-in-Nothing
unfolding answer_numbers
returns-in-Nothing c = rw c.in-Nothing.is c.put_short-in-Nothing.ensures

pub returns-in-Magic : goal.returns-in-Magic
unfolding answer_numbers
returns-in-Magic c = rw c.in-Magic.is c.put_short-in-Magic.ensures

pub returns-in-ProviderInfo : goal.returns-in-ProviderInfo
unfolding answer_numbers
returns-in-ProviderInfo c = rw (c.in-ProviderInfo.is, ← c.from-in-ProviderInfo.ensures) c.put_short-in-ProviderInfo.ensures

pub returns-in-Section : goal.returns-in-Section
unfolding answer_numbers
returns-in-Section c = rw (c.in-Section.is, ← c.from-in-Section.ensures) c.put_short-in-Section.ensures

pub returns-in-ProviderEvent : goal.returns-in-ProviderEvent
unfolding answer_numbers
returns-in-ProviderEvent c = rw (c.in-ProviderEvent.is, ← c.from-in-ProviderEvent.ensures, ← c.from-in-ProviderEvent-2.ensures) c.put_short-in-ProviderEvent.ensures

pub returns-in-Initialization : goal.returns-in-Initialization
unfolding answer_numbers
returns-in-Initialization c = rw c.in-Initialization.is c.put_short-in-Initialization.ensures

pub returns-in-Report : goal.returns-in-Report
returns-in-Report c = rw c.in-Report.is c.put_report.ensures

pub returns-in-Skipped : goal.returns-in-Skipped
unfolding answer_numbers
returns-in-Skipped c = rw (c.in-Skipped.is, ← c.from-in-Skipped.ensures) c.put_short-in-Skipped.ensures
