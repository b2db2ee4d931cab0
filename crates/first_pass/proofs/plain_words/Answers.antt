-- `first_pass::plain_words` meets its contract: each content takes the words that the definition gives. Assumes nothing.
use Rattle.first_pass.specs.Models.Count.{plain_words}
use Rattle.first_pass.proofs.plain_words.Goals as goal

pub returns-in-ProviderInfo : goal.returns-in-ProviderInfo
unfolding plain_words
returns-in-ProviderInfo c = simp (← c.stream_words.ensures, c.in-ProviderInfo.is)

pub returns-in-Magic : goal.returns-in-Magic
unfolding plain_words
returns-in-Magic c = simp c.in-Magic.is

pub returns-in-Section : goal.returns-in-Section
unfolding plain_words
returns-in-Section c = simp c.in-Section.is

pub returns-in-ProviderEvent : goal.returns-in-ProviderEvent
unfolding plain_words
returns-in-ProviderEvent c = simp c.in-ProviderEvent.is

pub returns-in-Initialization : goal.returns-in-Initialization
unfolding plain_words
returns-in-Initialization c = simp c.in-Initialization.is

pub returns-in-Refused : goal.returns-in-Refused
unfolding plain_words
returns-in-Refused c = simp c.in-Refused.is

pub returns-in-String : goal.returns-in-String
unfolding plain_words
returns-in-String c = simp c.in-String.is

pub returns-in-Thread : goal.returns-in-Thread
unfolding plain_words
returns-in-Thread c = simp c.in-Thread.is

pub returns-in-Report : goal.returns-in-Report
unfolding plain_words
returns-in-Report c = simp c.in-Report.is

pub returns-in-Ignored : goal.returns-in-Ignored
unfolding plain_words
returns-in-Ignored c = simp c.in-Ignored.is

pub returns-in-Skipped : goal.returns-in-Skipped
unfolding plain_words
returns-in-Skipped c = simp c.in-Skipped.is
