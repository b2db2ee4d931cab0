-- `put_answer` meets its contract: what is put is the definition's for each case of an answer.
use Rattle.item_lines.specs.Line.{magic_line, answer_line}
use Rattle.lines.proofs.Puts.{adds_none}
use Rattle.item_lines.proofs.put_answer.Goals as goal

pub returns-in-End : goal.returns-in-End
unfolding answer_line
returns-in-End c = rw c.in-End.is c.put_end.ensures

pub returns-in-Nothing : goal.returns-in-Nothing
unfolding answer_line
returns-in-Nothing c =
    rw c.in-Nothing.is (adds_none c.args.out.now)

pub returns-in-Magic : goal.returns-in-Magic
unfolding answer_line magic_line
returns-in-Magic c =
    rw c.in-Magic.is c.put_bytes.ensures

pub returns-in-ProviderInfo : goal.returns-in-ProviderInfo
unfolding answer_line
returns-in-ProviderInfo c =
    rw (c.in-ProviderInfo.is, ← c.text.ensures) c.put_provider_info.ensures

pub returns-in-Section : goal.returns-in-Section
unfolding answer_line
returns-in-Section c =
    rw c.in-Section.is c.put_section.ensures

pub returns-in-ProviderEvent : goal.returns-in-ProviderEvent
unfolding answer_line
returns-in-ProviderEvent c =
    rw c.in-ProviderEvent.is c.put_provider_event.ensures

pub returns-in-Initialization : goal.returns-in-Initialization
unfolding answer_line
returns-in-Initialization c =
    rw c.in-Initialization.is c.put_initialization.ensures

pub returns-in-Report : goal.returns-in-Report
unfolding answer_line
returns-in-Report c = rw c.in-Report.is c.put_report.ensures

pub returns-in-Skipped : goal.returns-in-Skipped
unfolding answer_line
returns-in-Skipped c =
    rw c.in-Skipped.is c.put_skipped.ensures
