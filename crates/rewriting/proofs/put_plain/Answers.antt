-- `rewriting::put_plain` meets its contract: content by content, the record is the one of its item, and nothing where it shows none. Assumes nothing.
use mathlib.Core.Path.{sym}
use native.Mathlib.Omega.{arith}
use Rattle.passes.specs.Models.Item.{plain_item}
use Rattle.words.specs.Stream.{magic as magic_bytes}
use Rattle.records.specs.Item.{magic}
use Rattle.encoding.proofs.Headers.{length-plain}
use Rattle.encoding.proofs.EncodedItems.{magic_record}
use Rattle.encoding.proofs.Writing.{writes_none, writes_same}
use Rattle.rewriting.proofs.put_plain.Goals as goal

pub put_magic-requires : goal.put_magic-requires
unfolding plain_item magic_bytes
put_magic-requires c =
    let room = rw c.in-Magic.is at c.requires.1 in
    omega (arith, room, length-plain c.args.out.now.format magic)

pub put_provider_info-requires : goal.put_provider_info-requires
unfolding plain_item
put_provider_info-requires c =
    rw c.text.ensures (rw c.in-ProviderInfo.is at c.requires.0, rw c.in-ProviderInfo.is at c.requires.1)

pub put_section-requires : goal.put_section-requires
unfolding plain_item
put_section-requires c =
    rw c.in-Section.is at c.requires.1

pub put_provider_event-requires : goal.put_provider_event-requires
unfolding plain_item
put_provider_event-requires c =
    (rw c.in-ProviderEvent.is at c.requires.0, rw c.in-ProviderEvent.is at c.requires.1)

pub put_initialization-requires : goal.put_initialization-requires
unfolding plain_item
put_initialization-requires c =
    rw c.in-Initialization.is at c.requires.1

pub returns-in-Magic : goal.returns-in-Magic
unfolding plain_item magic_bytes
returns-in-Magic c = rw c.in-Magic.is (writes_same c.put_magic.ensures (sym (magic_record c.args.out.now.format (λ key. 0))))

pub returns-in-ProviderInfo : goal.returns-in-ProviderInfo
unfolding plain_item
returns-in-ProviderInfo c = rw c.in-ProviderInfo.is (rw c.text.ensures at c.put_provider_info.ensures)

pub returns-in-Section : goal.returns-in-Section
unfolding plain_item
returns-in-Section c = rw c.in-Section.is c.put_section.ensures

pub returns-in-ProviderEvent : goal.returns-in-ProviderEvent
unfolding plain_item
returns-in-ProviderEvent c = rw c.in-ProviderEvent.is c.put_provider_event.ensures

pub returns-in-Initialization : goal.returns-in-Initialization
unfolding plain_item
returns-in-Initialization c = rw c.in-Initialization.is c.put_initialization.ensures

pub returns-in-Report : goal.returns-in-Report
unfolding plain_item
returns-in-Report c = rw c.in-Report.is (writes_none c.args.out.now)

pub returns-in-Refused : goal.returns-in-Refused
unfolding plain_item
returns-in-Refused c = rw c.in-Refused.is (writes_none c.args.out.now)

pub returns-in-String : goal.returns-in-String
unfolding plain_item
returns-in-String c = rw c.in-String.is (writes_none c.args.out.now)

pub returns-in-Thread : goal.returns-in-Thread
unfolding plain_item
returns-in-Thread c = rw c.in-Thread.is (writes_none c.args.out.now)

pub returns-in-Ignored : goal.returns-in-Ignored
unfolding plain_item
returns-in-Ignored c = rw c.in-Ignored.is (writes_none c.args.out.now)

pub returns-in-Skipped : goal.returns-in-Skipped
unfolding plain_item
returns-in-Skipped c = absurd (rw c.in-Skipped.is at c.requires.0)
