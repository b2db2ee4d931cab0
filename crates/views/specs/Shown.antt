-- What references are shown as in an event and in an argument, after "The list of items" and number 4 of document 01.
use Rattle.std.specs.Prelude.{ℕ, ◌+◌, [], List, ◌∷◌, Bool, true, false, Option, eqb}
use Rattle.words.specs.Word.{pick, word_at}
use Rattle.format.specs.declared.Format.{Format}
use Rattle.format.specs.declared.Reference.{Reference}
use Rattle.format.specs.declared.Reference.TheVariants.{Inline, Index}
use Rattle.arguments.specs.declared.Value.{Value}
use Rattle.arguments.specs.declared.Value.TheVariants.{Scalar, Text as ValueText}
use Rattle.records.specs.declared.Lookup.{Lookup}
use Rattle.records.specs.declared.Report.{Report}
use Rattle.contexts.specs.declared.State.{State}
use Rattle.contexts.specs.Context.{provider_of, rate_of}
use Rattle.tables.specs.declared.Resolved.{Resolved}
use Rattle.tables.specs.declared.Resolved.TheVariants.{Bad, Known, Unresolved}
use Rattle.tables.specs.Table.{resolved, looked_up}
use Rattle.views.specs.declared.ShownStream.{ShownStream}
use Rattle.views.specs.declared.ShownText.{ShownText}
use Rattle.views.specs.declared.ShownText.TheVariants.{At, Unresolved as TextUnresolved}
use Rattle.views.specs.declared.ShownThread.{ShownThread}
use Rattle.views.specs.declared.ShownThread.TheVariants.{Words, Unresolved as ThreadUnresolved}
use Rattle.views.specs.declared.ShownReferent.{ShownReferent}
use Rattle.views.specs.declared.ShownReferent.TheVariants.{Text as TextReferentShown, Thread as ThreadShown}
use Rattle.views.specs.declared.ShownReport.{ShownReport}
use Rattle.views.specs.declared.ShownValue.{ShownValue}
use Rattle.views.specs.declared.ShownValue.TheVariants.{Scalar as ScalarShown, Text as TextShown}

-- whether a looked-up entry does not belong
unfoldable pub is_bad : Resolved → Bool
is_bad Bad = true
is_bad (Known place length) = false
is_bad (Unresolved index) = false

-- how a text is shown; a bad entry is never shown, since number 4 comes first
unfoldable pub shown_text : Resolved → ShownText
shown_text Bad = TextUnresolved 0
shown_text (Known place length) = At place length
shown_text (Unresolved index) = TextUnresolved index

-- how a thread is shown: its process word and its thread word
unfoldable pub shown_thread : Format → List ℕ → Resolved → ShownThread
shown_thread f archive Bad = ThreadUnresolved 0
shown_thread f archive (Known place length) = Words (word_at f.order archive place) (word_at f.order archive (place + 8))
shown_thread f archive (Unresolved index) = ThreadUnresolved index

-- what a record refers to, by its table
unfoldable pub shown_referent : Format → List ℕ → ℕ → Resolved → ShownReferent
shown_referent f archive table r = pick (eqb table 3) (ThreadShown (shown_thread f archive r)) (TextReferentShown (shown_text r))

-- a stream that is no reference
unfoldable pub shown_stream : Reference → ShownStream
shown_stream (Inline place length) = record { place = place; length = length }
shown_stream (Index index) = record { place = 0; length = 0 }

-- "An event item holds its provider id or none, type, timestamp, the rate in force, process and thread (or unresolved), category, name,
-- arguments, and extra word."
abbrev pub shown_at : Format → List ℕ → (place : ℕ) → Option ℕ → (rate : ℕ) → Report → Resolved → Resolved → Resolved → ShownReport
shown_at f archive place provider rate r a b c =
    record {
      place = place;
      provider = provider;
      rate = rate;
      own = r.own;
      first = shown_referent f archive r.first.table a;
      second = shown_referent f archive r.second.table b;
      third = shown_referent f archive r.third.table c;
      stream = shown_stream r.stream;
      count = r.count;
      last = r.last;
    }

unfoldable pub shown_report : Format → List ℕ → State → Report → Resolved → Resolved → Resolved → ShownReport
shown_report f archive s r a b c = shown_at f archive s.place (provider_of s) (rate_of s) r a b c

-- whether no entry that a record is looked up in is bad
unfoldable pub none_bad : Format → List ℕ → List ℕ → ℕ → ℕ → List Lookup → Bool
none_bad f archive tables context until [] = true
none_bad f archive tables context until (l ∷ more) =
    pick (is_bad (looked_up f archive tables context until l)) false (none_bad f archive tables context until more)

unfoldable pub shown_value : Format → List ℕ → List ℕ → ℕ → ℕ → Value → ShownValue
shown_value f archive tables context until (Scalar s) = ScalarShown s
shown_value f archive tables context until (ValueText reference) = TextShown (shown_text (resolved f archive tables context 2 until reference))
