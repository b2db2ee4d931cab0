-- `first_pass::check_record` meets its contract: each answer is what the definition gives for the content, where the record keeps all. Assumes nothing.
use mathlib.Core.Path.{◌≡◌, refl, sym, subst, ◌∙◌}
use mathlib.Core.Bool.{true}
use lib.ListN.{take-append-drop}
use Rattle.records.specs.declared.Content.{Content}
use Rattle.records.specs.Record.{record_at}
use Rattle.records.proofs.Lookups.{other_arm}
use Rattle.tables.specs.Table.{table_words}
use Rattle.first_pass.specs.Models.Count.{tables_in, slots_in, plain_words, report_checked, report_slots, keeps_to, record_checked, checked_slots}
use Rattle.std.specs.Prelude.{Ok}
use Rattle.words.specs.Word.{pick}
use borrow.Enum.Refused.{opened}
use Rattle.first_pass.proofs.check_record.Goals as goal

-- the clauses, of their product
by_clause : {A B : Type 0} → A × B → record { value : A; room_after : B }
by_clause w = record { value = w.0; room_after = w.1 }

pub check_report-requires : goal.check_report-requires
check_report-requires c =
    let q = c.requires.3 _ c.in-Report.is in (
      c.requires.0,
      (
        c.requires.1.0,
        subst (λ (x : Content). record_at c.args.f c.args.archive.now c.args.s.place ≡ record { content = x; next = c.args.next }) c.in-Report.is
            c.requires.1.1,
      ),
      q.1,
      q.0,
      subst (λ (x : Content). keeps_to c.args.f c.args.archive.now c.args.s x c.args.next ≡ true) c.in-Report.is (sym
          c.requires.2 ∙ c.if-keeps.true),
    )

pub returns-in-Report : goal.returns-in-Report
unfolding record_checked checked_slots
returns-in-Report c = by_clause (rw (← c.requires.2, c.if-keeps.true, c.in-Report.is) (
  c.check_report.ensures.value,
  c.check_report.ensures.room_after,
))

pub returns-in_default : goal.returns-in_default
unfolding record_checked checked_slots
returns-in_default c = by_clause (let tables = tables_in c.args.f c.args.room.now in
    let slots = slots_in c.args.f c.args.room.now in
    let found = other_arm c.args.content (Ok (plain_words c.args.content))
    (λ r. report_checked c.args.f c.args.archive.now tables slots c.args.s r c.args.next c.args.clean) (opened c.in_default.in_default-own.keys2) in
    let stay = other_arm c.args.content slots
    (λ r. pick c.args.clean (report_slots c.args.f c.args.archive.now tables slots c.args.s r c.args.next) slots) (opened
    c.in_default.in_default-own.keys2) in
    rw (← c.requires.2, c.if-keeps.true, c.plain_words.ensures, found, stay) (
      refl,
      sym (take-append-drop (table_words c.args.f)
          c.args.room.now),
    ))

pub returns : goal.returns
unfolding record_checked checked_slots
returns c = by_clause (rw (← c.requires.2, c.if-keeps.false) (refl, sym (take-append-drop (table_words c.args.f) c.args.room.now)))
