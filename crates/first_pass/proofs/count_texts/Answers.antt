-- `first_pass::count_texts` meets its contract: the name and then the text are counted, as the definition does. Assumes nothing.
use mathlib.Core.Path.{ap, sym, ◌∙◌}
use mathlib.Core.List.{[], ◌∷◌}
use mathlib.Core.Bool.{Bool, true, ◌&&◌, and-true}
use native.Mathlib.Omega.{arith}
use Rattle.records.specs.Lookups.{text_lookup}
use Rattle.first_pass.proofs.Laws.{counted_none, counted_then, can_after, recalls_after_one}
use Rattle.first_pass.proofs.count_texts.Goals as goal

-- the clauses, of their product
by_clause : {A B : Type 0} → A × B → record { value : A; room_after : B }
by_clause w = record { value = w.0; room_after = w.1 }

pub count_text-valued-requires : goal.count_text-valued-requires
count_text-valued-requires c = (
  can_after c.args.f c.args.archive.now c.args.room.now c.args.context c.args.until c.requires.0 c.count_text-named.new.room c.room-1.given,
  c.requires.2,
  recalls_after_one c.args.f c.args.archive.now
      c.args.room.now c.args.context c.args.until c.requires.0 c.count_text-named.new.room c.room-1.given (text_lookup c.args.name)
      (omega arith) (omega arith) c.requires.1 c.requires.3 c.count_text-named.ensures.room_after,
)

pub returns : goal.returns
returns c = by_clause (let name = text_lookup c.args.name in
    let text = text_lookup c.args.value in
    let behind = counted_then c.args.f c.args.archive.now c.count_text-named.new.room c.args.context c.args.until text [] (omega (
      arith,
      c.requires.0.wide,
      c.room-1.given,
    ))
    c.count_text-valued.result true c.count_text-valued.new.room c.count_text-valued.new.room (
      c.count_text-valued.ensures.value,
      c.count_text-valued.ensures.room_after,
    ) (counted_none c.args.f c.args.archive.now c.count_text-valued.new.room c.args.context
    c.args.until) in
    let q = counted_then c.args.f c.args.archive.now c.args.room.now c.args.context c.args.until name (text ∷ []) (omega (
      arith,
      c.requires.0.wide,
    )) c.count_text-named.result
    (c.count_text-valued.result && true) c.count_text-named.new.room c.count_text-valued.new.room (
      c.count_text-named.ensures.value,
      c.count_text-named.ensures.room_after,
    ) behind in
    (c.both.ensures ∙ (ap (λ (b : Bool). c.count_text-named.result && b) (sym (and-true c.count_text-valued.result)) ∙ q.0), q.1))
