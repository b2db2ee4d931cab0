-- `packer::repack` meets its contract: the first checks, both passes in a cleared room, and demand 3 by the law `demand`.
use lib.ListN.{length}
use native.Mathlib.Omega.{arith}
use mathlib.Core.Path.{refl}
use Rattle.std.proofs.lemmas.Result.{err_from_is_err_and}
use Rattle.packer.specs.Pack.{packing_number}
use Rattle.packer.proofs.Demand.{opened, refused_reply, passed_reply, demand}
use Rattle.tables.proofs.Tables.{small_format_lem}
use Rattle.packer.proofs.Room.{cleared-first, cleared-last}
use Rattle.packer.proofs.repack.Goals as goal

-- the clauses, of their product
by_clause : {A B C D : Type 0} → A × (B × (C × D)) → record { value : A; room_after : B; output_after : C; shortest : D }
by_clause w = record { value = w.0; room_after = w.1.0; output_after = w.1.1.0; shortest = w.1.1.1 }

pub check_packing-requires : goal.check_packing-requires
check_packing-requires c = small_format_lem c.small_format-f.result c.small_format-f.ensures

pub returns-in_err-check_packing : goal.returns-in_err-check_packing
returns-in_err-check_packing c =
    let by = err_from_is_err_and c.from_residual.result c.from_residual.ensures.1 in
    let refused = c.in_err-check_packing.ensures in
    let r = rw c.small_format-f.ensures at (refused_reply c.small_format-f.result c.args.archive.now c.args.room.now c.args.output.now
    (packing_number c.small_format-f.result c.args.archive.now (length c.args.room.now)) refl (λ z. omega (arith, z, refused.0))) in
    rw (by.1, by.2, refused.1, c.small_format-f.ensures) (by_clause (r.0, (r.1, (r.2, tt))))

pub table_words-words-requires : goal.table_words-words-requires
table_words-words-requires c = small_format_lem c.small_format-f.result c.small_format-f.ensures

pub overflow_mul-words : goal.overflow_mul-words
overflow_mul-words c =
    omega (arith, c.table_words-words.ensures, (small_format_lem c.small_format-f.result c.small_format-f.ensures).indexes)

pub clear-requires : goal.clear-requires
clear-requires c =
    omega (
      arith,
      c.table_words-words.ensures,
      (opened c.small_format-f.result c.args.archive.now (length c.args.room.now) c.in_ok-check_packing.ensures).1,
    )

pub pack-packed-requires : goal.pack-packed-requires
pack-packed-requires c =
    let o = opened c.small_format-f.result c.args.archive.now (length c.args.room.now) c.in_ok-check_packing.ensures in
    let first = cleared-first c.small_format-f.result c.args.room.now c.clear.new.tables c.table_words-words.result
    c.table_words-words.ensures o.1 c.clear.ensures in
    (c.small_format-f.ensures, o.0, omega (arith, o.1, first.0), first.1)

pub clear-requires-2 : goal.clear-requires-2
clear-requires-2 c =
    let o = opened c.small_format-f.result c.args.archive.now (length c.args.room.now) c.in_ok-check_packing.ensures in
    let first = cleared-first c.small_format-f.result c.args.room.now c.clear.new.tables c.table_words-words.result
    c.table_words-words.ensures o.1 c.clear.ensures in
    omega (arith, c.table_words-words.ensures, o.1, first.0, c.pack-packed.ensures.room_len_unchanged.0)

pub returns : goal.returns
returns c = by_clause (let last =
    cleared-last c.small_format-f.result c.args.room.now c.clear.new.tables c.pack-packed.new.room c.clear-2.new.tables c.table_words-words.result
    c.table_words-words.ensures c.clear.ensures c.pack-packed.ensures.room_len_unchanged.1 c.clear-2.ensures in
    let p = rw c.small_format-f.ensures at
    (passed_reply c.small_format-f.result c.args.archive.now c.args.room.now c.args.output.now c.pack-packed.result c.clear-2.new.tables
    c.pack-packed.new.output c.in_ok-check_packing.ensures c.pack-packed.ensures.value last
    c.pack-packed.ensures.output_after) in (
      p.0,
      (p.1, (p.2, rw (p.0, p.2) (demand c.args.archive.now (length c.args.room.now) c.args.output.now (λ i. omega (arith, c.type_inv.archive i))))),
    ))
