use Prim.Native.Nat.{◌-◌}
use lib.ListN.{length, drop}
use Rattle.indexing.specs.Models.Indexes.{Waiting}
use Rattle.tables.specs.Table.{table_words}
use Rattle.encoding.specs.Models.Output.{Same}
use Rattle.rewriting.proofs.Passing.{Passing}
use Rattle.second_pass.proofs.write_all.Given as goal

abbrev pub invariant-loop-s : goal.invariant-loop-s
invariant-loop-s l = Passing l.f l.archive l.initial.room l.initial.output.buffer.now l.room l.output.buffer.now l.s l.output.place
    × Waiting (table_words l.f) (drop (table_words l.f) l.room) l.waiting
    × Same l.initial.output l.output

abbrev pub decreases-loop-s : goal.decreases-loop-s
decreases-loop-s l = length l.archive - l.s.place
