-- `inthuchot_repack` meets its contract: what `packer::repack` answers is put.
use mathlib.Core.Path.{ap, ◌∙◌}
use Rattle.packer.specs.Pack.{Packed}
use Rattle.blocks.specs.Block.{put_numbers}
use Rattle.exports.specs.Block.{packed_numbers}
use Rattle.exports.proofs.inthuchot_repack.Goals as goal

pub returns : goal.returns
returns c = record {
  value = c.put_packed.ensures.value;
  out_after = c.put_packed.ensures.out_after ∙ ap (λ (p : Packed). put_numbers c.args.out.now (packed_numbers p)) c.repack.ensures.value;
  room_after = c.repack.ensures.room_after;
  output_after = c.repack.ensures.output_after;
}
