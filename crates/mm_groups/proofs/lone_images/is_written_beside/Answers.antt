use Rattle.std.proofs.Common.{false, length, get_or, arith}
use Rattle.std.specs.Prelude.{◌==◌, ◌&&◌, not}
use Rattle.mm_groups.proofs.WalkLemmas.{any_on}
use Rattle.mm_groups.proofs.lone_images.is_written_beside.Goals as goal

pub loop-image-preserved : goal.loop-image-preserved
loop-image-preserved c =
    any_on (λ image. not (c.args.number == image) && get_or c.args.writers.now image false) (length c.args.writers.now) c.loop-image.image _
    c.loop-image.invariant c.is_another_writer.result (omega arith) c.is_another_writer.ensures c.if-is_another_writer.false
