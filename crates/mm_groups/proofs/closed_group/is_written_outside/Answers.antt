use Rattle.std.proofs.Common.{length, arith}
use Rattle.std.specs.Prelude.{◌&&◌, not}
use Rattle.image_groups.specs.ClosedInside.{is_written_outside}
use Rattle.image_groups.specs.Groups.{group_of}
use Rattle.image_groups.specs.Reach.{reach}
use Rattle.mm_base.specs.declared.access.Right.TheVariants.{Write}
use Rattle.mm_groups.proofs.WalkLemmas.{any_on}
use Rattle.mm_groups.proofs.closed_group.is_written_outside.Goals as goal

pub loop-image-preserved : goal.loop-image-preserved
loop-image-preserved c =
    any_on (λ image. not (group_of c.args.group.now image) && reach c.args.core.now.site.supervised image c.args.kind c.args.unit Write)
    (length c.args.core.now.site.supervised.images) c.loop-image.image
    (is_written_outside (group_of c.args.group.now) c.args.core.now.site.supervised c.args.kind c.args.unit) c.loop-image.invariant
    c.writes_outside.result (omega arith) c.writes_outside.ensures c.if-writes_outside.false
