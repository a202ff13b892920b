use Rattle.std.proofs.Common.{length, arith}
use Rattle.std.specs.Prelude.{◌&&◌}
use Rattle.image_groups.specs.Groups.{granted, group_of}
use Rattle.image_groups.specs.Reach.{is_touched}
use Rattle.mm_groups.proofs.WalkLemmas.{any_begun, any_on}
use Rattle.mm_groups.proofs.closed_group.is_granted.Goals as goal

pub loop-image-init : goal.loop-image-init
unfolding granted
loop-image-init c =
    any_begun (λ image. group_of c.args.group.now image && is_touched c.args.core.now.site.supervised image c.args.kind c.args.unit)
    (length c.args.core.now.site.supervised.images)

pub loop-image-preserved : goal.loop-image-preserved
loop-image-preserved c =
    any_on (λ image. group_of c.args.group.now image && is_touched c.args.core.now.site.supervised image c.args.kind c.args.unit)
    (length c.args.core.now.site.supervised.images) c.loop-image.image
    (granted (group_of c.args.group.now) c.args.core.now.site.supervised c.args.kind c.args.unit) c.loop-image.invariant
    c.touches_inside.result (omega arith) c.touches_inside.ensures c.if-touches_inside.false
