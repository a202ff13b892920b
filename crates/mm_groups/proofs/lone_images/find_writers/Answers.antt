use Rattle.std.proofs.Common.{false, length, arith}
use Rattle.std.proofs.lemmas.List.FromFn.{fill_by_all}
use Rattle.image_groups.specs.Reach.{reach}
use Rattle.mm_base.specs.declared.access.Right.TheVariants.{Write}
use Rattle.mm_groups.proofs.lone_images.find_writers.Goals as goal

pub returns : goal.returns
returns c =
    fill_by_all (λ image. reach c.args.core.now.site.supervised image c.args.kind c.args.unit Write) c.loop-image.writers
    (length c.args.core.now.site.supervised.images) false c.loop-image.invariant.room
    (λ image there. c.loop-image.invariant.found image (omega arith))
