use Rattle.image_groups.specs.ClosedInside.{is_apart_at}
use Rattle.image_groups.specs.Groups.{alone}
use Rattle.mm_groups.proofs.FlagLemmas.{ImagesFrom}
use Rattle.mm_groups.proofs.lone_images.lower_by_unit.Given as goal

-- The images that are left lower the flags as all of them lower those at the start.
abbrev pub invariant-loop-image : goal.invariant-loop-image
invariant-loop-image l =
    ImagesFrom (λ image. is_apart_at (alone image) l.core.site.supervised l.kind l.unit) l.image l.fn.flags l.flags
