use Rattle.image_groups.specs.ClosedInside.{are_same}
use Rattle.image_groups.specs.Groups.{alone, is_handler_of}
use Rattle.mm_groups.proofs.FlagLemmas.{ImagesFrom}
use Rattle.mm_groups.proofs.lone_images.lower_owner_of_one.Given as goal

-- The images that are left lower the flags as all of them lower those at the start.
abbrev pub invariant-loop-image : goal.invariant-loop-image
invariant-loop-image l =
    ImagesFrom (λ image. are_same (is_handler_of (alone image) l.handler) (is_handler_of (alone image) l.other)) l.image l.fn.flags l.flags
