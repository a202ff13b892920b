use Rattle.std.proofs.Common.{◌≡◌, length}
use Rattle.std.specs.Prelude.{◌&&◌}
use Rattle.image_groups.specs.Groups.{granted, group_of}
use Rattle.image_groups.specs.Reach.{is_touched}
use Rattle.mm_groups.proofs.WalkLemmas.{any_from}
use Rattle.mm_groups.proofs.closed_group.is_granted.Given as goal

-- The images that are left decide as all of them do.
abbrev pub invariant-loop-image : goal.invariant-loop-image
invariant-loop-image l =
    any_from (λ image. group_of l.group image && is_touched l.core.site.supervised image l.kind l.unit)
    (length l.core.site.supervised.images) l.image
    ≡ granted (group_of l.group) l.core.site.supervised l.kind l.unit
