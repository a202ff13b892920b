use Rattle.std.proofs.Common.{◌≡◌, length}
use Rattle.std.specs.Prelude.{◌&&◌, not}
use Rattle.image_groups.specs.ClosedInside.{is_written_outside}
use Rattle.image_groups.specs.Groups.{group_of}
use Rattle.image_groups.specs.Reach.{reach}
use Rattle.mm_base.specs.declared.access.Right.TheVariants.{Write}
use Rattle.mm_groups.proofs.WalkLemmas.{any_from}
use Rattle.mm_groups.proofs.closed_group.is_written_outside.Given as goal

-- The images that are left decide as all of them do.
abbrev pub invariant-loop-image : goal.invariant-loop-image
invariant-loop-image l =
    any_from (λ image. not (group_of l.group image) && reach l.core.site.supervised image l.kind l.unit Write)
    (length l.core.site.supervised.images) l.image
    ≡ is_written_outside (group_of l.group) l.core.site.supervised l.kind l.unit
