use Rattle.std.proofs.Common.{◌≡◌, ◌-◌, length, drop}
use Rattle.std.specs.List.{list_all}
use Rattle.image_groups.specs.ClosedInside.{is_apart, is_apart_at}
use Rattle.image_groups.specs.Ends.{ends_of}
use Rattle.image_groups.specs.Groups.{group_of}
use Rattle.mm_groups.proofs.closed_group.is_apart.Given as goal

-- The ends that are left decide as all of them do.
abbrev pub invariant-loop-unit : goal.invariant-loop-unit
invariant-loop-unit l =
    list_all (is_apart_at (group_of l.group) l.core.site.supervised l.kind) (drop l.k (ends_of l.kind l.core.site.supervised))
    ≡ is_apart (group_of l.group) l.core.site.supervised l.kind

abbrev pub decreases-loop-unit : goal.decreases-loop-unit
decreases-loop-unit l = length (ends_of l.kind l.core.site.supervised) - l.k
