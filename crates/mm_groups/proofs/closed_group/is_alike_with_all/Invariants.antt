use Rattle.std.proofs.Common.{◌≡◌, drop}
use Rattle.std.specs.List.{list_all}
use Rattle.image_groups.specs.ClosedInside.{is_alike_with}
use Rattle.image_groups.specs.Groups.{group_of}
use Rattle.mm_groups.proofs.closed_group.is_alike_with_all.Given as goal

-- The handlers that are left decide as all of them do.
abbrev pub invariant-loop-k : goal.invariant-loop-k
invariant-loop-k l =
    list_all (is_alike_with (group_of l.group) l.handler) (drop l.k l.core.site.handlers)
    ≡ list_all (is_alike_with (group_of l.group) l.handler) l.core.site.handlers
