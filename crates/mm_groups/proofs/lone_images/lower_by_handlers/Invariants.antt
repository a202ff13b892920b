use Rattle.std.specs.List.{list_all}
use Rattle.image_groups.specs.ClosedInside.{is_alike_with}
use Rattle.image_groups.specs.Groups.{alone}
use Rattle.mm_groups.proofs.FlagLemmas.{OverRest}
use Rattle.mm_groups.proofs.lone_images.lower_by_handlers.Given as goal

-- The handlers that are left lower the flags as all of them lower those at the start.
abbrev pub invariant-loop-k : goal.invariant-loop-k
invariant-loop-k l =
    OverRest (λ image handler. list_all (is_alike_with (alone image) handler) l.core.site.handlers) l.core.site.handlers l.k l.fn.flags
    l.flags
