use Rattle.image_groups.specs.ClosedInside.{is_alike_with}
use Rattle.image_groups.specs.Groups.{alone}
use Rattle.mm_groups.proofs.FlagLemmas.{OverRest}
use Rattle.mm_groups.proofs.lone_images.lower_by_handler.Given as goal

-- The handlers that are left lower the flags as all of them lower those at the start.
abbrev pub invariant-loop-k : goal.invariant-loop-k
invariant-loop-k l = OverRest (λ image other. is_alike_with (alone image) l.handler other) l.core.site.handlers l.k l.fn.flags l.flags
