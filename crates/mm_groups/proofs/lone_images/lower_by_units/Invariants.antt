use Rattle.std.proofs.Common.{◌≡◌, ◌-◌, length}
use Rattle.image_groups.specs.ClosedInside.{is_apart_at}
use Rattle.image_groups.specs.Ends.{ends_of}
use Rattle.image_groups.specs.Groups.{alone}
use Rattle.mm_groups.proofs.FlagLemmas.{OverRest}
use Rattle.mm_groups.proofs.lone_images.lower_by_units.Given as goal

-- The ends that are left lower the flags as all of them lower those at the start.
abbrev pub invariant-loop-unit : goal.invariant-loop-unit
invariant-loop-unit l = record {
  room : length l.writers ≡ length l.core.site.supervised.images;
  rest :
      OverRest (λ image. is_apart_at (alone image) l.core.site.supervised l.kind) (ends_of l.kind l.core.site.supervised) l.k l.fn.flags
      l.flags;
}

abbrev pub decreases-loop-unit : goal.decreases-loop-unit
decreases-loop-unit l = length (ends_of l.kind l.core.site.supervised) - l.k
