use Rattle.std.proofs.Common.{◌≡◌, map, take}
use Rattle.mm_run.proofs.boot_run.image_names.Given as goal

-- the names of the images so far
abbrev pub invariant-loop-image : goal.invariant-loop-image
invariant-loop-image l = l.names ≡ map (λ image. image.name) (take l.image l.core.site.supervised.images)
