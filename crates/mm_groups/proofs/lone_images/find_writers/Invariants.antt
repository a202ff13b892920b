use Rattle.std.proofs.Common.{◌≡◌, ℕ, ◌<◌, false, length, get_or}
use Rattle.image_groups.specs.Reach.{reach}
use Rattle.mm_base.specs.declared.access.Right.TheVariants.{Write}
use Rattle.mm_groups.proofs.lone_images.find_writers.Given as goal

-- Of the images so far it is found whether they may write the unit.
abbrev pub invariant-loop-image : goal.invariant-loop-image
invariant-loop-image l = record {
  room : length l.writers ≡ length l.core.site.supervised.images;
  found : (image : ℕ) → image < l.image → get_or l.writers image false ≡ reach l.core.site.supervised image l.kind l.unit Write;
}
