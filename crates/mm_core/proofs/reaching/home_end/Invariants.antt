use Rattle.std.proofs.Common.{◌≡◌, drop}
use Rattle.std.specs.Prelude.{slice_get}
use Rattle.image_groups.specs.Ends.{home_ends}
use Rattle.mm_core.proofs.reaching.home_end.Given as goal

-- What is left of the place finds in the images that are left what the whole place finds in all.
abbrev pub invariant-loop-image : goal.invariant-loop-image
invariant-loop-image l = slice_get (home_ends (drop l.image l.tables.site.images)) l.left ≡ slice_get (home_ends l.tables.site.images) l.k
