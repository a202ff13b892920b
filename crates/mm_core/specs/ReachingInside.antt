-- No public clause cites this file.
-- The ends of home ranges, image by image.
use Rattle.std.specs.Prelude.{ℕ, List}
use Rattle.std.specs.List.{flat_map}
use Rattle.image_groups.specs.Ends.{range_ends}
use Rattle.image_table.specs.HomeRanges.{Home}

-- where each of some home ranges begins and ends
abbrev pub ends_of_homes : List Home → List ℕ
ends_of_homes homes = flat_map (λ home. range_ends home.0) homes
