-- The table of images, which contracts see as the list of its images in order of admission.
use Rattle.std.specs.Prelude.{ℕ, ◌≤◌, Bool, false, List, [], length, replicate, slice_get, All}
use Rattle.std.specs.Option.{option_map_or}
use Rattle.mm_base.specs.Regions.{pages_filled}
use Rattle.mm_base.specs.declared.access.Right.{Right}
use Rattle.mm_base.specs.declared.guid.Guid.{Guid}
use Rattle.mm_base.specs.declared.image.Image.{Image}
use Rattle.mm_base.specs.declared.image.Part.{Part}
use Rattle.mm_base.specs.declared.range.Range.{Range}
use Rattle.mm_base.specs.declared.region.Region.{Region}
use Rattle.image_table.specs.HomeRanges.{Home, IsPlaced, home_ranges, is_own}
use Rattle.image_table.specs.Sections.{sections_of}
use Rattle.image_table.specs.declared.placed_image.PlacedImage.{PlacedImage}

-- the region of an image that is placed at a base
abbrev pub region_at : ℕ → Image → Region
region_at base image = record { base = base; pages = pages_filled image.size }

-- the image that is admitted
abbrev pub placed : Guid → ℕ → Image → List Part → PlacedImage
placed name base image parts = record {
  name = name;
  region = region_at base image;
  headers = image.headers;
  sections = sections_of parts;
}

-- the home ranges of the image with this number; none where there is no such image
abbrev pub home_ranges_at : List PlacedImage → ℕ → List Home
home_ranges_at images number = option_map_or home_ranges (slice_get images number) []

-- whether one home range with this right of the image with this number covers a range
abbrev pub is_home_at : List PlacedImage → ℕ → Range → Right → Bool
is_home_at images number range right = option_map_or (is_own right range) (slice_get images number) false

-- the name of the image with this number; zeros where there is no such image
abbrev pub name_at : List PlacedImage → ℕ → Guid
name_at images number = option_map_or (λ image. image.name) (slice_get images number) (record { 0 = replicate 16 0 })

-- What holds of each table: it has at most 32 images, each of which lies where it may, and memory for all that may come.
pub record IsTable (images : List PlacedImage) (capacity : ℕ) : Type 0 where
  pub most : length images ≤ 32
  pub place : 32 ≤ capacity
  pub each : All IsPlaced images
