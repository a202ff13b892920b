-- What of memory is an image's own, which is this project's own rule: the bytes of its headers may be read, each section is used
-- by its flags, the stack, the communicate page, the pool's arena and the reserve may be read and written, and the service page
-- may be read. Each of these ranges stands by itself: an access that crosses from one to the next is in none.
use Rattle.std.specs.Prelude.{◌≡◌, ℕ, ◌+◌, ◌*◌, ◌<◌, ◌≤◌, Bool, true, ◌&&◌, List, [], ◌∷◌, ◌++◌, map}
use Rattle.std.specs.Prelude.{All, AllPairs}
use Rattle.std.specs.List.{list_any}
use Rattle.mm_base.specs.Platform.{mmram}
use Rattle.mm_base.specs.Range.{encloses}
use Rattle.mm_base.specs.Regions.{region_of, stack_of, communicate_page_of, service_page_of, pool_of, reserve_of}
use Rattle.mm_base.specs.Rights.{have_right}
use Rattle.mm_base.specs.declared.access.Right.{Right}
use Rattle.mm_base.specs.declared.image.Part.{Part}
use Rattle.mm_base.specs.declared.range.Range.{Range}
use Rattle.mm_base.specs.declared.region.Region.{Region}
use Rattle.image_table.specs.Sections.{LieBetween}
use Rattle.image_table.specs.declared.placed_image.PlacedImage.{PlacedImage}

-- A home range: its bytes, and its rights. Bit 1 is read, 2 is write, 4 is execute.
abbrev pub Home : Type 0
Home = Range × ℕ

-- the headers
abbrev pub header_home : PlacedImage → Home
header_home image = (record { base = image.region.base; length = image.headers }, 1)

-- a section of an image whose region begins at a base
abbrev pub section_home : ℕ → Part → Home
section_home base part = (record { base = base + part.at; length = part.length }, part.rights)

-- the pages after the image's own
abbrev pub page_homes : Region → List Home
page_homes region =
    (stack_of region, 3) ∷ (communicate_page_of region, 3) ∷ (service_page_of region, 1) ∷ (pool_of region, 3) ∷ (reserve_of region, 3) ∷ []

-- the home ranges of an image by rising address
abbrev pub home_ranges : PlacedImage → List Home
home_ranges image = header_home image ∷ (map (section_home image.region.base) image.sections ++ page_homes image.region)

-- whether a home range has this right and covers a range
abbrev pub grants : Right → Range → Home → Bool
grants right range home = have_right home.1 right && encloses home.0 range

-- whether one of an image's home ranges does
abbrev pub is_own : Right → Range → PlacedImage → Bool
is_own right range image = list_any (grants right range) (home_ranges image)

-- An image lies where it may: its region in management-mode memory, its headers in its pages, and its sections after them, each
-- with bytes and none before the one in front of it ends.
pub record IsPlaced (image : PlacedImage) : Type 0 where
  pub within : encloses mmram (region_of image.region) ≡ true
  pub header : image.headers ≤ 4096 * image.region.pages
  pub between : LieBetween image.headers (4096 * image.region.pages) image.sections
  pub bytes : All (λ part. 0 < part.length) image.sections
  pub rising : AllPairs (λ part later. part.at + part.length ≤ later.at) image.sections
