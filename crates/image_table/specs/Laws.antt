-- What follows of sections and of home ranges. Images lie where they may (IsPlaced); each of a table does.
use Rattle.std.specs.Prelude.{◌≡◌, ℕ, ◌+◌, ◌≤◌, true, false, List, filter}
use Rattle.std.specs.Prelude.{All, AllPairs, IsPermutation}
use Rattle.mm_base.specs.Range.{Has, encloses, share_a_unit}
use Rattle.mm_base.specs.Regions.{region_of, stack_of, communicate_page_of, service_page_of, pool_of, reserve_of}
use Rattle.mm_base.specs.declared.access.Right.{Right}
use Rattle.mm_base.specs.declared.access.Right.TheVariants.{Read, Write}
use Rattle.mm_base.specs.declared.image.Part.{Part}
use Rattle.mm_base.specs.declared.range.Range.{Range}
use Rattle.image_table.specs.HomeRanges.{IsPlaced, home_ranges, is_own}
use Rattle.image_table.specs.Sections.{AreApart, has_bytes, sections_of}
use Rattle.image_table.specs.declared.placed_image.PlacedImage.{PlacedImage}

-- The sections are the parts that have bytes, in another order.
abbrev pub SectionsAreParts : Type 0
SectionsAreParts = (parts : List Part) → IsPermutation (filter has_bytes parts) (sections_of parts)

-- Where no two parts share a byte, each section ends before the next begins.
abbrev pub SectionsRise : Type 0
SectionsRise =
    (parts : List Part)
    → AreApart parts
    → AllPairs (λ part later. part.at + part.length ≤ later.at) (sections_of parts)

-- Home ranges lie in their image's region.
abbrev pub LieInTheirRegion : Type 0
LieInTheirRegion = (image : PlacedImage) → IsPlaced image → All (λ home. encloses (region_of image.region) home.0 ≡ true) (home_ranges image)

-- Each ends before the next begins.
abbrev pub Rise : Type 0
Rise =
    (image : PlacedImage)
    → IsPlaced image
    → AllPairs (λ home later. home.0.base + home.0.length ≤ later.0.base) (home_ranges image)

-- No two of an image share a byte.
abbrev pub LieApart : Type 0
LieApart = (image : PlacedImage) → IsPlaced image → AllPairs (λ home later. share_a_unit home.0 later.0 ≡ false) (home_ranges image)

-- Where the regions of two images share no byte, no home range of one shares a byte with one of the other.
abbrev pub OfImagesApart : Type 0
OfImagesApart =
    (one other : PlacedImage)
    → IsPlaced one
    → IsPlaced other
    → share_a_unit (region_of one.region) (region_of other.region) ≡ false
    → All (λ home. All (λ theirs. share_a_unit home.0 theirs.0 ≡ false) (home_ranges other)) (home_ranges one)

-- What a range that is home covers is home for the same right.
abbrev pub HoldWhatLiesWithin : Type 0
HoldWhatLiesWithin =
    (image : PlacedImage) (range within : Range) (right : Right)
    → is_own right range image ≡ true
    → encloses range within ≡ true
    → is_own right within image ≡ true

-- So is each of its bytes.
abbrev pub HoldEachByte : Type 0
HoldEachByte =
    (image : PlacedImage) (range : Range) (right : Right) (unit : ℕ)
    → is_own right range image ≡ true
    → Has range unit
    → is_own right record { base = unit; length = 1 } image ≡ true

-- The pages past an image's own bytes are home, for read and write or for read alone.
pub record OwnsPages (image : PlacedImage) : Type 0 where
  pub reads_stack : is_own Read (stack_of image.region) image ≡ true
  pub writes_stack : is_own Write (stack_of image.region) image ≡ true
  pub reads_communicate_page : is_own Read (communicate_page_of image.region) image ≡ true
  pub writes_communicate_page : is_own Write (communicate_page_of image.region) image ≡ true
  pub reads_service_page : is_own Read (service_page_of image.region) image ≡ true
  pub reads_pool : is_own Read (pool_of image.region) image ≡ true
  pub writes_pool : is_own Write (pool_of image.region) image ≡ true
  pub reads_reserve : is_own Read (reserve_of image.region) image ≡ true
  pub writes_reserve : is_own Write (reserve_of image.region) image ≡ true

abbrev pub HoldOwnPages : Type 0
HoldOwnPages = (image : PlacedImage) → OwnsPages image
