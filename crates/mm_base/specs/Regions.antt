-- The region of an image in memory, which is this project's own: the pages that its bytes fill, and after them 38 more.
-- In order: 4 of the stack, one of the communicate buffer, one of the services, 16 of the pool, and 16 that it may
-- allocate.
use Rattle.std.specs.Prelude.{ℕ, ◌+◌, ◌*◌, ◌/◌, ◌≤◌, ◌^◌}
use Rattle.mm_base.specs.declared.range.Range.{Range}
use Rattle.mm_base.specs.declared.region.Region.{Region}

-- how many pages n bytes fill
abbrev pub pages_filled : ℕ → ℕ
pages_filled n = (n + 4095) / 4096

-- n pages of a region, from the page with this number on
abbrev pub pages_of : Region → ℕ → ℕ → Range
pages_of region first n = record { base = region.base + 4096 * first; length = 4096 * n }

-- the whole region
abbrev pub region_of : Region → Range
region_of region = pages_of region 0 (region.pages + 38)

abbrev pub stack_of : Region → Range
stack_of region = pages_of region region.pages 4

abbrev pub communicate_page_of : Region → Range
communicate_page_of region = pages_of region (region.pages + 4) 1

abbrev pub service_page_of : Region → Range
service_page_of region = pages_of region (region.pages + 5) 1

abbrev pub pool_of : Region → Range
pool_of region = pages_of region (region.pages + 6) 16

abbrev pub reserve_of : Region → Range
reserve_of region = pages_of region (region.pages + 22) 16

-- The region ends at 2 ^ 64 or before.
abbrev pub IsAddressable : Region → Type 0
IsAddressable region = region.base + 4096 * (region.pages + 38) ≤ 2 ^ 64
