-- Which groups of a core's images are closed.
use Rattle.std.specs.Prelude.{◌≡◌, ◌↔◌, ℕ, ◌<◌, Bool, true, List, length, Some, slice_get}
use Rattle.image_groups.specs.Groups.{Group, IsClosed, alone}
use Rattle.mm_core.specs.CoreState.{Site}

-- A group of images is closed in a core: by the core's images, its policy and its handlers.
abbrev pub IsClosedIn : Group → Site → Type 0
IsClosedIn group site = IsClosed group site.supervised site.handlers

-- These flags say of each image of a core whether the group of that image alone is closed.
pub record AreAloneClosed (site : Site) (flags : List Bool) : Type 0 where
  pub count : length flags ≡ length site.supervised.images
  pub each : (image : ℕ)
      → image < length site.supervised.images
      → (slice_get flags image ≡ Some true) ↔ IsClosedIn (alone image) site
