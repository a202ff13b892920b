-- No public clause cites this file.
-- Flags of images that fall one after another, and the images that may write a unit.
use Rattle.std.specs.Prelude.{◌≡◌, ℕ, ◌<◌, Bool, false, ◌&&◌, List, length, get_or, map}
use Rattle.std.specs.List.{range_with_len}
use Rattle.mm_base.specs.declared.access.Kind.{Kind}
use Rattle.mm_base.specs.declared.access.Right.TheVariants.{Write}
use Rattle.supervisor_calls.specs.Tables.{Site}
use Rattle.image_groups.specs.Reach.{reach}

-- The flag of each image that passes a test stays, and that of each other image falls.
pub record Lowered (test : ℕ → Bool) (before after : List Bool) : Type 0 where
  pub count : length after ≡ length before
  pub each : (image : ℕ) → image < length before → get_or after image false ≡ (get_or before image false && test image)

-- of each image whether it may write a unit
abbrev pub writers_of : Site → Kind → ℕ → List Bool
writers_of site kind unit = map (λ image. reach site image kind unit Write) (range_with_len 0 (length site.images))
