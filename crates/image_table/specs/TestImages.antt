-- Images for tests, which no program uses.
use Rattle.std.specs.Prelude.{◌≡◌, ℕ, List, length}
use Rattle.mm_base.specs.declared.image.Part.{Part}
use Rattle.image_table.specs.Sections.{AreApart, LieBetween}

-- These are so many parts, each from one place to another, and no two share a byte.
pub record Fit (low high number : ℕ) (parts : List Part) : Type 0 where
  pub count : length parts ≡ number
  pub within : LieBetween low high parts
  pub apart : AreApart parts
