-- The first check that fails.
use Rattle.std.specs.Prelude.{◌≡◌, ℕ, List, Some}
use Rattle.mm_base.specs.Checks.{Check, first_failing}

-- The first of these checks that fails is one of this kind, and names this place.
pub record FailsFirst {Kind : Type 0} (checks : List (Check Kind)) (kind : Kind) (place : ℕ) : Type 0 where
  pub check : Check Kind
  pub first : first_failing checks ≡ Some check
  pub kind_is : kind ≡ check.kind
  pub place_is : place ≡ check.at
