-- Checks in an order: the first one that fails tells what is wrong.
use Rattle.std.specs.Prelude.{ℕ, Bool, not, List, find, Option}

-- one check: what it is a fault of, the place that the fault names, and whether it is passed
pub record Check (K : Type 0) : Type 0 where
  pub kind : K
  pub at : ℕ
  pub passes : Bool

-- the first check that isn't passed
abbrev pub first_failing : {K : Type 0} → List (Check K) → Option (Check K)
first_failing checks = find (λ check. not check.passes) checks
