-- Induction by a measure: whatever holds at a place where it holds at each with less left holds everywhere.
use Rattle.std.proofs.Common.{ℕ, zero, suc, ◌<◌, arith}

module _ {Place : Type 0} (Holds : Place → Type 0) (left : Place → ℕ)
    (step : (at : Place) → ((other : Place) → left other < left at → Holds other) → Holds at) where
  within : (fuel : ℕ) (at : Place) → left at < fuel → Holds at
  within zero at less = absurd (omega arith)
  within (suc fuel) at less = step at (λ other fewer. within fuel other (omega arith))

  pub by_measure : (at : Place) → Holds at
  by_measure at = within (suc (left at)) at (omega arith)
