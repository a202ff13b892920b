-- Ranges, unit by unit.
use Rattle.std.proofs.Common.{◌≡◌, ◌↔◌, ℕ, ◌+◌, ◌-◌, ◌<◌, true, max, arith}
use Rattle.std.proofs.lemmas.Bool.Decides.{nat_tests}
use Rattle.mm_base.specs.declared.range.Range.{Range}
use Rattle.mm_base.specs.Range.{share_a_unit, encloses, Has}

pub overlap_is_a_unit : (a b : Range) → (share_a_unit a b ≡ true) ↔ ((unit : ℕ) × (Has a unit × Has b unit))
overlap_is_a_unit a b = (
  λ e. (
    max a.base b.base,
    (
      record { from = omega arith; to = grind (arith, nat_tests) },
      record { from = omega arith; to = grind (arith, nat_tests) },
    ),
  ),
  λ w.
      let from_a = w.1.0.from in
      let to_a = w.1.0.to in
      let from_b = w.1.1.from in
      let to_b = w.1.1.to in
      grind (arith, nat_tests),
)

pub covered_is_within : (a b : Range) (unit : ℕ) → encloses a b ≡ true → Has b unit → Has a unit
covered_is_within a b unit e has =
    let from = has.from in
    let to = has.to in
    record { from = grind (arith, nat_tests); to = grind (arith, nat_tests) }

-- where the first and the last unit lie in a range, all of them do
pub covers_each_unit : (a b : Range) → 0 < b.length → (encloses a b ≡ true) ↔ ((unit : ℕ) → Has b unit → Has a unit)
covers_each_unit a b some = (
  λ e unit has. covered_is_within a b unit e has,
  λ each.
      let first = each b.base record { from = omega arith; to = omega arith } in
      let last = each (b.base + b.length - 1) record { from = omega arith; to = omega arith } in
      let from = first.from in
      let to = last.to in
      grind (arith, nat_tests),
)
