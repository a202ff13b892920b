-- Ranges, whose ends are compared as whole numbers.
use Rattle.std.specs.Prelude.{◌≡◌, ◌↔◌, ℕ, ◌+◌, ◌<◌, ◌≤◌, Bool, true, ◌&&◌, nat_lt, nat_le}
use Rattle.mm_base.specs.declared.range.Range.{Range}

-- whether each begins before the other ends, and neither is empty
abbrev pub share_a_unit : Range → Range → Bool
share_a_unit a b =
    nat_lt a.base (b.base + b.length) && nat_lt b.base (a.base + a.length) && nat_lt 0 a.length && nat_lt 0 b.length

-- whether the second begins and ends within the first, both ends counted
abbrev pub encloses : Range → Range → Bool
encloses a b = nat_le a.base b.base && nat_le (b.base + b.length) (a.base + a.length)

-- a unit lies in a range
pub record Has (range : Range) (unit : ℕ) : Type 0 where
  pub from : range.base ≤ unit
  pub to : unit < range.base + range.length

-- Ranges overlap exactly where some unit lies in both.
abbrev pub OverlapIsAUnit : Type 0
OverlapIsAUnit = (a b : Range) → (share_a_unit a b ≡ true) ↔ ((unit : ℕ) × (Has a unit × Has b unit))

-- A range covers one that isn't empty exactly where each unit of that one lies in it.
abbrev pub CoversEachUnit : Type 0
CoversEachUnit = (a b : Range) → 0 < b.length → (encloses a b ≡ true) ↔ ((unit : ℕ) → Has b unit → Has a unit)

-- What a range covers lies in it, unit by unit, also where it is empty.
abbrev pub CoveredIsWithin : Type 0
CoveredIsWithin = (a b : Range) (unit : ℕ) → encloses a b ≡ true → Has b unit → Has a unit
