-- The lowest number below a bound that passes a test, and the least size that holds some bytes.
use Rattle.std.proofs.Common.{◌≡◌, inl, inr, ℕ, zero, suc, ◌+◌, ◌^◌, ◌≤◌, ◌<◌, Bool, true, false, Decides, List, [], ◌∷◌, find, Some, None, leb, refl, sym, ap, ◌∙◌, subst, pow_mono, arith}
use Rattle.std.specs.List.{range_with_len}
use Rattle.std.proofs.lemmas.Bool.{cases_lt, cases_eq}
use Rattle.std.proofs.lemmas.Bool.Decides.{nat_tests}
use Rattle.std.proofs.lemmas.Nat.{pow_below}
use Rattle.pool_tree.specs.Pool.{IsBlockSize}
use Rattle.supervisor_calls.specs.Holdings.{lowest_below, size_for}

-- whether a test fails where what it decides doesn't hold
pub fails : {P : Type 0} (b : Bool) → Decides b P → (P → ⊥) → b ≡ false
fails true decides none = absurd (none (decides.0 refl))
fails false decides none = refl

-- ---- the lowest number

module _ (P : ℕ → Type 0) (test : ℕ → Bool) (decides : (k : ℕ) → Decides (test k) (P k)) where
  -- the search from a number on, over so many
  searched : (count from at : ℕ) → from ≤ at → at < from + count → P at → ((other : ℕ) → P other → at ≤ other)
      → find test (range_with_len from count) ≡ Some at
  searched zero from at low high is lowest = absurd (omega arith)
  searched (suc count) from at low high is lowest = elim (cases_eq from at) [
    | inl same ↦
        let here : P from = subst P (sym same) is in
        let passes : test from ≡ true = (decides from).1 here in
        rw passes (ap Some same)
    | inr other ↦
        let none : P from → ⊥ = λ here. other (omega (arith, lowest from here)) in
        let passes : test from ≡ false = fails (test from) (decides from) none in
        rw passes (searched count (from + 1) at (omega arith) (omega arith) is lowest)
  ]

  searched_none : (count from : ℕ) → ((other : ℕ) → P other → ⊥) → find test (range_with_len from count) ≡ None
  searched_none zero from none = refl
  searched_none (suc count) from none =
      let passes : test from ≡ false = fails (test from) (decides from) (none from) in
      rw passes (searched_none count (from + 1) none)

  pub lowest_is : (bound at : ℕ) → at < bound → P at → ((other : ℕ) → P other → at ≤ other) → lowest_below bound test ≡ Some at
  lowest_is bound at below is lowest = searched bound 0 at (omega arith) (omega arith) is lowest

  pub lowest_none : (bound : ℕ) → ((other : ℕ) → P other → ⊥) → lowest_below bound test ≡ None
  lowest_none bound none = searched_none bound 0 none

-- ---- the size of a block

-- so many powers of two, from one on
sizes_from : ℕ → ℕ → List ℕ
sizes_from power zero = []
sizes_from power (suc count) = 2 ^ power ∷ sizes_from (power + 1) count

module _ (n : ℕ) where
  holds_first : (count power exponent : ℕ) → power ≤ exponent → exponent < power + count → n ≤ 2 ^ exponent
      → ((other : ℕ) → power ≤ other → other < exponent → 2 ^ other < n) → find (leb n) (sizes_from power count) ≡ Some (2 ^ exponent)
  unfolding sizes_from
  holds_first zero power exponent low high holds less = absurd (omega arith)
  holds_first (suc count) power exponent low high holds less = elim (cases_eq power exponent) [
    | inl same ↦
        let size : 2 ^ power ≡ 2 ^ exponent = ap (λ k. 2 ^ k) same in
        let passes : leb n (2 ^ power) ≡ true = grind (arith, nat_tests, holds, size) in
        rw passes (ap Some size)
    | inr other ↦
        let small : 2 ^ power < n = less power (omega arith) (omega arith) in
        let passes : leb n (2 ^ power) ≡ false = grind (arith, nat_tests, small) in
        rw passes (holds_first count (power + 1) exponent (omega arith) (omega arith) holds (λ k above below. less k (omega arith) below))
  ]

  holds_none : (count power : ℕ) → ((other : ℕ) → power ≤ other → other < power + count → 2 ^ other < n)
      → find (leb n) (sizes_from power count) ≡ None
  unfolding sizes_from
  holds_none zero power less = refl
  holds_none (suc count) power less =
      let small : 2 ^ power < n = less power (omega arith) (omega arith) in
      let passes : leb n (2 ^ power) ≡ false = grind (arith, nat_tests, small) in
      rw passes (holds_none count (power + 1) (λ k above below. less k (omega arith) (omega arith)))

  -- the search among the sizes of blocks is that among twelve powers
  as_powers : size_for n ≡ find (leb n) (sizes_from 5 12)
  unfolding size_for sizes_from
  as_powers = refl

  -- powers as large as these, and smaller ones
  at_least_five : (exponent : ℕ) → 32 ≤ 2 ^ exponent → 5 ≤ exponent
  at_least_five exponent floor = elim (cases_lt exponent 5) [
    | inr high ↦ high
    | inl low ↦
        let fewer : 2 ^ exponent ≤ 2 ^ 4 = pow_mono {j = 4} (omega arith) in
        absurd (omega (arith, fewer))
  ]

  at_most_sixteen : (exponent : ℕ) → 2 ^ exponent ≤ 65536 → exponent < 17
  at_most_sixteen exponent most = elim (cases_lt exponent 17) [
    | inl low ↦ low
    | inr high ↦
        let more : 2 ^ 17 ≤ 2 ^ exponent = pow_mono high in
        absurd (omega (arith, more))
  ]

  floor_of : (exponent : ℕ) → 5 ≤ exponent → 32 ≤ 2 ^ exponent
  floor_of exponent low =
      let more : 2 ^ 5 ≤ 2 ^ exponent = pow_mono low in
      omega (arith, more)

  most_of : (exponent : ℕ) → exponent < 17 → 2 ^ exponent ≤ 65536
  most_of exponent high =
      let fewer : 2 ^ exponent ≤ 2 ^ 16 = pow_mono {j = 16} (omega arith) in
      omega (arith, fewer)

  -- a smaller power doesn't hold the bytes
  less_holds : (size : ℕ) → IsBlockSize n size → (other : ℕ) → 5 ≤ other → 2 ^ other < size → 2 ^ other < n
  less_holds size is other low below = elim (cases_lt (2 ^ other) n) [
    | inl short ↦ short
    | inr enough ↦ absurd (omega (arith, is.least (2 ^ other) (other, refl) (floor_of other low) enough))
  ]

  -- the size of a block that an arena has
  pub size_is : (size : ℕ) → IsBlockSize n size → size ≤ 65536 → size_for n ≡ Some size
  size_is size is most =
      let exponent : ℕ = is.power.0 in
      let same : size ≡ 2 ^ exponent = is.power.1 in
      let low : 5 ≤ exponent = at_least_five exponent (omega (arith, same, is.floor)) in
      let high : exponent < 17 = at_most_sixteen exponent (omega (arith, same, most)) in
      let holds : n ≤ 2 ^ exponent = omega (arith, same, is.holds) in
      as_powers
      ∙ holds_first 12 5 exponent low (omega (arith, high)) holds
      (λ other above below. less_holds size is other above (omega (arith, same, pow_below other exponent below)))
      ∙ ap Some (sym same)

  -- more bytes than an arena has fit no size
  pub size_none : (size : ℕ) → IsBlockSize n size → 65536 < size → size_for n ≡ None
  size_none size is more =
      as_powers
      ∙ holds_none 12 5
      (λ other above below. less_holds size is other above (omega (arith, more, most_of other (omega (arith, below)))))
