-- Signed quotients and remainders, which std's wrapping division leaves.
use Rattle.std.proofs.Common.{◌≡◌, ℕ, suc, ◌^◌, ◌<◌, ◌≤◌, Bool, ℤ, pos, negsuc, unsigned_abs, int_div, int_rem, ◌∙◌, ap, arith, w64, div-le_self}
use Rattle.std.specs.Int.{cast_unsigned, IsNonZero, int_wrapping_div}
use Rattle.std.proofs.lemmas.Int.{ints}
use Rattle.ebc_alu.specs.Reading.{width, low_bits, signed, reduced}
use Rattle.ebc_alu.specs.Results.{signed_quotient, signed_remainder}
use Rattle.ebc_alu.proofs.ReadingLemmas.{signed-fits_64, reduced-signed, low-cast_fits, reduced-cast}

-- a quotient is no larger than its dividend
pub unsigned_abs-div : (x y : ℤ) → unsigned_abs (int_div x y) ≤ unsigned_abs x
unsigned_abs-div (pos a) (pos b) = div-le_self a b
unsigned_abs-div (pos a) (negsuc b) = omega (arith, ints, div-le_self a (suc b))
unsigned_abs-div (negsuc a) (pos b) = omega (arith, ints, div-le_self (suc a) b)
unsigned_abs-div (negsuc a) (negsuc b) = div-le_self (suc a) (suc b)

module _ (wide : Bool) (a b : ℕ) (p : a < 2 ^ width wide) (q : b < 2 ^ width wide) where
  pub divisor-is : 0 < b → IsNonZero w64 (signed (width wide) b)
  divisor-is h = by (cast_unsigned w64 (signed (width wide) b)) (low-cast_fits wide _ (signed-fits_64 wide b q))
    where
      by : (n : ℕ) → low_bits (width wide) n ≡ reduced (width wide) (signed (width wide) b) → 0 < n
      by n e = omega (arith, e ∙ reduced-signed (width wide) b q)

  pub quotient-is : (z : ℤ) → z ≡ int_wrapping_div w64 (signed (width wide) a) (signed (width wide) b)
      → reduced (width wide) z ≡ signed_quotient (width wide) a b
  unfolding signed_quotient
  quotient-is z e =
      let f = signed-fits_64 wide a p in
      let small = unsigned_abs-div (signed (width wide) a) (signed (width wide) b) in
      ap (reduced (width wide)) e ∙ reduced-cast wide (int_div (signed (width wide) a) (signed (width wide) b)) (omega (arith, ints))

  pub remainder-is : (z : ℤ) → z ≡ int_rem (signed (width wide) a) (signed (width wide) b)
      → reduced (width wide) z ≡ signed_remainder (width wide) a b
  unfolding signed_remainder
  remainder-is z e = ap (reduced (width wide)) e
