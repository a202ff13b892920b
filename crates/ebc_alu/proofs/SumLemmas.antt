-- Sums, differences, products and extensions: what the low bits of 64 are.
use Rattle.std.proofs.Common.{◌≡◌, ℕ, ◌+◌, ◌-◌, ◌*◌, ◌%◌, ◌^◌, ◌<◌, Bool, true, false, pos, ◌-ℤ◌, ◌*ℤ◌, sym, ◌∙◌, ap, arith, w32, w64, mod-lt, pow_pos}
use Rattle.std.specs.Int.{Width, cast_signed, cast_unsigned, int_wrap}
use Rattle.std.proofs.lemmas.Int.{ints, of_z-to_z, wrapping_mul-bits}
use mir.Val.{bits}
use Rattle.ebc_alu.specs.Reading.{width, low_bits, reduced}
use Rattle.ebc_alu.specs.Results.{sum_of, difference, product_of, signed_product}
use Rattle.ebc_alu.proofs.ReadingLemmas.{signed-cast, reduced_is, reduced-lt, low-low}

pub sum-low : (wide : Bool) (a b : ℕ) → low_bits (width wide) ((a + b) % 2 ^ 64) ≡ sum_of (width wide) a b
unfolding sum_of
sum-low wide a b = low-low wide (a + b)

difference-is : (wide : Bool) (a b : ℕ) → b < 2 ^ 64 → reduced (width wide) (pos a -ℤ pos b) ≡ low_bits (width wide) (a + (2 ^ 64 - b))
difference-is true a b h = reduced_is 64 (pos a -ℤ pos b) 1 (a + (2 ^ 64 - b)) (omega (arith, ints))
difference-is false a b h = reduced_is 32 (pos a -ℤ pos b) (2 ^ 32) (a + (2 ^ 64 - b)) (omega (arith, ints))

pub difference-low : (wide : Bool) (a b : ℕ) → b < 2 ^ 64
    → low_bits (width wide) ((a + (2 ^ 64 - b)) % 2 ^ 64) ≡ difference (width wide) a b
unfolding difference
difference-low wide a b h = low-low wide (a + (2 ^ 64 - b)) ∙ sym (difference-is wide a b h)

pub product-low : (wide : Bool) (a b : ℕ) → low_bits (width wide) ((a * b) % 2 ^ 64) ≡ product_of (width wide) a b
unfolding product_of
product-low wide a b = low-low wide (a * b)

-- two numbers with one signed reading are one
pub same_from_cast : (v : Width) (m n : ℕ) → m < 2 ^ bits v → n < 2 ^ bits v → cast_signed v m ≡ cast_signed v n → m ≡ n
same_from_cast v m n p q e = sym (of_z-to_z v m p) ∙ ap (cast_unsigned v) e ∙ of_z-to_z v n q

-- The low bits of a product don't depend on the signs.
product-signs : (v : Width) (a b : ℕ) → a < 2 ^ bits v → b < 2 ^ bits v
    → (a * b) % 2 ^ bits v ≡ reduced (bits v) (cast_signed v a *ℤ cast_signed v b)
unfolding int_wrap reduced
product-signs v a b p q =
    same_from_cast v _ _ (mod-lt (a * b) (pow_pos (bits v))) (reduced-lt (bits v) (cast_signed v a *ℤ cast_signed v b))
    (wrapping_mul-bits v a b p q)

signs : (v : Width) (a b : ℕ) → a < 2 ^ bits v → b < 2 ^ bits v → product_of (bits v) a b ≡ signed_product (bits v) a b
unfolding product_of signed_product
signs v a b p q =
    product-signs v a b p q
    ∙ sym (λ i. reduced (bits v) (signed-cast v a p i *ℤ signed-cast v b q i))

pub product-signed : (wide : Bool) (a b : ℕ) → a < 2 ^ width wide → b < 2 ^ width wide
    → product_of (width wide) a b ≡ signed_product (width wide) a b
product-signed true a b p q = signs w64 a b p q
product-signed false a b p q = signs w32 a b p q
