-- How std's signed numbers read as `signed` and `reduced`.
use Rattle.std.proofs.Common.{◌≡◌, ℕ, suc, ◌-◌, ◌*◌, ◌%◌, ◌^◌, ◌<◌, ◌≤◌, Bool, true, false, cond, ltb, ℤ, pos, negsuc, ◌-ℤ◌, ◌+ℤ◌, unsigned_abs, FitsSigned, refl, sym, ◌∙◌, ap, subst, arith, w8, w16, w32, w64, pow_pos, mod-lt, mod-eq_of_lt}
use Rattle.std.specs.Int.{Width, w128, cast_signed, cast_unsigned}
use Rattle.std.proofs.lemmas.Int.{ints, int_rem_euclid_is, of_z-to_z, to_z-of_z}
use lib.Signed.{mag}
use Rattle.std.proofs.Math.Pow.{mod-mod-pow}
use mir.Val.{bits, hbits, sel}
use Rattle.ebc_alu.specs.Reading.{width, low_bits, signed, reduced}

-- std's width of an operation
abbrev pub machine_width : Bool → Width
machine_width true = w64
machine_width false = w32

either : (half whole n : ℕ) (t : Bool) → ltb n half ≡ t → n < whole
    → cond t (pos n) (pos n -ℤ pos whole) ≡ sel t (pos n) (negsuc (whole - suc n))
either half whole n true e h = refl
either half whole n false e h = omega (arith, ints)

-- the reading is that of std's cast
pub signed-cast : (v : Width) (n : ℕ) → n < 2 ^ bits v → signed (bits v) n ≡ cast_signed v n
unfolding signed
signed-cast w8 n h = either (2 ^ 7) (2 ^ 8) n (ltb n (2 ^ 7)) refl h
signed-cast w16 n h = either (2 ^ 15) (2 ^ 16) n (ltb n (2 ^ 15)) refl h
signed-cast w32 n h = either (2 ^ 31) (2 ^ 32) n (ltb n (2 ^ 31)) refl h
signed-cast w64 n h = either (2 ^ 63) (2 ^ 64) n (ltb n (2 ^ 63)) refl h
signed-cast w128 n h = either (2 ^ 127) (2 ^ 128) n (ltb n (2 ^ 127)) refl h

-- an operand of either width, as the code reads it
pub signed-wide : (wide : Bool) (n : ℕ) → wide ≡ true → n < 2 ^ width wide → signed (width wide) n ≡ cast_signed w64 n
signed-wide true n e h = signed-cast w64 n h
signed-wide false n e h = cc

pub signed-narrow : (wide : Bool) (n : ℕ) → wide ≡ false → n < 2 ^ width wide → signed (width wide) n ≡ cast_signed w32 n
signed-narrow true n e h = cc
signed-narrow false n e h = signed-cast w32 n h

pub signed-fits : (v : Width) (n : ℕ) → n < 2 ^ bits v → FitsSigned v (signed (bits v) n)
signed-fits v n h = subst (FitsSigned v) (sym (signed-cast v n h)) (omega (arith, ints))

-- a signed operand of either width is one of 64 bits
pub signed-fits_64 : (wide : Bool) (n : ℕ) → n < 2 ^ width wide → FitsSigned w64 (signed (width wide) n)
signed-fits_64 true n h = signed-fits w64 n h
signed-fits_64 false n h = let f = signed-fits w32 n h in omega (arith, ints)

-- a signed number that was handed over by its bits
pub passed : (v : Width) (z x : ℤ) → mag z < 2 ^ hbits v → z ≡ x → cast_signed v (cast_unsigned v z) ≡ x
passed v z x h e = to_z-of_z v z (record { sfits = h }) ∙ e

-- z and 2^k, taken some times, are m
pub reduced_is : (k : ℕ) (z : ℤ) (times m : ℕ) → z +ℤ pos (times * 2 ^ k) ≡ pos m → reduced k z ≡ m % 2 ^ k
unfolding reduced
reduced_is k z times m e = ap unsigned_abs (int_rem_euclid_is z (pos (2 ^ k)) (2 ^ k) times m (pow_pos k) refl e)

pub reduced-lt : (k : ℕ) (z : ℤ) → reduced k z < 2 ^ k
unfolding reduced
reduced-lt k (pos a) = mod-lt a (pow_pos k)
reduced-lt k (negsuc a) = omega (arith, pow_pos k)

pub reduced-signed : (k n : ℕ) → n < 2 ^ k → reduced k (signed k n) ≡ n
unfolding signed
reduced-signed k n h = by (ltb n (2 ^ (k - 1))) refl
  where
    by : (t : Bool) → ltb n (2 ^ (k - 1)) ≡ t → reduced k (cond t (pos n) (pos n -ℤ pos (2 ^ k))) ≡ n
    by true e = reduced_is k (pos n) 0 n (omega (arith, ints)) ∙ mod-eq_of_lt h
    by false e = reduced_is k (pos n -ℤ pos (2 ^ k)) 1 n (omega (arith, ints)) ∙ mod-eq_of_lt h

-- the low bits of 64 bits
pub low-low : (wide : Bool) (n : ℕ) → low_bits (width wide) (n % 2 ^ 64) ≡ low_bits (width wide) n
low-low true n = mod-mod-pow n 0 64
low-low false n = mod-mod-pow n 32 32

pub low-lt : (wide : Bool) (n : ℕ) → low_bits (width wide) n < 2 ^ width wide
low-lt wide n = mod-lt n (pow_pos (width wide))

-- the bits of a signed number, cut to the width
pub low-cast : (wide : Bool) (z : ℤ) → unsigned_abs z ≤ 2 ^ 64 → low_bits (width wide) (cast_unsigned w64 z) ≡ reduced (width wide) z
low-cast wide (pos n) h = sym (reduced_is (width wide) (pos n) 0 n (omega (arith, ints)))
low-cast true (negsuc n) h = sym (reduced_is 64 (negsuc n) 1 (2 ^ 64 - suc n) (omega (arith, ints)))
low-cast false (negsuc n) h = sym (reduced_is 32 (negsuc n) (2 ^ 32) (2 ^ 64 - suc n) (omega (arith, ints)))

pub low-cast_fits : (wide : Bool) (z : ℤ) → FitsSigned w64 z → low_bits (width wide) (cast_unsigned w64 z) ≡ reduced (width wide) z
low-cast_fits wide z f = low-cast wide z (omega (arith, ints))

cast-lt : (z : ℤ) → unsigned_abs z < 2 ^ 64 → cast_unsigned w64 z < 2 ^ 64
cast-lt (pos n) h = h
cast-lt (negsuc n) h = omega arith

-- to go through 64 bits changes nothing
pub reduced-cast : (wide : Bool) (z : ℤ) → unsigned_abs z < 2 ^ 64
    → reduced (width wide) (cast_signed w64 (cast_unsigned w64 z)) ≡ reduced (width wide) z
reduced-cast wide z h =
    let there = low-cast_fits wide (cast_signed w64 (cast_unsigned w64 z)) (omega (arith, ints)) in
    let back = of_z-to_z w64 (cast_unsigned w64 z) (cast-lt z h) in
    sym there ∙ ap (low_bits (width wide)) back ∙ low-cast wide z (omega arith)
