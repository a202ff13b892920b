-- What the arithmetic instructions of byte code compute of two operands (UEFI 2.10, section 22.8, under the
-- instruction's name). The operands a and b are numbers below 2^bits, and so is each result.
use Rattle.std.specs.Prelude.{◌≡◌, ℕ, ◌+◌, ◌-◌, ◌*◌, ◌/◌, ◌%◌, ◌^◌, Bool, pos, ◌-ℤ◌, ◌*ℤ◌, int_div, int_rem, bit_and, bit_or, bit_xor}
use Rattle.std.specs.Int.{int_div_euclid}
use Rattle.mm_base.specs.declared.operation.AluOp.{AluOp}
use Rattle.mm_base.specs.declared.operation.AluOp.TheVariants.{Not, Neg, Add, Sub, Mul, Mulu, Div, Divu, Mod, Modu, And, Or, Xor, Shl, Shr, Ashr, ExtendByte, ExtendWord, ExtendDouble}
use Rattle.ebc_alu.specs.Reading.{width, low_bits, signed, reduced}

-- NOT: each bit the other way
unfoldable pub complement : ℕ → ℕ → ℕ
complement bits b = 2 ^ bits - 1 - b

-- ADD. That sums, differences and products keep their low bits is this project's own rule: UEFI doesn't say what
-- becomes of a result that is too large.
unfoldable pub sum_of : ℕ → ℕ → ℕ → ℕ
sum_of bits a b = low_bits bits (a + b)

-- SUB; NEG is 0 less operand 2
unfoldable pub difference : ℕ → ℕ → ℕ → ℕ
difference bits a b = reduced bits (pos a -ℤ pos b)

-- MULU
unfoldable pub product_of : ℕ → ℕ → ℕ → ℕ
product_of bits a b = low_bits bits (a * b)

-- MUL
unfoldable pub signed_product : ℕ → ℕ → ℕ → ℕ
signed_product bits a b = reduced bits (signed bits a *ℤ signed bits b)

-- DIVU
abbrev pub quotient : ℕ → ℕ → ℕ
quotient a b = a / b

-- DIV cuts the quotient towards 0. The least number divided by -1 would be one more than the greatest; that the result
-- is the least number, by its low bits, is this project's own rule.
unfoldable pub signed_quotient : ℕ → ℕ → ℕ → ℕ
signed_quotient bits a b = reduced bits (int_div (signed bits a) (signed bits b))

-- MODU
abbrev pub remainder : ℕ → ℕ → ℕ
remainder a b = a % b

-- MOD: what DIV leaves, with the dividend's sign
unfoldable pub signed_remainder : ℕ → ℕ → ℕ → ℕ
signed_remainder bits a b = reduced bits (int_rem (signed bits a) (signed bits b))

-- SHL multiplies by 2^b. SHR divides by 2^b, and ASHR divides the signed number; both round down. So a count of the
-- width or more leaves 0, or the sign. UEFI doesn't say what such a count does: it is this project's own rule.
unfoldable pub left_shift : ℕ → ℕ → ℕ → ℕ
left_shift bits a b = low_bits bits (a * 2 ^ b)

unfoldable pub right_shift : ℕ → ℕ → ℕ
right_shift a b = a / 2 ^ b

unfoldable pub signed_right_shift : ℕ → ℕ → ℕ → ℕ
signed_right_shift bits a b = reduced bits (int_div_euclid (signed bits a) (pos (2 ^ b)))

-- EXTNDB, EXTNDW and EXTNDD: the low 8, 16 or 32 bits of operand 2, read with their sign
unfoldable pub extension : ℕ → ℕ → ℕ → ℕ
extension from bits b = reduced bits (signed from (low_bits from b))

-- the result of each operation on operands of `bits` bits
abbrev pub value_of : AluOp → ℕ → ℕ → ℕ → ℕ
value_of Not bits a b = complement bits b
value_of Neg bits a b = difference bits 0 b
value_of Add bits a b = sum_of bits a b
value_of Sub bits a b = difference bits a b
value_of Mul bits a b = signed_product bits a b
value_of Mulu bits a b = product_of bits a b
value_of Div bits a b = signed_quotient bits a b
value_of Divu bits a b = quotient a b
value_of Mod bits a b = signed_remainder bits a b
value_of Modu bits a b = remainder a b
value_of And bits a b = bit_and a b
value_of Or bits a b = bit_or a b
value_of Xor bits a b = bit_xor a b
value_of Shl bits a b = left_shift bits a b
value_of Shr bits a b = right_shift a b
value_of Ashr bits a b = signed_right_shift bits a b
value_of ExtendByte bits a b = extension 8 bits b
value_of ExtendWord bits a b = extension 16 bits b
value_of ExtendDouble bits a b = extension 32 bits b

-- An instruction's result: the operation on the low 64 or 32 bits of both operands.
abbrev pub result_of : AluOp → Bool → ℕ → ℕ → ℕ
result_of op wide a b = value_of op (width wide) (low_bits (width wide) a) (low_bits (width wide) b)

-- A divisor is 0: operand 2 of DIV, DIVU, MOD or MODU, in the bits that the operation works on.
abbrev pub IsDivisionByZero : AluOp → Bool → ℕ → Type 0
IsDivisionByZero Div wide b = low_bits (width wide) b ≡ 0
IsDivisionByZero Divu wide b = low_bits (width wide) b ≡ 0
IsDivisionByZero Mod wide b = low_bits (width wide) b ≡ 0
IsDivisionByZero Modu wide b = low_bits (width wide) b ≡ 0
IsDivisionByZero _ wide b = ⊥
