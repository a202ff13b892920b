-- Laws of byte code's arithmetic, for operands and indexes of any value.
use Rattle.std.specs.Prelude.{◌≡◌, ◌≢◌, ℕ, ◌+◌, ◌-◌, ◌*◌, ◌^◌, ◌<◌, ◌≤◌, Bool, true, ◌&&◌, ◌||◌, ◌⊎◌, if◌then◌else◌, pos, unsigned_abs, int_lt}
use Rattle.mm_base.specs.declared.operation.AluOp.{AluOp}
use Rattle.mm_base.specs.declared.operation.AluOp.TheVariants.{Neg, Div, Divu, Mod, Modu, Shl, Shr, Ashr}
use Rattle.mm_base.specs.declared.operation.CmpOp.TheVariants.{Equal, LessOrEqual, GreaterOrEqual, UnsignedLessOrEqual, UnsignedGreaterOrEqual}
use Rattle.ebc_alu.specs.Reading.{width, low_bits, signed}
use Rattle.ebc_alu.specs.Results.{result_of}
use Rattle.ebc_alu.specs.Tests.{test_of}
use Rattle.ebc_alu.specs.Index.{offset_of}

-- Each result fits the operation's width: a 32-bit operation clears the rest.
abbrev pub ResultsFit : Type 0
ResultsFit = (op : AluOp) (wide : Bool) (a b : ℕ) → result_of op wide a b < 2 ^ width wide

-- DIV times the divisor and MOD together are the dividend again, modulo 2^64 or 2^32.
abbrev pub SignedDivisionsFit : Type 0
SignedDivisionsFit = (wide : Bool) (a b : ℕ) → low_bits (width wide) b ≢ 0 →
    low_bits (width wide) (result_of Div wide a b * low_bits (width wide) b + result_of Mod wide a b)
    ≡ low_bits (width wide) a

-- The same of DIVU and MODU, where nothing is cut off.
abbrev pub UnsignedDivisionsFit : Type 0
UnsignedDivisionsFit = (wide : Bool) (a b : ℕ) → low_bits (width wide) b ≢ 0 →
    result_of Divu wide a b * low_bits (width wide) b + result_of Modu wide a b ≡ low_bits (width wide) a

-- What MOD leaves is nearer to 0 than the divisor, each read with its sign.
abbrev pub RemaindersAreSmall : Type 0
RemaindersAreSmall = (wide : Bool) (a b : ℕ) → low_bits (width wide) b ≢ 0 →
    unsigned_abs (signed (width wide) (result_of Mod wide a b))
    < unsigned_abs (signed (width wide) (low_bits (width wide) b))

-- The least number divided by -1 gives the least number, and leaves 0.
abbrev pub LeastByMinusOne : Type 0
LeastByMinusOne = (wide : Bool) →
    (result_of Div wide (2 ^ (width wide - 1)) (2 ^ width wide - 1) ≡ 2 ^ (width wide - 1))
    × (result_of Mod wide (2 ^ (width wide - 1)) (2 ^ width wide - 1) ≡ 0)

-- NEG gives what is 0 together with operand 2.
abbrev pub NegativesCancel : Type 0
NegativesCancel = (wide : Bool) (a b : ℕ) →
    low_bits (width wide) (result_of Neg wide a b + low_bits (width wide) b) ≡ 0

-- A count of the width or more leaves 0, and of a signed number its sign in each bit.
abbrev pub CountsPastTheWidth : Type 0
CountsPastTheWidth = (wide : Bool) (a b : ℕ) → width wide ≤ low_bits (width wide) b →
    (result_of Shl wide a b ≡ 0)
    × (result_of Shr wide a b ≡ 0)
    × (result_of Ashr wide a b
    ≡ (if int_lt (signed (width wide) (low_bits (width wide) a)) (pos 0) then 2 ^ width wide - 1 else 0))

-- One of two operands is at most the other, and each is at most the other exactly where they are equal.
abbrev pub ComparisonsAreTotal : Type 0
ComparisonsAreTotal = (wide : Bool) (a b : ℕ) →
    ((test_of LessOrEqual wide a b || test_of GreaterOrEqual wide a b) ≡ true)
    × ((test_of LessOrEqual wide a b && test_of GreaterOrEqual wide a b) ≡ test_of Equal wide a b)
    × ((test_of UnsignedLessOrEqual wide a b || test_of UnsignedGreaterOrEqual wide a b) ≡ true)
    × ((test_of UnsignedLessOrEqual wide a b && test_of UnsignedGreaterOrEqual wide a b) ≡ test_of Equal wide a b)

-- An index and the same index with its sign bit set are 0 together.
abbrev pub SignsCancel : Type 0
SignsCancel = (bytes raw : ℕ) → (bytes ≡ 2) ⊎ ((bytes ≡ 4) ⊎ (bytes ≡ 8)) → raw < 2 ^ (8 * bytes - 1) →
    low_bits 64 (offset_of bytes (2 ^ (8 * bytes - 1) + raw) + offset_of bytes raw) ≡ 0
