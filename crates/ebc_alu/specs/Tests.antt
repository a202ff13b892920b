-- What the comparisons of byte code test of two operands (UEFI 2.10, section 22.8, CMP and CMPI).
use Rattle.std.specs.Prelude.{ℕ, Bool, ◌==◌, nat_le, int_le}
use Rattle.mm_base.specs.declared.operation.CmpOp.{CmpOp}
use Rattle.mm_base.specs.declared.operation.CmpOp.TheVariants.{Equal, LessOrEqual, GreaterOrEqual, UnsignedLessOrEqual, UnsignedGreaterOrEqual}
use Rattle.ebc_alu.specs.Reading.{width, low_bits, signed}

-- each test of operands of `bits` bits
abbrev pub holds : CmpOp → ℕ → ℕ → ℕ → Bool
holds Equal bits a b = a == b
holds LessOrEqual bits a b = int_le (signed bits a) (signed bits b)
holds GreaterOrEqual bits a b = int_le (signed bits b) (signed bits a)
holds UnsignedLessOrEqual bits a b = nat_le a b
holds UnsignedGreaterOrEqual bits a b = nat_le b a

-- A comparison's outcome: the test of the low 64 or 32 bits of both operands.
abbrev pub test_of : CmpOp → Bool → ℕ → ℕ → Bool
test_of op wide a b = holds op (width wide) (low_bits (width wide) a) (low_bits (width wide) b)
