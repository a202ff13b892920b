-- Sets of rights, as bits of a number.
use Rattle.std.specs.Prelude.{ℕ, Bool}
use Rattle.mm_base.specs.Numbers.{has_bit}
use Rattle.mm_base.specs.declared.access.Right.{Right}
use Rattle.mm_base.specs.declared.access.Right.TheVariants.{Read, Write, Execute}

-- the bit that stands for a right
abbrev pub bit_of : Right → ℕ
bit_of Read = 1
bit_of Write = 2
bit_of Execute = 4

-- whether rights have this one
abbrev pub have_right : ℕ → Right → Bool
have_right rights right = has_bit rights (bit_of right)
