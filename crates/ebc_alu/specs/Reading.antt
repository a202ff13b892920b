-- How an operation of byte code reads its operands: as numbers of 64 or 32 bits, without a sign or with one.
use Rattle.std.specs.Prelude.{ℕ, ◌-◌, ◌%◌, ◌^◌, Bool, true, false, if◌then◌else◌, nat_lt, ℤ, pos, ◌-ℤ◌, unsigned_abs}
use Rattle.std.specs.Int.{int_rem_euclid}

-- how many bits an operation works on: 64 where it is wide, else 32
abbrev pub width : Bool → ℕ
width true = 64
width false = 32

-- the low `bits` bits of a number
abbrev pub low_bits : ℕ → ℕ → ℕ
low_bits bits n = n % 2 ^ bits

-- A number below 2^bits, read with a sign (two's complement): from half of the range on it counts 2^bits less.
unfoldable pub signed : ℕ → ℕ → ℤ
signed bits n = if nat_lt n (2 ^ (bits - 1)) then pos n else pos n -ℤ pos (2 ^ bits)

-- a whole number modulo 2^bits: the remainder that is not negative
unfoldable pub reduced : ℕ → ℤ → ℕ
reduced bits z = unsigned_abs (int_rem_euclid z (pos (2 ^ bits)))
