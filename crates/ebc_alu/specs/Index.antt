-- Natural indexes (UEFI 2.10, section 22.4): an offset that counts natural units, which have 8 bytes here, and bytes. Immediates too.
--
-- From the top down an index of 2, 4 or 8 bytes has the sign, three bits that say how wide the natural field is, the
-- constant field and the natural field.
use Rattle.std.specs.Prelude.{ℕ, ◌+◌, ◌-◌, ◌*◌, ◌/◌, ◌%◌, ◌^◌, min, if◌then◌else◌, ◌==◌, ℤ, pos, negsuc, ◌*ℤ◌}
use Rattle.ebc_alu.specs.Reading.{reduced}
use Rattle.ebc_alu.specs.Results.{extension}

-- the bits of a number from one place up to another, which is not counted
abbrev pub bits_between : ℕ → ℕ → ℕ → ℕ
bits_between low high n = n / 2 ^ low % 2 ^ (high - low)

-- the place of the three bits, below which the fields are
abbrev pub fields_end : ℕ → ℕ
fields_end bytes = 8 * bytes - 4

-- How many bits the natural field has: the number in the three bits, times 2, 4 or 8 in an index of 2, 4 or 8 bytes. In
-- an index of 2 bytes a 7 gives it the 12 bits that there are. UEFI doesn't say what this 7 means: it is this project's
-- own rule.
unfoldable pub natural_bits : ℕ → ℕ → ℕ
natural_bits bytes raw = min (fields_end bytes) (bytes * bits_between (fields_end bytes) (fields_end bytes + 3) raw)

-- the distance in bytes: the constant field, and 8 for each unit in the natural field
unfoldable pub distance : ℕ → ℕ → ℕ
distance bytes raw =
    bits_between (natural_bits bytes raw) (fields_end bytes) raw + 8 * bits_between 0 (natural_bits bytes raw) raw

-- the sign: -1 where the top bit is set, else 1
unfoldable pub sign_of : ℕ → ℕ → ℤ
sign_of bytes raw = if bits_between (8 * bytes - 1) (8 * bytes) raw == 0 then pos 1 else negsuc 0

-- The value of an index, modulo 2^64.
unfoldable pub offset_of : ℕ → ℕ → ℕ
offset_of bytes raw = reduced 64 (sign_of bytes raw *ℤ pos (distance bytes raw))

-- The value of an immediate (section 22.7): its bytes, with their sign extended, modulo 2^64.
unfoldable pub immediate_of : ℕ → ℕ → ℕ
immediate_of bytes raw = extension (8 * bytes) 64 raw
