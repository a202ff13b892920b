-- Sums that checksums make 0.
use Rattle.std.specs.Prelude.{ℕ, ◌+◌, ◌*◌, ◌%◌, List, [], ◌∷◌, sum}

-- the 8-bit sum of bytes: IntegrityCheck.Checksum.Header and IntegrityCheck.Checksum.File of an EFI_FFS_FILE_HEADER make one 0
abbrev pub sum_in_8_bits : List ℕ → ℕ
sum_in_8_bits bytes = sum bytes % 256

-- the sum of the 16-bit words that bytes spell, the lower byte first
abbrev pub sum_of_words : List ℕ → ℕ
sum_of_words [] = 0
sum_of_words (low ∷ []) = low
sum_of_words (low ∷ high ∷ bytes) = low + 256 * high + sum_of_words bytes

-- the 16-bit sum of bytes: Checksum of an EFI_FIRMWARE_VOLUME_HEADER makes it 0
abbrev pub sum_in_16_bits : List ℕ → ℕ
sum_in_16_bits bytes = sum_of_words bytes % 65536
