-- Where a model-specific register stands.
use Rattle.std.proofs.Common.{◌≡◌, ℕ, ◌-◌, ◌<◌, ◌≤◌, true, false, arith, nat_lt}
use Rattle.std.proofs.lemmas.Bool.Decides.{nat_tests}
use Rattle.mm_base.specs.Cells.{is_msr}

pub upper_from : (index : ℕ) → is_msr index ≡ true → 8192 ≤ index → 0xc0000000 ≤ index
upper_from index there high = grind (arith, nat_tests)

pub upper_place : (index : ℕ) → is_msr index ≡ true → 8192 ≤ index → index - 0xc0000000 < 8192
upper_place index there high = grind (arith, nat_tests)

pub low_index : (index : ℕ) → nat_lt index 0x2000 ≡ true → index < 8192
low_index index e = grind (arith, nat_tests)

pub high_index : (index : ℕ) → nat_lt index 0x2000 ≡ false → 8192 ≤ index
high_index index e = grind (arith, nat_tests)
