-- What contracts see of the platform's cells.
use Rattle.std.specs.Prelude.{◌≡◌, ◌⊎◌, ℕ, ◌-◌, nat_lt, List, length, get_or, set, if◌then◌else◌}

-- The ports and the bytes of the device window, 65,536 of each, and the lower and the upper model-specific registers,
-- 8,192 of each. Each list begins with the cell that has the lowest number. Platforms whose cells hold the same are the
-- same.
pub record PlatformState : Type 0 where
  pub ports : List ℕ
  pub device : List ℕ
  pub msrs : List ℕ
  pub upper_msrs : List ℕ

-- All cells of the map are there.
pub record IsPlatform (platform : PlatformState) : Type 0 where
  pub ports : length platform.ports ≡ 65536
  pub device : length platform.device ≡ 65536
  pub msrs : length platform.msrs ≡ 8192
  pub upper_msrs : length platform.upper_msrs ≡ 8192

-- ports are accessed in 1, 2 or 4 bytes
abbrev pub IsPortWidth : ℕ → Type 0
IsPortWidth n = (n ≡ 1) ⊎ ((n ≡ 2) ⊎ (n ≡ 4))

-- the register with this number: the lower ones are numbered from 0, the upper ones from C0000000 (hexadecimal)
abbrev pub register_in : PlatformState → ℕ → ℕ
register_in platform index =
    if nat_lt index 0x2000 then get_or platform.msrs index 0 else get_or platform.upper_msrs (index - 0xc0000000) 0

-- the cells with another value in that register
abbrev pub with_register : ℕ → ℕ → PlatformState → PlatformState
with_register index value platform =
    if nat_lt index 0x2000
    then record platform { msrs = set platform.msrs index value }
    else record platform { upper_msrs = set platform.upper_msrs (index - 0xc0000000) value }
