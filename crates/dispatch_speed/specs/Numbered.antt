-- No public clause cites this file.
-- Drivers by their numbers, and a flag for the protocol of each.
use Rattle.std.specs.Prelude.{◌≡◌, ℕ, ◌+◌, ◌*◌, ◌<◌, Bool, true, false, List, length, All, slice_get, slice_index, slice_set}
use Rattle.std.specs.Option.{unwrap_or}
use Rattle.mm_base.specs.declared.guid.Guid.{Guid}
use Rattle.dispatcher.specs.Drivers.{NamesDiffer}
use Rattle.dispatcher.specs.declared.driver.Driver.{Driver}

-- the number of a GUID: what its first two bytes are, the lower one first
abbrev pub number_of : Guid → ℕ
number_of guid = slice_index guid.0 0 + 256 * slice_index guid.0 1

-- whether the protocol of a GUID's number is installed
abbrev pub is_installed : List Bool → Guid → Bool
is_installed flags guid = unwrap_or (slice_get flags (number_of guid)) false

-- what the start of a driver leaves: its protocol is installed
abbrev pub after_start : List Bool → ℕ → ℕ → List Bool
after_start flags index round = slice_set flags index true

-- The numbers of the drivers' names are below this.
abbrev pub AreBelow : ℕ → List Driver → Type 0
AreBelow number drivers = All (λ driver. number_of driver.name < number) drivers

-- Drivers with the numbers below this, one each: what holds of them as they are made.
pub record AreFirst (number : ℕ) (drivers : List Driver) : Type 0 where
  pub names : NamesDiffer drivers
  pub below : AreBelow number drivers
  pub many : length drivers ≡ number
