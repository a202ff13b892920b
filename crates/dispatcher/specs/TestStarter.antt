-- No public clause cites this file.
-- A starter for tests: the driver with a number installs the protocol of that number, and one driver's start fails.
use Rattle.std.specs.Prelude.{ℕ, Bool, ◌==◌, if◌then◌else◌, ◌%◌, List, [], ◌∷◌, ◌++◌, replicate}
use Rattle.std.specs.List.{list_any}
use Rattle.mm_base.specs.Guid.{same_guid}
use Rattle.mm_base.specs.declared.guid.Guid.{Guid}
use Rattle.dispatcher.specs.declared.driver.Started.{Started}

-- the protocols that were installed, the starts that were made, and the driver whose start fails
pub record Told : Type 0 where
  pub installed : List Guid
  pub starts : List Started
  pub failing : ℕ

-- whether a GUID was installed
abbrev pub is_told : Told → Guid → Bool
is_told told guid = list_any (λ one. same_guid one guid) told.installed

-- the GUID of a number
abbrev pub guid_of : ℕ → Guid
guid_of number = record { 0 = replicate 16 number }

-- what the start of a driver leaves
abbrev pub told_after : Told → ℕ → ℕ → Told
told_after told index round = record told {
  installed = if index == told.failing then told.installed else told.installed ++ guid_of (index % 256) ∷ [];
  starts = told.starts ++ record { index = index; round = round } ∷ [];
}
