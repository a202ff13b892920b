-- No public clause cites this file.
-- What a core consists of, for its model.
use Rattle.std.specs.Prelude.{◌≡◌, true, [], Some, None}
use Rattle.mm_core.specs.CoreState.{CoreState, core_of_tables, without_images}
use Rattle.mm_core.specs.declared.core_parts.CoreParts.{CoreParts}
use Rattle.mm_core.specs.declared.core_parts.CoreParts.TheVariants.{Scripted, Booted}
use Rattle.volume_boot.specs.Boots.{AreBooted}

-- the core that consists of this; its tables are away only while a handler runs, and then there is no core
abbrev pub core_seen : CoreParts → CoreState
core_seen (Scripted registry platform) = without_images registry.handlers platform
core_seen (Booted (Some tables)) = core_of_tables tables
core_seen (Booted None) = without_images [] (record { ports = []; device = []; msrs = []; upper_msrs = [] })

-- Registration and installation are over, and the tables are there.
abbrev pub IsCore : CoreParts → Type 0
IsCore (Scripted registry platform) = registry.frozen ≡ true
IsCore (Booted (Some tables)) = AreBooted tables
IsCore (Booted None) = ⊥
