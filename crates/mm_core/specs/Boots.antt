-- The boot of a volume: the core that it leaves, and what is told of it.
use Rattle.std.specs.Prelude.{◌≡◌, ℕ, List}
use Rattle.mm_base.specs.declared.cells.CellWrite.{CellWrite}
use Rattle.mm_base.specs.declared.volume.File.{File}
use Rattle.mm_core.specs.CoreState.{core_of_tables}
use Rattle.mm_core.specs.declared.booted.Boot.{Boot}
use Rattle.platform_model.specs.Cells.{IsPlatform}
use Rattle.volume_boot.specs.Boots.{AreBooted, BootOutcome, IsBootOf}

-- the boot that came to this
abbrev pub boot_of : BootOutcome → Boot
boot_of outcome = record { core = core_of_tables outcome.tables; starts = outcome.starts; waiting = outcome.waiting }

-- This is a boot of the volume with these files and opening cells. Its tables are locked, all is in its place in them, and all cells are there.
pub record IsBoot (bytes : List ℕ) (files : List File) (cells : List CellWrite) (boot : Boot) : Type 0 where
  pub outcome : BootOutcome
  pub is : IsBootOf bytes files cells outcome
  pub booted : AreBooted outcome.tables
  pub all_cells : IsPlatform outcome.tables.live.platform
  pub leaves : boot ≡ boot_of outcome
