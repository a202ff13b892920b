-- No public clause cites this file.
-- How the cells get their values at the start, a line at a time.
use Rattle.std.specs.Prelude.{ℕ, ◌-◌, set}
use Rattle.mm_base.specs.Frames.{zeros}
use Rattle.mm_base.specs.declared.access.Kind.{Kind}
use Rattle.mm_base.specs.declared.access.Kind.TheVariants.{Memory, Io, Msr, Saved}
use Rattle.mm_base.specs.declared.cells.CellWrite.{CellWrite}
use Rattle.platform_model.specs.Cells.{PlatformState, with_register}

-- all cells 0
abbrev pub blank_state : PlatformState
blank_state = record { ports = zeros 65536; device = zeros 65536; msrs = zeros 8192; upper_msrs = zeros 8192 }

-- the cells with a value for one of them
abbrev pub with_value : Kind → ℕ → ℕ → PlatformState → PlatformState
with_value Memory at value platform = record platform { device = set platform.device (at - 0xfe000000) value }
with_value Io at value platform = record platform { ports = set platform.ports at value }
with_value Msr at value platform = with_register at value platform
with_value Saved at value platform = platform

-- the cells after a line of the opening
abbrev pub with_cell : CellWrite → PlatformState → PlatformState
with_cell line platform = with_value line.kind line.at line.value platform
