-- The cells of the platform, by this project's own map: ports and device bytes hold 8 bits, model-specific registers
-- 64.
use Rattle.std.specs.Prelude.{◌≡◌, ℕ, Bool, true, false, ◌&&◌, ◌||◌, nat_le, nat_lt, List}
use Rattle.std.specs.List.{All}
use Rattle.mm_base.specs.declared.access.Kind.{Kind}
use Rattle.mm_base.specs.declared.access.Kind.TheVariants.{Memory, Io, Msr, Saved}
use Rattle.mm_base.specs.declared.cells.CellWrite.{CellWrite}

-- a port: there are 65,536
abbrev pub is_port : ℕ → Bool
is_port at = nat_lt at 0x10000

-- a byte of the device window, by its address
abbrev pub is_device_byte : ℕ → Bool
is_device_byte at = nat_le 0xfe000000 at && nat_lt at 0xfe010000

-- a model-specific register: 8,192 from 0 on, and 8,192 from C0000000 (hexadecimal) on
abbrev pub is_msr : ℕ → Bool
is_msr at = nat_lt at 0x2000 || (nat_le 0xc0000000 at && nat_lt at 0xc0002000)

-- whether the platform has a cell of this kind there, and it may hold this value; saved registers are no cells
abbrev pub may_hold : Kind → ℕ → ℕ → Bool
may_hold Memory at value = is_device_byte at && nat_lt value 0x100
may_hold Io at value = is_port at && nat_lt value 0x100
may_hold Msr at value = is_msr at
may_hold Saved at value = false

-- an opening cell: one cell of the platform, with a value that it may hold
pub record IsOpeningCell (cell : CellWrite) : Type 0 where
  pub one : cell.n ≡ 1
  pub there : may_hold cell.kind cell.at cell.value ≡ true

-- what cells may hold at the start: each item is one cell
abbrev pub IsOpening : List CellWrite → Type 0
IsOpening cells = All IsOpeningCell cells
