-- No public clause cites this file.
-- Where the bytes lie of an access that passes.
use Rattle.std.specs.Prelude.{◌≡◌, ◌≤◌, ℕ, ◌+◌, ◌-◌, true, false, length}
use Rattle.mm_base.specs.Cells.{is_device_byte}
use Rattle.mm_memory.specs.Flat.{AreLive}
use Rattle.supervisor_calls.specs.Tables.{TablesState}

-- n bytes from an address are those of memory from a place on, and their pages are live
pub record AreStored (tables : TablesState) (at n place : ℕ) : Type 0 where
  pub memory : is_device_byte at ≡ false
  pub place_is : place ≡ at - 0x80000000
  pub within : place + n ≤ length tables.live.memory
  pub live : AreLive tables.pages place n

-- they lie in the device window
pub record AreOfDevice (at n : ℕ) : Type 0 where
  pub device : is_device_byte at ≡ true
  pub from : 0xfe000000 ≤ at
  pub to : at + n ≤ 0xfe010000
