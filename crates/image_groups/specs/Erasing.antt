-- What is left of a state for a group: all that isn't granted to it is erased.
use Rattle.std.specs.Prelude.{ℕ, suc, ◌+◌, Bool, false, List, [], ◌∷◌, if◌then◌else◌, get_or, replicate}
use Rattle.mm_base.specs.declared.access.Kind.TheVariants.{Memory, Io, Msr}
use Rattle.mm_base.specs.declared.cells.Saved.{Saved}
use Rattle.platform_model.specs.Cells.{PlatformState}
use Rattle.supervisor_calls.specs.Domains.{DomainState}
use Rattle.supervisor_calls.specs.Tables.{Site, Live}
use Rattle.image_groups.specs.Groups.{Group, granted, is_register_granted}

-- a list with a blank at each place that doesn't pass a test
abbrev pub masked : {A : Type 0} → A → (ℕ → Bool) → List A → List A
masked blank test [] = []
masked blank test (item ∷ items) = (if test 0 then item else blank) ∷ masked blank (λ k. test (suc k)) items

-- the cells of the platform with 0 in each that isn't granted to the group
abbrev pub erased_cells : Group → Site → PlatformState → PlatformState
erased_cells group site platform = record {
  ports = masked 0 (λ port. granted group site Io port) platform.ports;
  device = masked 0 (λ k. granted group site Memory (0xfe000000 + k)) platform.device;
  msrs = masked 0 (λ index. granted group site Msr index) platform.msrs;
  upper_msrs = masked 0 (λ k. granted group site Msr (0xc0000000 + k)) platform.upper_msrs;
}

-- What a step may change, with 0 in each byte of memory and each cell that isn't granted to the group, and where an image outside the
-- group has no live block in its pool and no page of its reserve is taken.
abbrev pub erase : Group → Site → Live → Live
erase group site live = record {
  memory = masked 0 (λ k. granted group site Memory (0x80000000 + k)) live.memory;
  platform = erased_cells group site live.platform;
  pools = masked [] group live.pools;
  reserves = masked (replicate 16 false) group live.reserves;
}

-- the access that the processor was trapped at, by the saved registers: the last of them
abbrev pub trapped_in : Saved → ℕ
trapped_in saved = get_or saved.0 18 0

-- the saved registers of an entry with 0 in each that isn't granted to the group at its trapped access
abbrev pub projected_registers : Group → Site → Saved → Saved
projected_registers group site saved =
    record { 0 = masked 0 (is_register_granted group site (trapped_in saved)) saved.0 }

-- A domain with all erased that isn't granted to the group: what a step may change, and the saved registers.
abbrev pub erased_domain : Group → DomainState → DomainState
erased_domain group domain = record domain {
  tables = record domain.tables { live = erase group domain.tables.site domain.tables.live };
  saved = projected_registers group domain.tables.site domain.saved;
}
