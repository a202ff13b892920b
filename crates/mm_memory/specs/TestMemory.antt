-- Memory of two pages, for tests, which no program uses.
use Rattle.std.specs.Prelude.{◌≡◌, length, replicate, true}
use Rattle.mm_memory.specs.Flat.{MemoryState}

-- Memory has two pages, both live.
pub record HasTwoPages (memory : MemoryState) : Type 0 where
  pub size : length memory.bytes ≡ 8192
  pub live : memory.live ≡ replicate 2 true
