-- Whole memory and one image, for tests, which no program uses.
use Rattle.std.specs.Prelude.{◌≡◌, ◌<◌, true, List, length, replicate, All, Option, IfSome}
use Rattle.image_table.specs.Sections.{LieBetween, AreApart}
use Rattle.mm_base.specs.declared.image.Part.{Part}
use Rattle.mm_memory.specs.Flat.{MemoryState}
use Rattle.supervisor_calls.specs.Tables.{TablesState}

-- Memory has 8,192 pages, all live.
pub record IsWholeMemory (memory : MemoryState) : Type 0 where
  pub size : length memory.bytes ≡ 33554432
  pub small : All (λ byte. byte < 256) memory.bytes
  pub live : memory.live ≡ replicate 8192 true

-- These are the sections of the image of these tests: one, behind 256 bytes of headers, in one page.
pub record IsOneSection (parts : List Part) : Type 0 where
  pub count : length parts ≡ 1
  pub within : LieBetween 256 4096 parts
  pub apart : AreApart parts

-- All pages of the tables' memory are live.
pub record HaveAllPages (tables : TablesState) : Type 0 where
  pub live : tables.pages ≡ replicate 8192 true

-- If there are tables, all pages of their memory are live.
abbrev pub HasAllPages : Option TablesState → Type 0
HasAllPages found = IfSome found HaveAllPages
