-- What contracts see of the tables that a core keeps for its images: what stays from lock on, which verdicts rest on,
-- and what a step may change.
use Rattle.std.specs.Prelude.{◌≡◌, ℕ, ◌+◌, ◌*◌, ◌-◌, ◌<◌, Bool, false, if◌then◌else◌, nat_lt, List, [], ◌∷◌, ◌++◌, length, replicate, All, Option, Some, None}
use Rattle.image_table.specs.declared.placed_image.PlacedImage.{PlacedImage}
use Rattle.mm_base.specs.declared.policy.Policy.{Policy}
use Rattle.mm_memory.specs.Flat.{AreLive}
use Rattle.mmi_registry.specs.Registry.{RegistryState}
use Rattle.platform_model.specs.Cells.{PlatformState}
use Rattle.pool_tree.specs.Pool.{Block}
use Rattle.protocol_db.specs.ProtocolDb.{DbState}

-- what stays from lock on: the images in order of admission, with their places, and the policy
pub record Site : Type 0 where
  pub images : List PlacedImage
  pub policy : Policy

-- What a step may change: the bytes of management-mode memory, the cells, and what each image holds, by its number: the
-- live blocks of its pool, and which of its 16 reserve pages are taken.
pub record Live : Type 0 where
  pub memory : List ℕ
  pub platform : PlatformState
  pub pools : List (List Block)
  pub reserves : List (List Bool)

-- the tables: these two, the handlers, the interfaces, whether they are locked, and which pages of memory may be read
-- and written
pub record TablesState : Type 0 where
  pub site : Site
  pub live : Live
  pub registry : RegistryState
  pub protocols : DbState
  pub locked : Bool
  pub pages : List Bool

-- the number that the next image gets; none where there are 32
abbrev pub number_for : List PlacedImage → Option ℕ
number_for images = if nat_lt (length images) 32 then Some (length images) else None

-- the tables with one more image, whose pool is empty and of whose reserve no page is taken; the same without a number
-- for it
abbrev pub with_image : Option ℕ → PlacedImage → TablesState → TablesState
with_image None image tables = tables
with_image (Some number) image tables = record tables {
  site = record tables.site { images = tables.site.images ++ image ∷ [] };
  live = record tables.live {
    pools = tables.live.pools ++ [] ∷ [];
    reserves = tables.live.reserves ++ replicate 16 false ∷ [];
  };
}

-- The pages of an image's region are live.
abbrev pub IsRegionLive : List Bool → PlacedImage → Type 0
IsRegionLive pages image = AreLive pages (image.region.base - 0x80000000) (4096 * (image.region.pages + 38))

-- What all tables keep: memory has 8,192 pages of 4,096 bytes; there is a pool and a reserve of 16 pages for each
-- image; handlers may be registered and interfaces installed exactly until the lock; and the pages of each image's
-- region are live.
pub record IsTables (tables : TablesState) : Type 0 where
  pub memory : length tables.live.memory ≡ 33554432
  pub bytes : All (λ byte. byte < 256) tables.live.memory
  pub pools : length tables.live.pools ≡ length tables.site.images
  pub reserves : length tables.live.reserves ≡ length tables.site.images
  pub sixteen : All (λ reserve. length reserve ≡ 16) tables.live.reserves
  pub frozen : tables.registry.frozen ≡ tables.locked
  pub settled : tables.protocols.frozen ≡ tables.locked
  pub live : All (IsRegionLive tables.pages) tables.site.images
