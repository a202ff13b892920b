-- What the calls of a domain leave alone: all that isn't the image's own.
use Rattle.std.specs.Prelude.{◌≡◌, ℕ, ◌+◌, ◌*◌, ◌-◌, ◌≤◌, List, [], length, set}
use Rattle.mm_base.specs.Frames.{zeros}
use Rattle.mm_base.specs.Numbers.{overwritten}
use Rattle.mm_base.specs.declared.region.Region.{Region}
use Rattle.mmi_registry.specs.Handlers.{without_image}
use Rattle.mmi_registry.specs.Registry.{IsNumbered, RegistryState}
use Rattle.protocol_db.specs.ProtocolDb.{DbState, IsDb}
use Rattle.protocol_db.specs.Rows.{without_owner}
use Rattle.supervisor_calls.specs.Domains.{DomainState, fetched, read_at, written_at}
use Rattle.supervisor_calls.specs.Laws.{IsSite}
use Rattle.supervisor_calls.specs.Services.{region_in, served_by_number}
use Rattle.supervisor_calls.specs.Tables.{TablesState}

-- Memory with zeros where a region lies: two memories of which this is the same differ in the region alone.
abbrev pub outside : Region → List ℕ → List ℕ
outside region memory = overwritten memory (region.base - 0x80000000) (zeros (4096 * (region.pages + 38)))

-- What the law asks, and all tables keep: images lie where they may, memory is whole, there is a pool and a reserve for
-- each image, the numbers of handlers rise and are below the next one, handles are below the next one, and rows of one
-- handle and GUID are one.
pub record IsOrderly (tables : TablesState) : Type 0 where
  pub placed : IsSite tables.site
  pub memory : length tables.live.memory ≡ 33554432
  pub pools : length tables.live.pools ≡ length tables.site.images
  pub reserves : length tables.live.reserves ≡ length tables.site.images
  pub numbered : IsNumbered tables.registry.handlers tables.registry.next
  pub installed : IsDb tables.protocols.rows tables.protocols.next

-- The handlers of the other images and those that are built in are the same, and the next number doesn't fall.
pub record KeepsHandlers (image : ℕ) (before after : RegistryState) : Type 0 where
  pub others : without_image image after.handlers ≡ without_image image before.handlers
  pub next : before.next ≤ after.next
  pub frozen : after.frozen ≡ before.frozen

-- The interfaces of the other images are the same, and the next handle doesn't fall.
pub record KeepsInterfaces (image : ℕ) (before after : DbState) : Type 0 where
  pub others : without_owner image after.rows ≡ without_owner image before.rows
  pub next : before.next ≤ after.next
  pub frozen : after.frozen ≡ before.frozen

-- From one domain to another nothing changed but what is its image's own (the bytes of its region, its pool, its
-- reserve, its handlers, its interfaces), the cells, the records, and the next number and handle, which never fall.
pub record StaysWithin (before after : DomainState) : Type 0 where
  pub image : after.image ≡ before.image
  pub saved : after.saved ≡ before.saved
  pub site : after.tables.site ≡ before.tables.site
  pub locked : after.tables.locked ≡ before.tables.locked
  pub pages : after.tables.pages ≡ before.tables.pages
  pub memory :
      outside (region_in before) after.tables.live.memory
      ≡ outside (region_in before) before.tables.live.memory
  pub pools : set after.tables.live.pools before.image [] ≡ set before.tables.live.pools before.image []
  pub reserves : set after.tables.live.reserves before.image [] ≡ set before.tables.live.reserves before.image []
  pub handlers : KeepsHandlers before.image before.tables.registry after.tables.registry
  pub interfaces : KeepsInterfaces before.image before.tables.protocols after.tables.protocols
  pub orderly : IsOrderly after.tables

-- Each call of a domain stays within, whatever it answers. It begins where the tables are orderly.
pub record CallsStayWithin : Type 0 where
  pub begins : (before : DomainState) → IsOrderly before.tables → StaysWithin before before
  pub fetches : (before after : DomainState) (at n : ℕ)
      → StaysWithin before after → StaysWithin before (fetched after at n).1
  pub reads : (before after : DomainState) (at n : ℕ)
      → StaysWithin before after → StaysWithin before (read_at after at n).1
  pub writes : (before after : DomainState) (at n value : ℕ)
      → StaysWithin before after → StaysWithin before (written_at after at n value).1
  pub serves : (before after : DomainState) (number stack : ℕ)
      → StaysWithin before after → StaysWithin before (served_by_number number stack after).1
