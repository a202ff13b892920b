-- What a core does to its tables where it starts an image: it fills memory, and it may take the last image out again.
use Rattle.std.specs.Prelude.{ℕ, ◌-◌, List, length, take}
use Rattle.mmi_registry.specs.Handlers.{without_image}
use Rattle.protocol_db.specs.Rows.{without_owner}
use Rattle.supervisor_calls.specs.Tables.{TablesState}

-- the tables with other bytes in memory
abbrev pub with_memory : List ℕ → TablesState → TablesState
with_memory bytes tables = record tables { live = record tables.live { memory = bytes } }

-- the number of the last image
abbrev pub last_image : TablesState → ℕ
last_image tables = length tables.site.images - 1

-- The tables without their last image: its pool and its reserve, its handlers and its interfaces are gone, and these are the next handler's
-- number and the next handle. What stands in memory and in cells stays.
abbrev pub without_last : ℕ → ℕ → TablesState → TablesState
without_last number handle tables = record tables {
  site = record tables.site { images = take (last_image tables) tables.site.images };
  live = record tables.live {
    pools = take (last_image tables) tables.live.pools;
    reserves = take (last_image tables) tables.live.reserves;
  };
  registry = record tables.registry { handlers = without_image (last_image tables) tables.registry.handlers; next = number };
  protocols = record tables.protocols { rows = without_owner (last_image tables) tables.protocols.rows; next = handle };
}
