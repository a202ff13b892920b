-- No public clause cites this file.
-- What is done to the blocks and the pages that images hold, by functions of the tables.
use Rattle.std.specs.Prelude.{ℕ, ◌-◌, ◌*◌, Bool, true, false, List, [], get_or, set, slice_get, Option, Some, None}
use Rattle.std.specs.Option.{option_map_or}
use Rattle.mm_base.specs.Frames.{zeros}
use Rattle.mm_base.specs.Numbers.{overwritten}
use Rattle.mm_base.specs.declared.region.Region.{Region}
use Rattle.page_runs.specs.Runs.{with_run}
use Rattle.pool_tree.specs.Pool.{Block, with_block, without_block}
use Rattle.supervisor_calls.specs.Holdings.{page_at}
use Rattle.supervisor_calls.specs.Tables.{TablesState}

-- the region of an image; where there is no such image, one of no pages at 0
abbrev pub region_at : ℕ → TablesState → Region
region_at image tables =
    option_map_or (λ placed. placed.region) (slice_get tables.site.images image) (record { base = 0; pages = 0 })

-- what an image holds, and the tables where it holds something else
abbrev pub pool_at : ℕ → TablesState → List Block
pool_at image tables = get_or tables.live.pools image []

abbrev pub pool_put : ℕ → List Block → TablesState → TablesState
pool_put image pool tables = record tables { live = record tables.live { pools = set tables.live.pools image pool } }

abbrev pub reserve_at : ℕ → TablesState → List Bool
reserve_at image tables = get_or tables.live.reserves image []

abbrev pub reserve_put : ℕ → List Bool → TablesState → TablesState
reserve_put image reserve tables =
    record tables { live = record tables.live { reserves = set tables.live.reserves image reserve } }

-- the block that was found for an image becomes live, and its place is the answer
abbrev pub block_taken : ℕ → Option Block → TablesState → Option ℕ × TablesState
block_taken image None tables = (None, tables)
block_taken image (Some block) tables =
    (Some block.place, pool_put image (with_block (pool_at image tables) block.place block.size) tables)

-- the block of an image at a place goes where it is live
abbrev pub block_freed : ℕ → ℕ → Bool → TablesState → Bool × TablesState
block_freed image place true tables = (true, pool_put image (without_block (pool_at image tables) place) tables)
block_freed image place false tables = (false, tables)

-- the run of n pages that was found for an image becomes taken, and its first page is the answer
abbrev pub run_taken : ℕ → ℕ → Option ℕ → TablesState → Option ℕ × TablesState
run_taken image n None tables = (None, tables)
run_taken image n (Some start) tables =
    (Some start, reserve_put image (with_run true start n (reserve_at image tables)) tables)

-- the tables where n bytes of memory from an address on are 0
abbrev pub cleared : ℕ → ℕ → TablesState → TablesState
cleared at n tables =
    record tables { live = record tables.live { memory = overwritten tables.live.memory (at - 0x80000000) (zeros n) } }

-- n pages of an image from an address on become 0 and free, where they are taken; its reserve begins at a base
abbrev pub run_given : ℕ → ℕ → ℕ → ℕ → Bool → TablesState → Bool × TablesState
run_given image base address n true tables = (
  true,
  reserve_put image (with_run false (page_at base address) n (reserve_at image tables))
      (cleared address (4096 * n) tables),
)
run_given image base address n false tables = (false, tables)
