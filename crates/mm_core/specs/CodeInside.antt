-- No public clause cites this file.
-- The steps by which a handler in byte code is invoked, as the code makes them over tables.
use Rattle.std.specs.Prelude.{◌≡◌, ℕ, ◌+◌, Bool, true, List, [], ◌∷◌, Some, slice_get}
use Rattle.std.specs.Option.{option_map}
use Rattle.domain_runs.specs.Laws.{HasTables}
use Rattle.domain_runs.specs.Runs.{ending}
use Rattle.ebc_machine.specs.Invocation.{entered}
use Rattle.mm_base.specs.Platform.{mmram}
use Rattle.mm_base.specs.Range.{encloses}
use Rattle.mm_base.specs.Records.{RecordsState}
use Rattle.mm_base.specs.Regions.{region_of, stack_of}
use Rattle.mm_base.specs.declared.cells.Saved.{Saved}
use Rattle.mm_base.specs.declared.handler.Handler.{Handler}
use Rattle.mm_base.specs.declared.invocation.Ended.{Ended}
use Rattle.mm_base.specs.declared.invocation.Invocation.{Invocation}
use Rattle.mm_base.specs.declared.region.Region.{Region}
use Rattle.mm_core.specs.CodeRun.{addresses, handed_back, page_place, with_message}
use Rattle.mm_core.specs.BufferInside.{BufferState}
use Rattle.mm_core.specs.CoreState.{CoreState}
use Rattle.mm_core.specs.Message.{Invoked, Message}
use Rattle.mm_memory.specs.Flat.{AreLive}
use Rattle.supervisor_calls.specs.Domains.{DomainState}
use Rattle.supervisor_calls.specs.Loading.{with_memory}
use Rattle.supervisor_calls.specs.Services.{domain_meaning}
use Rattle.supervisor_calls.specs.Tables.{TablesState}

-- This is the region of an image.
abbrev pub IsRegion : TablesState → ℕ → Region → Type 0
IsRegion tables image region = option_map (λ placed. placed.region) (slice_get tables.site.images image) ≡ Some region

-- A region lies in management-mode memory.
abbrev pub IsInMemory : Region → Type 0
IsInMemory region = encloses mmram (region_of region) ≡ true

-- The communicate page of a region is live.
abbrev pub IsPageLive : List Bool → Region → Type 0
IsPageLive pages region = AreLive pages (page_place region) 4096

-- the tables with a message in the page of a region
abbrev pub refreshed : Region → Message → TablesState → TablesState
refreshed region message tables = with_memory (with_message region message tables.live.memory) tables

-- the code of an image at an address runs over these tables
unfoldable pub run_over : Saved → Handler → ℕ → ℕ → Region → TablesState → Ended × DomainState
run_over saved handler image address region tables =
    let stack = stack_of region in
    let arguments = (handler.number + 1) ∷ 0 ∷ addresses handler.guid region in
    ending domain_meaning tables.site.policy.fuel
    (entered domain_meaning (stack.base + stack.length) address arguments
    (record { tables = tables; image = image; saved = saved; records = record { denials = []; writes = [] } }))

-- the invocation of a handler of this number that ended so, with these records
abbrev pub invocation_of : ℕ → RecordsState × Ended → Invocation
invocation_of number told = record { handler = number; ended = told.1; denials = told.0.denials; writes = told.0.writes }

-- A run of a handler is this: how it ended, with its records; the buffer that it left; and the core, of which it changed only what a step
-- may change.
pub record IsInvoked (core : CoreState) (number : ℕ) (run : Invoked) (given : BufferState) (told : RecordsState × Ended) (left : CoreState)
    (buffer : BufferState) : Type 0 where
  pub invocation : invocation_of number told ≡ run.invocation
  pub message : buffer ≡ record given { message = run.message }
  pub left_is : left ≡ record core { live = run.live }

-- Code of an image was invoked over these tables: the page of its region was filled, it ran, and the message was handed back.
pub record IsCodeInvoked (tables : TablesState) (handler : Handler) (image address : ℕ) (saved : Saved) (given : BufferState)
    (told : TablesState × RecordsState × Ended) (buffer : BufferState) : Type 0 where
  pub region : Region
  pub is_region : IsRegion tables image region
  pub ran : Ended × DomainState
  pub is : ran ≡ run_over saved handler image address region (refreshed region given.message tables)
  pub stays : HasTables tables ran.1
  pub tables_are : told.0 ≡ ran.1.tables
  pub records_are : told.1 ≡ ran.1.records
  pub ended_is : told.2 ≡ ran.0
  pub message_is : buffer ≡ record given { message = handed_back handler.guid region given.message ran.1.tables.live.memory }
