-- The start of a driver: what it leaves where its entry succeeds, and what where it doesn't. A start that fails leaves cells and records.
use Rattle.std.specs.Prelude.{◌≡◌, ℕ, ◌+◌, ◌*◌, ◌-◌, ◌^◌, Bool, true, false, if◌then◌else◌, nat_lt, List, [], ◌∷◌, length, map, replicate, Option, Some, None}
use Rattle.std.specs.List.{range_with_len}
use Rattle.domain_runs.specs.Runs.{ending}
use Rattle.ebc_machine.specs.Invocation.{entered}
use Rattle.image_table.specs.ImageTable.{placed, region_at}
use Rattle.mm_base.specs.Numbers.{bytes_of_words, overwritten}
use Rattle.mm_base.specs.Records.{RecordsState}
use Rattle.mm_base.specs.Regions.{pages_filled, service_page_of, stack_of}
use Rattle.mm_base.specs.Services.{entry_of}
use Rattle.mm_base.specs.declared.guid.Guid.{Guid}
use Rattle.mm_base.specs.declared.image.Image.{Image}
use Rattle.mm_base.specs.declared.image.Part.{Part}
use Rattle.mm_base.specs.declared.invocation.Ended.{Ended}
use Rattle.mm_base.specs.declared.invocation.Ended.TheVariants.{Returned}
use Rattle.mm_base.specs.declared.region.Region.{Region}
use Rattle.page_runs.specs.Runs.{with_run}
use Rattle.pe_loader.specs.Loading.{IsLoaded}
use Rattle.pe_loader.specs.Sections.{parts}
use Rattle.supervisor_calls.specs.Domains.{DomainState}
use Rattle.supervisor_calls.specs.Holdings.{next_run}
use Rattle.supervisor_calls.specs.Loading.{last_image, with_memory}
use Rattle.supervisor_calls.specs.Services.{domain_meaning}
use Rattle.supervisor_calls.specs.Tables.{TablesState, with_image}
use Rattle.driver_start.specs.Hosts.{HostState}
use Rattle.driver_start.specs.declared.starting.StartEnd.{StartEnd}
use Rattle.driver_start.specs.declared.starting.StartEnd.TheVariants.{Ran, NoPages, TooMany}

-- what contracts see of a driver: its name, the bytes of its image's file, and what that image says
pub record DriverState : Type 0 where
  pub name : Guid
  pub bytes : List ℕ
  pub image : Image

-- a driver that may be started: its name, what its image says, its sections, and its bytes where it is loaded at an address
pub record Loadable : Type 0 where
  pub name : Guid
  pub image : Image
  pub parts : List Part
  pub form : ℕ → List ℕ

-- The driver is this one: its sections are those of its image's table, and its form at each address is the image loaded there.
pub record IsLoadable (driver : DriverState) (loadable : Loadable) : Type 0 where
  pub name : loadable.name ≡ driver.name
  pub image : loadable.image ≡ driver.image
  pub parts : loadable.parts ≡ parts driver.bytes
  pub form : (base : ℕ) → IsLoaded driver.bytes base (loadable.form base)

-- how many pages an image takes: its own, and 38 more
abbrev pub pages_of_start : Image → ℕ
pages_of_start image = pages_filled image.size + 38

-- the region of an image on the pages from this one on
abbrev pub region_on : ℕ → Image → Region
region_on page image = region_at (0x80000000 + 4096 * page) image

-- the addresses of the 20 services, as the bytes of a service page
abbrev pub service_bytes : ℕ → List ℕ
service_bytes page = bytes_of_words (map (entry_of page) (range_with_len 0 20))

-- memory with an image in it: its bytes at the begin of its region, and the addresses of the services at that of its service page
abbrev pub with_loaded : Region → List ℕ → List ℕ → List ℕ
with_loaded region form memory =
    let page = (service_page_of region).base in
    overwritten (overwritten memory (region.base - 0x80000000) form) (page - 0x80000000) (service_bytes page)

-- the tables with a driver's image on the pages from this one on, as the last image
abbrev pub admitted : Loadable → ℕ → TablesState → TablesState
admitted driver page tables =
    let region = region_on page driver.image in
    with_image (Some (length tables.site.images)) (placed driver.name region.base driver.image driver.parts)
    (with_memory (with_loaded region (driver.form region.base) tables.live.memory) tables)

-- no records
abbrev pub blank : RecordsState
blank = record { denials = []; writes = [] }

-- the domain of the last image, for which no registers were saved
abbrev pub opening_domain : TablesState → DomainState
opening_domain tables =
    record { tables = tables; image = last_image tables; saved = record { 0 = replicate 19 0 }; records = blank }

-- The entry of the last image is invoked, under the policy's fuel: its arguments are the image's number + 1, the address of its service
-- page, 0 and 0.
unfoldable pub entry_run : Region → ℕ → TablesState → Ended × DomainState
entry_run region entry tables =
    let stack = stack_of region in
    let arguments = (last_image tables + 1) ∷ (service_page_of region).base ∷ 0 ∷ 0 ∷ [] in
    ending domain_meaning tables.site.policy.fuel
    (entered domain_meaning (stack.base + stack.length) (region.base + entry) arguments (opening_domain tables))

-- whether an entry that ended so has succeeded: it returned a status without the top bit
abbrev pub has_started : Ended → Bool
has_started (Returned status) = nat_lt status (2 ^ 63)
has_started _ = false

-- What a start on the pages from this one on leaves, once the entry ended so: where it succeeded, the image with all that it did; else
-- the host as it was before, with the cells as they are now.
abbrev pub settled : Image → ℕ → HostState → Ended × DomainState → HostState
settled image page host ran =
    if has_started ran.0
    then record { tables = ran.1.tables; taken = with_run true page (pages_of_start image) host.taken }
    else record host { tables = record host.tables { live = record host.tables.live { platform = ran.1.tables.live.platform } } }

-- a start on the pages from this one on, which are free
abbrev pub started_on : Loadable → HostState → Option ℕ → (StartEnd × RecordsState) × HostState
started_on driver host None = ((NoPages, blank), host)
started_on driver host (Some page) =
    let ran = entry_run (region_on page driver.image) driver.image.entry (admitted driver page host.tables) in
    ((Ran ran.0, ran.1.records), settled driver.image page host ran)

-- A start: no image comes after the 32nd; else it takes the lowest run of free pages that is long enough.
unfoldable pub started : Loadable → HostState → (StartEnd × RecordsState) × HostState
started driver host =
    if nat_lt (length host.tables.site.images) 32
    then started_on driver host (next_run host.taken (pages_of_start driver.image))
    else ((TooMany, blank), host)

-- a start told these, and left this host
abbrev pub told_as : HostState × StartEnd × RecordsState → (StartEnd × RecordsState) × HostState
told_as told = ((told.1, told.2), told.0)
