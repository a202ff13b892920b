-- The services that an image may call, by UEFI's and PI's names and this project's own numbers, arguments and statuses.
-- Each is a deed: its causes to be refused in their order, then one effect. Where it is refused, nothing changes but
-- the records.
use Rattle.std.specs.Prelude.{ℕ, ◌+◌, ◌*◌, ◌-◌, ◌%◌, ◌^◌, Bool, true, false, if◌then◌else◌, ◌==◌, ◌&&◌, ◌||◌, not, nat_lt, List, [], ◌∷◌, slice_get, Option, Some, None, Result, Ok, Err}
use Rattle.std.specs.Option.{option_map, option_map_or}
use Rattle.mm_base.specs.Bus.{Meaning}
use Rattle.mm_base.specs.Regions.{pool_of, reserve_of}
use Rattle.mm_base.specs.Statuses.{success, invalid_parameter, unsupported, out_of_resources, not_found, access_denied}
use Rattle.mm_base.specs.declared.access.Denial.{Denial}
use Rattle.mm_base.specs.declared.access.Kind.TheVariants as kinds
use Rattle.mm_base.specs.declared.bus.Served.{Served}
use Rattle.mm_base.specs.declared.bus.Served.TheVariants.{Status, Stop}
use Rattle.mm_base.specs.declared.guid.Guid.{Guid}
use Rattle.mm_base.specs.declared.handler.Handler.{Handler}
use Rattle.mm_base.specs.declared.handler.HandlerBody.TheVariants.{Code}
use Rattle.mm_base.specs.declared.region.Region.{Region}
use Rattle.mm_base.specs.declared.service.Service.{Service}
use Rattle.mm_base.specs.declared.service.Service.TheVariants as services
use Rattle.mmi_registry.specs.Handlers.{handler_at, is_of, without_number}
use Rattle.mmi_registry.specs.Registry.{RegistryState, is_at_limit, with_handler}
use Rattle.page_runs.specs.Runs.{with_run}
use Rattle.pool_tree.specs.Pool.{Block, with_block, without_block}
use Rattle.protocol_db.specs.ProtocolDb.{DbState, handle_for, is_duplicate, is_unknown, with_row}
use Rattle.protocol_db.specs.ProtocolDb as db
use Rattle.protocol_db.specs.Rows.{first_of, has_handle, is_owned_by, row_at, row_with, rows_of, without_row}
use Rattle.protocol_db.specs.declared.protocol_row.Row.{Row}
use Rattle.supervisor_calls.specs.Deeds.{Deed, Returns, Reads, Names, Asks, Writes, Clears, SeesPool, SetsPool, SeesReserve, SetsReserve}
use Rattle.supervisor_calls.specs.Deeds.{SeesHandlers, SetsHandlers, SeesInterfaces, SetsInterfaces, going_on, done}
use Rattle.supervisor_calls.specs.Domains.{DomainState, fetched, read_at, written_at, target_at}
use Rattle.supervisor_calls.specs.Holdings.{are_taken_at, is_live_at, next_block, next_run, page_at}
use Rattle.supervisor_calls.specs.declared.arguments.Arguments.{Arguments}

-- a number is written to the 8 bytes at a pointer, as the last effect
abbrev pub gives : ℕ → ℕ → Deed
gives out value = Writes kinds.Memory out 8 value (Returns success)

-- the same where there is one; else the service is answered with a status
abbrev pub gives_found : ℕ → ℕ → Option ℕ → Deed
gives_found out otherwise None = Returns otherwise
gives_found out otherwise (Some value) = gives out value

-- ---- the pool and the reserve

-- AllocatePool: some bytes of the image's own arena, at the lowest place where a block for them may lie
abbrev pub block_given : Region → ℕ → List Block → Option Block → Deed
block_given region out pool None = Returns out_of_resources
block_given region out pool (Some block) =
    SetsPool (with_block pool block.place block.size) (gives out ((pool_of region).base + block.place))

abbrev pub pool_allocation : Region → ℕ → ℕ → Deed
pool_allocation region size out =
    if size == 0 then Returns invalid_parameter
    else Asks out (SeesPool (λ pool. block_given region out pool (next_block pool size)))

-- FreePool: the live block that begins at an address
abbrev pub pool_release : Region → ℕ → Deed
pool_release region address =
    let base = (pool_of region).base in
    SeesPool (λ pool.
    if is_live_at base pool address then SetsPool (without_block pool (address - base)) (Returns success)
    else Returns not_found)

-- AllocatePages: the lowest free run of the image's own reserve, whose bytes stay as they are
abbrev pub run_given : Region → ℕ → ℕ → List Bool → Option ℕ → Deed
run_given region pages out reserve None = Returns out_of_resources
run_given region pages out reserve (Some start) =
    SetsReserve (with_run true start pages reserve) (gives out ((reserve_of region).base + 4096 * start))

abbrev pub page_allocation : Region → ℕ → ℕ → Deed
page_allocation region pages out =
    if pages == 0 then Returns invalid_parameter
    else Asks out (SeesReserve (λ reserve. run_given region pages out reserve (next_run reserve pages)))

-- FreePages: pages of the reserve, all of them taken, which become 0
abbrev pub page_release : Region → ℕ → ℕ → Deed
page_release region address pages =
    let base = (reserve_of region).base in
    if (pages == 0) || not (address % 4096 == 0) then Returns invalid_parameter
    else SeesReserve (λ reserve.
    if are_taken_at base reserve address pages
    then Clears address (4096 * pages)
    (SetsReserve (with_run false (page_at base address) pages reserve) (Returns success))
    else Returns not_found)

-- ---- interfaces

-- InstallProtocolInterface, which is this image's from then on
abbrev pub installation : ℕ → ℕ → ℕ → ℕ → ℕ → Deed
installation image handle pointer interface out =
    Names pointer (λ guid. Asks out (SeesInterfaces (λ protocols.
    if is_unknown handle protocols.rows || is_duplicate handle guid protocols.rows then Returns invalid_parameter
    else if db.is_at_limit handle image protocols then Returns out_of_resources
    else SetsInterfaces (with_row handle guid interface image protocols)
    (gives out (handle_for handle protocols.next)))))

-- UninstallProtocolInterface: only the image that installed it may
abbrev pub interface_removed : ℕ → ℕ → Guid → DbState → Option Row → Deed
interface_removed image handle guid protocols None = Returns not_found
interface_removed image handle guid protocols (Some row) =
    if is_owned_by image row
    then SetsInterfaces (record protocols { rows = without_row handle guid protocols.rows }) (Returns success)
    else Returns access_denied

abbrev pub removal : ℕ → ℕ → ℕ → ℕ → Deed
removal image handle pointer interface =
    Names pointer (λ guid. SeesInterfaces (λ protocols.
    interface_removed image handle guid protocols (row_with handle guid interface protocols.rows)))

-- HandleProtocol: the interface of a handle for a GUID
abbrev pub interface_of_handle : ℕ → ℕ → ℕ → Deed
interface_of_handle handle pointer out =
    Names pointer (λ guid. Asks out (SeesInterfaces (λ protocols.
    if has_handle handle protocols.rows
    then gives_found out unsupported (option_map (λ row. row.interface) (row_at handle guid protocols.rows))
    else Returns invalid_parameter)))

-- LocateHandle: the handles that have an interface for a GUID, one by one in order of installation
abbrev pub handle_of_index : ℕ → ℕ → ℕ → Deed
handle_of_index pointer index out =
    Names pointer (λ guid. Asks out (SeesInterfaces (λ protocols.
    gives_found out not_found (option_map (λ row. row.handle) (slice_get (rows_of guid protocols.rows) index)))))

-- LocateProtocol: the interface for a GUID that was installed first
abbrev pub first_interface : ℕ → ℕ → Deed
first_interface pointer out =
    Names pointer (λ guid. Asks out (SeesInterfaces (λ protocols.
    gives_found out not_found (option_map (λ row. row.interface) (first_of guid protocols.rows)))))

-- ---- handlers

-- the GUID at a pointer; a pointer of 0 asks for the root chain
abbrev pub named_or_root : ℕ → (Option Guid → Deed) → Deed
named_or_root pointer next = if pointer == 0 then next None else Names pointer (λ guid. next (Some guid))

-- MmiHandlerRegister: code of this image becomes a handler; its handle is its number + 1
abbrev pub code_registration : ℕ → ℕ → ℕ → Option Guid → Deed
code_registration image address out guid =
    Asks out (SeesHandlers (λ registry.
    if is_at_limit (Code image address) registry then Returns out_of_resources
    else SetsHandlers (with_handler guid (Code image address) registry) (gives out (registry.next + 1))))

abbrev pub registration : ℕ → ℕ → ℕ → ℕ → Deed
registration image address pointer out =
    if (address == 0) || not (address % 2 == 0) then Returns invalid_parameter
    else named_or_root pointer (code_registration image address out)

-- MmiHandlerUnRegister: only the handler's own image may
abbrev pub handler_removed : ℕ → ℕ → RegistryState → Option Handler → Deed
handler_removed image number registry None = Returns not_found
handler_removed image number registry (Some handler) =
    if is_of image handler
    then SetsHandlers (record registry { handlers = without_number number registry.handlers }) (Returns success)
    else Returns access_denied

abbrev pub unregistration : ℕ → ℕ → Deed
unregistration image handle =
    if handle == 0 then Returns not_found
    else SeesHandlers (λ registry.
    handler_removed image (handle - 1) registry (handler_at (handle - 1) registry.handlers))

-- ---- saved registers, ports, model-specific registers

-- ReadSaveState
abbrev pub saved_read : ℕ → ℕ → Deed
saved_read register out = Reads kinds.Saved register 1 (λ value. Asks out (gives out value))

-- ports are accessed in 1, 2 or 4 bytes
abbrev pub is_port_width : ℕ → Bool
is_port_width width = (width == 1) || ((width == 2) || (width == 4))

-- MmIo.Read, which gives 8 bytes whatever the width
abbrev pub port_read : ℕ → ℕ → ℕ → Deed
port_read width port out =
    if is_port_width width then Reads kinds.Io port width (λ value. Asks out (gives out value))
    else Returns invalid_parameter

-- MmIo.Write, of the low bytes
abbrev pub port_write : ℕ → ℕ → ℕ → Deed
port_write width port value =
    if is_port_width width then Writes kinds.Io port width value (Returns success) else Returns invalid_parameter

-- RDMSR and WRMSR
abbrev pub register_read : ℕ → ℕ → Deed
register_read index out = Reads kinds.Msr index 1 (λ value. Asks out (gives out value))

abbrev pub register_write : ℕ → ℕ → Deed
register_write index value = Writes kinds.Msr index 1 value (Returns success)

-- ---- all of them

-- How many arguments a service has. The last four answer UNSUPPORTED and have none.
abbrev pub argument_count : Service → ℕ
argument_count services.AllocatePool = 2
argument_count services.FreePool = 1
argument_count services.AllocatePages = 2
argument_count services.FreePages = 2
argument_count services.InstallProtocol = 4
argument_count services.UninstallProtocol = 3
argument_count services.HandleProtocol = 3
argument_count services.LocateHandle = 3
argument_count services.LocateProtocol = 2
argument_count services.RegisterHandler = 3
argument_count services.UnregisterHandler = 1
argument_count services.ReadSaveState = 2
argument_count services.IoRead = 3
argument_count services.IoWrite = 3
argument_count services.ReadMsr = 2
argument_count services.WriteMsr = 2
argument_count services.RegisterProtocolNotify = 0
argument_count services.InstallConfigurationTable = 0
argument_count services.StartupThisProcessor = 0
argument_count services.Manage = 0

-- the deed of a service, for an image with this number and region
abbrev pub deed_of : ℕ → Region → Service → Arguments → Deed
deed_of image region services.AllocatePool a = pool_allocation region a.first a.second
deed_of image region services.FreePool a = pool_release region a.first
deed_of image region services.AllocatePages a = page_allocation region a.first a.second
deed_of image region services.FreePages a = page_release region a.first a.second
deed_of image region services.InstallProtocol a = installation image a.first a.second a.third a.fourth
deed_of image region services.UninstallProtocol a = removal image a.first a.second a.third
deed_of image region services.HandleProtocol a = interface_of_handle a.first a.second a.third
deed_of image region services.LocateHandle a = handle_of_index a.first a.second a.third
deed_of image region services.LocateProtocol a = first_interface a.first a.second
deed_of image region services.RegisterHandler a = registration image a.first a.second a.third
deed_of image region services.UnregisterHandler a = unregistration image a.first
deed_of image region services.ReadSaveState a = saved_read a.first a.second
deed_of image region services.IoRead a = port_read a.first a.second a.third
deed_of image region services.IoWrite a = port_write a.first a.second a.third
deed_of image region services.ReadMsr a = register_read a.first a.second
deed_of image region services.WriteMsr a = register_write a.first a.second
deed_of image region services.RegisterProtocolNotify a = Returns unsupported
deed_of image region services.InstallConfigurationTable a = Returns unsupported
deed_of image region services.StartupThisProcessor a = Returns unsupported
deed_of image region services.Manage a = Returns unsupported

-- whether a service changes the handlers or the interfaces, which it may not after lock
abbrev pub ends_at_lock : Service → Bool
ends_at_lock services.InstallProtocol = true
ends_at_lock services.UninstallProtocol = true
ends_at_lock services.RegisterHandler = true
ends_at_lock services.UnregisterHandler = true
ends_at_lock _ = false

-- ---- arguments

-- a read that is denied stops the invocation
abbrev pub stopping : {A : Type 0} → Result A Denial × DomainState → Result A Served × DomainState
stopping (Ok value, domain) = (Ok value, domain)
stopping (Err denial, domain) = (Err (Stop denial), domain)

-- Argument k of n, from 0 on: the number in 8 bytes of the stack. One that a service doesn't have is not read, and 0.
abbrev pub argument : ℕ → ℕ → ℕ → DomainState → Result ℕ Served × DomainState
argument n stack k domain =
    if nat_lt k n then stopping (read_at domain ((stack + 8 * k) % 2 ^ 64) 8) else (Ok 0, domain)

-- the n arguments of a service, read one after another up to the first that is denied
abbrev pub and_then : {A B : Type 0} → Result A Served × DomainState
    → (A → DomainState → Result B Served × DomainState) → Result B Served × DomainState
and_then (Ok value, domain) next = next value domain
and_then (Err served, domain) next = (Err served, domain)

abbrev pub arguments_at : ℕ → ℕ → DomainState → Result Arguments Served × DomainState
arguments_at n stack domain =
    and_then (argument n stack 0 domain) (λ first domain.
    and_then (argument n stack 1 domain) (λ second domain.
    and_then (argument n stack 2 domain) (λ third domain.
    and_then (argument n stack 3 domain) (λ fourth domain.
    (Ok (record { first = first; second = second; third = third; fourth = fourth }), domain)))))

-- the region of a domain's image; where there is no such image, one of no pages at 0
abbrev pub region_in : DomainState → Region
region_in domain =
    option_map_or (λ image. image.region) (slice_get domain.tables.site.images domain.image)
    (record { base = 0; pages = 0 })

-- A service is called: after lock those that change the handlers or the interfaces answer ACCESS_DENIED and read
-- nothing; any other reads its arguments, and is done.
abbrev pub served : Service → ℕ → DomainState → Served × DomainState
served service stack domain =
    if domain.tables.locked && ends_at_lock service then (Status access_denied, domain)
    else going_on (arguments_at (argument_count service) stack domain) (λ arguments domain.
    done (deed_of domain.image (region_in domain) service arguments) domain)

-- the services in the order of their numbers, from 0 on
abbrev pub all_services : List Service
all_services =
    services.AllocatePool ∷ services.FreePool ∷ services.AllocatePages ∷ services.FreePages
    ∷ services.InstallProtocol ∷ services.UninstallProtocol ∷ services.HandleProtocol
    ∷ services.LocateHandle ∷ services.LocateProtocol
    ∷ services.RegisterHandler ∷ services.UnregisterHandler ∷ services.ReadSaveState
    ∷ services.IoRead ∷ services.IoWrite ∷ services.ReadMsr ∷ services.WriteMsr
    ∷ services.RegisterProtocolNotify ∷ services.InstallConfigurationTable
    ∷ services.StartupThisProcessor ∷ services.Manage ∷ []

-- the service with a number; from 20 on there is none
abbrev pub served_by_number : ℕ → ℕ → DomainState → Served × DomainState
served_by_number number stack domain =
    option_map_or (λ service. served service stack domain) (slice_get all_services number) (Status unsupported, domain)

-- A domain as a bus of byte code.
abbrev pub domain_meaning : Meaning DomainState
domain_meaning = record {
  fetches = fetched;
  reads = read_at;
  writes = written_at;
  targets = target_at;
  serves = λ domain number stack. served_by_number number stack domain;
}
