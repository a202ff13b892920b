-- No public clause cites this file.
-- Words for private contracts of handlers and interfaces: what a change answers, and what is listed then.
use Rattle.std.specs.Prelude.{◌≡◌, ◌⊎◌, ℕ, ◌||◌, ◌==◌, if◌then◌else◌}
use Rattle.std.specs.Prelude.{List, Option, Some, None, Result, Ok, Err}
use Rattle.mm_base.specs.declared.bus.Served.{Served}
use Rattle.mm_base.specs.declared.guid.Guid.{Guid}
use Rattle.mm_base.specs.declared.handler.Handler.{Handler}
use Rattle.mm_base.specs.declared.handler.HandlerBody.{HandlerBody}
use Rattle.mmi_registry.specs.Handlers.{handler_at, is_of, without_number}
use Rattle.mmi_registry.specs.Registry as registry
use Rattle.mmi_registry.specs.Registry.{RegistryState, with_handler}
use Rattle.protocol_db.specs.ProtocolDb.{DbState, handle_for, is_at_limit, is_duplicate, is_unknown, with_row}
use Rattle.protocol_db.specs.Rows.{has_handle, is_owned_by, row_at, row_with, without_row}
use Rattle.protocol_db.specs.declared.database.FindEnd.{FindEnd}
use Rattle.protocol_db.specs.declared.database.FindEnd.TheVariants.{NoHandle, NoProtocol}
use Rattle.protocol_db.specs.declared.protocol_row.Row.{Row}
use Rattle.supervisor_calls.specs.Deeds.{guid_seen}
use Rattle.supervisor_calls.specs.Domains.{DomainState}
use Rattle.supervisor_calls.specs.Tables.{TablesState}
use Rattle.supervisor_calls.specs.declared.listings.ListingEnd.{ListingEnd}
use Rattle.supervisor_calls.specs.declared.listings.ListingEnd.TheVariants.{Invalid, Full, NoMemory}
use Rattle.supervisor_calls.specs.declared.listings.RemovalEnd.{RemovalEnd}
use Rattle.supervisor_calls.specs.declared.listings.RemovalEnd.TheVariants.{NotFound, NotMine}

-- a handler more: its number, or none where it is one too many
abbrev pub registered : Option Guid → HandlerBody → RegistryState → Option ℕ × RegistryState
registered guid body handlers =
    if registry.is_at_limit body handlers then (None, handlers)
    else (Some handlers.next, with_handler guid body handlers)

-- a handler less, which only its own image may remove, where this one was found
abbrev pub handler_dropped : ℕ → ℕ → RegistryState → Option Handler → Result (Unit {0}) RemovalEnd × RegistryState
handler_dropped image number handlers None = (Err NotFound, handlers)
handler_dropped image number handlers (Some handler) =
    if is_of image handler then (Ok tt, record handlers { handlers = without_number number handlers.handlers })
    else (Err NotMine, handlers)

abbrev pub unregistered : ℕ → ℕ → RegistryState → Result (Unit {0}) RemovalEnd × RegistryState
unregistered number image handlers = handler_dropped image number handlers (handler_at number handlers.handlers)

-- an interface more: its handle
abbrev pub installed : ℕ → Guid → ℕ → ℕ → DbState → Result ℕ ListingEnd × DbState
installed handle guid interface image protocols =
    if is_unknown handle protocols.rows || is_duplicate handle guid protocols.rows then (Err Invalid, protocols)
    else if is_at_limit handle image protocols then (Err Full, protocols)
    else (Ok (handle_for handle protocols.next), with_row handle guid interface image protocols)

-- an interface less, which only the image that installed it may remove, where this row was found
abbrev pub interface_dropped : ℕ → ℕ → Guid → DbState → Option Row → Result (Unit {0}) RemovalEnd × DbState
interface_dropped image handle guid protocols None = (Err NotFound, protocols)
interface_dropped image handle guid protocols (Some row) =
    if is_owned_by image row then (Ok tt, record protocols { rows = without_row handle guid protocols.rows })
    else (Err NotMine, protocols)

abbrev pub uninstalled : ℕ → Guid → ℕ → ℕ → DbState → Result (Unit {0}) RemovalEnd × DbState
uninstalled handle guid interface image protocols =
    interface_dropped image handle guid protocols (row_with handle guid interface protocols.rows)

-- the interface of a handle for a GUID, or why there is none
abbrev pub interface_of : Option Row → Result ℕ FindEnd
interface_of None = Err NoProtocol
interface_of (Some row) = Ok row.interface

abbrev pub interface_at : ℕ → Guid → List Row → Result ℕ FindEnd
interface_at handle guid rows = if has_handle handle rows then interface_of (row_at handle guid rows) else Err NoHandle

-- a growth was refused
abbrev pub IsGrowthRefused : ListingEnd → Type 0
IsGrowthRefused Invalid = ⊥
IsGrowthRefused Full = ⊥
IsGrowthRefused (NoMemory refused) = Unit {0}

abbrev pub IsListingRefused : Result ℕ ListingEnd → Type 0
IsListingRefused (Ok handle) = ⊥
IsListingRefused (Err end) = IsGrowthRefused end

-- Tables with an interface more. Where one would have come, a growth may have been refused; then nothing changes.
abbrev pub Installs : ℕ → Guid → ℕ → ℕ → TablesState → Result ℕ ListingEnd → TablesState → Type 0
Installs handle guid interface image old answer new =
    (IsListingRefused answer × (new ≡ old)
    × ((installed handle guid interface image old.protocols).0 ≡ Ok (handle_for handle old.protocols.next)))
    ⊎ ((answer ≡ (installed handle guid interface image old.protocols).0)
    × (new ≡ record old { protocols = (installed handle guid interface image old.protocols).1 }))

-- the GUID at a pointer; none where that is 0
abbrev pub named : Result Guid Served × DomainState → Result (Option Guid) Served × DomainState
named (Ok guid, domain) = (Ok (Some guid), domain)
named (Err served, domain) = (Err served, domain)

abbrev pub root_or_seen : ℕ → DomainState → Result (Option Guid) Served × DomainState
root_or_seen pointer domain = if pointer == 0 then (Ok None, domain) else named (guid_seen pointer domain)
