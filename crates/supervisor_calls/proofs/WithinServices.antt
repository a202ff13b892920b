-- Each service stays within what is the image's own.
use Rattle.std.proofs.Common.{◌≡◌, ℕ, ◌+◌, ◌*◌, ◌-◌, ◌%◌, ◌^◌, Bool, true, false, ◌==◌, ◌&&◌, ◌||◌, not, if◌then◌else◌, nat_lt, List, Option, Some, None, Result, Ok, Err, option_map, refl, sym, subst}
use Rattle.std.specs.List.{slice_get}
use Rattle.std.specs.Option.{option_map_or}
use Rattle.mm_base.specs.Regions.{pool_of, reserve_of}
use Rattle.mm_base.specs.Statuses.{access_denied, invalid_parameter, not_found, out_of_resources, success, unsupported}
use Rattle.mm_base.specs.declared.access.Denial.{Denial}
use Rattle.mm_base.specs.declared.access.Kind.{Kind}
use Rattle.mm_base.specs.declared.access.Kind.TheVariants as kinds
use Rattle.mm_base.specs.declared.bus.Served.{Served}
use Rattle.mm_base.specs.declared.bus.Served.TheVariants.{Status}
use Rattle.mm_base.specs.declared.guid.Guid.{Guid}
use Rattle.mm_base.specs.declared.handler.Handler.{Handler}
use Rattle.mm_base.specs.declared.handler.HandlerBody.TheVariants.{Code}
use Rattle.mm_base.specs.declared.region.Region.{Region}
use Rattle.mm_base.specs.declared.service.Service.{Service}
use Rattle.mm_base.specs.declared.service.Service.TheVariants as services
use Rattle.mmi_registry.specs.Handlers.{handler_at, is_of, without_number}
use Rattle.mmi_registry.specs.Registry.{RegistryState, is_at_limit, with_handler}
use Rattle.page_runs.specs.Runs.{with_run}
use Rattle.pool_tree.specs.Pool.{Block, with_block, without_block}
use Rattle.protocol_db.specs.ProtocolDb as db
use Rattle.protocol_db.specs.ProtocolDb.{DbState, handle_for, is_duplicate, is_unknown, with_row}
use Rattle.protocol_db.specs.Rows.{first_of, has_handle, is_owned_by, row_at, row_with, rows_of, without_row}
use Rattle.protocol_db.specs.declared.protocol_row.Row.{Row}
use Rattle.supervisor_calls.specs.Deeds.{Deed, Returns, Reads, Names, Asks, Writes, Clears, SeesPool, SetsPool, SeesReserve, SetsReserve}
use Rattle.supervisor_calls.specs.Deeds.{SeesHandlers, SetsHandlers, SeesInterfaces, SetsInterfaces, going_on, done}
use Rattle.supervisor_calls.specs.Deeds.{bytes_cleared, guid_seen, number_seen, number_written, out_asked, pool_in, reserve_in}
use Rattle.supervisor_calls.specs.Deeds.{with_handlers, with_interfaces, with_pool, with_reserve}
use Rattle.supervisor_calls.specs.Domains.{DomainState, read_at}
use Rattle.supervisor_calls.specs.Holdings.{are_taken_at, is_live_at, next_block, next_run, page_at}
use Rattle.supervisor_calls.specs.Services.{all_services, and_then, argument, argument_count, arguments_at, block_given, code_registration, deed_of, ends_at_lock}
use Rattle.supervisor_calls.specs.Services.{first_interface, gives, gives_found, handle_of_index, handler_removed, installation, interface_of_handle}
use Rattle.supervisor_calls.specs.Services.{interface_removed, is_port_width, page_allocation, page_release, pool_allocation, pool_release, port_read, port_write}
use Rattle.supervisor_calls.specs.Services.{region_in, registration, removal, run_given, served, served_by_number}
use Rattle.supervisor_calls.specs.Services.{stopping, unregistration}
use Rattle.supervisor_calls.specs.Within.{CallsStayWithin, StaysWithin}
use Rattle.supervisor_calls.specs.declared.arguments.Arguments.{Arguments}
use Rattle.supervisor_calls.proofs.OwnLemmas as own
use Rattle.supervisor_calls.proofs.OwnLemmas.{SameHandlers, SameInterfaces}
use Rattle.supervisor_calls.proofs.WithinLemmas.{begins_within, fetched_within, read_within, written_within}
use Rattle.supervisor_calls.proofs.WithinLemmas.{bytes_cleared_within, guid_seen_within, number_seen_within, number_written_within, out_asked_within}
use Rattle.supervisor_calls.proofs.WithinLemmas.{handlers_within, interfaces_within, pool_within, reserve_within}

module _ (before : DomainState) where
  abbrev Stays : DomainState → Type 0
  Stays = StaysWithin before

  -- making a deed stays within
  abbrev Keeps : Deed → Type 0
  Keeps deed = (after : DomainState) → Stays after → Stays (done deed after).1

  going : {A : Type 0} (told : Result A Served × DomainState) (next : A → DomainState → Served × DomainState) → Stays told.1
      → ((value : A) (after : DomainState) → Stays after → Stays (next value after).1)
      → Stays (going_on told next).1
  going (Ok value, after) next within each = each value after within
  going (Err served, after) next within each = within

  -- ---- the parts of a deed

  returns : (status : ℕ) → Keeps (Returns status)
  returns status after within = within

  reads : (kind : Kind) (at n : ℕ) (next : ℕ → Deed) → ((value : ℕ) → Keeps (next value)) → Keeps (Reads kind at n next)
  reads kind at n next each after within =
      going (number_seen kind at n after) (λ value domain. done (next value) domain) (number_seen_within before after within kind at n) each

  names : (pointer : ℕ) (next : Guid → Deed) → ((guid : Guid) → Keeps (next guid)) → Keeps (Names pointer next)
  names pointer next each after within =
      going (guid_seen pointer after) (λ guid domain. done (next guid) domain) (guid_seen_within before after within pointer) each

  asks : (pointer : ℕ) (next : Deed) → Keeps next → Keeps (Asks pointer next)
  asks pointer next each after within =
      going (out_asked pointer after) (λ value domain. done next domain) (out_asked_within before after within pointer) (λ value. each)

  writes : (kind : Kind) (at n value : ℕ) (next : Deed) → Keeps next → Keeps (Writes kind at n value next)
  writes kind at n value next each after within =
      going (number_written kind at n value after) (λ value domain. done next domain)
      (number_written_within before after within kind at n value) (λ value. each)

  clears : (at n : ℕ) (next : Deed) → Keeps next → Keeps (Clears at n next)
  clears at n next each after within =
      going (bytes_cleared at n after) (λ value domain. done next domain) (bytes_cleared_within before after within at n) (λ value. each)

  sees_pool : (next : List Block → Deed) → ((pool : List Block) → Keeps (next pool)) → Keeps (SeesPool next)
  sees_pool next each after within = each (pool_in after) after within

  sets_pool : (pool : List Block) (next : Deed) → Keeps next → Keeps (SetsPool pool next)
  sets_pool pool next each after within = each (with_pool pool after) (pool_within before after within pool)

  sees_reserve : (next : List Bool → Deed) → ((reserve : List Bool) → Keeps (next reserve)) → Keeps (SeesReserve next)
  sees_reserve next each after within = each (reserve_in after) after within

  sets_reserve : (reserve : List Bool) (next : Deed) → Keeps next → Keeps (SetsReserve reserve next)
  sets_reserve reserve next each after within = each (with_reserve reserve after) (reserve_within before after within reserve)

  sees_interfaces : (next : DbState → Deed) → ((protocols : DbState) → Keeps (next protocols)) → Keeps (SeesInterfaces next)
  sees_interfaces next each after within = each after.tables.protocols after within

  either : (b : Bool) (first second : Deed) → Keeps first → Keeps second → Keeps (if b then first else second)
  either true first second one other = one
  either false first second one other = other

  gives_keeps : (out value : ℕ) → Keeps (gives out value)
  gives_keeps out value = writes kinds.Memory out 8 value (Returns success) (returns success)

  gives_found_keeps : (out otherwise : ℕ) (found : Option ℕ) → Keeps (gives_found out otherwise found)
  gives_found_keeps out otherwise None = returns otherwise
  gives_found_keeps out otherwise (Some value) = gives_keeps out value

  -- ---- the pool and the reserve

  block_given_keeps : (region : Region) (out : ℕ) (pool : List Block) (found : Option Block) → Keeps (block_given region out pool found)
  block_given_keeps region out pool None = returns out_of_resources
  block_given_keeps region out pool (Some block) =
      let address : ℕ = (pool_of region).base + block.place in
      sets_pool (with_block pool block.place block.size) (gives out address) (gives_keeps out address)

  pool_allocation_keeps : (region : Region) (size out : ℕ) → Keeps (pool_allocation region size out)
  pool_allocation_keeps region size out =
      let next : List Block → Deed = λ pool. block_given region out pool (next_block pool size) in
      either (size == 0) (Returns invalid_parameter) (Asks out (SeesPool next)) (returns invalid_parameter)
      (asks out (SeesPool next) (sees_pool next (λ pool. block_given_keeps region out pool (next_block pool size))))

  pool_release_keeps : (region : Region) (address : ℕ) → Keeps (pool_release region address)
  pool_release_keeps region address =
      let base : ℕ = (pool_of region).base in
      let freed : List Block → Deed = λ pool. SetsPool (without_block pool (address - base)) (Returns success) in
      let next : List Block → Deed = λ pool. if is_live_at base pool address then freed pool else Returns not_found in
      sees_pool next (λ pool.
      either (is_live_at base pool address) (freed pool) (Returns not_found)
      (sets_pool (without_block pool (address - base)) (Returns success) (returns success)) (returns not_found))

  run_given_keeps : (region : Region) (pages out : ℕ) (reserve : List Bool) (found : Option ℕ)
      → Keeps (run_given region pages out reserve found)
  run_given_keeps region pages out reserve None = returns out_of_resources
  run_given_keeps region pages out reserve (Some start) =
      let address : ℕ = (reserve_of region).base + 4096 * start in
      sets_reserve (with_run true start pages reserve) (gives out address) (gives_keeps out address)

  page_allocation_keeps : (region : Region) (pages out : ℕ) → Keeps (page_allocation region pages out)
  page_allocation_keeps region pages out =
      let next : List Bool → Deed = λ reserve. run_given region pages out reserve (next_run reserve pages) in
      either (pages == 0) (Returns invalid_parameter) (Asks out (SeesReserve next)) (returns invalid_parameter)
      (asks out (SeesReserve next) (sees_reserve next (λ reserve. run_given_keeps region pages out reserve (next_run reserve pages))))

  page_release_keeps : (region : Region) (address pages : ℕ) → Keeps (page_release region address pages)
  page_release_keeps region address pages =
      let base : ℕ = (reserve_of region).base in
      let freed : List Bool → Deed = λ reserve. SetsReserve (with_run false (page_at base address) pages reserve) (Returns success) in
      let next : List Bool → Deed = λ reserve.
      if are_taken_at base reserve address pages then Clears address (4096 * pages) (freed reserve) else Returns not_found in
      either ((pages == 0) || not (address % 4096 == 0)) (Returns invalid_parameter) (SeesReserve next) (returns invalid_parameter)
      (sees_reserve next (λ reserve.
      either (are_taken_at base reserve address pages) (Clears address (4096 * pages) (freed reserve)) (Returns not_found)
      (clears address (4096 * pages) (freed reserve)
      (sets_reserve (with_run false (page_at base address) pages reserve) (Returns success) (returns success)))
      (returns not_found)))

  -- ---- interfaces

  -- a deed that is asked of the interfaces as they are
  named_and_asked : (pointer out : ℕ) (next : Guid → DbState → Deed) → ((guid : Guid) → Keeps (SeesInterfaces (next guid)))
      → Keeps (Names pointer (λ guid. Asks out (SeesInterfaces (next guid))))
  named_and_asked pointer out next each =
      names pointer (λ guid. Asks out (SeesInterfaces (next guid))) (λ guid. asks out (SeesInterfaces (next guid)) (each guid))

  interface_of_handle_keeps : (handle pointer out : ℕ) → Keeps (interface_of_handle handle pointer out)
  interface_of_handle_keeps handle pointer out =
      let found : Guid → DbState → Option ℕ = λ guid protocols. option_map (λ row. row.interface) (row_at handle guid protocols.rows) in
      let next : Guid → DbState → Deed = λ guid protocols.
      if has_handle handle protocols.rows then gives_found out unsupported (found guid protocols) else Returns invalid_parameter in
      named_and_asked pointer out next (λ guid. sees_interfaces (next guid) (λ protocols.
      either (has_handle handle protocols.rows) (gives_found out unsupported (found guid protocols)) (Returns invalid_parameter)
      (gives_found_keeps out unsupported (found guid protocols)) (returns invalid_parameter)))

  handle_of_index_keeps : (pointer index out : ℕ) → Keeps (handle_of_index pointer index out)
  handle_of_index_keeps pointer index out =
      let found : Guid → DbState → Option ℕ =
      λ guid protocols. option_map (λ row. row.handle) (slice_get (rows_of guid protocols.rows) index) in
      let next : Guid → DbState → Deed = λ guid protocols. gives_found out not_found (found guid protocols) in
      named_and_asked pointer out next (λ guid.
      sees_interfaces (next guid) (λ protocols. gives_found_keeps out not_found (found guid protocols)))

  first_interface_keeps : (pointer out : ℕ) → Keeps (first_interface pointer out)
  first_interface_keeps pointer out =
      let found : Guid → DbState → Option ℕ = λ guid protocols. option_map (λ row. row.interface) (first_of guid protocols.rows) in
      let next : Guid → DbState → Deed = λ guid protocols. gives_found out not_found (found guid protocols) in
      named_and_asked pointer out next (λ guid.
      sees_interfaces (next guid) (λ protocols. gives_found_keeps out not_found (found guid protocols)))

  sets_interfaces : (protocols : DbState) (next : Deed) → Keeps next → (after : DomainState) → Stays after
      → SameInterfaces before.image after.tables.protocols protocols → Stays (done (SetsInterfaces protocols next) after).1
  sets_interfaces protocols next each after within same =
      each (with_interfaces protocols after) (interfaces_within before after within protocols same)

  module _ (after : DomainState) (within : Stays after) where
    abbrev protocols : DbState
    protocols = after.tables.protocols

    row_installed : (handle : ℕ) (guid : Guid) (interface out : ℕ) (unknown duplicate full : Bool)
        → is_unknown handle protocols.rows ≡ unknown
        → is_duplicate handle guid protocols.rows ≡ duplicate → db.is_at_limit handle before.image protocols ≡ full
        → Stays (done (
        if unknown || duplicate then Returns invalid_parameter
        else if full then Returns out_of_resources
        else SetsInterfaces (with_row handle guid interface before.image protocols) (gives out (handle_for handle protocols.next))
        ) after).1
    row_installed handle guid interface out true duplicate full known single unused = within
    row_installed handle guid interface out false true full known single unused = within
    row_installed handle guid interface out false false true known single unused = within
    row_installed handle guid interface out false false false known single unused =
        sets_interfaces (with_row handle guid interface before.image protocols) (gives out (handle_for handle protocols.next))
        (gives_keeps out (handle_for handle protocols.next)) after within
        (own.installed before.image protocols within.orderly.installed handle guid interface known single unused)

    row_removed : (handle : ℕ) (guid : Guid) (interface : ℕ) (found : Option Row) → row_with handle guid interface protocols.rows ≡ found
        → Stays (done (interface_removed before.image handle guid protocols found) after).1
    row_removed handle guid interface None is = within
    row_removed handle guid interface (Some row) is = by_owner (is_owned_by before.image row) refl
      where
        left : DbState
        left = record protocols { rows = without_row handle guid protocols.rows }

        by_owner : (mine : Bool) → is_owned_by before.image row ≡ mine
            → Stays (done (
            if mine then SetsInterfaces left (Returns success) else Returns access_denied
            ) after).1
        by_owner true mine =
            sets_interfaces left (Returns success) (returns success) after within
            (own.removed before.image protocols within.orderly.installed handle guid interface row is mine)
        by_owner false mine = within

  installation_keeps : (handle pointer interface out : ℕ) → Keeps (installation before.image handle pointer interface out)
  installation_keeps handle pointer interface out =
      let next : Guid → DbState → Deed = λ guid protocols.
      if is_unknown handle protocols.rows || is_duplicate handle guid protocols.rows then Returns invalid_parameter
      else if db.is_at_limit handle before.image protocols then Returns out_of_resources
      else SetsInterfaces (with_row handle guid interface before.image protocols) (gives out (handle_for handle protocols.next)) in
      named_and_asked pointer out next (λ guid after within.
      row_installed after within handle guid interface out (is_unknown handle after.tables.protocols.rows)
      (is_duplicate handle guid after.tables.protocols.rows) (db.is_at_limit handle before.image after.tables.protocols) refl refl refl)

  removal_keeps : (handle pointer interface : ℕ) → Keeps (removal before.image handle pointer interface)
  removal_keeps handle pointer interface =
      let next : Guid → DbState → Deed = λ guid protocols.
      interface_removed before.image handle guid protocols (row_with handle guid interface protocols.rows) in
      names pointer (λ guid. SeesInterfaces (next guid)) (λ guid after within.
      row_removed after within handle guid interface (row_with handle guid interface after.tables.protocols.rows) refl)

  -- ---- handlers

  sets_handlers : (registry : RegistryState) (next : Deed) → Keeps next → (after : DomainState) → Stays after
      → SameHandlers before.image after.tables.registry registry → Stays (done (SetsHandlers registry next) after).1
  sets_handlers registry next each after within same =
      each (with_handlers registry after) (handlers_within before after within registry same)

  module _ (after : DomainState) (within : Stays after) where
    abbrev registry : RegistryState
    registry = after.tables.registry

    code_registered : (guid : Option Guid) (address out : ℕ) (full : Bool)
        → Stays (done (
        if full then Returns out_of_resources
        else SetsHandlers (with_handler guid (Code before.image address) registry) (gives out (registry.next + 1))
        ) after).1
    code_registered guid address out true = within
    code_registered guid address out false =
        sets_handlers (with_handler guid (Code before.image address) registry) (gives out (registry.next + 1))
        (gives_keeps out (registry.next + 1)) after within
        (own.registered before.image registry within.orderly.numbered guid address)

    code_removed : (number : ℕ) (found : Option Handler) → handler_at number registry.handlers ≡ found
        → Stays (done (handler_removed before.image number registry found) after).1
    code_removed number None is = within
    code_removed number (Some handler) is = by_owner (is_of before.image handler) refl
      where
        left : RegistryState
        left = record registry { handlers = without_number number registry.handlers }

        by_owner : (mine : Bool) → is_of before.image handler ≡ mine
            → Stays (done (
            if mine then SetsHandlers left (Returns success) else Returns access_denied
            ) after).1
        by_owner true mine =
            sets_handlers left (Returns success) (returns success) after within
            (own.unregistered before.image registry within.orderly.numbered number handler is mine)
        by_owner false mine = within

  code_registration_keeps : (address out : ℕ) (guid : Option Guid) → Keeps (code_registration before.image address out guid)
  code_registration_keeps address out guid =
      let next : RegistryState → Deed = λ registry.
      if is_at_limit (Code before.image address) registry then Returns out_of_resources
      else SetsHandlers (with_handler guid (Code before.image address) registry) (gives out (registry.next + 1)) in
      asks out (SeesHandlers next) (λ after within.
      code_registered after within guid address out (is_at_limit (Code before.image address) after.tables.registry))

  registration_keeps : (address pointer out : ℕ) → Keeps (registration before.image address pointer out)
  registration_keeps address pointer out =
      let next : Option Guid → Deed = code_registration before.image address out in
      let named : Deed = Names pointer (λ guid. next (Some guid)) in
      either ((address == 0) || not (address % 2 == 0)) (Returns invalid_parameter) (if pointer == 0 then next None else named)
      (returns invalid_parameter)
      (either (pointer == 0) (next None) named (code_registration_keeps address out None)
      (names pointer (λ guid. next (Some guid)) (λ guid. code_registration_keeps address out (Some guid))))

  unregistration_keeps : (handle : ℕ) → Keeps (unregistration before.image handle)
  unregistration_keeps handle =
      let next : RegistryState → Deed =
      λ registry. handler_removed before.image (handle - 1) registry (handler_at (handle - 1) registry.handlers) in
      either (handle == 0) (Returns not_found) (SeesHandlers next) (returns not_found) (λ after within.
      code_removed after within (handle - 1) (handler_at (handle - 1) after.tables.registry.handlers) refl)

  -- ---- saved registers, ports, model-specific registers

  asked_and_given : (out value : ℕ) → Keeps (Asks out (gives out value))
  asked_and_given out value = asks out (gives out value) (gives_keeps out value)

  seen_and_given : (kind : Kind) (at n out : ℕ) → Keeps (Reads kind at n (λ value. Asks out (gives out value)))
  seen_and_given kind at n out = reads kind at n (λ value. Asks out (gives out value)) (asked_and_given out)

  port_read_keeps : (width port out : ℕ) → Keeps (port_read width port out)
  port_read_keeps width port out =
      either (is_port_width width) (Reads kinds.Io port width (λ value. Asks out (gives out value))) (Returns invalid_parameter)
      (seen_and_given kinds.Io port width out) (returns invalid_parameter)

  port_write_keeps : (width port value : ℕ) → Keeps (port_write width port value)
  port_write_keeps width port value =
      either (is_port_width width) (Writes kinds.Io port width value (Returns success)) (Returns invalid_parameter)
      (writes kinds.Io port width value (Returns success) (returns success)) (returns invalid_parameter)

  -- ---- all of them

  deed_keeps : (region : Region) (service : Service) (a : Arguments) → Keeps (deed_of before.image region service a)
  deed_keeps region services.AllocatePool a = pool_allocation_keeps region a.first a.second
  deed_keeps region services.FreePool a = pool_release_keeps region a.first
  deed_keeps region services.AllocatePages a = page_allocation_keeps region a.first a.second
  deed_keeps region services.FreePages a = page_release_keeps region a.first a.second
  deed_keeps region services.InstallProtocol a = installation_keeps a.first a.second a.third a.fourth
  deed_keeps region services.UninstallProtocol a = removal_keeps a.first a.second a.third
  deed_keeps region services.HandleProtocol a = interface_of_handle_keeps a.first a.second a.third
  deed_keeps region services.LocateHandle a = handle_of_index_keeps a.first a.second a.third
  deed_keeps region services.LocateProtocol a = first_interface_keeps a.first a.second
  deed_keeps region services.RegisterHandler a = registration_keeps a.first a.second a.third
  deed_keeps region services.UnregisterHandler a = unregistration_keeps a.first
  deed_keeps region services.ReadSaveState a = seen_and_given kinds.Saved a.first 1 a.second
  deed_keeps region services.IoRead a = port_read_keeps a.first a.second a.third
  deed_keeps region services.IoWrite a = port_write_keeps a.first a.second a.third
  deed_keeps region services.ReadMsr a = seen_and_given kinds.Msr a.first 1 a.second
  deed_keeps region services.WriteMsr a = writes kinds.Msr a.first 1 a.second (Returns success) (returns success)
  deed_keeps region services.RegisterProtocolNotify a = returns unsupported
  deed_keeps region services.InstallConfigurationTable a = returns unsupported
  deed_keeps region services.StartupThisProcessor a = returns unsupported
  deed_keeps region services.Manage a = returns unsupported

  -- ---- arguments, and a whole service

  stopped : {A : Type 0} (told : Result A Denial × DomainState) → Stays told.1 → Stays (stopping told).1
  stopped (Ok value, after) within = within
  stopped (Err denial, after) within = within

  then_within : {A B : Type 0} (told : Result A Served × DomainState) (next : A → DomainState → Result B Served × DomainState) → Stays told.1
      → ((value : A) (after : DomainState) → Stays after → Stays (next value after).1)
      → Stays (and_then told next).1
  then_within (Ok value, after) next within each = each value after within
  then_within (Err served, after) next within each = within

  argument_within : (n stack k : ℕ) (after : DomainState) → Stays after → Stays (argument n stack k after).1
  argument_within n stack k after within = by_test (nat_lt k n) ((stack + 8 * k) % 2 ^ 64)
    where
      by_test : (there : Bool) (at : ℕ) → Stays (if there then stopping (read_at after at 8) else (Ok 0, after)).1
      by_test true at = stopped (read_at after at 8) (read_within before after within at 8)
      by_test false at = within

  abbrev as_read : ℕ → ℕ → ℕ → ℕ → Arguments
  as_read first second third fourth = record { first = first; second = second; third = third; fourth = fourth }

  arguments_within : (n stack : ℕ) (after : DomainState) → Stays after → Stays (arguments_at n stack after).1
  arguments_within n stack after within =
      then_within (argument n stack 0 after) _ (argument_within n stack 0 after within) (λ first d0 w0.
      then_within (argument n stack 1 d0) _ (argument_within n stack 1 d0 w0) (λ second d1 w1.
      then_within (argument n stack 2 d1) _ (argument_within n stack 2 d1 w1) (λ third d2 w2.
      then_within (argument n stack 3 d2) (λ fourth d3. (Ok (as_read first second third fourth), d3))
      (argument_within n stack 3 d2 w2) (λ fourth d3 w3. w3))))

  module _ (service : Service) where
    made : Arguments → DomainState → Served × DomainState
    made arguments domain = done (deed_of domain.image (region_in domain) service arguments) domain

    made_within : (arguments : Arguments) (after : DomainState) → Stays after → Stays (made arguments after).1
    unfolding made
    made_within arguments after within =
        let P : ℕ → Type 0 = λ image. Stays (done (deed_of image (region_in after) service arguments) after).1 in
        subst P (sym within.image) (deed_keeps (region_in after) service arguments after within)

    served_within : (stack : ℕ) (after : DomainState) → Stays after → Stays (served service stack after).1
    unfolding made
    served_within stack after within = by_test (after.tables.locked && ends_at_lock service)
      where
        by_test : (closed : Bool)
            → Stays (if closed then (Status access_denied, after) else going_on (arguments_at (argument_count service) stack after) made).1
        by_test true = within
        by_test false =
            going (arguments_at (argument_count service) stack after) made
            (arguments_within (argument_count service) stack after within) made_within

  by_number_within : (number stack : ℕ) (after : DomainState) → Stays after → Stays (served_by_number number stack after).1
  by_number_within number stack after within = by_service (slice_get all_services number)
    where
      by_service : (found : Option Service) → Stays (option_map_or (λ service. served service stack after) found (Status unsupported, after)).1
      by_service None = within
      by_service (Some service) = served_within service stack after within

pub calls_stay_within : CallsStayWithin
calls_stay_within = record {
  begins = begins_within;
  fetches = λ before after at n within. fetched_within before after within at n;
  reads = λ before after at n within. read_within before after within at n;
  writes = λ before after at n value within. written_within before after within at n value;
  serves = λ before after number stack within. by_number_within before number stack after within;
}
