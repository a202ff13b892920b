-- A whole service goes along with what each of its parts goes along with, and leaves alone what each leaves alone.
use Rattle.std.proofs.Common.{◌≡◌, ℕ, ◌+◌, ◌*◌, ◌%◌, ◌^◌, Bool, true, false, ◌&&◌, if◌then◌else◌, nat_lt, List, Result, Ok, Err, refl, sym, ap, ◌∙◌}
use Rattle.std.specs.List.{slice_get}
use Rattle.std.specs.Option.{option_map_or}
use Rattle.image_table.specs.declared.placed_image.PlacedImage.{PlacedImage}
use Rattle.mm_base.specs.Statuses.{access_denied}
use Rattle.mm_base.specs.declared.access.Denial.{Denial}
use Rattle.mm_base.specs.declared.access.Kind.TheVariants.{Memory}
use Rattle.mm_base.specs.declared.access.Right.TheVariants.{Read, Write}
use Rattle.mm_base.specs.declared.access.Verdict.{Verdict}
use Rattle.mm_base.specs.declared.access.Verdict.TheVariants.{Pass, Deny}
use Rattle.mm_base.specs.declared.access.Why.{Why}
use Rattle.mm_base.specs.declared.bus.Served.{Served}
use Rattle.mm_base.specs.declared.bus.Served.TheVariants.{Status}
use Rattle.mm_base.specs.declared.region.Region.{Region}
use Rattle.mm_base.specs.declared.service.Service.{Service}
use Rattle.mmi_registry.specs.Registry.{RegistryState}
use Rattle.protocol_db.specs.ProtocolDb.{DbState}
use Rattle.supervisor_calls.specs.Accesses.{bytes_at, denial_of, number_at}
use Rattle.supervisor_calls.specs.Deeds.{Deed, Returns, Reads, Names, Asks, Writes, Clears, SeesPool, SetsPool, SeesReserve, SetsReserve}
use Rattle.supervisor_calls.specs.Deeds.{SeesHandlers, SetsHandlers, SeesInterfaces, SetsInterfaces, going_on, let_through, done}
use Rattle.supervisor_calls.specs.Deeds.{number_seen, guid_seen, out_asked, number_written, bytes_cleared, pool_in, with_pool, reserve_in, with_reserve}
use Rattle.supervisor_calls.specs.Deeds.{after_write, after_clearing, with_handlers, with_interfaces}
use Rattle.supervisor_calls.specs.Domains.{DomainState, read_at, seen_registers, verdict_in, write_verdict}
use Rattle.supervisor_calls.specs.Laws.{along, GoesAlong, IsLeftAlone, ServicesGoAlong, ServicesLeaveAlone, ListsStayAfterLock}
use Rattle.supervisor_calls.specs.Services.{and_then, argument, argument_count, arguments_at, deed_of, ends_at_lock, region_in, served, stopping}
use Rattle.supervisor_calls.specs.declared.arguments.Arguments.{Arguments}

-- ---- going along

module _ (change : DomainState → DomainState) where
  going : {A : Type 0} (told : Result A Served × DomainState) (next : A → DomainState → Served × DomainState)
      → ((value : A) (domain : DomainState) → next value (change domain) ≡ along change (next value domain))
      → going_on (along change told) next ≡ along change (going_on told next)
  going (Ok value, domain) next each = each value domain
  going (Err served, domain) next each = refl

  going_from : {A : Type 0} (changed told : Result A Served × DomainState) (next : A → DomainState → Served × DomainState) → changed ≡ along change told
      → ((value : A) (domain : DomainState) → next value (change domain) ≡ along change (next value domain))
      → going_on changed next ≡ along change (going_on told next)
  going_from changed told next same each = ap (λ x. going_on x next) same ∙ going told next each

  then_from : {A B : Type 0} (changed told : Result A Served × DomainState) (next : A → DomainState → Result B Served × DomainState) → changed ≡ along change told
      → ((value : A) (domain : DomainState) → next value (change domain) ≡ along change (next value domain))
      → and_then changed next ≡ along change (and_then told next)
  then_from changed (Ok value, domain) next same each = ap (λ x. and_then x next) same ∙ each value domain
  then_from changed (Err served, domain) next same each = ap (λ x. and_then x next) same

  stopping_along : {A : Type 0} (told : Result A Denial × DomainState) → stopping (along change told) ≡ along change (stopping told)
  stopping_along (Ok value, domain) = refl
  stopping_along (Err denial, domain) = refl

module _ (change : DomainState → DomainState) (goes : GoesAlong change) where
  done_along : (deed : Deed) (domain : DomainState) → done deed (change domain) ≡ along change (done deed domain)
  done_along (Returns status) domain = refl
  done_along (Reads kind at n next) domain =
      going_from change (number_seen kind at n (change domain)) (number_seen kind at n domain) (λ value after. done (next value) after)
      (goes.number kind at n domain) (λ value after. done_along (next value) after)
  done_along (Names pointer next) domain =
      going_from change (guid_seen pointer (change domain)) (guid_seen pointer domain) (λ guid after. done (next guid) after)
      (goes.guid pointer domain) (λ guid after. done_along (next guid) after)
  done_along (Asks pointer next) domain =
      going_from change (out_asked pointer (change domain)) (out_asked pointer domain) (λ value after. done next after)
      (goes.out pointer domain) (λ value after. done_along next after)
  done_along (Writes kind at n value next) domain =
      going_from change (number_written kind at n value (change domain)) (number_written kind at n value domain) (λ value after. done next after)
      (goes.write kind at n value domain) (λ value after. done_along next after)
  done_along (Clears at n next) domain =
      going_from change (bytes_cleared at n (change domain)) (bytes_cleared at n domain) (λ value after. done next after)
      (goes.clearing at n domain) (λ value after. done_along next after)
  done_along (SeesPool next) domain = ap (λ pool. done (next pool) (change domain)) (goes.pool domain) ∙ done_along (next (pool_in domain)) domain
  done_along (SetsPool pool next) domain = ap (done next) (goes.other_pool pool domain) ∙ done_along next (with_pool pool domain)
  done_along (SeesReserve next) domain =
      ap (λ reserve. done (next reserve) (change domain)) (goes.reserve domain) ∙ done_along (next (reserve_in domain)) domain
  done_along (SetsReserve reserve next) domain = ap (done next) (goes.other_reserve reserve domain) ∙ done_along next (with_reserve reserve domain)
  done_along (SeesHandlers next) domain =
      ap (λ registry. done (next registry) (change domain)) (goes.handlers domain) ∙ done_along (next domain.tables.registry) domain
  done_along (SetsHandlers registry next) domain =
      ap (done next) (goes.other_handlers registry domain) ∙ done_along next (with_handlers registry domain)
  done_along (SeesInterfaces next) domain =
      ap (λ protocols. done (next protocols) (change domain)) (goes.interfaces domain) ∙ done_along (next domain.tables.protocols) domain
  done_along (SetsInterfaces protocols next) domain =
      ap (done next) (goes.other_interfaces protocols domain) ∙ done_along next (with_interfaces protocols domain)

  argument_along : (n stack k : ℕ) (domain : DomainState) → argument n stack k (change domain) ≡ along change (argument n stack k domain)
  argument_along n stack k domain =
      by_test (nat_lt k n) ((stack + 8 * k) % 2 ^ 64)
    where
      by_test : (there : Bool) (at : ℕ)
          → (if there then stopping (read_at (change domain) at 8) else (Ok 0, change domain))
          ≡ along change (if there then stopping (read_at domain at 8) else (Ok 0, domain))
      by_test true at = ap stopping (goes.argument at 8 domain) ∙ stopping_along change (read_at domain at 8)
      by_test false at = refl

  arguments_along : (n stack : ℕ) (domain : DomainState) → arguments_at n stack (change domain) ≡ along change (arguments_at n stack domain)
  arguments_along n stack domain =
      then_from change _ (argument n stack 0 domain) _ (argument_along n stack 0 domain) (λ first d0.
      then_from change _ (argument n stack 1 d0) _ (argument_along n stack 1 d0) (λ second d1.
      then_from change _ (argument n stack 2 d1) _ (argument_along n stack 2 d1) (λ third d2.
      then_from change _ (argument n stack 3 d2) (λ fourth d3. (Ok (record { first = first; second = second; third = third; fourth = fourth }), d3))
      (argument_along n stack 3 d2) (λ fourth d3. refl))))

  region_same : (domain : DomainState) → region_in (change domain) ≡ region_in domain
  region_same domain =
      ap (λ (images : List PlacedImage). option_map_or (λ image. image.region) (slice_get images (change domain).image) (record { base = 0; pages = 0 })) (goes.images domain)
      ∙ ap (λ (image : ℕ). option_map_or (λ placed. placed.region) (slice_get domain.tables.site.images image) (record { base = 0; pages = 0 })) (goes.image domain)

  deed_along : (service : Service) (arguments : Arguments) (domain : DomainState)
      → done (deed_of (change domain).image (region_in (change domain)) service arguments) (change domain)
      ≡ along change (done (deed_of domain.image (region_in domain) service arguments) domain)
  deed_along service arguments domain =
      ap (λ (image : ℕ). done (deed_of image (region_in (change domain)) service arguments) (change domain)) (goes.image domain)
      ∙ ap (λ (region : Region). done (deed_of domain.image region service arguments) (change domain)) (region_same domain)
      ∙ done_along (deed_of domain.image (region_in domain) service arguments) domain

  served_along : (service : Service) (stack : ℕ) (domain : DomainState) → served service stack (change domain) ≡ along change (served service stack domain)
  served_along service stack domain =
      ap (λ (locked : Bool). if locked && ends_at_lock service then (Status access_denied, change domain) else rest (change domain)) (goes.locked domain)
      ∙ by_test (domain.tables.locked && ends_at_lock service)
    where
      rest : DomainState → Served × DomainState
      rest domain =
          going_on (arguments_at (argument_count service) stack domain)
          (λ arguments domain. done (deed_of domain.image (region_in domain) service arguments) domain)

      by_test : (closed : Bool)
          → (if closed then (Status access_denied, change domain) else rest (change domain))
          ≡ along change (if closed then (Status access_denied, domain) else rest domain)
      by_test true = refl
      by_test false =
          going_from change _ (arguments_at (argument_count service) stack domain) _ (arguments_along (argument_count service) stack domain)
          (deed_along service)

pub go_along : ServicesGoAlong
go_along change service stack domain goes = served_along change goes service stack domain

-- ---- being left alone

module _ (look : DomainState → DomainState) where
  going_left : {A : Type 0} (told : Result A Served × DomainState) (next : A → DomainState → Served × DomainState) (before : DomainState)
      → look told.1 ≡ look before → ((value : A) (domain : DomainState) → look (next value domain).1 ≡ look domain)
      → look (going_on told next).1 ≡ look before
  going_left (Ok value, domain) next before same each = each value domain ∙ same
  going_left (Err served, domain) next before same each = same

  then_left : {A B : Type 0} (told : Result A Served × DomainState) (next : A → DomainState → Result B Served × DomainState) (before : DomainState)
      → look told.1 ≡ look before → ((value : A) (domain : DomainState) → look (next value domain).1 ≡ look domain)
      → look (and_then told next).1 ≡ look before
  then_left (Ok value, domain) next before same each = each value domain ∙ same
  then_left (Err served, domain) next before same each = same

  stopping_left : {A : Type 0} (told : Result A Denial × DomainState) (before : DomainState) → look told.1 ≡ look before → look (stopping told).1 ≡ look before
  stopping_left (Ok value, domain) before same = same
  stopping_left (Err denial, domain) before same = same

module _ (look : DomainState → DomainState) (left : IsLeftAlone look) where
  done_left : (deed : Deed) (domain : DomainState) → look (done deed domain).1 ≡ look domain
  done_left (Returns status) domain = refl
  done_left (Reads kind at n next) domain =
      going_left look (number_seen kind at n domain) (λ value after. done (next value) after) domain (left.number kind at n domain) (λ value after. done_left (next value) after)
  done_left (Names pointer next) domain =
      going_left look (guid_seen pointer domain) (λ guid after. done (next guid) after) domain (left.guid pointer domain) (λ guid after. done_left (next guid) after)
  done_left (Asks pointer next) domain =
      going_left look (out_asked pointer domain) (λ value after. done next after) domain (left.out pointer domain) (λ value after. done_left next after)
  done_left (Writes kind at n value next) domain =
      going_left look (number_written kind at n value domain) (λ value after. done next after) domain (left.write kind at n value domain)
      (λ value after. done_left next after)
  done_left (Clears at n next) domain =
      going_left look (bytes_cleared at n domain) (λ value after. done next after) domain (left.clearing at n domain) (λ value after. done_left next after)
  done_left (SeesPool next) domain = done_left (next (pool_in domain)) domain
  done_left (SetsPool pool next) domain = done_left next (with_pool pool domain) ∙ left.pool pool domain
  done_left (SeesReserve next) domain = done_left (next (reserve_in domain)) domain
  done_left (SetsReserve reserve next) domain = done_left next (with_reserve reserve domain) ∙ left.reserve reserve domain
  done_left (SeesHandlers next) domain = done_left (next domain.tables.registry) domain
  done_left (SetsHandlers registry next) domain = done_left next (with_handlers registry domain) ∙ left.handlers registry domain
  done_left (SeesInterfaces next) domain = done_left (next domain.tables.protocols) domain
  done_left (SetsInterfaces protocols next) domain = done_left next (with_interfaces protocols domain) ∙ left.interfaces protocols domain

  argument_left : (n stack k : ℕ) (domain : DomainState) → look (argument n stack k domain).1 ≡ look domain
  argument_left n stack k domain = by_test (nat_lt k n) ((stack + 8 * k) % 2 ^ 64)
    where
      by_test : (there : Bool) (at : ℕ) → look (if there then stopping (read_at domain at 8) else (Ok 0, domain)).1 ≡ look domain
      by_test true at = stopping_left look (read_at domain at 8) domain (left.argument at 8 domain)
      by_test false at = refl

  arguments_left : (n stack : ℕ) (domain : DomainState) → look (arguments_at n stack domain).1 ≡ look domain
  arguments_left n stack domain =
      then_left look (argument n stack 0 domain) _ domain (argument_left n stack 0 domain) (λ first d0.
      then_left look (argument n stack 1 d0) _ d0 (argument_left n stack 1 d0) (λ second d1.
      then_left look (argument n stack 2 d1) _ d1 (argument_left n stack 2 d1) (λ third d2.
      then_left look (argument n stack 3 d2) (λ fourth d3. (Ok (record { first = first; second = second; third = third; fourth = fourth }), d3)) d2
      (argument_left n stack 3 d2) (λ fourth d3. refl))))

  served_left : (service : Service) (stack : ℕ) (domain : DomainState) → look (served service stack domain).1 ≡ look domain
  served_left service stack domain = by_test (domain.tables.locked && ends_at_lock service)
    where
      rest : Served × DomainState
      rest =
          going_on (arguments_at (argument_count service) stack domain)
          (λ arguments domain. done (deed_of domain.image (region_in domain) service arguments) domain)

      by_test : (closed : Bool) → look (if closed then (Status access_denied, domain) else rest).1 ≡ look domain
      by_test true = refl
      by_test false =
          going_left look (arguments_at (argument_count service) stack domain)
          (λ arguments domain. done (deed_of domain.image (region_in domain) service arguments) domain) domain
          (arguments_left (argument_count service) stack domain)
          (λ arguments after. done_left (deed_of after.image (region_in after) service arguments) after)

pub leave_alone : ServicesLeaveAlone
leave_alone look service stack domain left = served_left look left service stack domain

-- ---- after lock

module _ (first : DomainState) where
  -- of a domain whether it is locked, and then its handlers and interfaces
  lists : DomainState → DomainState
  lists domain =
      record first {
        tables = record first.tables {
          registry = if domain.tables.locked then domain.tables.registry else first.tables.registry;
          protocols = if domain.tables.locked then domain.tables.protocols else first.tables.protocols;
          locked = domain.tables.locked;
        };
      }

  let_through_left : {A : Type 0} (verdict : Verdict) (denial : Why → Denial) (value : A) (after domain : DomainState) → lists after ≡ lists domain
      → lists (let_through verdict denial value after domain).1 ≡ lists domain
  unfolding lists
  let_through_left (Pass why) denial value after domain same = same
  let_through_left (Deny why) denial value after domain same = refl

  handlers_left : (registry : RegistryState) (domain : DomainState) → lists (with_handlers registry domain) ≡ lists domain
  unfolding lists
  handlers_left registry domain = by_lock domain.tables.locked refl
    where
      with : Bool → RegistryState → DomainState
      with locked registry =
          record first {
            tables = record first.tables {
              registry = if locked then registry else first.tables.registry;
              protocols = if locked then domain.tables.protocols else first.tables.protocols;
              locked = domain.tables.locked;
            };
          }

      by_lock : (locked : Bool) → domain.tables.locked ≡ locked
          → lists (if locked then domain else record domain { tables = record domain.tables { registry = registry } }) ≡ lists domain
      by_lock true is = refl
      by_lock false is = ap (λ b. with b registry) is ∙ sym (ap (λ b. with b domain.tables.registry) is)

  interfaces_left : (protocols : DbState) (domain : DomainState) → lists (with_interfaces protocols domain) ≡ lists domain
  unfolding lists
  interfaces_left protocols domain = by_lock domain.tables.locked refl
    where
      with : Bool → DbState → DomainState
      with locked protocols =
          record first {
            tables = record first.tables {
              registry = if locked then domain.tables.registry else first.tables.registry;
              protocols = if locked then protocols else first.tables.protocols;
              locked = domain.tables.locked;
            };
          }

      by_lock : (locked : Bool) → domain.tables.locked ≡ locked
          → lists (if locked then domain else record domain { tables = record domain.tables { protocols = protocols } }) ≡ lists domain
      by_lock true is = refl
      by_lock false is = ap (λ b. with b protocols) is ∙ sym (ap (λ b. with b domain.tables.protocols) is)

  lists_left : IsLeftAlone lists
  unfolding lists
  lists_left = record {
    argument = λ at n domain. refl;
    number = λ kind at n domain.
        let_through_left (verdict_in domain kind at n Read) (denial_of kind Read at n) (number_at domain.tables.live (seen_registers domain) kind at n)
        domain domain refl;
    guid = λ pointer domain.
        let_through_left (verdict_in domain Memory pointer 16 Read) (denial_of Memory Read pointer 16) (record { 0 = bytes_at domain.tables.live pointer 16 })
        domain domain refl;
    out = λ pointer domain.
        let_through_left {A = Unit {0}} (write_verdict domain Memory pointer 8) (denial_of Memory Write pointer 8) tt domain domain refl;
    write = λ kind at n value domain.
        let_through_left {A = Unit {0}} (write_verdict domain kind at n) (denial_of kind Write at n) tt (after_write kind at n value domain) domain refl;
    clearing = λ at n domain.
        let_through_left {A = Unit {0}} (write_verdict domain Memory at n) (denial_of Memory Write at n) tt (after_clearing at n domain) domain refl;
    pool = λ pool domain. refl;
    reserve = λ reserve domain. refl;
    handlers = handlers_left;
    interfaces = interfaces_left;
  }

  same_lists : (service : Service) (stack : ℕ) → lists (served service stack first).1 ≡ lists first
  same_lists service stack = served_left lists lists_left service stack first

pub stay_after_lock : ListsStayAfterLock
unfolding lists
stay_after_lock service stack domain locked =
    let after : DomainState = (served service stack domain).1 in
    let same = same_lists domain service stack in
    let still : after.tables.locked ≡ true = ap (λ (d : DomainState). d.tables.locked) same ∙ locked in
    let registry : after.tables.registry ≡ domain.tables.registry =
    sym (ap (λ (b : Bool). if b then after.tables.registry else domain.tables.registry) still)
    ∙ ap (λ (d : DomainState). d.tables.registry) same
    ∙ ap (λ (b : Bool). if b then domain.tables.registry else domain.tables.registry) locked in
    let protocols : after.tables.protocols ≡ domain.tables.protocols =
    sym (ap (λ (b : Bool). if b then after.tables.protocols else domain.tables.protocols) still)
    ∙ ap (λ (d : DomainState). d.tables.protocols) same
    ∙ ap (λ (b : Bool). if b then domain.tables.protocols else domain.tables.protocols) locked in
    (registry, protocols)

-- no service locks the tables, or unlocks them
pub lock_stays : (service : Service) (stack : ℕ) (domain : DomainState) → (served service stack domain).1.tables.locked ≡ domain.tables.locked
unfolding lists
lock_stays service stack domain = ap (λ (d : DomainState). d.tables.locked) (same_lists domain service stack)
