-- What each single thing that an access or a service may do keeps, each call of a domain keeps: an induction over deeds.
use Rattle.std.proofs.Common.{◌≡◌, ℕ, ◌+◌, ◌*◌, ◌%◌, ◌^◌, Bool, true, false, ◌&&◌, if◌then◌else◌, nat_lt, List, Option, Some, None, Result, Ok, Err, refl}
use Rattle.std.specs.List.{slice_get}
use Rattle.std.specs.Option.{option_map_or}
use Rattle.ebc_machine.specs.Laws.{Keeps}
use Rattle.mm_base.specs.Statuses.{access_denied, unsupported}
use Rattle.mm_base.specs.declared.access.Denial.{Denial}
use Rattle.mm_base.specs.declared.access.Kind.{Kind}
use Rattle.mm_base.specs.declared.access.Kind.TheVariants.{Memory}
use Rattle.mm_base.specs.declared.access.Right.TheVariants.{Execute, Read, Write}
use Rattle.mm_base.specs.declared.access.Verdict.{Verdict}
use Rattle.mm_base.specs.declared.access.Verdict.TheVariants.{Pass, Deny}
use Rattle.mm_base.specs.declared.access.Why.{Why}
use Rattle.mm_base.specs.declared.bus.Served.{Served}
use Rattle.mm_base.specs.declared.bus.Served.TheVariants.{Status}
use Rattle.mm_base.specs.declared.guid.Guid.{Guid}
use Rattle.mm_base.specs.declared.service.Service.{Service}
use Rattle.mmi_registry.specs.Registry.{RegistryState}
use Rattle.pool_tree.specs.Pool.{Block}
use Rattle.protocol_db.specs.ProtocolDb.{DbState}
use Rattle.secure_policy.specs.Laws.{passes}
use Rattle.supervisor_calls.specs.Accesses.{answered, bytes_at, changed, denial_of, number_at}
use Rattle.supervisor_calls.specs.Deeds.{Deed, Returns, Reads, Names, Asks, Writes, Clears, SeesPool, SetsPool, SeesReserve, SetsReserve}
use Rattle.supervisor_calls.specs.Deeds.{SeesHandlers, SetsHandlers, SeesInterfaces, SetsInterfaces, going_on, let_through, done}
use Rattle.supervisor_calls.specs.Deeds.{number_seen, guid_seen, out_asked, number_written, bytes_cleared, pool_in, reserve_in}
use Rattle.supervisor_calls.specs.Deeds.{after_write, after_clearing, with_denied, with_handlers, with_interfaces, with_pool, with_reserve}
use Rattle.supervisor_calls.specs.Domains.{DomainState, acting_of, fetched, read_at, seen_registers, verdict_in, with_acting, write_verdict, written_at}
use Rattle.supervisor_calls.specs.Services.{all_services, and_then, argument, argument_count, arguments_at, deed_of, domain_meaning, ends_at_lock}
use Rattle.supervisor_calls.specs.Services.{region_in, served, served_by_number, stopping}

-- Each single thing keeps what holds of a domain: a denial, a write or a clearing that passes, and a change of what is kept.
pub record KeepsParts (P : DomainState → Type 0) : Type 0 where
  pub denial : (denial : Denial) (domain : DomainState) → P domain → P (with_denied denial domain)
  pub write : (kind : Kind) (at n value : ℕ) (domain : DomainState) → passes (write_verdict domain kind at n) ≡ true
      → P domain → P (after_write kind at n value domain)
  pub clearing : (at n : ℕ) (domain : DomainState) → passes (write_verdict domain Memory at n) ≡ true → P domain → P (after_clearing at n domain)
  pub pool : (pool : List Block) (domain : DomainState) → P domain → P (with_pool pool domain)
  pub reserve : (reserve : List Bool) (domain : DomainState) → P domain → P (with_reserve reserve domain)
  pub handlers : (registry : RegistryState) (domain : DomainState) → P domain → P (with_handlers registry domain)
  pub interfaces : (protocols : DbState) (domain : DomainState) → P domain → P (with_interfaces protocols domain)

module _ (P : DomainState → Type 0) where
  going_kept : {A : Type 0} (told : Result A Served × DomainState) (next : A → DomainState → Served × DomainState)
      → P told.1 → ((value : A) (domain : DomainState) → P domain → P (next value domain).1)
      → P (going_on told next).1
  going_kept (Ok value, domain) next p each = each value domain p
  going_kept (Err served, domain) next p each = p

  then_kept : {A B : Type 0} (told : Result A Served × DomainState) (next : A → DomainState → Result B Served × DomainState)
      → P told.1 → ((value : A) (domain : DomainState) → P domain → P (next value domain).1)
      → P (and_then told next).1
  then_kept (Ok value, domain) next p each = each value domain p
  then_kept (Err served, domain) next p each = p

  stopping_kept : {A : Type 0} (told : Result A Denial × DomainState) → P told.1 → P (stopping told).1
  stopping_kept (Ok value, domain) p = p
  stopping_kept (Err denial, domain) p = p

module _ (P : DomainState → Type 0) (parts : KeepsParts P) where
  -- ---- accesses

  answered_kept : {A : Type 0} (verdict : Verdict) (denial : Why → Denial) (value : A) (domain : DomainState) → P domain
      → P (with_acting domain (answered verdict denial value (acting_of domain))).1
  answered_kept (Pass why) denial value domain p = p
  answered_kept (Deny why) denial value domain p = parts.denial (denial why) domain p

  fetched_kept : (domain : DomainState) (at n : ℕ) → P domain → P (fetched domain at n).1
  fetched_kept domain at n p = answered_kept (verdict_in domain Memory at n Execute) (denial_of Memory Execute at n) _ domain p

  read_kept : (domain : DomainState) (at n : ℕ) → P domain → P (read_at domain at n).1
  read_kept domain at n p = answered_kept (verdict_in domain Memory at n Read) (denial_of Memory Read at n) _ domain p

  changed_kept : (verdict : Verdict) (at n value : ℕ) (domain : DomainState)
      → (passes verdict ≡ true → P (after_write Memory at n value domain)) → P domain
      → P (with_acting domain (changed verdict Memory at n value (acting_of domain))).1
  changed_kept (Pass why) at n value domain passed p = passed refl
  changed_kept (Deny why) at n value domain passed p = parts.denial (denial_of Memory Write at n why) domain p

  written_kept : (domain : DomainState) (at n value : ℕ) → P domain → P (written_at domain at n value).1
  written_kept domain at n value p =
      changed_kept (write_verdict domain Memory at n) at n value domain (λ pass. parts.write Memory at n value domain pass p) p

  -- ---- the parts of a deed

  let_through_kept : {A : Type 0} (verdict : Verdict) (denial : Why → Denial) (value : A) (after domain : DomainState)
      → (passes verdict ≡ true → P after) → P domain → P (let_through verdict denial value after domain).1
  let_through_kept (Pass why) denial value after domain passed p = passed refl
  let_through_kept (Deny why) denial value after domain passed p = parts.denial (denial why) domain p

  number_seen_kept : (kind : Kind) (at n : ℕ) (domain : DomainState) → P domain → P (number_seen kind at n domain).1
  number_seen_kept kind at n domain p =
      let_through_kept (verdict_in domain kind at n Read) (denial_of kind Read at n)
      (number_at domain.tables.live (seen_registers domain) kind at n) domain domain (λ _. p) p

  guid_seen_kept : (pointer : ℕ) (domain : DomainState) → P domain → P (guid_seen pointer domain).1
  guid_seen_kept pointer domain p =
      let_through_kept {A = Guid} (verdict_in domain Memory pointer 16 Read) (denial_of Memory Read pointer 16)
      (record { 0 = bytes_at domain.tables.live pointer 16 }) domain domain (λ _. p) p

  out_asked_kept : (pointer : ℕ) (domain : DomainState) → P domain → P (out_asked pointer domain).1
  out_asked_kept pointer domain p =
      let_through_kept {A = Unit {0}} (write_verdict domain Memory pointer 8) (denial_of Memory Write pointer 8) tt domain domain (λ _. p) p

  number_written_kept : (kind : Kind) (at n value : ℕ) (domain : DomainState) → P domain → P (number_written kind at n value domain).1
  number_written_kept kind at n value domain p =
      let_through_kept {A = Unit {0}} (write_verdict domain kind at n) (denial_of kind Write at n) tt (after_write kind at n value domain) domain
      (λ pass. parts.write kind at n value domain pass p) p

  bytes_cleared_kept : (at n : ℕ) (domain : DomainState) → P domain → P (bytes_cleared at n domain).1
  bytes_cleared_kept at n domain p =
      let_through_kept {A = Unit {0}} (write_verdict domain Memory at n) (denial_of Memory Write at n) tt (after_clearing at n domain) domain
      (λ pass. parts.clearing at n domain pass p) p

  done_kept : (deed : Deed) (domain : DomainState) → P domain → P (done deed domain).1
  done_kept (Returns status) domain p = p
  done_kept (Reads kind at n next) domain p =
      going_kept P (number_seen kind at n domain) (λ value after. done (next value) after) (number_seen_kept kind at n domain p)
      (λ value after q. done_kept (next value) after q)
  done_kept (Names pointer next) domain p =
      going_kept P (guid_seen pointer domain) (λ guid after. done (next guid) after) (guid_seen_kept pointer domain p)
      (λ guid after q. done_kept (next guid) after q)
  done_kept (Asks pointer next) domain p =
      going_kept P (out_asked pointer domain) (λ value after. done next after) (out_asked_kept pointer domain p)
      (λ value after q. done_kept next after q)
  done_kept (Writes kind at n value next) domain p =
      going_kept P (number_written kind at n value domain) (λ value after. done next after) (number_written_kept kind at n value domain p)
      (λ value after q. done_kept next after q)
  done_kept (Clears at n next) domain p =
      going_kept P (bytes_cleared at n domain) (λ value after. done next after) (bytes_cleared_kept at n domain p)
      (λ value after q. done_kept next after q)
  done_kept (SeesPool next) domain p = done_kept (next (pool_in domain)) domain p
  done_kept (SetsPool pool next) domain p = done_kept next (with_pool pool domain) (parts.pool pool domain p)
  done_kept (SeesReserve next) domain p = done_kept (next (reserve_in domain)) domain p
  done_kept (SetsReserve reserve next) domain p = done_kept next (with_reserve reserve domain) (parts.reserve reserve domain p)
  done_kept (SeesHandlers next) domain p = done_kept (next domain.tables.registry) domain p
  done_kept (SetsHandlers registry next) domain p = done_kept next (with_handlers registry domain) (parts.handlers registry domain p)
  done_kept (SeesInterfaces next) domain p = done_kept (next domain.tables.protocols) domain p
  done_kept (SetsInterfaces protocols next) domain p =
      done_kept next (with_interfaces protocols domain) (parts.interfaces protocols domain p)

  -- ---- services

  argument_kept : (n stack k : ℕ) (domain : DomainState) → P domain → P (argument n stack k domain).1
  argument_kept n stack k domain p = by_test (nat_lt k n) ((stack + 8 * k) % 2 ^ 64)
    where
      by_test : (there : Bool) (at : ℕ) → P (if there then stopping (read_at domain at 8) else (Ok 0, domain)).1
      by_test true at = stopping_kept P (read_at domain at 8) (read_kept domain at 8 p)
      by_test false at = p

  arguments_kept : (n stack : ℕ) (domain : DomainState) → P domain → P (arguments_at n stack domain).1
  arguments_kept n stack domain p =
      then_kept P (argument n stack 0 domain) _ (argument_kept n stack 0 domain p) (λ first d0 p0.
      then_kept P (argument n stack 1 d0) _ (argument_kept n stack 1 d0 p0) (λ second d1 p1.
      then_kept P (argument n stack 2 d1) _ (argument_kept n stack 2 d1 p1) (λ third d2 p2.
      then_kept P (argument n stack 3 d2) (λ fourth d3. (Ok (record { first = first; second = second; third = third; fourth = fourth }), d3))
      (argument_kept n stack 3 d2 p2) (λ fourth d3 p3. p3))))

  served_kept : (service : Service) (stack : ℕ) (domain : DomainState) → P domain → P (served service stack domain).1
  served_kept service stack domain p = by_test (domain.tables.locked && ends_at_lock service)
    where
      rest : Served × DomainState
      rest =
          going_on (arguments_at (argument_count service) stack domain)
          (λ arguments domain. done (deed_of domain.image (region_in domain) service arguments) domain)

      by_test : (closed : Bool) → P (if closed then (Status access_denied, domain) else rest).1
      by_test true = p
      by_test false =
          going_kept P (arguments_at (argument_count service) stack domain)
          (λ arguments domain. done (deed_of domain.image (region_in domain) service arguments) domain)
          (arguments_kept (argument_count service) stack domain p)
          (λ arguments after q. done_kept (deed_of after.image (region_in after) service arguments) after q)

  by_number_kept : (number stack : ℕ) (domain : DomainState) → P domain → P (served_by_number number stack domain).1
  by_number_kept number stack domain p = of_found (slice_get all_services number)
    where
      of_found : (found : Option Service)
          → P (option_map_or (λ service. served service stack domain) found (Status unsupported, domain)).1
      of_found None = p
      of_found (Some service) = served_kept service stack domain p

  pub calls_kept : Keeps P domain_meaning
  calls_kept = record {
    fetches = λ domain at n p. fetched_kept domain at n p;
    reads = λ domain at n p. read_kept domain at n p;
    writes = λ domain at n value p. written_kept domain at n value p;
    serves = λ domain number stack p. by_number_kept number stack domain p;
  }
