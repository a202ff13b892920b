-- What services are made of. A deed is one thing that a service does, and what comes after it; making it answers the
-- service and leaves a domain. Each access of a deed is decided by itself, so that what a service does needs no
-- condition.
use Rattle.std.specs.Prelude.{ℕ, Bool, if◌then◌else◌, nat_lt, List, [], length, get_or, set, Result, Ok, Err}
use Rattle.mm_base.specs.Frames.{zeros}
use Rattle.mm_base.specs.Statuses.{access_denied}
use Rattle.mm_base.specs.declared.access.Denial.{Denial}
use Rattle.mm_base.specs.declared.access.Kind.{Kind}
use Rattle.mm_base.specs.declared.access.Kind.TheVariants as kinds
use Rattle.mm_base.specs.declared.access.Right.TheVariants as rights
use Rattle.mm_base.specs.declared.access.Verdict.{Verdict}
use Rattle.mm_base.specs.declared.access.Verdict.TheVariants.{Pass, Deny}
use Rattle.mm_base.specs.declared.access.Why.{Why}
use Rattle.mm_base.specs.declared.bus.Served.{Served}
use Rattle.mm_base.specs.declared.bus.Served.TheVariants.{Status, Stop}
use Rattle.mm_base.specs.declared.guid.Guid.{Guid}
use Rattle.mmi_registry.specs.Registry.{RegistryState}
use Rattle.pool_tree.specs.Pool.{Block}
use Rattle.protocol_db.specs.ProtocolDb.{DbState}
use Rattle.supervisor_calls.specs.Accesses.{bytes_at, denial_of, number_at, with_bytes, with_cell_write, with_denial, with_number}
use Rattle.supervisor_calls.specs.Domains.{DomainState, acting_of, acted, seen_registers, verdict_in, write_verdict}

pub data Deed : Type 0 where
  -- the service is answered with a status
  Returns : (status : ℕ) → Deed
  -- the number in n units of a kind is read
  Reads : (kind : Kind) (at n : ℕ) (next : ℕ → Deed) → Deed
  -- the GUID at a pointer is read
  Names : (pointer : ℕ) (next : Guid → Deed) → Deed
  -- it is asked whether 8 bytes may be written at a pointer
  Asks : (pointer : ℕ) (next : Deed) → Deed
  -- a number is written to n units of a kind
  Writes : (kind : Kind) (at n value : ℕ) (next : Deed) → Deed
  -- n bytes of memory become 0
  Clears : (at n : ℕ) (next : Deed) → Deed
  -- what is kept for the image, or for all, is looked at or changed: the blocks of its pool, which of its reserve pages
  -- are taken, the handlers, the interfaces
  SeesPool : (next : List Block → Deed) → Deed
  SetsPool : (pool : List Block) (next : Deed) → Deed
  SeesReserve : (next : List Bool → Deed) → Deed
  SetsReserve : (reserve : List Bool) (next : Deed) → Deed
  SeesHandlers : (next : RegistryState → Deed) → Deed
  SetsHandlers : (registry : RegistryState) (next : Deed) → Deed
  SeesInterfaces : (next : DbState → Deed) → Deed
  SetsInterfaces : (protocols : DbState) (next : Deed) → Deed

-- A denial is recorded. The service is answered ACCESS_DENIED, but the 8th denial stops the invocation, and so does any
-- after it.
abbrev pub refusal : Denial → DomainState → Served
refusal denial domain = if nat_lt (length domain.records.denials) 7 then Status access_denied else Stop denial

abbrev pub with_denied : Denial → DomainState → DomainState
with_denied denial domain = acted domain (with_denial denial (acting_of domain))

abbrev pub refused : {A : Type 0} → Denial → DomainState → Result A Served × DomainState
refused denial domain = (Err (refusal denial domain), with_denied denial domain)

-- what a verdict lets through: a value, and the domain as it is then; or else the denial
abbrev pub let_through : {A : Type 0}
    → Verdict → (Why → Denial) → A → DomainState → DomainState → Result A Served × DomainState
let_through (Pass why) denial value after domain = (Ok value, after)
let_through (Deny why) denial value after domain = refused (denial why) domain

-- the number in n units, the GUID at a pointer, and whether 8 bytes may be written
abbrev pub number_seen : Kind → ℕ → ℕ → DomainState → Result ℕ Served × DomainState
number_seen kind at n domain =
    let_through (verdict_in domain kind at n rights.Read) (denial_of kind rights.Read at n)
    (number_at domain.tables.live (seen_registers domain) kind at n) domain domain

abbrev pub guid_seen : ℕ → DomainState → Result Guid Served × DomainState
guid_seen pointer domain =
    let_through (verdict_in domain kinds.Memory pointer 16 rights.Read) (denial_of kinds.Memory rights.Read pointer 16)
    (record { 0 = bytes_at domain.tables.live pointer 16 }) domain domain

abbrev pub out_asked : ℕ → DomainState → Result (Unit {0}) Served × DomainState
out_asked pointer domain =
    let_through (write_verdict domain kinds.Memory pointer 8) (denial_of kinds.Memory rights.Write pointer 8) tt
    domain domain

-- the domain after a number was written to n units, and after n bytes became 0
abbrev pub after_write : Kind → ℕ → ℕ → ℕ → DomainState → DomainState
after_write kind at n value domain =
    acted domain (record {
      live = with_number kind at n value domain.tables.live;
      records = with_cell_write kind at n value domain.records;
    })

abbrev pub after_clearing : ℕ → ℕ → DomainState → DomainState
after_clearing at n domain =
    acted domain (record { live = with_bytes at (zeros n) domain.tables.live; records = domain.records })

abbrev pub number_written : Kind → ℕ → ℕ → ℕ → DomainState → Result (Unit {0}) Served × DomainState
number_written kind at n value domain =
    let_through (write_verdict domain kind at n) (denial_of kind rights.Write at n) tt
    (after_write kind at n value domain) domain

abbrev pub bytes_cleared : ℕ → ℕ → DomainState → Result (Unit {0}) Served × DomainState
bytes_cleared at n domain =
    let_through (write_verdict domain kinds.Memory at n) (denial_of kinds.Memory rights.Write at n) tt
    (after_clearing at n domain) domain

-- what the domain's image holds, and the domain where it holds something else
abbrev pub pool_in : DomainState → List Block
pool_in domain = get_or domain.tables.live.pools domain.image []

abbrev pub with_pool : List Block → DomainState → DomainState
with_pool pool domain =
    record domain {
      tables = record domain.tables {
        live = record domain.tables.live {
          pools = set domain.tables.live.pools domain.image pool;
        };
      };
    }

abbrev pub reserve_in : DomainState → List Bool
reserve_in domain = get_or domain.tables.live.reserves domain.image []

abbrev pub with_reserve : List Bool → DomainState → DomainState
with_reserve reserve domain =
    record domain {
      tables = record domain.tables {
        live = record domain.tables.live {
          reserves = set domain.tables.live.reserves domain.image reserve;
        };
      };
    }

-- the domain with other handlers, or with other interfaces; after lock both stay
abbrev pub with_handlers : RegistryState → DomainState → DomainState
with_handlers registry domain =
    if domain.tables.locked then domain else record domain { tables = record domain.tables { registry = registry } }

abbrev pub with_interfaces : DbState → DomainState → DomainState
with_interfaces protocols domain =
    if domain.tables.locked then domain else record domain { tables = record domain.tables { protocols = protocols } }

-- what comes after a part that was let through; where it wasn't, the service is answered
abbrev pub going_on : {A : Type 0}
    → Result A Served × DomainState → (A → DomainState → Served × DomainState) → Served × DomainState
going_on (Ok value, domain) next = next value domain
going_on (Err served, domain) next = (served, domain)

-- Making a deed: how the service is answered, and the domain that is left.
abbrev pub done : Deed → DomainState → Served × DomainState
done (Returns status) domain = (Status status, domain)
done (Reads kind at n next) domain = going_on (number_seen kind at n domain) (λ value domain. done (next value) domain)
done (Names pointer next) domain = going_on (guid_seen pointer domain) (λ guid domain. done (next guid) domain)
done (Asks pointer next) domain = going_on (out_asked pointer domain) (λ value domain. done next domain)
done (Writes kind at n value next) domain =
    going_on (number_written kind at n value domain) (λ value domain. done next domain)
done (Clears at n next) domain = going_on (bytes_cleared at n domain) (λ value domain. done next domain)
done (SeesPool next) domain = done (next (pool_in domain)) domain
done (SetsPool pool next) domain = done next (with_pool pool domain)
done (SeesReserve next) domain = done (next (reserve_in domain)) domain
done (SetsReserve reserve next) domain = done next (with_reserve reserve domain)
done (SeesHandlers next) domain = done (next domain.tables.registry) domain
done (SetsHandlers registry next) domain = done next (with_handlers registry domain)
done (SeesInterfaces next) domain = done (next domain.tables.protocols) domain
done (SetsInterfaces protocols next) domain = done next (with_interfaces protocols domain)
