-- No deed is answered with out of memory.
use Rattle.std.proofs.Common.{Bool, true, false, if◌then◌else◌, nat_lt, length}
use Rattle.mm_base.specs.Bus.{IsOutOfMemory}
use Rattle.mm_base.specs.Statuses.{access_denied}
use Rattle.mm_base.specs.declared.access.Denial.{Denial}
use Rattle.mm_base.specs.declared.access.Kind.TheVariants.{Memory}
use Rattle.mm_base.specs.declared.access.Right.TheVariants.{Read, Write}
use Rattle.mm_base.specs.declared.access.Verdict.{Verdict}
use Rattle.mm_base.specs.declared.access.Verdict.TheVariants.{Pass, Deny}
use Rattle.mm_base.specs.declared.access.Why.{Why}
use Rattle.mm_base.specs.declared.bus.Served.{Served}
use Rattle.mm_base.specs.declared.bus.Served.TheVariants.{Status, Stop}
use Rattle.supervisor_calls.specs.Accesses.{bytes_at, denial_of, number_at}
use Rattle.supervisor_calls.specs.Deeds.{Deed, Returns, Reads, Names, Asks, Writes, Clears, SeesPool, SetsPool, SeesReserve, SetsReserve}
use Rattle.supervisor_calls.specs.Deeds.{SeesHandlers, SetsHandlers, SeesInterfaces, SetsInterfaces, going_on, let_through, done}
use Rattle.supervisor_calls.specs.Deeds.{after_write, after_clearing, pool_in, with_pool, reserve_in, with_reserve, with_handlers, with_interfaces}
use Rattle.supervisor_calls.specs.Domains.{DomainState, seen_registers, verdict_in, write_verdict}

refused_in_memory : (early : Bool) (denial : Denial) → IsOutOfMemory (if early then Status access_denied else Stop denial) → ⊥
refused_in_memory true denial out = out
refused_in_memory false denial out = out

-- what is let through or refused, and then done
going_in_memory : {A : Type 0} (verdict : Verdict) (denial : Why → Denial) (value : A) (after domain : DomainState) (next : A → DomainState → Served × DomainState)
    → ((value : A) (domain : DomainState) → IsOutOfMemory (next value domain).0 → ⊥)
    → IsOutOfMemory (going_on (let_through verdict denial value after domain) next).0 → ⊥
going_in_memory (Pass why) denial value after domain next each out = each value after out
going_in_memory (Deny why) denial value after domain next each out =
    refused_in_memory (nat_lt (length domain.records.denials) 7) (denial why) out

pub in_memory : (deed : Deed) (domain : DomainState) → IsOutOfMemory (done deed domain).0 → ⊥
in_memory (Returns status) domain out = out
in_memory (Reads kind at n next) domain out =
    going_in_memory (verdict_in domain kind at n Read) (denial_of kind Read at n) (number_at domain.tables.live (seen_registers domain) kind at n) domain domain
    (λ value after. done (next value) after) (λ value after. in_memory (next value) after) out
in_memory (Names pointer next) domain out =
    going_in_memory (verdict_in domain Memory pointer 16 Read) (denial_of Memory Read pointer 16) (record { 0 = bytes_at domain.tables.live pointer 16 })
    domain domain (λ guid after. done (next guid) after) (λ guid after. in_memory (next guid) after) out
in_memory (Asks pointer next) domain out =
    going_in_memory {A = Unit {0}} (write_verdict domain Memory pointer 8) (denial_of Memory Write pointer 8) tt domain domain
    (λ value after. done next after) (λ value after. in_memory next after) out
in_memory (Writes kind at n value next) domain out =
    going_in_memory {A = Unit {0}} (write_verdict domain kind at n) (denial_of kind Write at n) tt (after_write kind at n value domain) domain
    (λ value after. done next after) (λ value after. in_memory next after) out
in_memory (Clears at n next) domain out =
    going_in_memory {A = Unit {0}} (write_verdict domain Memory at n) (denial_of Memory Write at n) tt (after_clearing at n domain) domain
    (λ value after. done next after) (λ value after. in_memory next after) out
in_memory (SeesPool next) domain out = in_memory (next (pool_in domain)) domain out
in_memory (SetsPool pool next) domain out = in_memory next (with_pool pool domain) out
in_memory (SeesReserve next) domain out = in_memory (next (reserve_in domain)) domain out
in_memory (SetsReserve reserve next) domain out = in_memory next (with_reserve reserve domain) out
in_memory (SeesHandlers next) domain out = in_memory (next domain.tables.registry) domain out
in_memory (SetsHandlers registry next) domain out = in_memory next (with_handlers registry domain) out
in_memory (SeesInterfaces next) domain out = in_memory (next domain.tables.protocols) domain out
in_memory (SetsInterfaces protocols next) domain out = in_memory next (with_interfaces protocols domain) out
