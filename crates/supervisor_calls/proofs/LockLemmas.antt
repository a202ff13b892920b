-- After lock a domain stays locked, and no service of it is refused memory.
use Rattle.std.proofs.Common.{◌≡◌, ◌⊎◌, ℕ, true, false, Option, None, Some, inl, inr, refl, sym, ap, ◌∙◌}
use Rattle.std.specs.List.{slice_get}
use Rattle.std.specs.Option.{option_map_or}
use Rattle.mm_base.specs.Bus.{Answers, IsOutOfMemory}
use Rattle.mm_base.specs.Statuses.{unsupported}
use Rattle.mm_base.specs.declared.bus.Served.{Served}
use Rattle.mm_base.specs.declared.bus.Served.TheVariants.{Status}
use Rattle.mm_base.specs.declared.service.Service.{Service}
use Rattle.supervisor_calls.specs.Domains.{DomainState}
use Rattle.supervisor_calls.specs.Services.{all_services, served, served_by_number}
use Rattle.supervisor_calls.proofs.ServiceLaws.{lock_stays}

-- the same by the number of a service
pub lock_stays_by_number : (number stack : ℕ) (domain : DomainState) → (served_by_number number stack domain).1.tables.locked ≡ domain.tables.locked
lock_stays_by_number number stack domain = by_service (slice_get all_services number)
  where
    by_service : (found : Option Service)
        → (option_map_or (λ service. served service stack domain) found (Status unsupported, domain)).1.tables.locked ≡ domain.tables.locked
    by_service None = refl
    by_service (Some service) = lock_stays service stack domain

-- What comes out of memory only before lock doesn't come after it.
pub never_refused : (number stack : ℕ) (before after : DomainState) (answer : Served) → before.tables.locked ≡ true
    → IsOutOfMemory answer ⊎ Answers (served_by_number number stack before) answer after
    → (IsOutOfMemory answer → (number ≡ 4) × (before.tables.locked ≡ false))
    → Answers (served_by_number number stack before) answer after
never_refused number stack before after answer locked (inl out) memory = let clash : true ≡ false = sym locked ∙ (memory out).1 in absurd cc
never_refused number stack before after answer locked (inr answers) memory = answers

-- A domain that was locked is locked after a service.
pub still_locked : (number stack : ℕ) (before after : DomainState) (answer : Served) → before.tables.locked ≡ true
    → IsOutOfMemory answer ⊎ Answers (served_by_number number stack before) answer after
    → (IsOutOfMemory answer → (number ≡ 4) × (before.tables.locked ≡ false))
    → after.tables.locked ≡ true
still_locked number stack before after answer locked either memory =
    let answers = never_refused number stack before after answer locked either memory in
    ap (λ (d : DomainState). d.tables.locked) answers.1 ∙ lock_stays_by_number number stack before ∙ locked
