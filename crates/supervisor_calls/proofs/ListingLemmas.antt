-- What services of handlers do, where no search finds it.
use Rattle.std.proofs.Common.{◌≡◌, ℕ, ◌-◌, ◌<◌, ◌≤◌, Bool, true, false, ◌==◌, List, [], ◌∷◌, Option, None}
use Rattle.std.proofs.Common.{All, refl, ap, arith}
use Rattle.std.specs.Bool.{if◌then◌else◌}
use Rattle.std.proofs.lemmas.Bool.Decides.{nat_tests}
use Rattle.std.proofs.lemmas.List.Elements.{All-head, All-tail}
use Rattle.mm_base.specs.Statuses.{not_found}
use Rattle.mm_base.specs.declared.bus.Served.TheVariants.{Status}
use Rattle.mm_base.specs.declared.handler.Handler.{Handler}
use Rattle.mmi_registry.specs.Handlers.{handler_at}
use Rattle.mmi_registry.specs.Registry.{RegistryState}
use Rattle.supervisor_calls.specs.Deeds.{Returns, SeesHandlers, done}
use Rattle.supervisor_calls.specs.Domains.{DomainState}
use Rattle.supervisor_calls.specs.Services.{handler_removed, unregistration}

-- the numbers of all handlers lie below the next one
abbrev pub AreBelow : ℕ → List Handler → Type 0
AreBelow next = All (λ handler. handler.number < next)

-- so no handler has a number from there on
unknown_number : (next number : ℕ) → next ≤ number → (handlers : List Handler) → AreBelow next handlers
    → handler_at number handlers ≡ None
unknown_number next number over [] below = refl
unknown_number next number over (handler ∷ handlers) below =
    let P : Handler → Type 0 = λ other. other.number < next in
    let low : handler.number < next = All-head P handler handlers below in
    let other : (handler.number == number) ≡ false = grind (arith, nat_tests, low, over) in
    rw other (unknown_number next number over handlers (All-tail P handler handlers below))

-- and a handle that is no handler's is not found
not_registered : (zero : Bool) (image number : ℕ) (domain : DomainState) → handler_at number domain.tables.registry.handlers ≡ None
    → done
    (if zero then Returns not_found
    else SeesHandlers (λ registry. handler_removed image number registry (handler_at number registry.handlers)))
    domain
    ≡ (Status not_found, domain)
not_registered true image number domain none = refl
not_registered false image number domain none =
    ap (λ (found : Option Handler). done (handler_removed image number domain.tables.registry found) domain) none

pub unknown_handle : (image handle : ℕ) (domain : DomainState) → domain.tables.registry.next < handle
    → AreBelow domain.tables.registry.next domain.tables.registry.handlers
    → done (unregistration image handle) domain ≡ (Status not_found, domain)
unknown_handle image handle domain over below =
    let registry : RegistryState = domain.tables.registry in
    not_registered (handle == 0) image (handle - 1) domain
    (unknown_number registry.next (handle - 1) (omega (arith, over)) registry.handlers below)
