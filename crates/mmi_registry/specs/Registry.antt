-- What contracts see of a registry, what holds of each, and when one refuses.
use Rattle.std.specs.Prelude.{ℕ, ◌+◌, ◌-◌, ◌^◌, ◌<◌, ◌≤◌, Bool, false, ◌==◌, ◌||◌, nat_le, List, [], ◌∷◌, ◌++◌, length}
use Rattle.std.specs.Prelude.{All, AllPairs, Option}
use Rattle.mm_base.specs.declared.guid.Guid.{Guid}
use Rattle.mm_base.specs.declared.handler.Handler.{Handler}
use Rattle.mm_base.specs.declared.handler.HandlerBody.{HandlerBody}
use Rattle.mm_base.specs.declared.handler.HandlerBody.TheVariants.{Version, Stub, Code}
use Rattle.mmi_registry.specs.Handlers.{owned_by, built_ins}

-- The handlers in order of registration, the number that the next one gets, and whether registration is over.
pub record RegistryState : Type 0 where
  pub handlers : List Handler
  pub next : ℕ
  pub frozen : Bool

-- Numbers rise in order of registration, and the next one is above them all.
pub record IsNumbered (handlers : List Handler) (next : ℕ) : Type 0 where
  pub rising : AllPairs (λ earlier later. earlier.number < later.number) handlers
  pub below : All (λ handler. handler.number < next) handlers

-- A body may be registered that is built in, or code of one of the 32 images.
abbrev pub IsAdmissible : HandlerBody → Type 0
IsAdmissible Version = Unit {0}
IsAdmissible (Stub status) = Unit {0}
IsAdmissible (Code image address) = image < 32

-- The handlers are within the limits: 8 of each of the 32 images, and 65 that are built in.
pub record IsWithinRoom (handlers : List Handler) : Type 0 where
  pub admissible : All (λ handler. IsAdmissible handler.body) handlers
  pub of_image : (image : ℕ) → length (owned_by image handlers) ≤ 8
  pub built_in : length (built_ins handlers) ≤ 65

-- What holds of each registry: its numbers rise, its handlers are within the limits, and its memory has place for all
-- that may come: 8 * 32 + 65 are 321.
pub record IsRegistry (handlers : List Handler) (next capacity : ℕ) : Type 0 where
  pub numbered : IsNumbered handlers next
  pub few : IsWithinRoom handlers
  pub place : 321 ≤ capacity

-- whether the image of this body has its 8 handlers; a built-in body has no image
abbrev pub is_quota_used : HandlerBody → List Handler → Bool
is_quota_used Version handlers = false
is_quota_used (Stub status) handlers = false
is_quota_used (Code image address) handlers = nat_le 8 (length (owned_by image handlers))

-- whether a handler of this body is one too many: its image has 8, or no number is left
abbrev pub is_at_limit : HandlerBody → RegistryState → Bool
is_at_limit body registry = is_quota_used body registry.handlers || (registry.next == 2 ^ 32 - 1)

-- the registry with one more handler, which has the next number
abbrev pub with_handler : Option Guid → HandlerBody → RegistryState → RegistryState
with_handler guid body registry = record registry {
  handlers = registry.handlers ++ record { number = registry.next; guid = guid; body = body } ∷ [];
  next = registry.next + 1;
}
