-- What a bus answers and leaves. These are functions of the bus's value and of a call's arguments, so that what byte
-- code does over a bus is a function too.
use Rattle.std.specs.Prelude.{◌≡◌, ◌⊎◌, ℕ, Bool, true, List, Result}
use Rattle.mm_base.specs.declared.access.Denial.{Denial}
use Rattle.mm_base.specs.declared.bus.Served.{Served}
use Rattle.mm_base.specs.declared.bus.Served.TheVariants.{Status, Stop, NoMemory}
use Rattle.mm_base.specs.declared.bus.Target.{Target}

-- What the calls of a bus answer and leave: a fetch, a read and a write of n bytes at an address; the question what
-- stands at an address, which changes nothing; and a service, by its number and the address of its arguments.
pub record Meaning (B : Type 0) : Type 0 where
  pub fetches : B → ℕ → ℕ → Result (List ℕ) Denial × B
  pub reads : B → ℕ → ℕ → Result ℕ Denial × B
  pub writes : B → ℕ → ℕ → ℕ → Result (Unit {0}) Denial × B
  pub targets : B → ℕ → Target
  pub serves : B → ℕ → ℕ → Served × B

-- The answer of a call, and the bus after it, are these.
abbrev pub Answers : {A B : Type 0} → A × B → A → B → Type 0
Answers told answer bus = (answer ≡ told.0) × (bus ≡ told.1)

-- data is accessed in 1, 2, 4 or 8 bytes
abbrev pub IsAccessWidth : ℕ → Type 0
IsAccessWidth n = (n ≡ 1) ⊎ ((n ≡ 2) ⊎ ((n ≡ 4) ⊎ (n ≡ 8)))

-- A service was refused memory. That happens only over a bus whose services may be refused it.
abbrev pub IsRefusal : Bool → Served → Type 0
IsRefusal may_refuse (NoMemory refused) = may_refuse ≡ true
IsRefusal may_refuse _ = ⊥

-- a service was answered with out of memory
abbrev pub IsOutOfMemory : Served → Type 0
IsOutOfMemory answer = IsRefusal true answer
