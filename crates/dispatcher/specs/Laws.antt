-- What follows of rounds, whatever a start makes of a state: it holds where starts fail, too.
use Rattle.std.specs.Prelude.{◌≡◌, true, false, Bool, ℕ, Option, List, All, Contains}
use Rattle.std.specs.List.{flat_map}
use Rattle.mm_base.specs.declared.guid.Guid.{Guid}
use Rattle.depex.specs.Expressions.{Expression}
use Rattle.depex.specs.Meaning.{named_before, named_after}
use Rattle.dispatcher.specs.Drivers.{NamesDiffer, is_true, names}
use Rattle.dispatcher.specs.Rounds.{after_starts, all_starts, is_scheduled, rounds}
use Rattle.dispatcher.specs.declared.driver.Driver.{Driver}

-- the drivers that rounds scheduled, in order
abbrev pub scheduled_in : List (List Driver) → List Driver
scheduled_in all = flat_map (λ scheduled. scheduled) all

-- No driver is scheduled twice, in one round or in two.
abbrev pub NoneTwice : {State : Type 0} → (State → Guid → Bool) → (State → ℕ → ℕ → State) → Type 0
NoneTwice {State} installed started =
    (drivers : List Driver) (state : State) → NamesDiffer drivers → NamesDiffer (scheduled_in (rounds installed started drivers state))

-- A driver that waits at the end: its condition doesn't hold on what is installed there, and it names no driver that was scheduled.
pub record WaitsRightly (installed : Guid → Bool) (scheduled : List Driver) (driver : Driver) : Type 0 where
  pub untrue : is_true installed driver ≡ false
  pub before : All (λ other. names named_before driver.depex other.name ≡ false) scheduled
  pub after : All (λ other. names named_after driver.depex other.name ≡ false) scheduled

-- Each driver that wasn't scheduled waits rightly.
abbrev pub WaitRightly : {State : Type 0} → (State → Guid → Bool) → (State → ℕ → ℕ → State) → Type 0
WaitRightly {State} installed started =
    (drivers : List Driver) (state : State)
    → NamesDiffer drivers
    → (driver : Driver)
    → Contains drivers driver
    → is_scheduled (scheduled_in (rounds installed started drivers state)) driver ≡ false
    → WaitsRightly (installed (after_starts started (all_starts installed started drivers state) state)) (scheduled_in (rounds installed started drivers state)) driver

-- A driver that names one of a round by this word is in that round.
abbrev pub IsTogether : (Expression → Option Guid) → List Driver → List Driver → Type 0
IsTogether word drivers scheduled =
    (driver other : Driver)
    → Contains drivers driver
    → Contains scheduled other
    → names word driver.depex other.name ≡ true
    → Contains scheduled driver

-- So it is in each round.
abbrev pub AreTogether : {State : Type 0} → (Expression → Option Guid) → (State → Guid → Bool) → (State → ℕ → ℕ → State) → Type 0
AreTogether {State} word installed started =
    (drivers : List Driver) (state : State) → NamesDiffer drivers → All (IsTogether word drivers) (rounds installed started drivers state)
