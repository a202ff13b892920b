-- No public clause cites this file.
-- How a run of rounds goes on.
use Rattle.std.specs.Prelude.{◌≡◌, ℕ, ◌+◌, ◌-◌, Bool, not, ◌&&◌, List, ◌++◌, map, filter, length, All}
use Rattle.mm_base.specs.declared.guid.Guid.{Guid}
use Rattle.dispatcher.specs.FamiliesInside.{HasConditionAt, has_condition, picked}
use Rattle.dispatcher.specs.Rounds.{after_starts, all_starts, is_scheduled, rounds_from, starts_from}
use Rattle.dispatcher.specs.declared.driver.Driver.{Driver}
use Rattle.dispatcher.specs.declared.driver.Member.{Member}
use Rattle.dispatcher.specs.declared.driver.Started.{Started}

-- the starts of a round's members
abbrev pub started_in : ℕ → List Member → List Started
started_in number members = map (λ member. record { index = member.index; round = number }) members

-- whether a driver has a condition, and wasn't scheduled yet
abbrev pub may_come : List Driver → Driver → Bool
may_come done driver = has_condition driver && not (is_scheduled done driver)

-- What so many rounds leave: the places of the drivers that may come yet, the starts that were made, and the state after them.
pub record Going {State : Type 0} (installed : State → Guid → Bool) (started : State → ℕ → ℕ → State) (drivers : List Driver) (initial : State)
    (count : ℕ) (places : List ℕ) (starts : List Started) (state : State) : Type 0 where
  pub done : List Driver
  pub waiting : picked drivers places ≡ filter (may_come done) drivers
  pub each : All (HasConditionAt drivers) places
  pub rest : starts ++ starts_from (count + 1) (rounds_from installed started drivers (length drivers - count) (count + 1) done state) ≡ all_starts installed started drivers initial
  pub after : state ≡ after_starts started starts initial
