-- The rounds in which drivers are started.
use Rattle.std.specs.Prelude.{ℕ, zero, suc, ◌+◌, Bool, not, ◌&&◌, List, [], ◌∷◌, ◌++◌, map, filter, fold, length}
use Rattle.std.specs.List.{flat_map, list_any}
use Rattle.mm_base.specs.Guid.{same_guid}
use Rattle.mm_base.specs.declared.guid.Guid.{Guid}
use Rattle.dispatcher.specs.Drivers.{after_drivers, before_drivers, is_true}
use Rattle.dispatcher.specs.declared.driver.Driver.{Driver}
use Rattle.dispatcher.specs.declared.driver.Started.{Started}

-- something with those that go with it: in front of it those that go in front, behind it those that go behind, each of them by
-- the same rule, along so many links at most
abbrev pub family : {X : Type 0} → (X → List X) → (X → List X) → ℕ → X → List X
family before after zero x = x ∷ []
family before after (suc links) x =
    flat_map (family before after links) (before x) ++ x ∷ flat_map (family before after links) (after x)

-- A driver with its BEFORE drivers in front of it and its AFTER drivers behind it, each of them by the same rule. A driver has one
-- expression, so names form trees above a driver that has a condition, and no chain of them has more links than there are drivers.
abbrev pub family_of : List Driver → Driver → List Driver
family_of drivers driver = family (before_drivers drivers) (after_drivers drivers) (length drivers) driver

-- whether a driver is one of those that were scheduled
abbrev pub is_scheduled : List Driver → Driver → Bool
is_scheduled done driver = list_any (λ other. same_guid driver.name other.name) done

-- A round: the drivers that wait and whose condition holds on what is installed at its opening, in volume order, each with all that
-- go with it. A driver without an expression has no condition.
abbrev pub round : (Guid → Bool) → List Driver → List Driver → List Driver
round installed drivers done =
    flat_map (family_of drivers) (filter (λ driver. is_true installed driver && not (is_scheduled done driver)) drivers)

-- the starts that a round makes
abbrev pub starts_in : ℕ → List Driver → List Started
starts_in number scheduled = map (λ driver. record { index = driver.index; round = number }) scheduled

-- what starts make of a state, one after another
abbrev pub after_starts : {State : Type 0} → (State → ℕ → ℕ → State) → List Started → State → State
after_starts started starts state = fold (λ before start. started before start.index start.round) state starts

-- rounds up to the first empty one
abbrev pub up_to_empty : List Driver → List (List Driver) → List (List Driver)
up_to_empty [] later = []
up_to_empty (driver ∷ drivers) later = (driver ∷ drivers) ∷ later

-- The rounds from that with this number on, at most so many, where these drivers were scheduled before: each is fixed on what is
-- installed at its opening, and the next opens on what its starts leave. They end before the first empty one.
abbrev pub rounds_from : {State : Type 0} → (State → Guid → Bool) → (State → ℕ → ℕ → State) → List Driver → ℕ → ℕ → List Driver → State → List (List Driver)
rounds_from installed started drivers zero number done state = []
rounds_from installed started drivers (suc most) number done state =
    let scheduled = round (installed state) drivers done in
    up_to_empty scheduled
    (rounds_from installed started drivers most (number + 1) (done ++ scheduled) (after_starts started (starts_in number scheduled) state))

-- all rounds, counted from 1: there are no more than drivers, since each schedules one
abbrev pub rounds : {State : Type 0} → (State → Guid → Bool) → (State → ℕ → ℕ → State) → List Driver → State → List (List Driver)
rounds installed started drivers state = rounds_from installed started drivers (length drivers) 1 [] state

-- the starts of rounds, the first of which has this number
abbrev pub starts_from : ℕ → List (List Driver) → List Started
starts_from number [] = []
starts_from number (scheduled ∷ later) = starts_in number scheduled ++ starts_from (number + 1) later

-- the starts that are made, in order
abbrev pub all_starts : {State : Type 0} → (State → Guid → Bool) → (State → ℕ → ℕ → State) → List Driver → State → List Started
all_starts installed started drivers state = starts_from 1 (rounds installed started drivers state)
