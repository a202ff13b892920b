-- Drivers by their names and expressions.
use Rattle.std.specs.Prelude.{◌≡◌, Bool, false, Option, Some, None, List, filter, AllPairs}
use Rattle.mm_base.specs.Guid.{same_guid}
use Rattle.mm_base.specs.declared.guid.Guid.{Guid}
use Rattle.depex.specs.Expressions.{Expression}
use Rattle.depex.specs.Meaning.{holds_on, named_before, named_after}
use Rattle.dispatcher.specs.declared.driver.Driver.{Driver}
use Rattle.dispatcher.specs.declared.driver.Member.{Member}

-- what of a driver takes part in a round
abbrev pub member_of : Driver → Member
member_of driver = record { index = driver.index; name = driver.name }

-- Each name is the name of one driver at most.
abbrev pub NamesDiffer : List Driver → Type 0
NamesDiffer drivers = AllPairs (λ one later. same_guid one.name later.name ≡ false) drivers

-- whether a name, if there is one, is this
abbrev pub is_named : Option Guid → Guid → Bool
is_named None name = false
is_named (Some named) name = same_guid named name

-- whether an expression, if there is one, names this by the one or the other word
abbrev pub names : (Expression → Option Guid) → Option Expression → Guid → Bool
names word None name = false
names word (Some expression) name = is_named (word expression) name

-- the drivers that name this by the one or the other word, in volume order
abbrev pub naming : (Expression → Option Guid) → List Driver → Guid → List Driver
naming word drivers name = filter (λ driver. names word driver.depex name) drivers

-- the drivers whose BEFORE names a driver, and those whose AFTER does, in volume order
abbrev pub before_drivers : List Driver → Driver → List Driver
before_drivers drivers driver = naming named_before drivers driver.name

abbrev pub after_drivers : List Driver → Driver → List Driver
after_drivers drivers driver = naming named_after drivers driver.name

-- whether an expression, if there is one, holds, where this tells what is installed
abbrev pub holds_in : (Guid → Bool) → Option Expression → Bool
holds_in installed None = false
holds_in installed (Some expression) = holds_on installed expression

-- whether a driver's condition holds
abbrev pub is_true : (Guid → Bool) → Driver → Bool
is_true installed driver = holds_in installed driver.depex
