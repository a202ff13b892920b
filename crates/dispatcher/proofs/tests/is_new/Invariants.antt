use Rattle.std.proofs.Common.{◌≡◌, All, false, take}
use Rattle.mm_base.specs.Guid.{same_guid}
use Rattle.dispatcher.proofs.tests.is_new.Given as goal

abbrev pub invariant-loop-driver : goal.invariant-loop-driver
invariant-loop-driver l = All (λ driver. same_guid driver.name l.name ≡ false) (take l.driver-index l.drivers)
