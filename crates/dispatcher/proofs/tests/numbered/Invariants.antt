use Rattle.dispatcher.specs.Drivers.{NamesDiffer}
use Rattle.dispatcher.proofs.tests.numbered.Given as goal

abbrev pub invariant-loop-one : goal.invariant-loop-one
invariant-loop-one l = NamesDiffer l.drivers
