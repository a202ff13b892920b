use Rattle.dispatch_speed.specs.Numbered.{AreFirst}
use Rattle.dispatch_speed.proofs.drivers.numbered.Given as goal

abbrev pub invariant-loop-number : goal.invariant-loop-number
invariant-loop-number l = AreFirst l.number l.drivers
