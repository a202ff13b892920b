use Rattle.std.proofs.Common.{◌≡◌, ◌++◌, drop}
use Rattle.volume_boot.specs.Boots.{waiting_of}
use Rattle.volume_boot.proofs.waiting.waiting_names.Given as goal

abbrev pub invariant-loop-driver : goal.invariant-loop-driver
invariant-loop-driver l = l.names ++ waiting_of l.starts (drop l.driver-index l.drivers) ≡ waiting_of l.starts l.drivers
