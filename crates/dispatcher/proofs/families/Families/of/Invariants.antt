use Rattle.std.proofs.Common.{take}
use Rattle.depex.specs.Meaning.{named_before, named_after}
use Rattle.dispatcher.specs.FamiliesInside.{Tells}
use Rattle.dispatcher.proofs.families.Families.of.Given as goal

abbrev pub invariant-loop-driver : goal.invariant-loop-driver
invariant-loop-driver l = record {
  before : Tells named_before (take l.driver-index l.drivers) l.before;
  after : Tells named_after (take l.driver-index l.drivers) l.after;
}
