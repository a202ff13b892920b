use Rattle.std.proofs.Common.{◌-◌}
use Rattle.pe_loader.specs.Fixups.{directory_end}
use Rattle.pe_loader.proofs.ApplyLemmas.{AppliedTo}
use Rattle.pe_loader.proofs.applying.apply_all.Given as goal

abbrev pub invariant-loop-head : goal.invariant-loop-head
invariant-loop-head l = AppliedTo l.fn.out l.directory l.difference l.at l.out

abbrev pub decreases-loop-head : goal.decreases-loop-head
decreases-loop-head l = directory_end l.directory - l.at
