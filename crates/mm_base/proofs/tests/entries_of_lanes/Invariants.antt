use Rattle.std.proofs.Common.{◌≡◌, length}
use Rattle.mm_base.proofs.tests.entries_of_lanes.Given as goal

abbrev pub invariant-loop-lane : goal.invariant-loop-lane
invariant-loop-lane l = length l.entries ≡ l.lane
