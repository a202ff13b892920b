use Rattle.std.proofs.Common.{◌≡◌, ◌≤◌, ◌*◌, take}
use Rattle.comm_core.specs.TransitionsInside.{records_left}
use Rattle.comm_core.proofs.lane.records_to_come.Given as goal

-- the records of the lanes so far, and their bound
abbrev pub invariant-loop-lane : goal.invariant-loop-lane
invariant-loop-lane l = (l.records ≡ records_left (take l.lane-index l.lanes)) × (l.records ≤ 1028 * l.lane-index)
