use Rattle.std.proofs.Common.{◌≡◌}
use Rattle.comm_core.specs.TransitionsInside.{new_lanes}
use Rattle.comm_core.proofs.world.make_lanes.Given as goal

-- the lanes so far
abbrev pub invariant-loop-lane : goal.invariant-loop-lane
invariant-loop-lane l = l.made.items ≡ new_lanes l.words l.lane
