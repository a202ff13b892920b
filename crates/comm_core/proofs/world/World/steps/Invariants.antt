use Rattle.std.proofs.Common.{◌≡◌, ◌<◌, ◌-◌, length}
use Rattle.comm_core.specs.TransitionsInside.{acts_times}
use Rattle.comm_core.proofs.world.World.steps.Given as goal

-- the actions that are left lead where all lead, and the lane is there
abbrev pub invariant-loop : goal.invariant-loop
invariant-loop g l =
    (acts_times g.M.Machine.stepped l.lane (l.count - l.counter) l.self ≡ acts_times g.M.Machine.stepped l.lane l.count l.fn.self)
    × (l.lane < length l.self.lanes)
